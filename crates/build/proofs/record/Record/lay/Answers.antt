-- `Record::lay` meets its contract. Assumes nothing.
use Prim.Native.Nat.{ℕ}
use mathlib.Core.Path.{◌≡◌, ap, ◌∙◌}
use mathlib.Core.List.{List, ◌∷◌}
use native.Mathlib.Omega.{arith}
use lib.ListN.{length}
use Rattle.bits.specs.Memory.{over}
use Rattle.build.specs.Records.{held_by}
use Rattle.build.proofs.AsRecords.{five_whole}
use Rattle.build.proofs.Writes.{widely_laid}
use borrow.Author.Rules.{rules}
use Rattle.build.proofs.record.Record.lay.Goals as goal

pub returns-then-out-at-ge6 : goal.returns-then-out-at-ge6
returns-then-out-at-ge6 c =
    let a = c.args in
    let p = a.self.payload in
    let five_bytes : length a.self.payload ≡ 5 = search rules in
    widely_laid a.out.now a.at (held_by a.self) (length a.out.now) _ _ five_bytes (omega arith) c.counted.ensures
    (c.put.ensures
    ∙ ap (λ (x : List ℕ). over a.out.now a.at (a.self.cid ∷ x)) (five_whole p five_bytes))

-- `Record::pack` meets its contract. Assumes nothing.
use Prim.Native.Nat.{ℕ, ◌*◌}
use mathlib.Core.Path.{◌≡◌, ap, ◌∙◌}
use mathlib.Core.List.{List, ◌∷◌}
use native.Mathlib.Omega.{arith}
use lib.ListN.{length}
use Rattle.bits.specs.Memory.{over}
use Rattle.build.specs.Records.{len_byte, held_by}
use Rattle.build.proofs.AsRecords.{five, five_whole}
use Rattle.build.proofs.Writes.{packed_in}
use borrow.Author.Rules.{rules}
use Rattle.build.proofs.record.Record.pack.Goals as goal

pub returns-then-i-slots : goal.returns-then-i-slots
returns-then-i-slots c =
    let a = c.args in
    let p = a.self.payload in
    let n = c.len_byte in
    let five_bytes : length a.self.payload ≡ 5 = search rules in
    c.put.ensures
    ∙ ap (λ (x : ℕ). over a.slots.now (8 * a.i) (a.self.cid ∷ x ∷ five p)) n.ensures
    ∙ ap (λ (x : List ℕ). over a.slots.now (8 * a.i) (a.self.cid ∷ len_byte a.self.len ∷ x)) (five_whole p five_bytes)
    ∙ packed_in a.slots.now a.i (held_by a.self) (omega arith)

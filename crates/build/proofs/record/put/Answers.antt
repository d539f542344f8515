-- `put` meets its contract. Assumes nothing.
use Prim.Native.Nat.{ℕ, ◌+◌}
use mathlib.Core.List.{List}
use mathlib.Core.Path.{sym, ap, ◌∙◌}
use native.Mathlib.Numerals.{add-one}
use native.Mathlib.Omega.{arith}
use lib.ListN.{get_or, set}
use lib.Seq.{paste, paste-suc}
use Rattle.build.proofs.record.put.Goals as goal

pub loop-i-preserved : goal.loop-i-preserved
loop-i-preserved g c =
    let l = c.loop-i in
    let s = c.args.bytes.now in
    let e = c.told-bytes in
    ap (λ (p : List ℕ). set p (c.args.at + l.i) (get_or s l.i 0)) l.invariant
    ∙ paste-suc c.args.out.now c.args.at s l.i 0 (omega arith) (omega arith)
    ∙ ap (paste c.args.out.now c.args.at s) (sym (add-one l.i))

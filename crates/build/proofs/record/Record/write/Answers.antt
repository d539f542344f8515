-- `Record::write` meets its contract. Assumes nothing.
use Prim.Native.Nat.{◌+◌, ◌-◌, ◌≤◌}
use mathlib.Core.Path.{◌≡◌, ap, ◌∙◌}
use native.Mathlib.Omega.{arith}
use lib.ListN.{length, set, length-set}
use lib.Seq.{paste, paste-zero}
use Rattle.build.specs.Records.{held_by}
use Rattle.build.proofs.Writes.{counted_le, stored_all, one_counts, none_counts}
use borrow.Author.Rules.{rules}
use Rattle.build.proofs.record.Record.write.Goals as goal
use Rattle.build.proofs.record.Record.write.Goals.{After-counted-n, then-i-n, else-i-n}

-- no more bytes count than there are
few : (c : After-counted-n) → c.counted-n.result ≤ 5
few c =
    let five : length c.args.self.payload ≡ 5 = search rules in
    omega (arith, c.counted-n.ensures, counted_le c.args.self.len c.args.self.payload)

pub loop-i-init : goal.loop-i-init
loop-i-init c =
    let none : 0 ≡ 0 - (0 - c.counted-n.result) = omega arith in
    paste-zero (set c.args.out.now c.args.at c.args.self.cid) (c.args.at + 1) c.args.self.payload
    ∙ ap (paste (set c.args.out.now c.args.at c.args.self.cid) (c.args.at + 1) c.args.self.payload) none

pub loop-i-preserved : goal.loop-i-preserved
loop-i-preserved c =
    let l = c.loop-i in
    let p = c.args.self.payload in
    let five : length c.args.self.payload ≡ 5 = search rules in
    let m = few (goal.at.loop-i-preserved c).After-counted-n in
    let before = set c.args.out.now c.args.at c.args.self.cid in
    let long : length before ≡ length c.args.out.now = length-set c.args.out.now c.args.at c.args.self.cid in
    elim c.if-i-n.branch [
      | then-i-n w ↦ w.out-is ∙ one_counts before p (c.args.at + 1) c.counted-n.result l.i l.out w.if-i-n.true (omega arith) (omega arith) l.invariant
      | else-i-n w ↦ w.out-is ∙ none_counts before p (c.args.at + 1) c.counted-n.result l.i l.out w.if-i-n.false l.invariant
    ]

pub returns : goal.returns
returns c =
    let a = c.args in
    let n = c.counted-n.result in
    let m = few (goal.at.returns c).After-counted-n in
    let all : c.loop-i.i - (c.loop-i.i - n) ≡ n = omega arith in
    stored_all a.out.now a.at (held_by a.self) n _ c.counted-n.ensures (omega arith)
    (c.loop-i.invariant ∙ ap (paste (set a.out.now a.at a.self.cid) (a.at + 1) a.self.payload) all)

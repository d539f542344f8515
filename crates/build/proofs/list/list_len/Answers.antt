-- `list_len` meets its contract. Assumes nothing.
use mathlib.Core.Path.{◌≡◌, sym, ap, ◌∙◌}
use native.Mathlib.Omega.{arith}
use Prim.Native.Nat.{◌≤◌}
use lib.ListN.{get_or, length}
use Rattle.table.proofs.Lengths.{at_most_five}
use Rattle.table.specs.Answers.{given, refused}
use Rattle.table.specs.Refusals.{number_of}
use Rattle.table.specs.Table.{length_of}
use Rattle.build.specs.Records.{recs_held, Rec, held_by, judged}
use Rattle.build.specs.Build.{refused_at}
use Rattle.build.proofs.Judging.{judged_given}
use Rattle.build.proofs.Listed.{over_most, held_in, length_held, counted_more, counted_refused, counted_cut, counted_all, all_written}
use borrow.Author.Rules.{rules}
use Rattle.build.proofs.list.list_len.Given as given
use Rattle.build.proofs.list.list_len.Goals as goal
use Rattle.build.proofs.list.list_len.Goals.{After-judge}

-- the record at this place
here : (g : given.Over) (c : After-judge g)
    → get_or (recs_held g.T.Holds.held c.args.records.now) c.loop-place.place (held_by c.record.result) ≡ held_by c.record.result
here g c = held_in g.T.Holds.held c.args.records.now c.loop-place.place c.index-records-place.result c.record.result c.index-records-place.is c.record.ensures

pub loop-place-preserved : goal.loop-place-preserved
loop-place-preserved g c =
    let r : Rec = held_by c.record.result in
    let j : judged (length_of c.args.rules) r ≡ given c.in-Ok.size = sym c.in-Ok.ensures in
    let five : c.record.result.len ≤ 5 = at_most_five c.args.rules r.cid r.len (judged_given (length_of c.args.rules) r c.in-Ok.size j).0 in
    let bytes : length c.record.result.payload ≡ 5 = search rules in
    let n = length_held g.T.Holds.held c.args.records.now in
    counted_more (length_of c.args.rules) (recs_held g.T.Holds.held c.args.records.now) c.args.cut_off r (omega arith) (here g (goal.at.loop-place-preserved g c).After-judge)
    c.loop-place.invariant j five (omega arith)

pub returns-then-most-records-clause-total : goal.returns-then-most-records-clause-total
returns-then-most-records-clause-total g c =
    let n = length_held g.T.Holds.held c.args.records.now in
    over_most (length_of c.args.rules) (recs_held g.T.Holds.held c.args.records.now) c.args.cut_off (omega (arith, c.from-most.ensures))

pub returns-in-Err-clause-total : goal.returns-in-Err-clause-total
returns-in-Err-clause-total g c =
    let r : Rec = held_by c.record.result in
    let j : judged (length_of c.args.rules) r ≡ refused (number_of c.in-Err.reason) = sym c.in-Err.ensures in
    let n = length_held g.T.Holds.held c.args.records.now in
    counted_refused (length_of c.args.rules) (recs_held g.T.Holds.held c.args.records.now) c.args.cut_off r (omega arith) (here g (goal.at.returns-in-Err-clause-total g c).After-judge)
    c.loop-place.invariant (omega (arith, c.from-most.ensures)) j

pub returns-then-cut_off-clause-total : goal.returns-then-cut_off-clause-total
returns-then-cut_off-clause-total g c =
    let n = length_held g.T.Holds.held c.args.records.now in
    ap (refused_at 3) (sym n)
    ∙ counted_cut (length_of c.args.rules) (recs_held g.T.Holds.held c.args.records.now) c.args.cut_off (omega (arith, c.from-most.ensures)) (omega arith) c.loop-place.invariant c.if-cut_off.true

pub returns-clause-total : goal.returns-clause-total
returns-clause-total g c =
    let n = length_held g.T.Holds.held c.args.records.now in
    counted_all (length_of c.args.rules) (recs_held g.T.Holds.held c.args.records.now) c.args.cut_off (omega (arith, c.from-most.ensures)) (omega arith) c.loop-place.invariant c.if-cut_off.false

pub returns-clause-written : goal.returns-clause-written
returns-clause-written g c =
    let n = length_held g.T.Holds.held c.args.records.now in
    all_written (length_of c.args.rules) (recs_held g.T.Holds.held c.args.records.now) c.args.cut_off (omega (arith, c.from-most.ensures)) (omega arith) c.loop-place.invariant

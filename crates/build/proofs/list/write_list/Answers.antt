-- `write_list` meets its contract. Assumes nothing.
use mathlib.Core.Path.{◌≡◌}
use native.Mathlib.Omega.{arith}
use lib.ListN.{get_or}
use Rattle.build.specs.Records.{recs_held, held_by}
use Rattle.build.proofs.Laying.{room_here, laid_here, laid_all}
use Rattle.build.proofs.Listed.{held_in, length_held}
use Rattle.build.proofs.list.write_list.Given as given
use Rattle.build.proofs.list.write_list.Goals as goal
use Rattle.build.proofs.list.write_list.Goals.{After-record}

here : (g : given.Over) (c : After-record g)
    → get_or (recs_held g.T.Holds.held c.args.records.now) c.loop-record.record-index (held_by c.record.result) ≡ held_by c.record.result
here g c = held_in g.T.Holds.held c.args.records.now c.loop-record.record-index c.record-item.result c.record.result c.record-item.is c.record.ensures

pub lay-at-requires : goal.lay-at-requires
lay-at-requires g c =
    let rs = recs_held g.T.Holds.held c.args.records.now in
    let n = length_held g.T.Holds.held c.args.records.now in
    room_here rs c.args.out.now (omega arith) (held_by c.record.result) (omega arith) (here g (goal.at.lay-at-requires g c).After-record) c.requires c.loop-record.invariant

pub loop-record-preserved : goal.loop-record-preserved
loop-record-preserved g c =
    let rs = recs_held g.T.Holds.held c.args.records.now in
    let n = length_held g.T.Holds.held c.args.records.now in
    laid_here rs c.args.out.now (omega arith) (held_by c.record.result) (omega arith) (here g (goal.at.loop-record-preserved g c).After-record) c.requires c.loop-record.invariant
    _ _ c.lay-at.ensures

pub returns : goal.returns
returns g c =
    let rs = recs_held g.T.Holds.held c.args.records.now in
    let n = length_held g.T.Holds.held c.args.records.now in
    laid_all rs c.args.out.now (omega arith) (omega arith) c.requires c.loop-record.invariant

-- `build_list` meets its contract. Assumes nothing.
use native.Mathlib.Omega.{arith}
use Rattle.table.specs.Table.{length_of}
use Rattle.build.specs.Records.{recs_held}
use Rattle.build.proofs.Listed.{list_built}
use Rattle.build.proofs.list.build_list.Goals as goal

pub returns : goal.returns
returns g c =
    list_built (length_of c.args.rules) (recs_held g.T.Holds.held c.args.records.now) c.args.cut_off c.args.out.now c.in_ok-total.ensures.total c.in_ok-total.ensures.written
    (omega arith) c.write_list.ensures

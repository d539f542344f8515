-- What the loop keeps true.
use Prim.Native.Nat.{◌-◌}
use lib.ListN.{length}
use Rattle.table.specs.Table.{length_of}
use Rattle.walk.specs.Lanes.{Leads}
use Rattle.walk.proofs.whole.walk_from.Given as goal

abbrev pub invariant-loop-next : goal.invariant-loop-next
invariant-loop-next l = Leads (length_of l.rules) l.stream l.from l.count l.at

abbrev pub decreases-loop-next : goal.decreases-loop-next
decreases-loop-next l = length l.stream - l.at

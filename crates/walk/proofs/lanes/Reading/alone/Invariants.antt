-- What the loop keeps true.
use Prim.Native.Nat.{◌-◌, ◌≤◌}
use lib.ListN.{length}
use Rattle.table.specs.Table.{length_of}
use Rattle.walk.specs.Lanes.{Leads}
use Rattle.walk.proofs.lanes.Reading.alone.Given as goal

abbrev pub invariant-loop-at : goal.invariant-loop-at
invariant-loop-at l = Leads (length_of l.self.rules) l.self.stream.now l.from l.count l.at × (l.at ≤ length l.self.stream.now)

abbrev pub decreases-loop-at : goal.decreases-loop-at
decreases-loop-at l = length l.self.stream.now - l.at

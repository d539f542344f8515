-- What the loop keeps true.
use Prim.Native.Nat.{◌-◌, ◌≤◌}
use lib.ListN.{length}
use Rattle.table.specs.Table.{length_of}
use Rattle.walk.specs.Lanes.{Leads}
use Rattle.walk.proofs.lanes.Reading.together.Given as goal

abbrev pub invariant-loop-a : goal.invariant-loop-a
invariant-loop-a l =
    Leads (length_of l.self.rules) l.self.stream.now 0 l.count l.a
    × Leads (length_of l.self.rules) l.self.stream.now l.second l.count l.b
    × Leads (length_of l.self.rules) l.self.stream.now l.third l.count l.c
    × (l.a ≤ length l.self.stream.now)
    × (l.b ≤ length l.self.stream.now)
    × (l.c ≤ length l.self.stream.now)

abbrev pub decreases-loop-a : goal.decreases-loop-a
decreases-loop-a l = length l.self.stream.now - l.a

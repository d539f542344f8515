-- What the loop keeps true.
use Prim.Native.Nat.{◌-◌}
use lib.ListN.{length}
use Rattle.listings.proofs.Walking.{Listed}
use Rattle.listings.proofs.passes.write_lines.Given as goal

abbrev pub invariant-loop-next : goal.invariant-loop-next
invariant-loop-next l = Listed l.rules l.frame l.stream l.initial.out l.at l.to l.out

abbrev pub decreases-loop-next : goal.decreases-loop-next
decreases-loop-next l = length l.stream - l.at

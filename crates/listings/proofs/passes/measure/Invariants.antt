-- What the loop keeps true.
use Prim.Native.Nat.{◌-◌}
use lib.ListN.{length}
use Rattle.listings.proofs.Walking.{Summed}
use Rattle.listings.proofs.passes.measure.Given as goal

abbrev pub invariant-loop-sum : goal.invariant-loop-sum
invariant-loop-sum l = Summed l.rules l.frame l.stream l.room l.at l.sum

abbrev pub decreases-loop-sum : goal.decreases-loop-sum
decreases-loop-sum l = length l.stream - l.at

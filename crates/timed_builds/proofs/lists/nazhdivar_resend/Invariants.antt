-- What the loop keeps true.
use Prim.Native.Nat.{◌-◌, ◌≤◌}
use mathlib.Core.Path.{◌≡◌}
use lib.ListN.{length}
use Rattle.timed_builds.proofs.lists.nazhdivar_resend.Given as goal

abbrev pub invariant-loop-command : goal.invariant-loop-command
invariant-loop-command l = (l.count ≤ l.at) × (l.at ≤ length l.stream) × (length l.slots ≡ length l.initial.slots)

abbrev pub decreases-loop-command : goal.decreases-loop-command
decreases-loop-command l = length l.stream - l.at

-- What the loop keeps true.
use Prim.Native.Nat.{◌+◌}
use Rattle.ledger.proofs.TracingSteps.{Counted}
use Rattle.ledger.proofs.lines.digits_at.Given as goal

abbrev pub invariant-loop-n : goal.invariant-loop-n
invariant-loop-n l = Counted l.text l.at l.value (l.at + l.n)

-- What the loop keeps true.
use Prim.Native.Nat.{◌+◌, ◌*◌}
use Rattle.ledger.proofs.TracingSteps.{Paired}
use Rattle.ledger.proofs.lines.pairs.Given as goal

abbrev pub invariant-loop-n : goal.invariant-loop-n
invariant-loop-n l = Paired l.text l.at l.stream l.n (l.at + 2 * l.n)

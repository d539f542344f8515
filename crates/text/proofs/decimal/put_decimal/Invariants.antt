-- What the loop keeps true.
use Rattle.text.proofs.Writing.{Spelt}
use Rattle.text.proofs.decimal.put_decimal.Given as goal

abbrev pub invariant-loop-i : goal.invariant-loop-i
invariant-loop-i l = Spelt l.initial.out l.at l.n l.i l.rest l.out

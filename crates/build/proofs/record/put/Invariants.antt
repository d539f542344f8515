-- What the loop keeps true: the bytes before this one are put.
use mathlib.Core.Path.{◌≡◌}
use lib.Seq.{paste}
use Rattle.build.proofs.record.put.Given as goal

abbrev pub invariant-loop-i : goal.invariant-loop-i
invariant-loop-i g l = l.out ≡ paste l.initial.out l.at l.bytes l.i

-- What the loop keeps true: of the bytes before this one, those that count are written, which are i - (i - n), the lesser of i and n.
use Prim.Native.Nat.{◌-◌}
use mathlib.Core.Path.{◌≡◌}
use lib.Seq.{paste}
use Rattle.build.proofs.record.Record.write.Given as goal

abbrev pub invariant-loop-i : goal.invariant-loop-i
invariant-loop-i l = l.out ≡ paste l.initial.out l.body l.fn.self.payload (l.i - (l.i - l.n))

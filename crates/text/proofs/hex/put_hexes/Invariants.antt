-- What the loop keeps true.
use Rattle.text.proofs.Writing.{Wrote}
use Rattle.text.proofs.hex.put_hexes.Given as goal

abbrev pub invariant-loop-byte : goal.invariant-loop-byte
invariant-loop-byte l = Wrote l.initial.out l.at l.bytes l.byte-index l.next l.out

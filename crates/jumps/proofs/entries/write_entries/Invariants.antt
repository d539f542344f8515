-- What the loop keeps true: entries up to here stand at the front, and `at` is the offset of the next.
use Rattle.table.specs.Table.{length_of}
use Rattle.jumps.proofs.Making.{Written}
use Rattle.jumps.proofs.entries.write_entries.Given as goal

abbrev pub invariant-loop-number : goal.invariant-loop-number
invariant-loop-number l = Written (length_of l.rules) l.stream l.initial.numbers l.number-index l.at l.numbers

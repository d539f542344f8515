-- An iterator over a stream (RULES: H1, M8): the stream, and an index that its steps move.
use Rattle.std.specs.Prelude.{ℕ, List}
use Rattle.std.specs.Borrow.{Bor}
use Rattle.table.specs.Answers.{Answer}
use Rattle.table.specs.Table.{length_of}
use Rattle.table.specs.declared.rules.Rules.{Rules}
use Rattle.walk.specs.Walk.{Rule}
use Rattle.walk.specs.Step.{Found, Heading, step_at}
use Rattle.walk.specs.Stepping.{moved_to, after_steps}
use Rattle.build.specs.Handed.{handed_at}
use Rattle.build.specs.declared.record.Record.{Record}
use Rattle.lent.specs.declared.iterator.MacCommandIterator.{MacCommandIterator}

abbrev pub fresh : Bor (List ℕ) → Rules → MacCommandIterator
fresh s rules = record { «data» = s; index = 0; rules = rules }

-- the same iterator at another index
abbrev pub at_index : MacCommandIterator → ℕ → MacCommandIterator
at_index it at = record { «data» = it.«data»; index = at; rules = it.rules }

-- the step at its index
abbrev pub step_of : MacCommandIterator → Answer (Found Heading)
step_of it = step_at (length_of it.rules) it.«data».now it.index

-- one call of `next`: that step, and the iterator moved by it
abbrev pub nexted : MacCommandIterator → Answer (Found Heading) × MacCommandIterator
nexted it = (step_of it, at_index it (moved_to (step_of it) it.index))

-- what stands at its index, as a record of a frame's stream (RULES: W7)
abbrev pub handed_by : (frame : ℕ) → MacCommandIterator → Answer (Found Heading) × Record
handed_by frame it = handed_at (length_of it.rules) frame it.«data».now it.index

-- one call of `next_record`: that record, and the iterator as `next` leaves it
abbrev pub nexted_record : (frame : ℕ) → MacCommandIterator → (Answer (Found Heading) × Record) × MacCommandIterator
nexted_record frame it = (handed_by frame it, (nexted it).1)

-- what the call after n others answers: the step behind n others from the front on
abbrev pub nth_answer : Rule → List ℕ → ℕ → Answer (Found Heading)
nth_answer L s n = step_at L s (after_steps L s 0 n)

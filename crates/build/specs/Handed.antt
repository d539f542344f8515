-- The walk's commands as records (RULES: W7): each with the caller's frame number and its offset.
use Rattle.std.specs.Prelude.{ℕ, List}
use Rattle.table.specs.Answers.{Answer, given, refused}
use Rattle.payloads.specs.Commands.{in_five}
use Rattle.walk.specs.Step.{Found, ended, command, stopped, Heading, found_at, step_at}
use Rattle.walk.specs.Walk.{Rule, Cmd, Placed}
use Rattle.build.specs.Records.{Rec, of_payload, stamped, no_record}
use Rattle.build.specs.declared.record.Record.{Record}

-- the record of a command: its payload at the front of five bytes
abbrev pub rec_of : Cmd → Rec
rec_of c = of_payload c.cid (in_five c.body)

-- of a command at its offset, which the frame's number stamps
abbrev pub from_frame : (frame : ℕ) → Placed → Record
from_frame frame p = stamped frame p.at (rec_of p.cmd)

-- of what a step found at an offset: where that is no command, the record of no command
abbrev pub record_found : (frame at : ℕ) → Answer (Found Cmd) → Record
record_found frame at (given (command c next)) = from_frame frame (record { at = at; cmd = c })
record_found frame at (given ended) = no_record
record_found frame at (given (stopped n o)) = no_record
record_found frame at (refused n) = no_record

-- what is handed out at an offset: the step there, and its record
abbrev pub handed_at : Rule → (frame : ℕ) → List ℕ → (at : ℕ) → Answer (Found Heading) × Record
handed_at L frame s at = (step_at L s at, record_found frame at (found_at L s at))

-- Whether a step gave a command.
use Rattle.std.specs.Prelude.{ℕ}
use Rattle.table.specs.Answers.{Answer, given, refused}
use Rattle.walk.specs.Step.{Found, ended, command, stopped, Heading}

abbrev pub is_command : Answer (Found Heading) → ℕ
is_command (given (command h next)) = 1
is_command (given ended) = 0
is_command (given (stopped n at)) = 0
is_command (refused n) = 0

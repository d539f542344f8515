-- What is answered of one step at an offset of a stream, and of the whole walk from there (RULES: W1, W4).
use Rattle.std.specs.Prelude.{ℕ, ◌+◌, cond, List, [], ◌∷◌, leb, length, drop}
use Rattle.table.specs.Answers.{Answer, given, refused}
use Rattle.walk.specs.Walk.{Rule, Cmd, Placed, Ending, end, stop, Walk, size, walk_from}

-- what a step finds: the end, a command and the offset behind it, or a stop. A says how a command is told
pub data Found (A : Type 0) : Type 0 where
  ended : Found A
  command : A → (next : ℕ) → Found A
  stopped : (number at : ℕ) → Found A

-- the first of these commands, or else the ending
abbrev pub first_of : List Placed → Ending → Found Cmd
first_of (p ∷ ps) e = command p.cmd (p.at + size p.cmd)
first_of [] (end at) = ended
first_of [] (stop n at) = stopped n at

abbrev pub first_move : Walk → Found Cmd
first_move w = first_of w.cmds w.ending

-- a step at an offset is the first move of the walk from there. Past the stream it is refusal 5, InvalidIndex, and never an end
unfoldable pub found_at : Rule → List ℕ → ℕ → Answer (Found Cmd)
found_at L s at = cond (leb at (length s)) (given (first_move (walk_from L at (drop at s)))) (refused 5)

-- a command in numbers: its CID, and the length of its payload
pub record Heading : Type 0 where
  pub cid : ℕ
  pub len : ℕ

abbrev pub heading : ℕ → ℕ → Heading
heading c n = record { cid = c; len = n }

-- the same, with each command told by f
abbrev pub retold : {A B : Type 0} → (A → B) → Answer (Found A) → Answer (Found B)
retold f (given ended) = given ended
retold f (given (command c next)) = given (command (f c) next)
retold f (given (stopped n at)) = given (stopped n at)
retold f (refused n) = refused n

abbrev pub in_numbers : Answer (Found Cmd) → Answer (Found Heading)
in_numbers a = retold (λ (c : Cmd). heading c.cid (length c.body)) a

abbrev pub step_at : Rule → List ℕ → ℕ → Answer (Found Heading)
step_at L s at = in_numbers (found_at L s at)

-- the whole walk is answered by its ending and the number of its commands
abbrev pub tally : Walk → Answer Ending × ℕ
tally w = (given w.ending, length w.cmds)

-- from an offset on. Past the stream it is refusal 5, and no command
unfoldable pub tally_from : Rule → List ℕ → ℕ → Answer Ending × ℕ
tally_from L s from = cond (leb from (length s)) (tally (walk_from L from (drop from s))) (refused 5, 0)

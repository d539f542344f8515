-- A command asked for by its number, with entries of whatever origin (RULES: J4, J5).
use Rattle.std.specs.Prelude.{ℕ, ◌/◌, ◌%◌, cond, List, ltb, leb, length, get_or}
use Rattle.table.specs.Answers.{Answer, given, refused}
use Rattle.walk.specs.Step.{Found, ended, command, stopped, Heading, step_at}
use Rattle.walk.specs.Stepping.{after_steps}
use Rattle.walk.specs.Walk.{Rule, Placed}

-- where a command is, and which: its offset, its CID, and the length of its payload
pub record Spot : Type 0 where
  pub at : ℕ
  pub cid : ℕ
  pub len : ℕ

abbrev pub spot_of : Placed → Spot
spot_of p = record { at = p.at; cid = p.cmd.cid; len = length p.cmd.body }

-- the command that a step at this offset finds. Refusal 19, NoSuchCommand, where it finds the end or a stop. (Past the stream a step is refused with 5;
-- none is made there from an entry that is in it.)
abbrev pub spotted : ℕ → Answer (Found Heading) → Answer Spot
spotted at (given (command h next)) = given (record { at = at; cid = h.cid; len = h.len })
spotted at (given ended) = refused 19
spotted at (given (stopped n o)) = refused 19
spotted at (refused n) = refused n

abbrev pub spot_at : Rule → List ℕ → ℕ → Answer Spot
spot_at L s at = spotted at (step_at L s at)

-- the command behind so many steps from an entry. Refusal 5, InvalidIndex, where the entry is past the stream
abbrev pub from_entry : Rule → List ℕ → (entry steps : ℕ) → Answer Spot
from_entry L s entry steps = cond (leb entry (length s)) (spot_at L s (after_steps L s entry steps)) (refused 5)

-- command n: n mod 16 steps from entry n / 16. Refusal 4, BufferTooShort, where there is no such entry
unfoldable pub jumped : Rule → (s entries : List ℕ) → ℕ → Answer Spot
jumped L s entries n = cond (ltb (n / 16) (length entries)) (from_entry L s (get_or entries (n / 16) 0) (n % 16)) (refused 4)

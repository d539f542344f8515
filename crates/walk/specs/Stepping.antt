-- Steps one behind the other, from an offset on (RULES: W8, H1), and what is claimed of them, for any rule, any stream and any offset.
-- proofs/Stepping.antt proves it.
use Rattle.std.specs.Prelude.{ℕ, zero, suc, ◌≤◌, ◌<◌, List, ◌≡◌, length, drop}
use Rattle.table.specs.Answers.{Answer, given, refused}
use Rattle.walk.specs.Ownership.{offset_of}
use Rattle.walk.specs.Step.{Found, ended, command, stopped, Heading, first_of, found_at, step_at}
use Rattle.walk.specs.Walk.{Rule, Walk, walk_from}

-- the offset of the next step: behind a command, and the same where there is none
abbrev pub moved_to : Answer (Found Heading) → ℕ → ℕ
moved_to (given (command h next)) at = next
moved_to (given ended) at = at
moved_to (given (stopped n o)) at = at
moved_to (refused n) at = at

-- the offset after n steps, the first of them at `from`
unfoldable pub after_steps : Rule → List ℕ → (from n : ℕ) → ℕ
after_steps L s from zero = from
after_steps L s from (suc n) = moved_to (step_at L s (after_steps L s from n)) (after_steps L s from n)

module _ (L : Rule) (s : List ℕ) (from : ℕ) where
  abbrev w : Walk
  w = walk_from L from (drop from s)

  -- the walk from where n steps lead is the walk from `from`, n of its commands dropped. So they lead to the first command that is left, or else to that
  -- walk's ending, and the step that is made there finds it
  pub record Reaches (n : ℕ) : Type 0 where
    pub rest : walk_from L (after_steps L s from n) (drop (after_steps L s from n) s) ≡ record { cmds = drop n w.cmds; ending = w.ending }
    pub stands : after_steps L s from n ≡ offset_of (drop n w.cmds) w.ending
    pub finds : found_at L s (after_steps L s from n) ≡ given (first_of (drop n w.cmds) w.ending)

-- steps from any offset of the stream hand out exactly the walk's list from there, and then its ending for ever
abbrev pub StepsReach : Rule → List ℕ → Type 0
StepsReach L s = (from n : ℕ) → from ≤ length s → Reaches L s from n

-- past the stream, where a step is refused, none leads on
abbrev pub StepsStay : Rule → List ℕ → Type 0
StepsStay L s = (from n : ℕ) → length s < from → after_steps L s from n ≡ from

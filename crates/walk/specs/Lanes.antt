-- Not for the auditor: only private functions cite this. What a lane of src/lanes.rt is: a part of a walk.
use Rattle.std.specs.Prelude.{ℕ, ◌+◌, ◌≤◌, List, Option, IfSome, ◌≡◌, length}
use Rattle.table.specs.Answers.{Answer}
use Rattle.walk.specs.Step.{tally_from}
use Rattle.walk.specs.Walk.{Rule, Ending}

-- so many commands more
abbrev pub more : ℕ → Answer Ending × ℕ → Answer Ending × ℕ
more n a = (a.0, n + a.1)

-- the walk from one offset leads over n commands to another: it is the walk from there, and n commands more. Each takes a byte at least
pub record Leads (L : Rule) (s : List ℕ) (from n at : ℕ) : Type 0 where
  pub same : tally_from L s from ≡ more n (tally_from L s at)
  pub apart : from + n ≤ at

-- the walk from an offset comes to this next one by one command, where there is a next one
abbrev pub Comes : Rule → List ℕ → ℕ → Option ℕ → Type 0
Comes L s at o = IfSome o (λ (next : ℕ). Leads L s at 1 next × (next ≤ length s))

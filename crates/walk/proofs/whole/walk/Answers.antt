-- `walk` meets its contract: the front and the walk from behind it are the whole walk. Assumes nothing.
use Prim.Native.Nat.{ℕ, ◌≤◌}
use mathlib.Core.List.{List}
use mathlib.Core.Path.{◌≡◌, ap}
use native.Mathlib.Omega.{arith}
use lib.ListN.{length}
use Rattle.table.specs.Answers.{Answer}
use Rattle.walk.specs.Step.{tally}
use Rattle.walk.specs.Walk.{Rule, Ending, walk_of}
use Rattle.walk.proofs.Ownership.{count_fits}
use Rattle.walk.proofs.Steps.{leads_from_start}
use Rattle.walk.proofs.whole.walk.Goals as goal

fits : (L : Rule) (s : List ℕ) {a : Answer Ending} {n : ℕ} → (a, n) ≡ tally (walk_of L s) → n ≤ length s
fits L s e = omega (arith, ap (λ (x : Answer Ending × ℕ). x.1) e, count_fits L s)

pub overflow_add-count : goal.overflow_add-count
overflow_add-count c =
    let whole = leads_from_start _ _ c.in_lanes-front.ensures c.walk_from-rest.ensures in
    omega (arith, fits _ _ whole)

pub returns : goal.returns
returns c = leads_from_start _ _ c.in_lanes-front.ensures c.walk_from-rest.ensures

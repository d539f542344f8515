-- The claims of specs/Stepping.antt, proved: steps are the walk's. Assumes nothing.
use Prim.Native.Nat.{ℕ, zero, suc, ◌+◌, ◌-◌, ◌≤◌}
use mathlib.Core.List.{List, [], ◌∷◌}
use mathlib.Core.Path.{◌≡◌, refl, sym, ap, ◌∙◌, subst}
use native.Mathlib.Nat.{zero-add, suc-add}
use native.Mathlib.Numerals.{add-one}
use native.Mathlib.Omega.{arith}
use lib.ListN.{length, drop}
use Rattle.table.specs.Answers.{Answer, given, refused}
use Rattle.walk.specs.Ownership.{offset_of, Steps, finds, hands}
use Rattle.walk.specs.Step.{Found, ended, command, stopped, Heading, first_of, found_at, in_numbers, step_at}
use Rattle.walk.specs.Stepping.{moved_to, after_steps, StepsReach, StepsStay}
use Rattle.walk.specs.Walk.{Rule, Cmd, Placed, Ending, end, stop, walk_from}
use Rattle.walk.proofs.Ownership.{step_and_walk_agree}
use Rattle.walk.proofs.Steps.{found_past, found_command, step_on}

abbrev behind_first : List Placed → List Placed
behind_first [] = []
behind_first (p ∷ ps) = ps

drop_one_more : (n : ℕ) (ps : List Placed) → behind_first (drop n ps) ≡ drop (suc n) ps
drop_one_more zero [] = refl
drop_one_more zero (p ∷ ps) = refl
drop_one_more (suc n) [] = refl
drop_one_more (suc n) (p ∷ ps) = drop_one_more n ps

-- no ending leads on
stays : (e : Ending) (at : ℕ) → moved_to (in_numbers (given (first_of [] e))) at ≡ at
stays (end o) at = refl
stays (stop n o) at = refl

module _ (L : Rule) (s : List ℕ) where
  pub none_made : (from : ℕ) → from ≡ after_steps L s from 0
  unfolding after_steps
  none_made from = refl

  -- one step more
  pub one_more : (from n : ℕ) → moved_to (step_at L s (after_steps L s from n)) (after_steps L s from n) ≡ after_steps L s from (n + 1)
  unfolding after_steps
  one_more from n = ap (after_steps L s from) (sym (add-one n))

  -- steps, and then steps from where they led
  pub steps_on : (from m n : ℕ) → after_steps L s (after_steps L s from m) n ≡ after_steps L s from (n + m)
  unfolding after_steps
  steps_on from m zero = ap (after_steps L s from) (sym (zero-add m))
  steps_on from m (suc n) =
      ap (λ (k : ℕ). moved_to (step_at L s k) k) (steps_on from m n) ∙ ap (after_steps L s from) (sym (suc-add n m))

  -- where a step does not lead on, no number of steps does
  stuck : (at n : ℕ) → moved_to (step_at L s at) at ≡ at → after_steps L s at n ≡ at
  unfolding after_steps
  stuck at zero e = refl
  stuck at (suc n) e = ap (λ (k : ℕ). moved_to (step_at L s k) k) (stuck at n e) ∙ e

  -- a command found where steps led is led behind by one more
  pub step_made : (from made : ℕ) {at next : ℕ} {h : Heading} → at ≡ after_steps L s from made → step_at L s at ≡ given (command h next) → next ≡ after_steps L s from (made + 1)
  step_made from made {at} e p =
      sym (ap (λ (x : Answer (Found Heading)). moved_to x at) p) ∙ ap (λ (k : ℕ). moved_to (step_at L s k) k) e ∙ one_more from made

  -- where a step finds what does not lead on, all the others are as good as made
  pub rest_made : (from made n : ℕ) {at : ℕ} {x : Answer (Found Heading)} → at ≡ after_steps L s from made → made ≤ n → step_at L s at ≡ x → moved_to x at ≡ at
      → at ≡ after_steps L s from n
  rest_made from made n {at} e h f p =
      let all : n - made + made ≡ n = omega arith in
      let here = ap (λ (x : Answer (Found Heading)). moved_to x at) f ∙ p in
      sym (stuck at (n - made) here) ∙ ap (λ (k : ℕ). after_steps L s k (n - made)) e ∙ steps_on from made (n - made) ∙ ap (after_steps L s from) all

  moved_within : (at : ℕ) (x : Answer (Found Heading)) → step_at L s at ≡ x → at ≤ length s → moved_to x at ≤ length s
  moved_within at (given ended) e h = h
  moved_within at (given (command c next)) e h = (step_on L s at e).1
  moved_within at (given (stopped n o)) e h = h
  moved_within at (refused n) e h = h

  -- no step leads past the stream
  pub steps_within : (from n : ℕ) → from ≤ length s → after_steps L s from n ≤ length s
  unfolding after_steps
  steps_within from zero h = h
  steps_within from (suc n) h = moved_within (after_steps L s from n) (step_at L s (after_steps L s from n)) refl (steps_within from n h)

  moved_on : {at : ℕ} {ps : List Placed} {e : Ending} → Steps L s at ps e → Steps L s (moved_to (step_at L s at) at) (behind_first ps) e
  moved_on {at} (finds e f p) =
      subst (λ (k : ℕ). Steps L s k [] e) (sym (ap (λ (x : Answer (Found Cmd)). moved_to (in_numbers x) at) f ∙ stays e at)) (finds e f p)
  moved_on {at} (hands c {ps} {e} f rest) =
      subst (λ (k : ℕ). Steps L s k ps e) (sym (ap (λ (x : Answer (Found Cmd)). moved_to (in_numbers x) at) f)) rest

  first_found : {at : ℕ} {ps : List Placed} {e : Ending} → Steps L s at ps e → found_at L s at ≡ given (first_of ps e)
  first_found (finds e f p) = f
  first_found (hands c f rest) = f ∙ ap (λ (k : ℕ). given (command c k)) (found_command L s f).behind

  stands_there : {at : ℕ} {ps : List Placed} {e : Ending} → Steps L s at ps e → at ≡ offset_of ps e
  stands_there (finds e f p) = sym p
  stands_there (hands c f rest) = refl

  -- from where n steps led, steps hand out the rest of the walk
  steps_after : (from n : ℕ) → from ≤ length s
      → Steps L s (after_steps L s from n) (drop n (walk_from L from (drop from s)).cmds) (walk_from L from (drop from s)).ending
  unfolding after_steps
  steps_after from zero h = (step_and_walk_agree L s from h).hand_out
  steps_after from (suc n) h =
      let w = walk_from L from (drop from s) in
      subst (λ (ps : List Placed). Steps L s (moved_to (step_at L s (after_steps L s from n)) (after_steps L s from n)) ps w.ending) (drop_one_more n w.cmds)
      (moved_on (steps_after from n h))

  pub steps_reach : StepsReach L s
  steps_reach from n h =
      let there = steps_after from n h in
      record {
        rest = (step_and_walk_agree L s (after_steps L s from n) (steps_within from n h)).no_other _ _ there;
        stands = stands_there there;
        finds = first_found there;
      }

  pub steps_stay : StepsStay L s
  steps_stay from n h = stuck from n (ap (λ (x : Answer (Found Cmd)). moved_to (in_numbers x) from) (found_past L s h))

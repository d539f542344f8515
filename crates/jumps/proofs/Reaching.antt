-- What a jump answers: by the tests that the code makes, by the walk from an entry, and by the stream's own entries. Assumes nothing.
use Prim.Native.Nat.{ℕ, ◌+◌, ◌*◌, ◌/◌, ◌%◌, ◌≤◌, ◌<◌}
use mathlib.Core.Bool.{Bool, cond}
use mathlib.Core.List.{List, [], ◌∷◌}
use mathlib.Core.Path.{◌≡◌, refl, sym, ap, ap₂, ◌∙◌, subst}
use native.Mathlib.Decide.{dec_le, dec_lt}
use native.Mathlib.Omega.{arith}
use lib.ListN.{length, get_or, drop}
use borrow.Author.Tests.{le-leb, lt-leb, lt-ltb, le-ltb}
use Rattle.table.specs.Answers.{Answer, given, refused}
use Rattle.walk.specs.Ownership.{offset_of}
use Rattle.walk.specs.Step.{Found, Heading, first_of, found_at, in_numbers, step_at}
use Rattle.walk.specs.Stepping.{after_steps}
use Rattle.walk.specs.Walk.{Rule, Cmd, Placed, Ending, end, stop, walk_from}
use Rattle.walk.proofs.Stepping.{steps_on, steps_within, steps_reach}
use Rattle.jumps.specs.Entries.{entries_of}
use Rattle.jumps.specs.Jump.{Spot, spot_of, spotted, spot_at, from_entry, jumped}
use Rattle.jumps.proofs.Making.{entry_stepped}

-- an answer, or else refusal k
abbrev by : Bool → Answer Spot → ℕ → Answer Spot
by b a k = cond b a (refused k)

module _ (L : Rule) (s : List ℕ) where
  module _ (entry steps : ℕ) where
    pub entry_past : length s < entry → refused 5 ≡ from_entry L s entry steps
    entry_past h = sym (ap (λ (b : Bool). by b (spot_at L s (after_steps L s entry steps)) 5) (lt-leb entry (length s) h))

    pub entry_spots : (at : ℕ) {x : Answer (Found Heading)} → entry ≤ length s → at ≡ after_steps L s entry steps → x ≡ step_at L s at
        → spotted at x ≡ from_entry L s entry steps
    entry_spots at h e f =
        ap (spotted at) f ∙ ap (spot_at L s) e ∙ sym (ap (λ (b : Bool). by b (spot_at L s (after_steps L s entry steps)) 5) (le-leb entry (length s) h))

  module _ (entries : List ℕ) (n : ℕ) where
    abbrev entry : ℕ
    entry = get_or entries (n / 16) 0

    abbrev from : Answer Spot
    from = from_entry L s entry (n % 16)

    pub none_covers : length entries ≤ n / 16 → refused 4 ≡ jumped L s entries n
    unfolding jumped
    none_covers h = sym (ap (λ (b : Bool). by b from 4) (le-ltb (n / 16) (length entries) h))

    pub covered : {a : Answer Spot} → n / 16 < length entries → a ≡ from → a ≡ jumped L s entries n
    unfolding jumped
    covered h e = e ∙ sym (ap (λ (b : Bool). by b from 4) (lt-ltb (n / 16) (length entries) h))

    -- each of the three, by what is found
    pub data Jumping : Answer Spot → Type 0 where
      uncovered : length entries ≤ n / 16 → Jumping (refused 4)
      past : n / 16 < length entries → length s < entry → Jumping (refused 5)
      there : n / 16 < length entries → entry ≤ length s → Jumping (spot_at L s (after_steps L s entry (n % 16)))

    pub jumping : Jumping (jumped L s entries n)
    jumping = cases (dec_lt (n / 16) (length entries)) (dec_le entry (length s))
      where
        cases : Dec (n / 16 < length entries) → Dec (entry ≤ length s) → Jumping (jumped L s entries n)
        cases (no h) g = subst Jumping (none_covers (omega arith)) (uncovered (omega arith))
        cases (yes h) (no g) = subst Jumping (covered h (entry_past entry (n % 16) (omega arith))) (past h (omega arith))
        cases (yes h) (yes g) = subst Jumping (covered h (entry_spots entry (n % 16) (after_steps L s entry (n % 16)) g refl refl)) (there h g)

  -- ---- and by walks

  module _ (entry k : ℕ) (h : entry ≤ length s) where
    -- the step behind so many others, by what it finds
    at_step : {at : ℕ} {f : Found Cmd} → after_steps L s entry k ≡ at → found_at L s (after_steps L s entry k) ≡ given f → from_entry L s entry k ≡ spotted at (in_numbers (given f))
    at_step e f = sym (entry_spots entry k _ h (sym e) (sym (ap in_numbers (sym (ap (found_at L s) e) ∙ f))))

    -- the walk from the entry has so many commands and this one behind them
    pub reached : {p : Placed} {ps : List Placed} → drop k (walk_from L entry (drop entry s)).cmds ≡ p ∷ ps
        → from_entry L s entry k ≡ given (spot_of p)
    reached e =
        let r = steps_reach L s entry k h in
        let w = walk_from L entry (drop entry s) in
        at_step (r.stands ∙ ap (λ (l : List Placed). offset_of l w.ending) e) (r.finds ∙ ap (λ (l : List Placed). given (first_of l w.ending)) e)

    -- it has no more than so many
    pub not_reached : drop k (walk_from L entry (drop entry s)).cmds ≡ [] → from_entry L s entry k ≡ refused 19
    not_reached e = ending (walk_from L entry (drop entry s)).ending refl
      where
        ending : (x : Ending) → (walk_from L entry (drop entry s)).ending ≡ x → from_entry L s entry k ≡ refused 19
        ending x f =
            let r = steps_reach L s entry k h in
            let found : found_at L s (after_steps L s entry k) ≡ given (first_of [] x) = r.finds ∙ ap₂ (λ (l : List Placed) (y : Ending). given (first_of l y)) e f in
            at_step refl found ∙ nothing x
          where
            nothing : (x : Ending) → spotted (after_steps L s entry k) (in_numbers (given (first_of [] x))) ≡ refused 19
            nothing (end o) = refl
            nothing (stop n o) = refl

  -- by the stream's own entries, a jump is the walk from the front
  pub by_own : (n : ℕ) → n / 16 < length (entries_of L s) → jumped L s (entries_of L s) n ≡ from_entry L s 0 n
  by_own n g =
      let entry : ℕ = get_or (entries_of L s) (n / 16) 0 in
      let e : entry ≡ after_steps L s 0 (16 * (n / 16)) = entry_stepped L s (n / 16) g in
      let i : n % 16 + 16 * (n / 16) ≡ n = omega arith in
      let same : after_steps L s entry (n % 16) ≡ after_steps L s 0 n =
      ap (λ (a : ℕ). after_steps L s a (n % 16)) e ∙ steps_on L s 0 (16 * (n / 16)) (n % 16) ∙ ap (after_steps L s 0) i in
      let inside : entry ≤ length s = omega (arith, e, steps_within L s 0 (16 * (n / 16)) (omega arith)) in
      sym (covered (entries_of L s) n g (sym (entry_spots 0 n (after_steps L s 0 n) (omega arith) refl refl)
      ∙ entry_spots entry (n % 16) (after_steps L s 0 n) inside (sym same) refl))

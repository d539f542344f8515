-- The entries of a stream: how many, and where each is. Assumes nothing.
use Prim.Native.Nat.{ℕ, zero, suc, ◌+◌, ◌*◌, ◌-◌, ◌/◌, ◌≤◌, ◌<◌}
use mathlib.Core.List.{List, [], ◌∷◌, ◌++◌, append-nil}
use mathlib.Core.Path.{◌≡◌, refl, sym, ap, ap₂, ◌∙◌, subst}
use native.Mathlib.Decide.{dec_lt}
use native.Mathlib.Nat.{not-suc-le-zero, sub-zero, zero-add}
use native.Mathlib.Numerals.{add-one}
use native.Mathlib.Omega.{arith}
use lib.ListN.{length, get_or, drop, set, drop_of_length-le}
use lib.Seq.{take-length, drop-drop, paste, paste-zero, paste-suc, length-paste}
use borrow.Author.Tests.{lt-ltb, le-ltb}
use Rattle.std.specs.Int.{div_ceil}
use Rattle.bits.specs.Memory.{over}
use Rattle.table.specs.Answers.{Answer, given, refused}
use Rattle.walk.specs.Ownership.{offset_of}
use Rattle.walk.specs.Step.{tally}
use Rattle.walk.specs.Stepping.{after_steps}
use Rattle.walk.specs.Told.{told_walk}
use Rattle.walk.specs.Walk.{Rule, Placed, Ending, walk_of}
use Rattle.walk.specs.declared.whole.WalkEnd.{WalkEnd}
use Rattle.walk.proofs.Stepping.{none_made, steps_on, steps_within, steps_reach}
use Rattle.jumps.specs.Entries.{sixteenths, entries_of, made}

-- one for each sixteen, and one for what is left
count_of : (pass : ℕ) (ps : List Placed) → pass ≤ 15 → length (sixteenths pass ps) ≡ (length ps + 15 - pass) / 16
count_of pass [] h = omega arith
count_of zero (p ∷ ps) h = omega (arith, count_of 15 ps (omega arith))
count_of (suc pass) (p ∷ ps) h = omega (arith, count_of pass ps (omega arith))

passed : (pass : ℕ) (ps : List Placed) → sixteenths pass ps ≡ sixteenths 0 (drop pass ps)
passed zero ps = refl
passed (suc pass) [] = refl
passed (suc pass) (p ∷ ps) = passed pass ps

-- the k-th is that of command 16 k
pub entry_at : (k : ℕ) (ps : List Placed) (e : Ending) → k < length (sixteenths 0 ps) → get_or (sixteenths 0 ps) k 0 ≡ offset_of (drop (16 * k) ps) e
entry_at zero [] e h = absurd (not-suc-le-zero h)
entry_at zero (p ∷ ps) e h = refl
entry_at (suc k) ps e h = by (λ qs. entry_at k qs e) ps h
  where
    by : ((qs : List Placed) → k < length (sixteenths 0 qs) → get_or (sixteenths 0 qs) k 0 ≡ offset_of (drop (16 * k) qs) e) → (ps : List Placed)
        → suc k < length (sixteenths 0 ps) → get_or (sixteenths 0 ps) (suc k) 0 ≡ offset_of (drop (16 * suc k) ps) e
    by behind [] h = absurd (not-suc-le-zero h)
    by behind (p ∷ ps) h =
        let m = ap length (passed 15 ps) in
        let i : suc (15 + 16 * k) ≡ 16 * suc k = omega arith in
        ap (λ (l : List ℕ). get_or l k 0) (passed 15 ps)
        ∙ behind (drop 15 ps) (omega arith)
        ∙ ap (λ (l : List Placed). offset_of l e) (drop-drop (16 * k) 15 ps ∙ ap (λ (i : ℕ). drop i (p ∷ ps)) i)

module _ (L : Rule) (s : List ℕ) where
  pub entries_count : length (entries_of L s) ≡ (length (walk_of L s).cmds + 15) / 16
  entries_count = count_of 0 (walk_of L s).cmds (omega arith) ∙ ap (λ (n : ℕ). n / 16) (sub-zero (length (walk_of L s).cmds + 15))

  -- steps from the front come by it
  pub entry_stepped : (k : ℕ) → k < length (entries_of L s) → get_or (entries_of L s) k 0 ≡ after_steps L s 0 (16 * k)
  entry_stepped k h = entry_at k (walk_of L s).cmds (walk_of L s).ending h ∙ sym (steps_reach L s 0 (16 * k) (omega arith)).stands

  -- ---- what the making answers

  ceil : (n : ℕ) → div_ceil n 16 ≡ (n + 15) / 16
  ceil n = omega arith

  -- as many as the walk's count says
  pub total_is : (end : WalkEnd) {total : ℕ} → told_walk end ≡ tally (walk_of L s) → total ≡ div_ceil end.count 16 → total ≡ length (entries_of L s)
  total_is end {total} e t =
      let rounded : total ≡ (end.count + 15) / 16 = t ∙ ceil end.count in
      rounded ∙ ap (λ (a : Answer Ending × ℕ). (a.1 + 15) / 16) e ∙ sym entries_count

  module _ {total : ℕ} (numbers : List ℕ) (t : total ≡ length (entries_of L s)) where
    pub made_short : length numbers < total → (refused 4, numbers) ≡ made L s numbers
    unfolding made
    made_short h = rw (lt-ltb (length numbers) (length (entries_of L s)) (omega arith))

    pub made_long : total ≤ length numbers → 4_294_967_295 < length s → (refused 5, numbers) ≡ made L s numbers
    unfolding made
    made_long h g = rw (le-ltb (length numbers) (length (entries_of L s)) (omega arith), lt-ltb 4_294_967_295 (length s) g)

    pub made_all : {out : List ℕ} → total ≤ length numbers → length s ≤ 4_294_967_295 → out ≡ over numbers 0 (entries_of L s) → (given total, out) ≡ made L s numbers
    unfolding made
    made_all h g e =
        rw (le-ltb (length numbers) (length (entries_of L s)) (omega arith), le-ltb 4_294_967_295 (length s) g)
        (ap₂ (λ (n : ℕ) (o : List ℕ). (given n, o)) t e)

    -- the entries over as many numbers at the front
    pub made_front : {new : List ℕ} → new ≡ entries_of L s → new ++ drop total numbers ≡ over numbers 0 (entries_of L s)
    made_front e = ap₂ (λ (o : List ℕ) (n : ℕ). o ++ drop n numbers) e (t ∙ sym (zero-add (length (entries_of L s))))

  -- ---- entries written one by one

  -- k of them stand at the front of the numbers, and steps have led to the next
  pub record Written (numbers : List ℕ) (k at : ℕ) (out : List ℕ) : Type 0 where
    pub next : at ≡ after_steps L s 0 (16 * k)
    pub front : out ≡ paste numbers 0 (entries_of L s) k

  module _ (numbers : List ℕ) (h : length (entries_of L s) ≤ length numbers) where
    pub written_none : Written numbers 0 0 numbers
    written_none = record { next = none_made L s 0; front = paste-zero numbers 0 (entries_of L s) }

    pub written_length : {k at : ℕ} {out : List ℕ} → k ≤ length (entries_of L s) → Written numbers k at out → length out ≡ length numbers
    written_length {k} g w = ap length w.front ∙ length-paste numbers 0 (entries_of L s) k (omega arith) g

    -- an offset is in the stream
    pub written_in : {k at : ℕ} {out : List ℕ} → Written numbers k at out → at ≤ length s
    written_in {k} w = omega (arith, w.next, steps_within L s 0 (16 * k) (omega arith))

    pub written_more : {k at next : ℕ} {out : List ℕ} → k < length (entries_of L s) → Written numbers k at out → next ≡ after_steps L s at 16
        → Written numbers (k + 1) next (set out k at)
    written_more {k} {at} {next} {out} g w e =
        let i : 16 + 16 * k ≡ 16 * (k + 1) = omega arith in
        let here : at ≡ get_or (entries_of L s) k 0 = w.next ∙ sym (entry_stepped k g) in
        record {
          next = e ∙ ap (λ (a : ℕ). after_steps L s a 16) w.next ∙ steps_on L s 0 (16 * k) 16 ∙ ap (after_steps L s 0) i;
          front = ap₂ (λ (o : List ℕ) (v : ℕ). set o k v) w.front here
              ∙ ap (λ (i : ℕ). set (paste numbers 0 (entries_of L s) k) i (get_or (entries_of L s) k 0)) (sym (zero-add k))
              ∙ paste-suc numbers 0 (entries_of L s) k 0 (omega arith) g
              ∙ ap (paste numbers 0 (entries_of L s)) (sym (add-one k));
        }

    -- all of them, where there are no more numbers
    pub written_all : {k at : ℕ} {out : List ℕ} → k ≡ length (entries_of L s) → length numbers ≡ length (entries_of L s) → Written numbers k at out → out ≡ entries_of L s
    written_all {k} e n w =
        w.front ∙ ap (paste numbers 0 (entries_of L s)) e
        ∙ ap (λ (l : List ℕ). l ++ drop (0 + length (entries_of L s)) numbers) (take-length (entries_of L s))
        ∙ ap (λ (l : List ℕ). entries_of L s ++ l) (drop_of_length-le numbers {i = 0 + length (entries_of L s)} (omega arith))
        ∙ append-nil (entries_of L s)

  -- ---- what its answer tells

  module _ (numbers : List ℕ) where
    -- each of the three, by what is found
    pub data Making : Answer ℕ × List ℕ → Type 0 where
      short : length numbers < length (entries_of L s) → Making (refused 4, numbers)
      long : length (entries_of L s) ≤ length numbers → 4_294_967_295 < length s → Making (refused 5, numbers)
      all : length (entries_of L s) ≤ length numbers → length s ≤ 4_294_967_295 → Making (given (length (entries_of L s)), over numbers 0 (entries_of L s))

    pub making : Making (made L s numbers)
    making = by (dec_lt (length numbers) (length (entries_of L s))) (dec_lt 4_294_967_295 (length s))
      where
        by : Dec (length numbers < length (entries_of L s)) → Dec (4_294_967_295 < length s) → Making (made L s numbers)
        by (yes h) g = subst Making (made_short numbers refl h) (short h)
        by (no h) (yes g) = subst Making (made_long numbers refl (omega arith) g) (long (omega arith) g)
        by (no h) (no g) = subst Making (made_all numbers refl (omega arith) (omega arith) refl) (all (omega arith) (omega arith))

-- A text into lent memory: its length measured, and then the text written. Assumes nothing.
use Prim.Native.Nat.{ℕ, ◌<◌, ◌≤◌}
use mathlib.Core.List.{List}
use mathlib.Core.Path.{◌≡◌, sym, ap₂, ◌∙◌}
use native.Mathlib.Omega.{arith}
use lib.ListN.{length}
use Rattle.std.proofs.lemmas.Bool.Decides.{nat_tests}
use Rattle.bits.specs.Memory.{over}
use Rattle.bits.proofs.Memory.{Left, puts_of}
use Rattle.table.specs.Answers.{given, refused}
use Rattle.listings.specs.Into.{length_within, into}

-- ---- the length

pub too_long : (room : ℕ) (t : List ℕ) → room < length t → refused 4 ≡ length_within room t
unfolding length_within
too_long room t h = grind (arith, nat_tests)

pub fits_in : (room : ℕ) (t : List ℕ) {n : ℕ} → n ≡ length t → length t ≤ room → given n ≡ length_within room t
unfolding length_within
fits_in room t e h = grind (arith, nat_tests)

-- ---- the text

pub into_room : (t out : List ℕ) → length t ≤ length out → into t out ≡ (given (length t), over out 0 t)
unfolding into
into_room t out h = grind (arith, nat_tests)

pub into_none : (t out : List ℕ) → length out < length t → into t out ≡ (refused 4, out)
unfolding into
into_none t out h = grind (arith, nat_tests)

module _ (t out : List ℕ) where
  -- a refusal says that there is no room
  pub into_refused : {n : ℕ} → refused n ≡ length_within (length out) t → (refused n, out) ≡ into t out
  unfolding length_within into
  into_refused {n} p = grind (arith, nat_tests)

  pub fits_of : {n : ℕ} → given n ≡ length_within (length out) t → length t ≤ length out
  unfolding length_within
  fits_of {n} p = grind (arith, nat_tests)

  pub into_written : length t ≤ length out → {n : ℕ} {o : List ℕ} → Left n o out 0 t → (given n, o) ≡ into t out
  into_written h {n} {o} e =
      let p = puts_of (omega arith) e in
      ap₂ (λ (k : ℕ) (x : List ℕ). (given k, x)) (let b = p.behind in omega arith) p.memory ∙ sym (into_room t out h)

-- Five bytes are room for a payload: behind it are what is left of the five zeros. Assumes nothing.
use Prim.Native.Nat.{ℕ, ◌≤◌}
use mathlib.Core.Path.{◌≡◌, refl, sym}
use mathlib.Core.List.{List, [], ◌∷◌, ◌++◌}
use lib.ListN.{length, drop}
use native.Mathlib.Omega.{arith}
use Rattle.payloads.specs.Commands.{in_five}

pub in_room : (n : ℕ) (s : List ℕ) → length s ≡ n → n ≤ 5 → ◌≡◌ {A = ℕ × List ℕ} (n, s ++ drop n (0 ∷ 0 ∷ 0 ∷ 0 ∷ 0 ∷ [])) (in_five s)
in_room n s e h = let here = by s (omega (arith, e, h)) in rw (sym e) here
  where
    by : (s : List ℕ) → length s ≤ 5 → ◌≡◌ {A = ℕ × List ℕ} (length s, s ++ drop (length s) (0 ∷ 0 ∷ 0 ∷ 0 ∷ 0 ∷ [])) (in_five s)
    by [] h = refl
    by (a ∷ []) h = refl
    by (a ∷ b ∷ []) h = refl
    by (a ∷ b ∷ c ∷ []) h = refl
    by (a ∷ b ∷ c ∷ d ∷ []) h = refl
    by (a ∷ b ∷ c ∷ d ∷ e ∷ []) h = refl
    by (a ∷ b ∷ c ∷ d ∷ e ∷ f ∷ s) h = absurd (omega (arith, h))

-- What is built from a kind is the image that it was made of, with zeros after it. Assumes nothing.
use Prim.Native.Nat.{ℕ, ◌+◌, ◌<◌, ◌≤◌}
use mathlib.Core.Path.{◌≡◌, refl, sym, ap, ◌∙◌}
use mathlib.Core.List.{List, [], ◌∷◌, ◌++◌}
use native.Mathlib.Decide.{dec_lt}
use native.Mathlib.Omega.{arith}
use lib.ListN.{length, get_or, take, drop, get_or-eq_default}
use lib.Seq.{ext_get_or, get_or-take, length-take-le}
use Rattle.table.specs.Table.{Command}
use Rattle.fields.specs.Lists.{tabulate}
use Rattle.fields.proofs.Lists.{length_tabulate, get_d_tabulate}
use Rattle.creators.specs.Kinds.{padded, beside, built}

length_padded : (image : List ℕ) → length (padded image) ≡ 6
unfolding padded
length_padded image = length_tabulate 6 (λ (k : ℕ). get_or image k 0)

-- six bytes are room for an image: behind it are what is left of the six zeros
pub in_room : (n : ℕ) (s : List ℕ) → length s ≡ n → n ≤ 6 → s ++ drop n (0 ∷ 0 ∷ 0 ∷ 0 ∷ 0 ∷ 0 ∷ []) ≡ padded s
unfolding padded tabulate
in_room n s e h = let here = by s (omega (arith, e, h)) in rw (sym e) here
  where
    by : (s : List ℕ) → length s ≤ 6 → s ++ drop (length s) (0 ∷ 0 ∷ 0 ∷ 0 ∷ 0 ∷ 0 ∷ []) ≡ padded s
    by [] h = refl
    by (a ∷ []) h = refl
    by (a ∷ b ∷ []) h = refl
    by (a ∷ b ∷ c ∷ []) h = refl
    by (a ∷ b ∷ c ∷ d ∷ []) h = refl
    by (a ∷ b ∷ c ∷ d ∷ e ∷ []) h = refl
    by (a ∷ b ∷ c ∷ d ∷ e ∷ f ∷ []) h = refl
    by (a ∷ b ∷ c ∷ d ∷ e ∷ f ∷ g ∷ s) h = absurd (omega (arith, h))

-- each byte is the image's, and 0 past its end
pub padded_reads : (image : List ℕ) (k : ℕ) → length image ≤ 6 → get_or (padded image) k 0 ≡ get_or image k 0
unfolding padded
padded_reads image k h = by (dec_lt k 6)
  where
    by : Dec (k < 6) → get_or (padded image) k 0 ≡ get_or image k 0
    by (yes l) = get_d_tabulate 6 (λ (i : ℕ). get_or image i 0) k 0 l
    by (no n) =
        let e = length_padded image in
        get_or-eq_default (padded image) 0 (omega arith) ∙ sym (get_or-eq_default image 0 (omega arith))

pub built_front : (c : Command) (image : List ℕ) → length image ≡ 1 + c.size → length image ≤ 6
    → take (built (beside c image)).0 (built (beside c image)).1 ≡ image
built_front c image e h =
    let n = length image in
    let l : length (take n (padded image)) ≡ n = length-take-le n (padded image) (omega (arith, length_padded image)) in
    ap (λ (m : ℕ). take m (padded image)) (sym e)
    ∙ ext_get_or 0 (take n (padded image)) image l (λ k i. get_or-take n (padded image) k 0 (omega arith) ∙ padded_reads image k h)

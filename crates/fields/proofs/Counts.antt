-- How many channels a mask switches on is how many ones the number has that its bytes make, low byte first: once over the mask's width.
-- Assumes nothing.
use mathlib.Core.Path.{◌≡◌, refl, sym, ap, ap₂, ◌∙◌}
use mathlib.Core.Bool.{Bool}
use mathlib.Core.List.{List, [], ◌∷◌}
use Prim.Native.Nat.{ℕ, zero, suc, ◌+◌, ◌*◌, ◌/◌, ◌%◌, ◌^◌, ◌<◌}
use native.Mathlib.Nat.{div-one, pow-suc, add_comm, zero-add, suc-add}
use native.Mathlib.Numerals.{one-add}
use native.Mathlib.Omega.{arith}
use lib.Arith.{lt-one}
use lib.Count.{ones, ones_step, ones_cat}
use lib.Dec.{eqb}
use lib.ListN.{length, get_or}
use lib.Pow.{shr-shr}
use Rattle.bits.specs.Bits.{Byte, bit_on, bit_of}
use Rattle.bits.specs.Every.{Every}
use Rattle.fields.specs.Lists.{tabulate, low_first}
use Rattle.fields.specs.Mask.{channel_on, how_many, channels_on}
use Rattle.fields.proofs.Lists.{tabulate_same}

-- those among the first m, and those among the n behind them
counted_apart : (m n : ℕ) (f : ℕ → Bool) → how_many (tabulate (m + n) f) ≡ how_many (tabulate m f) + how_many (tabulate n (λ (k : ℕ). f (m + k)))
unfolding tabulate
counted_apart zero n f = simp zero-add
counted_apart (suc m) n f =
    simp suc-add
    (ap (λ (x : ℕ). bit_of (f 0) + x) (counted_apart m n (λ (k : ℕ). f (suc k))) ∙ omega arith)

-- a digit is the bit of whether it is 1
digit_told : (d : ℕ) → d < 2 → bit_of (eqb d 1) ≡ d
digit_told zero h = refl
digit_told (suc zero) h = refl
digit_told (suc (suc d)) h = absurd (omega arith)

-- how many of a number's bits are set, where it has no more than k
ones_among : (k n : ℕ) → n < 2 ^ k → how_many (tabulate k (λ (j : ℕ). bit_on j n)) ≡ ones n
unfolding tabulate ones
ones_among zero n h = sym (ap ones (lt-one h))
ones_among (suc k) n h =
    let half : n / 2 < 2 ^ k = omega (arith, pow-suc 2 k) in
    let up : (j : ℕ) → bit_on (suc j) n ≡ bit_on j (n / 2) = λ j. rw (← one-add j, ← shr-shr n 1 j) in
    let low : bit_of (bit_on 0 n) ≡ n % 2 = rw div-one (digit_told (n % 2) (omega arith)) in
    ap₂ (λ (x y : ℕ). x + y) low
    (ap how_many (tabulate_same k (λ (j : ℕ). bit_on (suc j) n) (λ (j : ℕ). bit_on j (n / 2)) (λ j l. up j)) ∙ ones_among k (n / 2) half)
    ∙ sym (ones_step n)

-- the channels of the first byte, and those behind them
first_byte : (b : ℕ) (m : List ℕ) (k : ℕ) → k < 8 → channel_on (b ∷ m) k ≡ bit_on k b
first_byte b m k h =
    let q : k / 8 ≡ 0 = omega arith in
    let r : k % 8 ≡ k = omega arith in
    rw (q, r)

other_bytes : (b : ℕ) (m : List ℕ) (k : ℕ) → channel_on (b ∷ m) (8 + k) ≡ channel_on m k
other_bytes b m k =
    let q : (8 + k) / 8 ≡ suc (k / 8) = omega arith in
    let r : (8 + k) % 8 ≡ k % 8 = omega arith in
    rw (q, r)

-- as many channels are on as the number has ones
pub on_are_ones : (m : List ℕ) → Every Byte m → channels_on m ≡ ones (low_first m)
unfolding tabulate ones
on_are_ones [] h = refl
on_are_ones (b ∷ m) h =
    let n = 8 * length m in
    let more : 8 * suc (length m) ≡ 8 + 8 * length m = omega arith in
    let swap : low_first m * 256 + b ≡ b + 256 * low_first m = omega arith in
    ap (λ (x : ℕ). how_many (tabulate x (channel_on (b ∷ m)))) more
    ∙ counted_apart 8 n (channel_on (b ∷ m))
    ∙ ap₂ (λ (x y : ℕ). x + y)
    (ap how_many (tabulate_same 8 (channel_on (b ∷ m)) (λ (k : ℕ). bit_on k b) (first_byte b m)) ∙ ones_among 8 b h.0)
    (ap how_many (tabulate_same n (λ (k : ℕ). channel_on (b ∷ m) (8 + k)) (channel_on m) (λ k l. other_bytes b m k)) ∙ on_are_ones m h.1)
    ∙ add_comm (ones b) (ones (low_first m))
    ∙ sym (ones_cat 8 (low_first m) b h.0)
    ∙ ap ones swap

-- of two bytes, the ones of the 16-bit number that they make
pub on_in_word : (m : List ℕ) (n : ℕ) → n ≡ get_or m 0 0 + get_or m 1 0 * 256 → length m ≡ 2 → get_or m 0 0 < 256 → get_or m 1 0 < 256
    → ones n ≡ channels_on m
on_in_word (low ∷ high ∷ []) n e w l h = ap ones (omega arith) ∙ sym (on_are_ones (low ∷ high ∷ []) (l, (h, tt)))
on_in_word [] n e w l h = absurd (omega arith)
on_in_word (low ∷ []) n e w l h = absurd (omega arith)
on_in_word (low ∷ high ∷ more ∷ m) n e w l h = absurd (omega arith)

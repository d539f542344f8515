-- Hex spellings: the bytes back, and their form. Assumes nothing.
use Prim.Native.Nat.{ℕ, ◌+◌, ◌*◌, ◌/◌, ◌%◌, ◌<◌, ◌≤◌}
use mathlib.Core.Bool.{Bool, true, false, cond}
use mathlib.Core.List.{List, [], ◌∷◌, ◌++◌}
use mathlib.Core.Logic.{inl, inr}
use mathlib.Core.Path.{◌≡◌, refl, sym, ap, ap₂, ◌∙◌}
use native.Mathlib.Omega.{arith}
use Rattle.std.proofs.lemmas.Bool.Decides.{nat_tests}
use lib.Dec.{eqb, ltb}
use lib.ListN.{length}
use borrow.Author.Tests.{ltb-true, ltb-false}
use Rattle.bits.specs.Bits.{Byte}
use Rattle.bits.specs.Every.{Every}
use Rattle.text.specs.Characters.{ascii}
use Rattle.text.specs.Hex.{hex_digit, hex_byte, hex_of, HexDigit, Pairs, digit_value, bytes_of, hex_field}
use Rattle.text.specs.Lines.{Plain}

-- ---- one digit

digit_back : (d : ℕ) → digit_value (hex_digit d) ≡ d
digit_back d = grind (arith, nat_tests)

digit_form : (d : ℕ) → d < 16 → HexDigit (hex_digit d)
digit_form d h = by (ltb d 10) refl
  where
    by : (b : Bool) → ltb d 10 ≡ b → HexDigit (cond b (48 + d) (55 + d))
    by true e = let l = ltb-true d 10 e in inl (omega arith, omega arith)
    by false e = let l = ltb-false d 10 e in inr (omega arith, omega arith)

record Means (c : ℕ) : Type 0 where
  small : digit_value c < 16
  there : hex_digit (digit_value c) ≡ c

means : (c : ℕ) → HexDigit c → Means c
means c (inl h) = let l = h.0 in let u = h.1 in record { small = grind (arith, nat_tests); there = grind (arith, nat_tests) }
means c (inr h) = let l = h.0 in let u = h.1 in record { small = grind (arith, nat_tests); there = grind (arith, nat_tests) }

-- ---- bytes

pub hex_pairs : (s : List ℕ) → Every Byte s → Pairs (hex_of s)
unfolding hex_of
hex_pairs [] h = tt
hex_pairs (b ∷ s) h = let l = h.0 in (digit_form (b / 16) (omega arith), digit_form (b % 16) (omega arith), hex_pairs s h.1)

pub hex_back : (s : List ℕ) → bytes_of (hex_of s) ≡ s
unfolding hex_of bytes_of
hex_back [] = refl
hex_back (b ∷ s) =
    let e : digit_value (hex_digit (b / 16)) * 16 + digit_value (hex_digit (b % 16)) ≡ b =
    omega (arith, digit_back (b / 16), digit_back (b % 16)) in
    ap₂ (λ (x : ℕ) (l : List ℕ). x ∷ l) e (hex_back s)

pub pairs_spelled : (s : List ℕ) → Pairs s → hex_of (bytes_of s) ≡ s
unfolding hex_of bytes_of
pairs_spelled [] h = refl
pairs_spelled (c ∷ []) h = absurd h
pairs_spelled (c ∷ d ∷ s) h =
    let x = means c h.0 in
    let y = means d h.1 in
    let p = x.small in
    let q = y.small in
    let high : (digit_value c * 16 + digit_value d) / 16 ≡ digit_value c = omega arith in
    let low : (digit_value c * 16 + digit_value d) % 16 ≡ digit_value d = omega arith in
    ap₂ (λ (a : ℕ) (l : List ℕ). a ∷ l) (ap hex_digit high ∙ x.there)
    (ap₂ (λ (a : ℕ) (l : List ℕ). a ∷ l) (ap hex_digit low ∙ y.there) (pairs_spelled s h.2))

pub pairs_bytes : (s : List ℕ) → Pairs s → Every Byte (bytes_of s)
unfolding bytes_of
pairs_bytes [] h = tt
pairs_bytes (c ∷ []) h = absurd h
pairs_bytes (c ∷ d ∷ s) h = let p = (means c h.0).small in let q = (means d h.1).small in (omega arith, pairs_bytes s h.2)

pub hex_injective : (s t : List ℕ) → hex_of s ≡ hex_of t → s ≡ t
hex_injective s t e = sym (hex_back s) ∙ ap bytes_of e ∙ hex_back t

pub hex_none : hex_of [] ≡ []
unfolding hex_of
hex_none = refl

hex_append : (s t : List ℕ) → hex_of (s ++ t) ≡ hex_of s ++ hex_of t
unfolding hex_of
hex_append [] t = refl
hex_append (b ∷ s) t = ap (λ (l : List ℕ). hex_byte b ++ l) (hex_append s t)

pub hex_behind : (s : List ℕ) (b : ℕ) → hex_of (s ++ (b ∷ [])) ≡ hex_of s ++ hex_byte b
unfolding hex_of
hex_behind s b = hex_append s (b ∷ [])

pub hex_long : (s : List ℕ) → length (hex_of s) ≡ 2 * length s
unfolding hex_of
hex_long [] = refl
hex_long (b ∷ s) = let e = hex_long s in omega arith

-- ---- in a line

digit_large : (d : ℕ) → 48 ≤ hex_digit d
digit_large d = grind (arith, nat_tests)

pub hex_plain : (s : List ℕ) → Plain (hex_of s)
unfolding hex_of
hex_plain [] = tt
hex_plain (b ∷ s) =
    let p = digit_large (b / 16) in
    let q = digit_large (b % 16) in
    (λ e. omega arith, λ e. omega arith, (λ e. omega arith, λ e. omega arith, hex_plain s))

-- ---- as a field

pub field_long : (s : List ℕ) → length (hex_field s) ≡ cond (eqb (length s) 0) 1 (2 * length s)
unfolding ascii
field_long [] = refl
field_long (b ∷ bs) = grind (arith, nat_tests, hex_long (b ∷ bs))

pub field_plain : (s : List ℕ) → Plain (hex_field s)
unfolding ascii
field_plain [] = (λ e. omega arith, λ e. omega arith, tt)
field_plain (b ∷ bs) = hex_plain (b ∷ bs)

-- a dash is one character, and bytes have two each
pub field_injective : (s t : List ℕ) → hex_field s ≡ hex_field t → s ≡ t
unfolding ascii
field_injective [] [] e = refl
field_injective [] (y ∷ t) e = absurd (omega (arith, ap length e, hex_long (y ∷ t)))
field_injective (x ∷ s) [] e = absurd (omega (arith, ap length e, hex_long (x ∷ s)))
field_injective (x ∷ s) (y ∷ t) e = hex_injective (x ∷ s) (y ∷ t) e

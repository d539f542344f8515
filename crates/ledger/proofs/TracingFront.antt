-- The line in front of a text, read character by character, is the one whose text stands there. Assumes nothing.
use Prim.Native.Nat.{ℕ, zero, suc, ◌+◌, ◌-◌, ◌*◌, ◌/◌, ◌%◌, ◌<◌, ◌≤◌}
use mathlib.Core.Bool.{Bool, true, false, cond, ◌&&◌}
use mathlib.Core.List.{List, [], ◌∷◌, ◌++◌}
use mathlib.Core.Logic.{inl, inr}
use mathlib.Core.Option.{Option, none, some}
use mathlib.Core.Path.{◌≡◌, refl, sym, ap, ap₂, ◌∙◌, subst}
use native.Mathlib.Omega.{arith}
use lib.Dec.{eqb, ltb}
use lib.ListN.{length, drop, length-append, length-drop}
use lib.Seq.{drop-append_seam, drop-append-add, drop_at, drop-drop}
use borrow.Author.Tests.{eqb-true, eqb-false, ne_eqb, ltb-true, lt-ltb, le-ltb}
use Rattle.bits.specs.Bits.{Byte}
use Rattle.bits.specs.Every.{Every}
use Rattle.table.specs.declared.rules.Direction.{Direction}
use Rattle.table.specs.declared.rules.Direction.TheVariants.{Down, Up}
use Rattle.text.specs.Characters.{ascii, letter_of}
use Rattle.text.specs.Decimal.{decimal, value_from, value_of, Digit, Numeral}
use Rattle.text.specs.Hex.{hex_digit, hex_byte, hex_of, hex_field, bytes_of, HexDigit}
use Rattle.text.proofs.Decimals.{value_decimal, decimal_numeral, numeral_spelled}
use Rattle.text.proofs.Hexes.{hex_pairs, hex_back, hex_long, pairs_spelled}
use Rattle.text.proofs.Lines.{head_is}
use Rattle.ledger.specs.Lines.{digit_in, digits_in, number_in, direction_in, heading_in, nibble, pairs_in, closed, paired, field_in, from, field_told, line_told}
use Rattle.ledger.specs.declared.lines.Field.{Field}
use Rattle.std.specs.Prelude.{Some}
use Rattle.ledger.specs.Trace.{TraceLine, Lawful, written, begins, front, BeginsWith}
use Rattle.ledger.specs.Working.{with_next, front_at}
use Rattle.ledger.proofs.Tracing.{written_parts, begins_rest, front_written, front_read, both, taken}
use Rattle.ledger.proofs.TracingSteps.{
  digit_is,
  digit_in_is,
  digits_more,
  digits_other,
  IsHex,
  hex_is,
  hex_in,
  pairs_few,
  pairs_more,
  pairs_no_high,
}

-- ---- the parts of a line, read

abbrev pub parts : (number : List ℕ) → Option Direction → Option (List ℕ × ℕ) → Option (TraceLine × ℕ)
parts d none o = none
parts d (some x) none = none
parts d (some x) (some p) = some (record { frame = value_of d; direction = x; stream = p.0 }, length d + 3 + p.1)

abbrev pub is_number : List ℕ → Bool
is_number d = ltb 0 (length d) && ltb (value_of d) 4_294_967_296

abbrev pub line_of : (number : List ℕ) → List ℕ → Option (TraceLine × ℕ)
line_of d t = cond (is_number d) (parts d (heading_in (drop (length d) t)) (field_in (drop (length d + 3) t))) none

-- ---- a line's text read back

value_grows : (v : ℕ) (s : List ℕ) → v ≤ value_from v s
unfolding value_from
value_grows v [] = omega arith
value_grows v (c ∷ s) = omega (arith, value_grows (v * 10 + (c - 48)) s)

digits_back : (v : ℕ) (s t : List ℕ) → Every Digit s → value_from v s < 4_294_967_296 → digits_in v (s ++ (9 ∷ t)) ≡ s
unfolding value_from
digits_back v [] t h g = digits_other v 9 t (omega arith)
digits_back v (c ∷ s) t h g =
    let m = value_grows (v * 10 + (c - 48)) s in
    let e = digit_in_is c h.0 in
    let u = h.0.1 in
    digits_more v c (s ++ (9 ∷ t)) (omega arith) (omega arith)
    ∙ ap (λ (x : ℕ). c ∷ digits_in (v * 10 + x) (s ++ (9 ∷ t))) e
    ∙ ap (λ (x : List ℕ). c ∷ x) (digits_back (v * 10 + (c - 48)) s t h.1 g)

numeral_back : (s t : List ℕ) → Numeral s → value_of s < 4_294_967_296 → number_in (s ++ (9 ∷ t)) ≡ s
unfolding number_in
numeral_back [] t h g = absurd h
numeral_back (c ∷ []) t h g = by (eqb c 48) (digits_back 0 (c ∷ []) t (h, tt) g)
  where
    by : (b : Bool) → digits_in 0 (c ∷ 9 ∷ t) ≡ c ∷ [] → cond b (c ∷ []) (digits_in 0 (c ∷ 9 ∷ t)) ≡ c ∷ []
    by true e = refl
    by false e = e
numeral_back (c ∷ d ∷ s) t h g = rw (ne_eqb c 48 h.1) (digits_back 0 (c ∷ d ∷ s) t h.0 g)

heading_back : (x : Direction) (t : List ℕ) → heading_in (9 ∷ (ascii (letter_of x) ++ (9 ∷ t))) ≡ some x
unfolding ascii
heading_back Down t = refl
heading_back Up t = refl

heading_three : (x : Direction) (t : List ℕ) → drop 3 (9 ∷ (ascii (letter_of x) ++ (9 ∷ t))) ≡ t
unfolding ascii
heading_three Down t = refl
heading_three Up t = refl

letter_one : (x : Direction) → length (ascii (letter_of x)) ≡ 1
unfolding ascii
letter_one Down = refl
letter_one Up = refl

byte_back : (b : ℕ) → Byte b → nibble (hex_digit (b / 16)) * 16 + nibble (hex_digit (b % 16)) ≡ b
unfolding hex_of bytes_of
byte_back b h =
    let p = hex_pairs (b ∷ []) (h, tt) in
    let x = (hex_is (hex_digit (b / 16)) (hex_in (hex_digit (b / 16)) p.0)).value in
    let y = (hex_is (hex_digit (b % 16)) (hex_in (hex_digit (b % 16)) p.1)).value in
    ap₂ (λ (u v : ℕ). u * 16 + v) x y ∙ head_is (hex_back (b ∷ []))

newline_no_pair : (k : ℕ) (t : List ℕ) → pairs_in k (10 ∷ t) ≡ []
unfolding pairs_in
newline_no_pair zero t = refl
newline_no_pair (suc k) [] = refl
newline_no_pair (suc k) (d ∷ t) = pairs_no_high (suc k) 10 d t (omega arith)

pairs_back : (k : ℕ) (s t : List ℕ) → length s ≤ k → Every Byte s → pairs_in k (hex_of s ++ (10 ∷ t)) ≡ s
unfolding hex_of
pairs_back k [] t l h = newline_no_pair k t
pairs_back zero (b ∷ s) t l h = absurd (omega arith)
pairs_back (suc k) (b ∷ s) t l h =
    let p = hex_pairs (b ∷ []) (h.0, tt) in
    pairs_more k (hex_digit (b / 16)) (hex_digit (b % 16)) (hex_of s ++ (10 ∷ t)) (hex_in (hex_digit (b / 16)) p.0) (hex_in (hex_digit (b % 16)) p.1)
    ∙ ap₂ (λ (x : ℕ) (l : List ℕ). x ∷ l) (byte_back b h.0) (pairs_back k s t (omega arith) h.1)

hex_large : (c : ℕ) → HexDigit c → 48 ≤ c
hex_large c (inl h) = h.0
hex_large c (inr h) = let l = h.0 in omega arith

field_pairs : (c : ℕ) (t : List ℕ) → (c ≡ 45 → ⊥) → field_in (c ∷ t) ≡ paired (pairs_in 255 (c ∷ t)) (c ∷ t)
unfolding field_in
field_pairs c t n = rw (ne_eqb c 45 n)

closed_back : (s f t : List ℕ) (k : ℕ) → length f ≡ k → closed s k (f ++ (10 ∷ t)) ≡ some (s, k + 1)
unfolding begins
closed_back s f t k e = rw (drop_at f (10 ∷ t) k e)

field_back : (s t : List ℕ) → length s < 256 → Every Byte s → field_in (hex_field s ++ (10 ∷ t)) ≡ some (s, length (hex_field s) + 1)
unfolding field_in begins ascii hex_of
field_back [] t l h = refl
field_back (b ∷ s) t l h =
    let p = hex_pairs (b ∷ []) (h.0, tt) in
    let m = hex_large (hex_digit (b / 16)) p.0 in
    let u : List ℕ = hex_of (b ∷ s) ++ (10 ∷ t) in
    field_pairs (hex_digit (b / 16)) (hex_digit (b % 16) ∷ hex_of s ++ (10 ∷ t)) (λ e. omega arith)
    ∙ ap (λ (x : List ℕ). paired x u) (pairs_back 255 (b ∷ s) t (omega arith) h)
    ∙ closed_back (b ∷ s) (hex_of (b ∷ s)) t (2 * length (b ∷ s)) (hex_long (b ∷ s))
    ∙ ap (λ (n : ℕ). some (b ∷ s, n + 1)) (sym (hex_long (b ∷ s)))

written_long : (l : TraceLine) → length (written l) ≡ length (decimal l.frame) + 3 + (length (hex_field l.stream) + 1)
written_long l =
    let f : List ℕ = decimal l.frame in
    let g : List ℕ = ascii (letter_of l.direction) in
    let h : List ℕ = hex_field l.stream in
    omega (
      arith,
      ap length (written_parts l []),
      length-append (written l) [],
      length-append f (9 ∷ (g ++ (9 ∷ (h ++ (10 ∷ []))))),
      length-append g (9 ∷ (h ++ (10 ∷ []))),
      letter_one l.direction,
      length-append h (10 ∷ []),
    )

numeral_some : (s : List ℕ) → Numeral s → 0 < length s
numeral_some [] h = absurd h
numeral_some (c ∷ s) h = omega arith

line_back : (l : TraceLine) (t : List ℕ) → Lawful l
    → (number_in (written l ++ t) ≡ decimal l.frame) × (line_of (number_in (written l ++ t)) (written l ++ t) ≡ some (l, length (written l)))
line_back l t p =
    let f : List ℕ = decimal l.frame in
    let g : List ℕ = ascii (letter_of l.direction) in
    let h : List ℕ = hex_field l.stream in
    let w : List ℕ = h ++ (10 ∷ t) in
    let whole = written_parts l t in
    let number : number_in (written l ++ t) ≡ f =
    ap number_in whole ∙ numeral_back f (g ++ (9 ∷ w)) (decimal_numeral l.frame) (omega (arith, value_decimal l.frame, p.frame)) in
    let second : heading_in (drop (length f) (written l ++ t)) ≡ some l.direction =
    ap (λ (x : List ℕ). heading_in (drop (length f) x)) whole
    ∙ ap heading_in (drop-append_seam f (9 ∷ (g ++ (9 ∷ w)))) ∙ heading_back l.direction w in
    let third : field_in (drop (length f + 3) (written l ++ t)) ≡ some (l.stream, length h + 1) =
    ap (λ (x : List ℕ). field_in (drop (length f + 3) x)) whole
    ∙ ap field_in (drop-append-add f (9 ∷ (g ++ (9 ∷ w))) 3 ∙ heading_three l.direction w)
    ∙ field_back l.stream t p.size p.bytes in (
      number,
      ap (λ (d : List ℕ). line_of d (written l ++ t)) number
          ∙ rw (
            lt-ltb 0 (length f) (numeral_some f (decimal_numeral l.frame)),
            lt-ltb (value_of f) 4_294_967_296 (omega (arith, value_decimal l.frame, p.frame)),
            second,
            third,
          )
          (ap₂ (λ (v n : ℕ). some (record { frame = v; direction = l.direction; stream = l.stream }, n)) (value_decimal l.frame) (sym (written_long l))),
    )

-- ---- what is read is in front

digits_front : (v : ℕ) (t : List ℕ) → t ≡ digits_in v t ++ drop (length (digits_in v t)) t
unfolding digits_in
digits_front v [] = refl
digits_front v (c ∷ t) = by (ltb v 429_496_730 && ltb (digit_in c) 10) (digits_front (v * 10 + digit_in c) t)
  where
    by : (b : Bool) → t ≡ digits_in (v * 10 + digit_in c) t ++ drop (length (digits_in (v * 10 + digit_in c) t)) t
        → c ∷ t ≡ cond b (c ∷ digits_in (v * 10 + digit_in c) t) [] ++ drop (length (cond b (c ∷ digits_in (v * 10 + digit_in c) t) [])) (c ∷ t)
    by true e = ap (λ (x : List ℕ). c ∷ x) e
    by false e = refl

digits_form : (v : ℕ) (t : List ℕ) → Every Digit (digits_in v t)
unfolding digits_in
digits_form v [] = tt
digits_form v (c ∷ t) = by (ltb v 429_496_730 && ltb (digit_in c) 10) refl (digits_form (v * 10 + digit_in c) t)
  where
    by : (b : Bool) → ltb v 429_496_730 && ltb (digit_in c) 10 ≡ b → Every Digit (digits_in (v * 10 + digit_in c) t)
        → Every Digit (cond b (c ∷ digits_in (v * 10 + digit_in c) t) [])
    by true e h = ((digit_is c (ltb-true (digit_in c) 10 (both (ltb v 429_496_730) (ltb (digit_in c) 10) e).1)).form, h)
    by false e h = tt

number_front : (t : List ℕ) → t ≡ number_in t ++ drop (length (number_in t)) t
unfolding number_in
number_front [] = refl
number_front (c ∷ t) = by (eqb c 48)
  where
    by : (b : Bool) → c ∷ t ≡ cond b (c ∷ []) (digits_in 0 (c ∷ t)) ++ drop (length (cond b (c ∷ []) (digits_in 0 (c ∷ t)))) (c ∷ t)
    by true = refl
    by false = digits_front 0 (c ∷ t)

leads : (c : ℕ) (s : List ℕ) → Every Digit (c ∷ s) → (c ≡ 48 → ⊥) → Numeral (c ∷ s)
leads c [] h n = h.0
leads c (d ∷ s) h n = (h, n)

number_form : (t : List ℕ) → 0 < length (number_in t) → Numeral (number_in t)
unfolding number_in
number_form [] h = absurd (omega arith)
number_form (c ∷ t) h = by (eqb c 48) refl h
  where
    more : (s u : List ℕ) → c ∷ t ≡ s ++ u → Every Digit s → (c ≡ 48 → ⊥) → 0 < length s → Numeral s
    more [] u e d n h = absurd (omega arith)
    more (x ∷ s) u e d n h = leads x s d (λ z. n (head_is e ∙ z))

    by : (b : Bool) → eqb c 48 ≡ b → 0 < length (cond b (c ∷ []) (digits_in 0 (c ∷ t))) → Numeral (cond b (c ∷ []) (digits_in 0 (c ∷ t)))
    by true e h = let z = eqb-true c 48 e in (omega arith, omega arith)
    by false e h =
        more (digits_in 0 (c ∷ t)) (drop (length (digits_in 0 (c ∷ t))) (c ∷ t)) (digits_front 0 (c ∷ t)) (digits_form 0 (c ∷ t)) (eqb-false c 48 e) h

letter_found : (d : ℕ) (x : Direction) → direction_in d ≡ some x → ascii (letter_of x) ≡ d ∷ []
unfolding ascii
letter_found d x e = by (eqb d 68) (eqb d 85) refl refl e
  where
    by : (p q : Bool) → eqb d 68 ≡ p → eqb d 85 ≡ q → cond p (some Down) (cond q (some Up) none) ≡ some x → ascii (letter_of x) ≡ d ∷ []
    by true q f g e =
        let same : Down ≡ x = cc in
        ap (λ (y : Direction). ascii (letter_of y)) (sym same) ∙ ap (λ (n : ℕ). n ∷ []) (sym (eqb-true d 68 f))
    by false true f g e =
        let same : Up ≡ x = cc in
        ap (λ (y : Direction). ascii (letter_of y)) (sym same) ∙ ap (λ (n : ℕ). n ∷ []) (sym (eqb-true d 85 g))
    by false false f g e = let no_way : ◌≡◌ {A = ℕ} 0 1 = cc in absurd (omega arith)

heading_found : (t : List ℕ) (x : Direction) → heading_in t ≡ some x → t ≡ 9 ∷ (ascii (letter_of x) ++ (9 ∷ drop 3 t))
heading_found [] x e = let no_way : ◌≡◌ {A = ℕ} 0 1 = cc in absurd (omega arith)
heading_found (c ∷ []) x e = let no_way : ◌≡◌ {A = ℕ} 0 1 = cc in absurd (omega arith)
heading_found (c ∷ d ∷ []) x e = let no_way : ◌≡◌ {A = ℕ} 0 1 = cc in absurd (omega arith)
heading_found (c ∷ d ∷ f ∷ t) x e = by (eqb c 9 && eqb f 9) refl e
  where
    by : (b : Bool) → eqb c 9 && eqb f 9 ≡ b → cond b (direction_in d) none ≡ some x → c ∷ d ∷ f ∷ t ≡ 9 ∷ (ascii (letter_of x) ++ (9 ∷ t))
    by true g e =
        let tabs = both (eqb c 9) (eqb f 9) g in
        ap₂ (λ (a b : ℕ). a ∷ d ∷ b ∷ t) (eqb-true c 9 tabs.0) (eqb-true f 9 tabs.1)
        ∙ ap (λ (l : List ℕ). 9 ∷ (l ++ (9 ∷ t))) (sym (letter_found d x e))
    by false g e = let no_way : ◌≡◌ {A = ℕ} 0 1 = cc in absurd (omega arith)

byte_spelled : (c d : ℕ) → IsHex c → IsHex d → hex_byte (nibble c * 16 + nibble d) ≡ c ∷ d ∷ []
unfolding bytes_of hex_of
byte_spelled c d x y = ap₂ (λ (a b : ℕ). hex_byte (a * 16 + b)) x.value y.value ∙ pairs_spelled (c ∷ d ∷ []) (x.form, y.form, tt)

pairs_front : (k : ℕ) (t : List ℕ) → t ≡ hex_of (pairs_in k t) ++ drop (2 * length (pairs_in k t)) t
unfolding pairs_in hex_of
pairs_front zero t = refl
pairs_front (suc k) [] = refl
pairs_front (suc k) (c ∷ []) = refl
pairs_front (suc k) (c ∷ d ∷ t) = by (ltb (nibble c) 16 && ltb (nibble d) 16) refl (pairs_front k t)
  where
    by : (b : Bool) → ltb (nibble c) 16 && ltb (nibble d) 16 ≡ b → t ≡ hex_of (pairs_in k t) ++ drop (2 * length (pairs_in k t)) t
        → c ∷ d ∷ t
        ≡ hex_of (cond b ((nibble c * 16 + nibble d) ∷ pairs_in k t) []) ++ drop (2 * length (cond b ((nibble c * 16 + nibble d) ∷ pairs_in k t) [])) (c ∷ d ∷ t)
    by true e h =
        let s = both (ltb (nibble c) 16) (ltb (nibble d) 16) e in
        let x = hex_is c (ltb-true (nibble c) 16 s.0) in
        let y = hex_is d (ltb-true (nibble d) 16 s.1) in
        let size : 2 * suc (length (pairs_in k t)) ≡ suc (suc (2 * length (pairs_in k t))) = omega arith in
        ap (λ (l : List ℕ). c ∷ d ∷ l) h
        ∙ ap₂ (λ (l : List ℕ) (n : ℕ). (l ++ hex_of (pairs_in k t)) ++ drop n (c ∷ d ∷ t)) (sym (byte_spelled c d x y)) (sym size)
    by false e h = refl

pairs_form : (k : ℕ) (t : List ℕ) → Every Byte (pairs_in k t)
unfolding pairs_in
pairs_form zero t = tt
pairs_form (suc k) [] = tt
pairs_form (suc k) (c ∷ []) = tt
pairs_form (suc k) (c ∷ d ∷ t) = by (ltb (nibble c) 16 && ltb (nibble d) 16) refl (pairs_form k t)
  where
    by : (b : Bool) → ltb (nibble c) 16 && ltb (nibble d) 16 ≡ b → Every Byte (pairs_in k t)
        → Every Byte (cond b ((nibble c * 16 + nibble d) ∷ pairs_in k t) [])
    by true e h =
        let s = both (ltb (nibble c) 16) (ltb (nibble d) 16) e in
        let x = ltb-true (nibble c) 16 s.0 in
        let y = ltb-true (nibble d) 16 s.1 in
        (omega arith, h)
    by false e h = tt

-- a field that was read: its bytes, and the text that they and the newline are
record FieldRead (t s : List ℕ) : Type 0 where
  size : length s < 256
  bytes : Every Byte s
  rest : List ℕ
  text : t ≡ hex_field s ++ (10 ∷ rest)

closed_found : (s : List ℕ) (k : ℕ) (t : List ℕ) (p : List ℕ × ℕ) → closed s k t ≡ some p → (s ≡ p.0) × (drop k t ≡ 10 ∷ drop 1 (drop k t))
closed_found s k t p e =
    let h = taken (begins (10 ∷ []) (drop k t)) (s, k + 1) p e in
    (ap (λ (x : List ℕ × ℕ). x.0) h.1, begins_rest (10 ∷ []) (drop k t) h.0)

field_found : (t : List ℕ) (p : List ℕ × ℕ) → field_in t ≡ some p → FieldRead t p.0
unfolding field_in ascii
field_found [] p e = let no_way : ◌≡◌ {A = ℕ} 0 1 = cc in absurd (omega arith)
field_found (c ∷ t) p e = by (eqb c 45) refl e
  where
    some_pairs : (s : List ℕ) → length s < 256 → Every Byte s → c ∷ t ≡ hex_of s ++ drop (2 * length s) (c ∷ t)
        → paired s (c ∷ t) ≡ some p → FieldRead (c ∷ t) p.0
    some_pairs [] l h f e = let no_way : ◌≡◌ {A = ℕ} 0 1 = cc in absurd (omega arith)
    some_pairs (b ∷ s) l h f e =
        let g = closed_found (b ∷ s) (2 * length (b ∷ s)) (c ∷ t) p e in
        subst (FieldRead (c ∷ t)) g.0
        (record {
          size = l;
          bytes = h;
          rest = drop 1 (drop (2 * length (b ∷ s)) (c ∷ t));
          text = f ∙ ap (λ (x : List ℕ). hex_of (b ∷ s) ++ x) g.1;
        })

    by : (b : Bool) → eqb c 45 ≡ b → cond b (closed [] 1 (c ∷ t)) (paired (pairs_in 255 (c ∷ t)) (c ∷ t)) ≡ some p → FieldRead (c ∷ t) p.0
    by true d e =
        let g = closed_found [] 1 (c ∷ t) p e in
        subst (FieldRead (c ∷ t)) g.0
        (record { size = omega arith; bytes = tt; rest = drop 1 t; text = ap₂ (λ (x : ℕ) (l : List ℕ). x ∷ l) (eqb-true c 45 d) g.1 })
    by false d e =
        some_pairs (pairs_in 255 (c ∷ t)) (omega (arith, pairs_few 255 (c ∷ t))) (pairs_form 255 (c ∷ t)) (pairs_front 255 (c ∷ t)) e

parts_found : (d t : List ℕ) (a : Option Direction) (o : Option (List ℕ × ℕ)) (l : TraceLine) (k : ℕ)
    → heading_in (drop (length d) t) ≡ a → field_in (drop (length d + 3) t) ≡ o
    → t ≡ d ++ drop (length d) t → Numeral d → value_of d < 4_294_967_296 → parts d a o ≡ some (l, k) → BeginsWith t l
parts_found d t none o l k h f w n v e = let no_way : ◌≡◌ {A = ℕ} 0 1 = cc in absurd (omega arith)
parts_found d t (some x) none l k h f w n v e = let no_way : ◌≡◌ {A = ℕ} 0 1 = cc in absurd (omega arith)
parts_found d t (some x) (some p) l k h f w n v e =
    let m : TraceLine = record { frame = value_of d; direction = x; stream = p.0 } in
    let pair : ◌≡◌ {A = TraceLine × ℕ} (m, length d + 3 + p.1) (l, k) = cc in
    let r = field_found (drop (length d + 3) t) p f in
    let letters : List ℕ = ascii (letter_of x) in
    subst (BeginsWith t) (ap (λ (y : TraceLine × ℕ). y.0) pair)
    (record {
      lawful = record { frame = v; size = r.size; bytes = r.bytes };
      rest = r.rest;
      text =
          w
          ∙ ap (λ (u : List ℕ). d ++ u)
          (heading_found (drop (length d) t) x h ∙ ap (λ (u : List ℕ). 9 ∷ (letters ++ (9 ∷ u))) (drop-drop 3 (length d) t ∙ r.text))
          ∙ ap (λ (u : List ℕ). u ++ (9 ∷ (letters ++ (9 ∷ (hex_field p.0 ++ (10 ∷ r.rest)))))) (sym (numeral_spelled d n))
          ∙ sym (written_parts m r.rest);
    })

line_found : (t : List ℕ) (l : TraceLine) (k : ℕ) → line_of (number_in t) t ≡ some (l, k) → BeginsWith t l
line_found t l k e = by (is_number (number_in t)) refl e
  where
    d : List ℕ
    d = number_in t

    by : (b : Bool) → is_number d ≡ b → cond b (parts d (heading_in (drop (length d) t)) (field_in (drop (length d + 3) t))) none ≡ some (l, k)
        → BeginsWith t l
    by true g e =
        let h = both (ltb 0 (length d)) (ltb (value_of d) 4_294_967_296) g in
        parts_found d t (heading_in (drop (length d) t)) (field_in (drop (length d + 3) t)) l k refl refl (number_front t)
        (number_form t (ltb-true 0 (length d) h.0))
        (ltb-true (value_of d) 4_294_967_296 h.1) e
    by false g e = let no_way : ◌≡◌ {A = ℕ} 0 1 = cc in absurd (omega arith)

-- ---- so the two readings are one

abbrev pub moved : ℕ → Option (TraceLine × ℕ) → Option (TraceLine × ℕ)
moved at none = none
moved at (some p) = some (p.0, at + p.1)

pub front_is : (t : List ℕ) (at : ℕ) → front_at t at ≡ moved at (line_of (number_in (drop at t)) (drop at t))
unfolding front_at
front_is t at = by (front u) (line_of (number_in u) u) refl refl
  where
    u : List ℕ
    u = drop at t

    whole : (l : TraceLine) → BeginsWith u l → line_of (number_in u) u ≡ some (l, length (written l))
    whole l p = ap (λ (x : List ℕ). line_of (number_in x) x) p.text ∙ (line_back l p.rest p.lawful).1

    by : (a : Option TraceLine) (o : Option (TraceLine × ℕ)) → front u ≡ a → line_of (number_in u) u ≡ o → with_next at a ≡ moved at o
    by none none e f = refl
    by none (some (l, k)) e f =
        let p = line_found u l k f in
        let g = sym e ∙ ap front p.text ∙ front_written l p.rest p.lawful in
        let no_way : ◌≡◌ {A = ℕ} 0 1 = cc in absurd (omega arith)
    by (some l) o e f = ap (moved at) (sym (whole l (front_read u l e)) ∙ f)

-- ---- as the code has the parts in hand

pub number_fits : (t : List ℕ) (at : ℕ) → at ≤ length t → at + length (number_in (drop at t)) ≤ length t
number_fits t at h =
    let d : List ℕ = number_in (drop at t) in
    omega (arith, ap length (number_front (drop at t)), length-append d (drop (length d) (drop at t)), length-drop at t)

abbrev with_field : ℕ → Direction → Option (List ℕ × ℕ) → Option (TraceLine × ℕ)
with_field v x none = none
with_field v x (some p) = some (record { frame = v; direction = x; stream = p.0 }, p.1)

pub line_no_number : (t : List ℕ) (at : ℕ) → length (number_in (drop at t)) ≡ 0 → front_at t at ≡ none
line_no_number t at z =
    let d : List ℕ = number_in (drop at t) in
    let o : Option (TraceLine × ℕ) = parts d (heading_in (drop (length d) (drop at t))) (field_in (drop (length d + 3) (drop at t))) in
    front_is t at ∙ ap (λ (n : ℕ). moved at (cond (ltb 0 n && ltb (value_of d) 4_294_967_296) o none)) z

module _ (t : List ℕ) (at : ℕ) {v a : ℕ} (means : v ≡ value_of (number_in (drop at t))) (there : a ≡ at + length (number_in (drop at t))) where
  abbrev d : List ℕ
  d = number_in (drop at t)

  abbrev o : Option (TraceLine × ℕ)
  o = parts d (heading_in (drop (length d) (drop at t))) (field_in (drop (length d + 3) (drop at t)))

  pub line_large : 4_294_967_295 < v → front_at t at ≡ none
  line_large h = front_is t at ∙ ap (moved at) (by (ltb 0 (length d)))
    where
      by : (b : Bool) → cond (b && ltb (value_of d) 4_294_967_296) o none ≡ none
      by true = rw (le-ltb (value_of d) 4_294_967_296 (omega arith))
      by false = refl

  heading_there : heading_in (drop (length d) (drop at t)) ≡ heading_in (drop a t)
  heading_there = ap heading_in (drop-drop (length d) at t ∙ ap (λ (n : ℕ). drop n t) (sym there))

  field_there : field_in (drop (length d + 3) (drop at t)) ≡ field_in (drop (a + 3) t)
  field_there = let e : at + (length d + 3) ≡ a + 3 = omega arith in ap field_in (drop-drop (length d + 3) at t ∙ ap (λ (n : ℕ). drop n t) e)

  pub line_no_heading : heading_in (drop a t) ≡ none → front_at t at ≡ none
  line_no_heading e =
      front_is t at
      ∙ ap (λ (y : Option Direction). moved at (cond (is_number d) (parts d y (field_in (drop (length d + 3) (drop at t)))) none)) (heading_there ∙ e)
      ∙ by (is_number d)
    where
      by : (b : Bool) → moved at (cond b none none) ≡ none
      by true = refl
      by false = refl

  line_parts : {x : Direction} → (a ≡ at → ⊥) → v ≤ 4_294_967_295 → heading_in (drop a t) ≡ some x
      → front_at t at ≡ with_field v x (from (a + 3) (field_in (drop (a + 3) t)))
  line_parts {x} n h e =
      let number : is_number d ≡ true = rw (lt-ltb 0 (length d) (omega arith), lt-ltb (value_of d) 4_294_967_296 (omega arith)) in
      front_is t at
      ∙ ap (λ (b : Bool). moved at (cond b o none)) number
      ∙ ap₂ (λ (y : Option Direction) (z : Option (List ℕ × ℕ)). moved at (parts d y z)) (heading_there ∙ e) field_there
      ∙ by (field_in (drop (a + 3) t))
    where
      by : (z : Option (List ℕ × ℕ)) → moved at (parts d (some x) z) ≡ with_field v x (from (a + 3) z)
      by none = refl
      by (some p) =
          let k : at + (length d + 3 + p.1) ≡ a + 3 + p.1 = omega arith in
          ap₂ (λ (w n : ℕ). some (record { frame = w; direction = x; stream = p.0 }, n)) (sym means) k

  pub line_with_field : {x : Direction} → (a ≡ at → ⊥) → v ≤ 4_294_967_295 → heading_in (drop a t) ≡ some x → (f : Field) (b : List ℕ)
      → field_told (Some f) b ≡ from (a + 3) (field_in (drop (a + 3) t))
      → line_told (Some (record { frame = v; direction = x; len = f.len; next = f.next })) b ≡ front_at t at
  line_with_field {x} n h e f b told = ap (with_field v x) told ∙ sym (line_parts n h e)

  pub line_no_field : {x : Direction} → (a ≡ at → ⊥) → v ≤ 4_294_967_295 → heading_in (drop a t) ≡ some x
      → none ≡ from (a + 3) (field_in (drop (a + 3) t)) → none ≡ front_at t at
  line_no_field {x} n h e told = ap (with_field v x) told ∙ sym (line_parts n h e)

-- The code's loops over the characters of a line, one step after another. Assumes nothing.
use Prim.Native.Nat.{ℕ, zero, suc, ◌+◌, ◌-◌, ◌*◌, ◌/◌, ◌<◌, ◌≤◌, min}
use mathlib.Core.Bool.{Bool, true, false, cond, ◌&&◌}
use mathlib.Core.List.{List, [], ◌∷◌, ◌++◌, append-nil}
use mathlib.Core.Logic.{inl, inr}
use mathlib.Core.Option.{none, some}
use mathlib.Core.Path.{◌≡◌, refl, sym, ap, ap₂, ◌∙◌}
use native.Mathlib.Numerals.{add-one}
use native.Mathlib.Omega.{arith}
use lib.Dec.{eqb, ltb}
use lib.ListN.{length, take, drop, get_or, set, length-drop, length-set, drop_of_length-le}
use lib.Seq.{drop-cons, drop-drop, length-take-le, take-suc-set, append_snoc}
use borrow.Author.Tests.{eq-eqb, ne_eqb, ltb-true, ltb-false, lt-ltb, le-ltb}
use Rattle.table.specs.declared.rules.Direction.{Direction}
use Rattle.text.specs.Decimal.{value_from, value_of, Digit}
use Rattle.text.specs.Hex.{HexDigit, digit_value}
use Rattle.ledger.specs.Lines.{
  digit_in,
  digits_in,
  number_in,
  numbered,
  direction_in,
  heading_in,
  nibble,
  pairs_in,
  closed,
  paired,
  field_in,
  from,
  closed_at,
  closed_told,
  field_told,
}
use Rattle.ledger.specs.Trace.{begins}
use Rattle.ledger.specs.declared.lines.Field.{Field}
use Rattle.std.specs.Prelude.{Option as Maybe, None, Some}

-- the character at an offset, and what is behind it
pub one_at : (t : List ℕ) (i : ℕ) → i < length t → drop i t ≡ get_or t i 0 ∷ drop (i + 1) t
one_at t i h = drop-cons t i 0 h ∙ ap (λ (n : ℕ). get_or t i 0 ∷ drop n t) (sym (add-one i))

pub two_at : (t : List ℕ) (i : ℕ) → i + 1 < length t → drop i t ≡ get_or t i 0 ∷ get_or t (i + 1) 0 ∷ drop (i + 2) t
two_at t i h =
    let e : i + 1 + 1 ≡ i + 2 = omega arith in
    one_at t i (omega arith) ∙ ap (λ (s : List ℕ). get_or t i 0 ∷ s) (one_at t (i + 1) h ∙ ap (λ (n : ℕ). get_or t (i + 1) 0 ∷ drop n t) e)

-- ---- the number

pub record IsDigit (c : ℕ) : Type 0 where
  pub value : digit_in c ≡ c - 48
  pub form : Digit c

pub digit_is : (c : ℕ) → digit_in c < 10 → IsDigit c
digit_is c h = by (ltb c 48) (ltb c 58) refl refl h
  where
    by : (a b : Bool) → ltb c 48 ≡ a → ltb c 58 ≡ b → cond a 10 (cond b (c - 48) 10) < 10 → IsDigit c
    by true b e f h = absurd (omega arith)
    by false true e f h = let l = ltb-false c 48 e in let u = ltb-true c 58 f in record { value = rw (e, f); form = (l, omega arith) }
    by false false e f h = absurd (omega arith)

pub digit_in_is : (c : ℕ) → Digit c → digit_in c ≡ c - 48
digit_in_is c h = let l = h.0 in let u = h.1 in rw (le-ltb c 48 l, lt-ltb c 58 (omega arith))

pub digits_more : (v c : ℕ) (t : List ℕ) → v ≤ 429_496_729 → digit_in c < 10 → digits_in v (c ∷ t) ≡ c ∷ digits_in (v * 10 + digit_in c) t
unfolding digits_in
digits_more v c t h g = rw (lt-ltb v 429_496_730 (omega arith), lt-ltb (digit_in c) 10 g)

pub digits_large : (v : ℕ) (t : List ℕ) → 429_496_729 < v → digits_in v t ≡ []
unfolding digits_in
digits_large v [] h = refl
digits_large v (c ∷ t) h = rw (le-ltb v 429_496_730 (omega arith))

pub digits_other : (v c : ℕ) (t : List ℕ) → 9 < digit_in c → digits_in v (c ∷ t) ≡ []
unfolding digits_in
digits_other v c t h = by (ltb v 429_496_730)
  where
    by : (b : Bool) → cond (b && ltb (digit_in c) 10) (c ∷ digits_in (v * 10 + digit_in c) t) [] ≡ []
    by true = rw (le-ltb (digit_in c) 10 (omega arith))
    by false = refl

digits_end : (v : ℕ) (t : List ℕ) (i : ℕ) → length t ≤ i → digits_in v (drop i t) ≡ []
unfolding digits_in
digits_end v t i h = ap (digits_in v) (drop_of_length-le t h)

-- the digits from `at` to `i` are read, and mean `value`
pub record Counted (t : List ℕ) (at value i : ℕ) : Type 0 where
  pub small : value < 4_294_967_300
  pub within : i ≤ length t
  pub means : value_from value (digits_in value (drop i t)) ≡ value_of (digits_in 0 (drop at t))
  pub there : i + length (digits_in value (drop i t)) ≡ at + length (digits_in 0 (drop at t))

pub record Number (t : List ℕ) (at value i : ℕ) : Type 0 where
  pub means : value ≡ value_of (number_in (drop at t))
  pub there : i ≡ at + length (number_in (drop at t))

module _ (t : List ℕ) (at : ℕ) where
  pub counted_none : at < length t → Counted t at 0 at
  counted_none h = record { small = omega arith; within = omega arith; means = refl; there = refl }

  pub counted_more : {v i d : ℕ} → Counted t at v i → i < length t → d ≡ digit_in (get_or t i 0) → d ≤ 9 → v ≤ 429_496_729
      → Counted t at (v * 10 + d) (i + 1)
  unfolding value_from
  counted_more {v} {i} {d} k h e g l =
      let c : ℕ = get_or t i 0 in
      let s : digit_in c < 10 = omega arith in
      let more : digits_in v (drop i t) ≡ c ∷ digits_in (v * 10 + d) (drop (i + 1) t) =
      ap (digits_in v) (one_at t i h) ∙ digits_more v c (drop (i + 1) t) l s ∙ ap (λ (x : ℕ). c ∷ digits_in (v * 10 + x) (drop (i + 1) t)) (sym e) in
      let same : v * 10 + d ≡ v * 10 + (c - 48) = omega (arith, (digit_is c s).value) in
      record {
        small = omega arith;
        within = omega arith;
        means =
            ap (λ (x : ℕ). value_from x (digits_in (v * 10 + d) (drop (i + 1) t))) same
            ∙ ap (value_from v) (sym more)
            ∙ k.means;
        there = omega (arith, k.there, ap length more);
      }

  number_is : (first : get_or t at 0 ≡ 48 → ⊥) → at < length t → number_in (drop at t) ≡ digits_in 0 (drop at t)
  unfolding number_in
  number_is n h = rw (one_at t at h, ne_eqb (get_or t at 0) 48 n)

  counted_done : {v i : ℕ} → Counted t at v i → at < length t → (get_or t at 0 ≡ 48 → ⊥) → digits_in v (drop i t) ≡ [] → Number t at v i
  unfolding value_from
  counted_done {v} {i} k h n e =
      record {
        means = ap (value_from v) (sym e) ∙ k.means ∙ ap value_of (sym (number_is n h));
        there = omega (arith, k.there, ap length e, ap length (number_is n h));
      }

  pub counted_end : {v i : ℕ} → Counted t at v i → at < length t → (get_or t at 0 ≡ 48 → ⊥) → length t ≤ i → Number t at v i
  counted_end {v} {i} k h n l = counted_done k h n (digits_end v t i l)

  pub counted_other : {v i d : ℕ} → Counted t at v i → at < length t → (get_or t at 0 ≡ 48 → ⊥) → i < length t
      → d ≡ digit_in (get_or t i 0) → 9 < d → Number t at v i
  counted_other {v} {i} {d} k h n l e g =
      counted_done k h n (ap (digits_in v) (one_at t i l) ∙ digits_other v (get_or t i 0) (drop (i + 1) t) (omega arith))

  pub counted_large : {v i : ℕ} → Counted t at v i → at < length t → (get_or t at 0 ≡ 48 → ⊥) → 429_496_729 < v → Number t at v i
  counted_large {v} {i} k h n l = counted_done k h n (digits_large v (drop i t) l)

  pub number_zero : at < length t → get_or t at 0 ≡ 48 → Number t at 0 (at + 1)
  unfolding number_in value_from
  number_zero h e =
      let z : number_in (drop at t) ≡ 48 ∷ [] = rw (one_at t at h, eq-eqb (get_or t at 0) 48 e, e) in
      record { means = ap value_of (sym z); there = omega (arith, ap length z) }

-- what is known of a number that there is, and where there is none
pub record Numbered (v a at : ℕ) (d : List ℕ) : Type 0 where
  pub means : v ≡ value_of d
  pub there : a ≡ at + length d
  pub some : a ≡ at → ⊥

pub is_numbered : (v a at : ℕ) (d : List ℕ) → some (v, a) ≡ numbered at d → Numbered v a at d
is_numbered v a at [] e = cc
is_numbered v a at (c ∷ s) e =
    let pair : ◌≡◌ {A = ℕ × ℕ} (v, a) (value_of (c ∷ s), at + length (c ∷ s)) = cc in
    let there : a ≡ at + length (c ∷ s) = ap (λ (x : ℕ × ℕ). x.1) pair in
    record { means = ap (λ (x : ℕ × ℕ). x.0) pair; there = there; some = λ z. omega arith }

pub not_numbered : (at : ℕ) (d : List ℕ) → none ≡ numbered at d → length d ≡ 0
not_numbered at [] e = refl
not_numbered at (c ∷ s) e = cc

-- ---- the pairs

-- `nibble` tells hex digits from other characters
pub record IsHex (c : ℕ) : Type 0 where
  pub value : nibble c ≡ digit_value c
  pub form : HexDigit c

pub hex_is : (c : ℕ) → nibble c < 16 → IsHex c
hex_is c h = by (ltb c 48) (ltb c 58) (ltb c 65) (ltb c 71) refl refl refl refl h
  where
    by : (p q r s : Bool) → ltb c 48 ≡ p → ltb c 58 ≡ q → ltb c 65 ≡ r → ltb c 71 ≡ s
        → cond p 16 (cond q (c - 48) (cond r 16 (cond s (c - 55) 16))) < 16 → IsHex c
    by true q r s e f g k h = absurd (omega arith)
    by false true r s e f g k h =
        let l = ltb-false c 48 e in
        let u = ltb-true c 58 f in
        record { value = rw (e, f, lt-ltb c 65 (omega arith)); form = inl (l, omega arith) }
    by false false true s e f g k h = absurd (omega arith)
    by false false false true e f g k h =
        let l = ltb-false c 65 g in
        let u = ltb-true c 71 k in
        record { value = rw (e, f, g, k); form = inr (l, omega arith) }
    by false false false false e f g k h = absurd (omega arith)

pub hex_in : (c : ℕ) → HexDigit c → nibble c < 16
hex_in c (inl h) = let l = h.0 in let u = h.1 in rw (le-ltb c 48 l, lt-ltb c 58 (omega arith)) (omega arith)
hex_in c (inr h) =
    let l = h.0 in
    let u = h.1 in
    rw (le-ltb c 48 (omega arith), le-ltb c 58 (omega arith), le-ltb c 65 l, lt-ltb c 71 (omega arith)) (omega arith)

-- of any other character it is 16
pub hex_other : (c : ℕ) → (HexDigit c → ⊥) → nibble c ≡ 16
hex_other c n = by (ltb c 48) (ltb c 58) (ltb c 65) (ltb c 71) refl refl refl refl
  where
    by : (p q r s : Bool) → ltb c 48 ≡ p → ltb c 58 ≡ q → ltb c 65 ≡ r → ltb c 71 ≡ s
        → cond p 16 (cond q (c - 48) (cond r 16 (cond s (c - 55) 16))) ≡ 16
    by true q r s e f g k = refl
    by false true r s e f g k = absurd (n (inl (ltb-false c 48 e, let u = ltb-true c 58 f in omega arith)))
    by false false true s e f g k = refl
    by false false false true e f g k = absurd (n (inr (ltb-false c 65 g, let u = ltb-true c 71 k in omega arith)))
    by false false false false e f g k = refl

-- a number that is none of so many in a row, as a match's last arm knows it behind what the arms before those knew
abbrev pub Others : (before : Type 0) → (first count : ℕ) → ℕ → Type 0
Others B a zero c = B
Others B a (suc k) c = Others B a k c × (c ≡ a + k → ⊥)

others_past : (B : Type 0) (a k c : ℕ) → Others B a k c → a ≤ c → a + k ≤ c
others_past B a zero c o h = omega arith
others_past B a (suc k) c o h = let m = others_past B a k c o.0 h in let n = o.1 in omega arith

pub no_digit : (c : ℕ) → Others Unit 48 10 c → Others (Others Unit 48 10 c) 65 6 c → HexDigit c → ⊥
no_digit c ten six (inl h) = let u = h.1 in omega (arith, others_past Unit 48 10 c ten h.0)
no_digit c ten six (inr h) = let u = h.1 in omega (arith, others_past (Others Unit 48 10 c) 65 6 c six h.0)

pub pairs_more : (k c d : ℕ) (t : List ℕ) → nibble c < 16 → nibble d < 16 → pairs_in (suc k) (c ∷ d ∷ t) ≡ (nibble c * 16 + nibble d) ∷ pairs_in k t
unfolding pairs_in
pairs_more k c d t h g = rw (lt-ltb (nibble c) 16 h, lt-ltb (nibble d) 16 g)

pub pairs_no_high : (k c d : ℕ) (t : List ℕ) → 15 < nibble c → pairs_in k (c ∷ d ∷ t) ≡ []
unfolding pairs_in
pairs_no_high zero c d t h = refl
pairs_no_high (suc k) c d t h = rw (le-ltb (nibble c) 16 (omega arith))

pub pairs_no_low : (k c d : ℕ) (t : List ℕ) → 15 < nibble d → pairs_in k (c ∷ d ∷ t) ≡ []
unfolding pairs_in
pairs_no_low zero c d t h = refl
pairs_no_low (suc k) c d t h = by (ltb (nibble c) 16)
  where
    by : (b : Bool) → cond (b && ltb (nibble d) 16) ((nibble c * 16 + nibble d) ∷ pairs_in k t) [] ≡ []
    by true = rw (le-ltb (nibble d) 16 (omega arith))
    by false = refl

pub pairs_short : (k : ℕ) (t : List ℕ) → length t < 2 → pairs_in k t ≡ []
unfolding pairs_in
pairs_short zero t h = refl
pairs_short (suc k) [] h = refl
pairs_short (suc k) (c ∷ []) h = refl
pairs_short (suc k) (c ∷ d ∷ t) h = absurd (omega arith)

pairs_full : (t : List ℕ) → pairs_in 0 t ≡ []
unfolding pairs_in
pairs_full t = refl

-- so many pairs from `at` on are read, up to `i`, and their bytes are in front in the memory
pub record Paired (t : List ℕ) (at : ℕ) (b : List ℕ) (n i : ℕ) : Type 0 where
  pub few : n ≤ 255
  pub there : i ≡ at + 2 * n
  pub within : i ≤ length t
  pub long : length b ≡ 255
  pub bytes : take n b ++ pairs_in (255 - n) (drop i t) ≡ pairs_in 255 (drop at t)

pub record AllPairs (t : List ℕ) (at : ℕ) (b : List ℕ) (n : ℕ) : Type 0 where
  pub count : n ≡ length (pairs_in 255 (drop at t))
  pub bytes : take n b ≡ pairs_in 255 (drop at t)
  pub long : length b ≡ 255

-- there is room for a pair more, in the memory and in the text
pub record Room (t : List ℕ) (n i : ℕ) : Type 0 where
  pub memory : n < 255
  pub text : i + 1 < length t

module _ (t : List ℕ) (at : ℕ) where
  pub paired_none : (b : List ℕ) → length b ≡ 255 → at ≤ length t → Paired t at b 0 at
  paired_none b l h = record { few = omega arith; there = omega arith; within = h; long = l; bytes = refl }

  pub paired_room : {b : List ℕ} {n i m : ℕ} → Paired t at b n i → m ≡ min ((length t - at) / 2) 255 → n < m → Room t n i
  paired_room p e h =
      let w = p.within in
      let f = p.there in
      record { memory = omega arith; text = omega arith }

  pub paired_more : {b : List ℕ} {n i x y z : ℕ} → Paired t at b n i → Room t n i → x ≡ nibble (get_or t i 0) → x ≤ 15 → y ≡ nibble (get_or t (i + 1) 0) → y ≤ 15
      → z ≡ x * 16 + y → Paired t at (set b n z) (n + 1) (i + 2)
  paired_more {b} {n} {i} {x} {y} {z} p r ex lx ey ly ez =
      let h = r.memory in
      let g = r.text in
      let f = p.there in
      let l = p.long in
      let c : ℕ = get_or t i 0 in
      let d : ℕ = get_or t (i + 1) 0 in
      let k : ℕ = 255 - (n + 1) in
      let room : 255 - n ≡ suc k = omega arith in
      let byte : nibble c * 16 + nibble d ≡ z = omega arith in
      let more : pairs_in (255 - n) (drop i t) ≡ z ∷ pairs_in k (drop (i + 2) t) =
      ap₂ pairs_in room (two_at t i g)
      ∙ pairs_more k c d (drop (i + 2) t) (omega arith) (omega arith)
      ∙ ap (λ (v : ℕ). v ∷ pairs_in k (drop (i + 2) t)) byte in
      let front : take (n + 1) (set b n z) ≡ take n b ++ (z ∷ []) = rw (add-one n) (take-suc-set b n z (omega arith)) in
      record {
        few = omega arith;
        there = omega arith;
        within = omega arith;
        long = length-set b n z ∙ l;
        bytes =
            ap (λ (s : List ℕ). s ++ pairs_in k (drop (i + 2) t)) front
            ∙ append_snoc (take n b) z (pairs_in k (drop (i + 2) t))
            ∙ ap (λ (s : List ℕ). take n b ++ s) (sym more)
            ∙ p.bytes;
      }

  paired_done : {b : List ℕ} {n i : ℕ} → Paired t at b n i → pairs_in (255 - n) (drop i t) ≡ [] → AllPairs t at b n
  paired_done {b} {n} {i} p e =
      let l = p.long in
      let f = p.few in
      let all : take n b ≡ pairs_in 255 (drop at t) = sym (append-nil (take n b)) ∙ ap (λ (s : List ℕ). take n b ++ s) (sym e) ∙ p.bytes in
      record { count = sym (length-take-le n b (omega arith)) ∙ ap length all; bytes = all; long = l }

  pub paired_end : {b : List ℕ} {n i m : ℕ} → Paired t at b n i → m ≡ min ((length t - at) / 2) 255 → m ≤ n → AllPairs t at b n
  paired_end {b} {n} {i} {m} p e h = paired_done p (by (ltb n 255) refl)
    where
      by : (q : Bool) → ltb n 255 ≡ q → pairs_in (255 - n) (drop i t) ≡ []
      by true f =
          let l = ltb-true n 255 f in
          let w = p.there in
          pairs_short (255 - n) (drop i t) (omega (arith, length-drop i t))
      by false f =
          let l = ltb-false n 255 f in
          let room : 255 - n ≡ 0 = omega arith in
          ap (λ (k : ℕ). pairs_in k (drop i t)) room ∙ pairs_full (drop i t)

  pub paired_no_high : {b : List ℕ} {n i x : ℕ} → Paired t at b n i → Room t n i → x ≡ nibble (get_or t i 0) → 15 < x → AllPairs t at b n
  paired_no_high {b} {n} {i} {x} p r e g =
      paired_done p
      (ap (pairs_in (255 - n)) (two_at t i r.text) ∙ pairs_no_high (255 - n) (get_or t i 0) (get_or t (i + 1) 0) (drop (i + 2) t) (omega arith))

  pub paired_no_low : {b : List ℕ} {n i x : ℕ} → Paired t at b n i → Room t n i → x ≡ nibble (get_or t (i + 1) 0) → 15 < x → AllPairs t at b n
  paired_no_low {b} {n} {i} {x} p r e g =
      paired_done p
      (ap (pairs_in (255 - n)) (two_at t i r.text) ∙ pairs_no_low (255 - n) (get_or t i 0) (get_or t (i + 1) 0) (drop (i + 2) t) (omega arith))

-- ---- the heading

three_at : (t : List ℕ) (i : ℕ) → 3 ≤ length t - i → drop i t ≡ get_or t i 0 ∷ get_or t (i + 1) 0 ∷ get_or t (i + 2) 0 ∷ drop (i + 2 + 1) t
three_at t i h = two_at t i (omega arith) ∙ ap (λ (s : List ℕ). get_or t i 0 ∷ get_or t (i + 1) 0 ∷ s) (one_at t (i + 2) (omega arith))

headed : (c d e : ℕ) (t : List ℕ) → heading_in (c ∷ d ∷ e ∷ t) ≡ cond (eqb c 9 && eqb e 9) (direction_in d) none
headed c d e t = refl

heading_few : (t : List ℕ) → length t < 3 → heading_in t ≡ none
heading_few [] h = refl
heading_few (c ∷ []) h = refl
heading_few (c ∷ d ∷ []) h = refl
heading_few (c ∷ d ∷ e ∷ t) h = absurd (omega arith)

module _ (t : List ℕ) (at : ℕ) where
  pub heading_short : length t - at < 3 → heading_in (drop at t) ≡ none
  heading_short h = heading_few (drop at t) (omega (arith, length-drop at t))

  pub heading_is : 3 ≤ length t - at
      → heading_in (drop at t) ≡ cond (eqb (get_or t at 0) 9 && eqb (get_or t (at + 2) 0) 9) (direction_in (get_or t (at + 1) 0)) none
  heading_is h = ap heading_in (three_at t at h) ∙ headed (get_or t at 0) (get_or t (at + 1) 0) (get_or t (at + 2) 0) (drop (at + 2 + 1) t)

  pub heading_room : {x : Direction} → heading_in (drop at t) ≡ some x → at + 3 ≤ length t
  heading_room {x} e = by (ltb (length t - at) 3) refl
    where
      by : (b : Bool) → ltb (length t - at) 3 ≡ b → at + 3 ≤ length t
      by true f =
          let g = heading_short (ltb-true (length t - at) 3 f) in
          let no_way : ◌≡◌ {A = ℕ} 0 1 = cc in absurd (omega arith)
      by false f = let g = ltb-false (length t - at) 3 f in omega arith

-- ---- the field

closed_none : (t : List ℕ) (end : ℕ) → length t ≤ end → begins (10 ∷ []) (drop end t) ≡ false
unfolding begins
closed_none t end h = rw (drop_of_length-le t h)

closed_some : (t : List ℕ) (end : ℕ) → end < length t → begins (10 ∷ []) (drop end t) ≡ eqb 10 (get_or t end 0) && true
unfolding begins
closed_some t end h = rw (one_at t end h)

module _ (t : List ℕ) (end n : ℕ) where
  pub closed_end : length t ≤ end → closed_at t end n ≡ none
  closed_end h = rw (closed_none t end h)

  pub closed_other : end < length t → (get_or t end 0 ≡ 10 → ⊥) → closed_at t end n ≡ none
  closed_other h g = rw (closed_some t end h, ne_eqb 10 (get_or t end 0) (λ e. g (sym e)))

  pub closed_newline : end < length t → get_or t end 0 ≡ 10 → closed_at t end n ≡ some (n, end + 1)
  closed_newline h e = rw (closed_some t end h, eq-eqb 10 (get_or t end 0) (sym e))

-- as many bytes of the memory as are told
told_closed : (r : Maybe Field) (q : Bool) (n end : ℕ) (b s : List ℕ) → closed_told r ≡ cond q (some (n, end + 1)) none
    → take n b ≡ s → field_told r b ≡ cond q (some (s, end + 1)) none
told_closed (Some r) true n end b s e f =
    let pair : ◌≡◌ {A = ℕ × ℕ} (r.len, r.next) (n, end + 1) = cc in
    ap₂ (λ (l : List ℕ) (k : ℕ). some (l, k)) (ap (λ (x : ℕ × ℕ). take x.0 b) pair ∙ f) (ap (λ (x : ℕ × ℕ). x.1) pair)
told_closed (Some r) false n end b s e f = cc
told_closed None true n end b s e f = cc
told_closed None false n end b s e f = refl

from_closed : (t s : List ℕ) (at k : ℕ) → from at (closed s k (drop at t)) ≡ cond (begins (10 ∷ []) (drop (at + k) t)) (some (s, at + k + 1)) none
from_closed t s at k = rw (drop-drop k at t) (by (begins (10 ∷ []) (drop (at + k) t)))
  where
    by : (q : Bool) → from at (cond q (some (s, k + 1)) none) ≡ cond q (some (s, at + k + 1)) none
    by true = let e : at + (k + 1) ≡ at + k + 1 = omega arith in ap (λ (n : ℕ). some (s, n)) e
    by false = refl

pub pairs_fit : (k : ℕ) (t : List ℕ) → 2 * length (pairs_in k t) ≤ length t
unfolding pairs_in
pairs_fit zero t = omega arith
pairs_fit (suc k) [] = omega arith
pairs_fit (suc k) (c ∷ []) = omega arith
pairs_fit (suc k) (c ∷ d ∷ t) = by (ltb (nibble c) 16 && ltb (nibble d) 16) (pairs_fit k t)
  where
    by : (b : Bool) → 2 * length (pairs_in k t) ≤ length t → 2 * length (cond b ((nibble c * 16 + nibble d) ∷ pairs_in k t) []) ≤ suc (suc (length t))
    by true h = omega arith
    by false h = omega arith

pub pairs_few : (k : ℕ) (t : List ℕ) → length (pairs_in k t) ≤ k
unfolding pairs_in
pairs_few zero t = omega arith
pairs_few (suc k) [] = omega arith
pairs_few (suc k) (c ∷ []) = omega arith
pairs_few (suc k) (c ∷ d ∷ t) = by (ltb (nibble c) 16 && ltb (nibble d) 16) (pairs_few k t)
  where
    by : (b : Bool) → length (pairs_in k t) ≤ k → length (cond b ((nibble c * 16 + nibble d) ∷ pairs_in k t) []) ≤ suc k
    by true h = omega arith
    by false h = omega arith

paired_some : (s t : List ℕ) → 1 ≤ length s → paired s t ≡ closed s (2 * length s) t
paired_some [] t h = absurd (omega arith)
paired_some (b ∷ s) t h = refl

paired_nil : (s t : List ℕ) → length s ≡ 0 → paired s t ≡ none
paired_nil [] t h = refl
paired_nil (b ∷ s) t h = absurd (omega arith)

module _ (t : List ℕ) (at : ℕ) where
  pub field_end : length t ≤ at → from at (field_in (drop at t)) ≡ none
  unfolding field_in
  field_end h = rw (drop_of_length-le t h)

  pub field_dash : at < length t → get_or t at 0 ≡ 45 → (r : Maybe Field) (b : List ℕ) → closed_told r ≡ closed_at t (at + 1) 0
      → field_told r b ≡ from at (field_in (drop at t))
  unfolding field_in
  field_dash h e r b told =
      let dash : field_in (drop at t) ≡ closed [] 1 (drop at t) = rw (one_at t at h, eq-eqb (get_or t at 0) 45 e) in
      told_closed r (begins (10 ∷ []) (drop (at + 1) t)) 0 (at + 1) b [] told refl
      ∙ sym (ap (from at) dash ∙ from_closed t [] at 1)

  field_is : at < length t → (get_or t at 0 ≡ 45 → ⊥) → field_in (drop at t) ≡ paired (pairs_in 255 (drop at t)) (drop at t)
  unfolding field_in
  field_is h n = rw (one_at t at h, ne_eqb (get_or t at 0) 45 n)

  pub field_nothing : at < length t → (get_or t at 0 ≡ 45 → ⊥) → length (pairs_in 255 (drop at t)) ≡ 0 → from at (field_in (drop at t)) ≡ none
  field_nothing h n e = ap (from at) (field_is h n ∙ paired_nil (pairs_in 255 (drop at t)) (drop at t) e)

  pub field_bytes : at < length t → (get_or t at 0 ≡ 45 → ⊥) → {n : ℕ} (b : List ℕ) → n ≡ length (pairs_in 255 (drop at t))
      → take n b ≡ pairs_in 255 (drop at t) → (n ≡ 0 → ⊥) → (r : Maybe Field) → closed_told r ≡ closed_at t (at + 2 * n) n → field_told r b ≡ from at (field_in (drop at t))
  field_bytes h d {n} b e f z r told =
      let s : List ℕ = pairs_in 255 (drop at t) in
      let size : 2 * n ≡ 2 * length s = omega arith in
      told_closed r (begins (10 ∷ []) (drop (at + 2 * n) t)) n (at + 2 * n) b s told f
      ∙ sym
      (ap (from at) (field_is h d ∙ paired_some s (drop at t) (omega arith) ∙ ap (λ (k : ℕ). closed s k (drop at t)) (sym size))
      ∙ from_closed t s at (2 * n))

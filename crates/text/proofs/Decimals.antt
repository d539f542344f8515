-- Numbers in decimal: laws by induction on how many digits there are. Assumes nothing.
use Prim.Native.Nat.{ℕ, zero, suc, ◌+◌, ◌-◌, ◌*◌, ◌/◌, ◌%◌, ◌^◌, ◌<◌, ◌≤◌}
use mathlib.Core.Bool.{Bool, true, false}
use mathlib.Core.List.{List, [], ◌∷◌, ◌++◌, append-nil}
use mathlib.Core.Path.{◌≡◌, refl, sym, ap, ◌∙◌, subst}
use native.Mathlib.Nat.{pow-suc}
use native.Mathlib.Omega.{arith}
use lib.Dec.{ltb}
use lib.ListN.{length, length-append}
use lib.Seq.{append_snoc}
use borrow.Author.Tests.{lt-ltb, le-ltb, ltb-true, ltb-false}
use Rattle.bits.specs.Every.{Every}
use Rattle.text.specs.Decimal.{digits, decimal, value_from, value_of, Digit, Numeral}
use Rattle.text.specs.Lines.{Plain}

-- to show something of all numbers, show it of those below ten, and of ten times a number that has it, with a digit added
module _ (P : ℕ → Type 0) (one : (d : ℕ) → d < 10 → P d) (more : (m d : ℕ) → 1 ≤ m → d < 10 → P m → P (m * 10 + d)) where
  below : (k n : ℕ) → n < k → P n
  below zero n h = absurd (omega arith)
  below (suc k) n h = by (ltb n 10) refl (λ g. below k (n / 10) (omega arith))
    where
      by : (b : Bool) → ltb n 10 ≡ b → (10 ≤ n → P (n / 10)) → P n
      by true e r = one n (ltb-true n 10 e)
      by false e r =
          let ge : 10 ≤ n = ltb-false n 10 e in
          let whole : n / 10 * 10 + n % 10 ≡ n = omega arith in
          subst P whole (more (n / 10) (n % 10) (omega arith) (omega arith) (r ge))

  pub by_digits : (n : ℕ) → P n
  by_digits n = below (suc n) n (omega arith)

-- any bound will do that the digits stay below
digits_enough : (k l n : ℕ) → n < k → n < l → digits k n ≡ digits l n
unfolding digits
digits_enough zero l n h g = absurd (omega arith)
digits_enough (suc k) zero n h g = absurd (omega arith)
digits_enough (suc k) (suc l) n h g =
    by (ltb n 10) refl (λ ge. digits_enough k l (n / 10) (omega arith) (omega arith))
  where
    by : (b : Bool) → ltb n 10 ≡ b → (10 ≤ n → digits k (n / 10) ≡ digits l (n / 10)) → digits (suc k) n ≡ digits (suc l) n
    by true e r = rw e
    by false e r = rw (e, r (ltb-false n 10 e))

-- the two equations that a decimal is made of
pub decimal_one : (d : ℕ) → d < 10 → decimal d ≡ (48 + d) ∷ []
unfolding decimal digits
decimal_one d h = rw (lt-ltb d 10 h)

pub decimal_rest : (n : ℕ) → 10 ≤ n → decimal n ≡ decimal (n / 10) ++ ((48 + n % 10) ∷ [])
unfolding decimal digits
decimal_rest n h =
    rw (le-ltb n 10 h, digits_enough n (suc (n / 10)) (n / 10) (omega arith) (omega arith))

decimal_more : (m d : ℕ) → 1 ≤ m → d < 10 → decimal (m * 10 + d) ≡ decimal m ++ ((48 + d) ∷ [])
decimal_more m d h g =
    let q : (m * 10 + d) / 10 ≡ m = omega arith in
    let r : (m * 10 + d) % 10 ≡ d = omega arith in
    decimal_rest (m * 10 + d) (omega arith) ∙ rw (q, r)

-- ---- the number back

value_behind : (v : ℕ) (s : List ℕ) (c : ℕ) → value_from v (s ++ (c ∷ [])) ≡ value_from v s * 10 + (c - 48)
unfolding value_from
value_behind v [] c = refl
value_behind v (x ∷ s) c = value_behind (v * 10 + (x - 48)) s c

pub value_decimal : (n : ℕ) → value_of (decimal n) ≡ n
unfolding value_from
value_decimal = by_digits (λ (n : ℕ). value_of (decimal n) ≡ n)
    (λ d h. rw (decimal_one d h) (omega arith))
    (λ m d h g e. rw (decimal_more m d h g, value_behind 0 (decimal m) (48 + d), e) (omega arith))

pub decimal_injective : (m n : ℕ) → decimal m ≡ decimal n → m ≡ n
decimal_injective m n e = sym (value_decimal m) ∙ ap value_of e ∙ value_decimal n

-- ---- its form: digits, and no zero in front

every_behind : (s : List ℕ) (c : ℕ) → Every Digit s → Digit c → Every Digit (s ++ (c ∷ []))
every_behind [] c h d = (d, tt)
every_behind (x ∷ s) c h d = (h.0, every_behind s c h.1 d)

decimal_digits : (n : ℕ) → Every Digit (decimal n)
decimal_digits = by_digits (λ (n : ℕ). Every Digit (decimal n))
    (λ d h. rw (decimal_one d h) ((omega arith, omega arith), tt))
    (λ m d h g e. rw (decimal_more m d h g) (every_behind (decimal m) (48 + d) e (omega arith, omega arith)))

-- the first digit, which is a zero of zero alone
record Leads (n : ℕ) : Type 0 where
  digit : ℕ
  behind : List ℕ
  whole : decimal n ≡ digit ∷ behind
  no_zero : 1 ≤ n → digit ≡ 48 → ⊥

leads : (n : ℕ) → Leads n
leads = by_digits Leads
    (λ d h. record { digit = 48 + d; behind = []; whole = decimal_one d h; no_zero = λ g e. omega arith })
    (λ m d h g l. record {
      digit = l.digit;
      behind = l.behind ++ ((48 + d) ∷ []);
      whole = decimal_more m d h g ∙ ap (λ (s : List ℕ). s ++ ((48 + d) ∷ [])) l.whole;
      no_zero = λ _ e. l.no_zero h e;
    })

numeral : (c : ℕ) (t : List ℕ) → Every Digit (c ∷ t) → (c ≡ 48 → ⊥) → Numeral (c ∷ t)
numeral c [] e n = e.0
numeral c (b ∷ t) e n = (e, n)

pub decimal_numeral : (n : ℕ) → Numeral (decimal n)
decimal_numeral = by_digits (λ (n : ℕ). Numeral (decimal n))
    (λ d h. rw (decimal_one d h) (omega arith, omega arith))
    (λ m d h g e.
    let l = leads (m * 10 + d) in
    subst Numeral (sym l.whole)
    (numeral l.digit l.behind (subst (Every Digit) l.whole (decimal_digits (m * 10 + d))) (l.no_zero (omega arith))))

-- a spelling, and digits written on behind it
decimal_from : (v : ℕ) (t : List ℕ) → 1 ≤ v → Every Digit t → decimal (value_from v t) ≡ decimal v ++ t
unfolding value_from
decimal_from v [] h d = sym (append-nil (decimal v))
decimal_from v (c ∷ t) h d =
    let back : 48 + (c - 48) ≡ c = let l = d.0.0 in omega arith in
    let u = d.0.1 in
    decimal_from (v * 10 + (c - 48)) t (omega arith) d.1
    ∙ ap (λ (s : List ℕ). s ++ t) (decimal_more v (c - 48) h (omega arith) ∙ ap (λ (x : ℕ). decimal v ++ (x ∷ [])) back)
    ∙ append_snoc (decimal v) c t

-- one digit by itself
lone : (c : ℕ) → Digit c → decimal (0 * 10 + (c - 48)) ≡ c ∷ []
lone c h =
    let l = h.0 in
    let u = h.1 in
    let back : 48 + (0 * 10 + (c - 48)) ≡ c = omega arith in
    decimal_one (0 * 10 + (c - 48)) (omega arith) ∙ ap (λ (x : ℕ). x ∷ []) back

pub numeral_spelled : (s : List ℕ) → Numeral s → decimal (value_of s) ≡ s
unfolding value_from
numeral_spelled [] h = absurd h
numeral_spelled (c ∷ []) h = lone c h
numeral_spelled (c ∷ b ∷ t) h =
    let l = h.0.0.0 in
    let n = h.1 in
    decimal_from (0 * 10 + (c - 48)) (b ∷ t) (omega arith) h.0.1
    ∙ ap (λ (s : List ℕ). s ++ (b ∷ t)) (lone c h.0.0)

-- ---- its length

pub decimal_some : (n : ℕ) → 1 ≤ length (decimal n)
decimal_some n = let l = leads n in rw l.whole (omega arith)

-- a tenth of the number has one digit less
pub decimal_long : (n : ℕ) → 10 ≤ n → length (decimal n) ≡ length (decimal (n / 10)) + 1
decimal_long n h = ap length (decimal_rest n h) ∙ length-append (decimal (n / 10)) ((48 + n % 10) ∷ [])

-- below ten to the power k there are k digits at most
pub decimal_at_most : (k n : ℕ) → n < 10 ^ suc k → length (decimal n) ≤ suc k
decimal_at_most zero n h = omega (arith, ap length (decimal_one n h))
decimal_at_most (suc k) n h = by (ltb n 10) refl (λ g. decimal_at_most k (n / 10) (omega (arith, pow-suc 10 (suc k))))
  where
    by : (b : Bool) → ltb n 10 ≡ b → (10 ≤ n → length (decimal (n / 10)) ≤ suc k) → length (decimal n) ≤ suc (suc k)
    by true e r = omega (arith, ap length (decimal_one n (ltb-true n 10 e)))
    by false e r = let g = ltb-false n 10 e in omega (arith, decimal_long n g, r g)

-- by the power of ten that it reaches, and zero
pub decimal_power : (k n : ℕ) → 10 ^ k ≤ n → n < 10 * 10 ^ k → length (decimal n) ≡ k + 1
decimal_power zero n h g = ap length (decimal_one n (omega arith))
decimal_power (suc k) n h g =
    let ten : 10 ≤ n = omega (arith, pow-suc 10 k, pow-pos k) in
    omega (arith, decimal_long n ten, decimal_power k (n / 10) (omega (arith, pow-suc 10 k)) (omega (arith, pow-suc 10 k)))
  where
    pow-pos : (k : ℕ) → 1 ≤ 10 ^ k
    pow-pos zero = omega arith
    pow-pos (suc k) = omega (arith, pow-suc 10 k, pow-pos k)

pub decimal_zero : length (decimal 0) ≡ 1
decimal_zero = ap length (decimal_one 0 (omega arith))

-- ---- in a line

digits_plain : (s : List ℕ) → Every Digit s → Plain s
digits_plain [] h = tt
digits_plain (c ∷ s) h = let l = h.0.0 in (λ e. omega arith, λ e. omega arith, digits_plain s h.1)

pub decimal_plain : (n : ℕ) → Plain (decimal n)
decimal_plain n = digits_plain (decimal n) (decimal_digits n)

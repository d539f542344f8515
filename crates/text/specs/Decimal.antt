-- Numbers in decimal, without extra zeros (RULES: L5). The digit d is the character 48 + d.
use Rattle.std.specs.Prelude.{ℕ, zero, suc, ◌+◌, ◌-◌, ◌*◌, ◌/◌, ◌%◌, ◌≤◌, Bool, true, false, List, [], ◌∷◌, ◌++◌, ◌≡◌, ltb}
use Rattle.bits.specs.Every.{Every}

-- a number below ten is its digit; any other is what stands before its last digit, and that digit
abbrev pub spelled : (small : Bool) → ℕ → (before : ℕ → List ℕ) → List ℕ
spelled true n before = (48 + n) ∷ []
spelled false n before = before (n / 10) ++ ((48 + n % 10) ∷ [])

-- in at most so many digits, which only bounds the recursion
unfoldable pub digits : (most : ℕ) → ℕ → List ℕ
digits zero n = []
digits (suc k) n = spelled (ltb n 10) n (digits k)

unfoldable pub decimal : ℕ → List ℕ
decimal n = digits (suc n) n

-- ---- reading

-- the number that digits mean, behind digits that mean v
unfoldable pub value_from : ℕ → List ℕ → ℕ
value_from v [] = v
value_from v (c ∷ s) = value_from (v * 10 + (c - 48)) s

abbrev pub value_of : List ℕ → ℕ
value_of s = value_from 0 s

abbrev pub Digit : ℕ → Type 0
Digit c = (48 ≤ c) × (c ≤ 57)

-- digits, at least one, the first of which is no 0 where there are more
abbrev pub Numeral : List ℕ → Type 0
Numeral [] = ⊥
Numeral (c ∷ []) = Digit c
Numeral (c ∷ d ∷ s) = Every Digit (c ∷ d ∷ s) × (c ≡ 48 → ⊥)

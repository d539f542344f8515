-- Bytes in hex, two capital digits each (RULES: L5): 48 to 57 are 0 to 9, and 65 to 70 are A to F.
use Rattle.std.specs.Prelude.{ℕ, ◌+◌, ◌-◌, ◌*◌, ◌/◌, ◌%◌, ◌≤◌, cond, List, [], ◌∷◌, ◌++◌, ◌⊎◌, ltb}
use Rattle.text.specs.Characters.{ascii}
use Rattle.text.specs.Decimal.{Digit}

abbrev pub hex_digit : ℕ → ℕ
hex_digit d = cond (ltb d 10) (48 + d) (55 + d)

abbrev pub hex_byte : ℕ → List ℕ
hex_byte b = hex_digit (b / 16) ∷ hex_digit (b % 16) ∷ []

unfoldable pub hex_of : List ℕ → List ℕ
hex_of [] = []
hex_of (b ∷ s) = hex_byte b ++ hex_of s

-- as a field, in which a dash stands for no bytes
abbrev pub hex_field : List ℕ → List ℕ
hex_field [] = ascii "-"
hex_field (b ∷ bs) = hex_of (b ∷ bs)

-- ---- reading

abbrev pub HexDigit : ℕ → Type 0
HexDigit c = Digit c ⊎ ((65 ≤ c) × (c ≤ 70))

-- pairs of digits, and nothing else
abbrev pub Pairs : List ℕ → Type 0
Pairs [] = Unit
Pairs (c ∷ []) = ⊥
Pairs (c ∷ d ∷ s) = HexDigit c × HexDigit d × Pairs s

-- a digit's number
abbrev pub digit_value : ℕ → ℕ
digit_value c = cond (ltb c 65) (c - 48) (c - 55)

-- each pair read as a byte
unfoldable pub bytes_of : List ℕ → List ℕ
bytes_of [] = []
bytes_of (c ∷ []) = []
bytes_of (c ∷ d ∷ s) = (digit_value c * 16 + digit_value d) ∷ bytes_of s

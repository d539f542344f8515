-- Not for the auditor: only private functions cite this. A line of a trace as the code reads it: character by character, from the front on.
use Rattle.std.specs.Prelude.{ℕ, zero, suc, ◌+◌, ◌-◌, ◌*◌, cond, ◌&&◌, List, [], ◌∷◌, eqb, ltb, length, take, drop, Option as Maybe, None, Some}
use Rattle.std.proofs.Math.Option.{Option, none, some}
use Rattle.table.specs.declared.rules.Direction.{Direction}
use Rattle.table.specs.declared.rules.Direction.TheVariants.{Down, Up}
use Rattle.text.specs.Decimal.{value_of}
use Rattle.ledger.specs.Trace.{TraceLine, begins}
use Rattle.ledger.specs.declared.lines.Number.{Number}
use Rattle.ledger.specs.declared.lines.Field.{Field}
use Rattle.ledger.specs.declared.lines.LineAt.{LineAt}

-- ---- the number

-- a digit's number, and 10 for any other character
abbrev pub digit_in : ℕ → ℕ
digit_in c = cond (ltb c 48) 10 (cond (ltb c 58) (c - 48) 10)

-- the digits in front that go on behind digits that mean v, as long as that is no number too large for one digit more
unfoldable pub digits_in : ℕ → List ℕ → List ℕ
digits_in v [] = []
digits_in v (c ∷ t) = cond (ltb v 429_496_730 && ltb (digit_in c) 10) (c ∷ digits_in (v * 10 + digit_in c) t) []

-- the number in front: a zero stands alone
unfoldable pub number_in : List ℕ → List ℕ
number_in [] = []
number_in (c ∷ t) = cond (eqb c 48) (c ∷ []) (digits_in 0 (c ∷ t))

-- ---- the direction's letter between two tabs

abbrev pub direction_in : ℕ → Option Direction
direction_in c = cond (eqb c 68) (some Down) (cond (eqb c 85) (some Up) none)

abbrev pub heading_in : List ℕ → Option Direction
heading_in [] = none
heading_in (c ∷ []) = none
heading_in (c ∷ d ∷ []) = none
heading_in (c ∷ d ∷ e ∷ t) = cond (eqb c 9 && eqb e 9) (direction_in d) none

-- ---- the stream, and the newline behind it

-- a hex digit's number, and 16 for any other character
abbrev pub nibble : ℕ → ℕ
nibble c = cond (ltb c 48) 16 (cond (ltb c 58) (c - 48) (cond (ltb c 65) 16 (cond (ltb c 71) (c - 55) 16)))

-- the pairs of digits in front, at most so many, each read as a byte
unfoldable pub pairs_in : (room : ℕ) → List ℕ → List ℕ
pairs_in zero t = []
pairs_in (suc k) [] = []
pairs_in (suc k) (c ∷ []) = []
pairs_in (suc k) (c ∷ d ∷ t) = cond (ltb (nibble c) 16 && ltb (nibble d) 16) ((nibble c * 16 + nibble d) ∷ pairs_in k t) []

-- a field of so many characters is these bytes, if a newline is behind it
abbrev pub closed : List ℕ → (size : ℕ) → List ℕ → Option (List ℕ × ℕ)
closed s k t = cond (begins (10 ∷ []) (drop k t)) (some (s, k + 1)) none

abbrev pub paired : List ℕ → List ℕ → Option (List ℕ × ℕ)
paired [] t = none
paired (b ∷ s) t = closed (b ∷ s) (2 * length (b ∷ s)) t

-- the bytes, and how many characters they and the newline are
unfoldable pub field_in : List ℕ → Option (List ℕ × ℕ)
field_in [] = none
field_in (c ∷ t) = cond (eqb c 45) (closed [] 1 (c ∷ t)) (paired (pairs_in 255 (c ∷ t)) (c ∷ t))

-- ---- what the code's answers say

abbrev pub known : {A : Type 0} → Maybe A → Option A
known None = none
known (Some x) = some x

abbrev pub digit_told : Maybe ℕ → ℕ
digit_told None = 10
digit_told (Some d) = d

abbrev pub hex_told : Maybe ℕ → ℕ
hex_told None = 16
hex_told (Some h) = h

abbrev pub number_told : Maybe Number → Option (ℕ × ℕ)
number_told None = none
number_told (Some n) = some (n.value, n.next)

-- digits from an offset on as a number, and the offset behind them
abbrev pub numbered : ℕ → List ℕ → Option (ℕ × ℕ)
numbered at [] = none
numbered at (c ∷ s) = some (value_of (c ∷ s), at + length (c ∷ s))

-- its place in the text
abbrev pub from : ℕ → Option (List ℕ × ℕ) → Option (List ℕ × ℕ)
from at none = none
from at (some p) = some (p.0, at + p.1)

-- where a field's characters end, and so many bytes are told
abbrev pub closed_at : List ℕ → (end len : ℕ) → Option (ℕ × ℕ)
closed_at t end n = cond (begins (10 ∷ []) (drop end t)) (some (n, end + 1)) none

abbrev pub closed_told : Maybe Field → Option (ℕ × ℕ)
closed_told None = none
closed_told (Some f) = some (f.len, f.next)

abbrev pub field_told : Maybe Field → List ℕ → Option (List ℕ × ℕ)
field_told None buffer = none
field_told (Some f) buffer = some (take f.len buffer, f.next)

abbrev pub line_told : Maybe LineAt → List ℕ → Option (TraceLine × ℕ)
line_told None buffer = none
line_told (Some l) buffer = some (record { frame = l.frame; direction = l.direction; stream = take l.len buffer }, l.next)

-- A text of lines (RULES: L2): a line is its fields, parted by tabs (9) and ended by a newline (10).
use Rattle.std.specs.Prelude.{ℕ, List, [], ◌∷◌, ◌++◌, ◌≡◌}
use Rattle.bits.specs.Every.{Every}

-- at least one field
pub record Line : Type 0 where
  pub first : List ℕ
  pub more : List (List ℕ)

unfoldable pub joined : List ℕ → List (List ℕ) → List ℕ
joined f [] = f ++ (10 ∷ [])
joined f (g ∷ gs) = f ++ (9 ∷ joined g gs)

abbrev pub line : Line → List ℕ
line l = joined l.first l.more

unfoldable pub text : List Line → List ℕ
text [] = []
text (l ∷ ls) = line l ++ text ls

-- a field that can stand in a line: no tab and no newline is in it
abbrev pub Plain : List ℕ → Type 0
Plain [] = Unit
Plain (c ∷ s) = (c ≡ 9 → ⊥) × (c ≡ 10 → ⊥) × Plain s

abbrev pub PlainLine : Line → Type 0
PlainLine l = Plain l.first × Every Plain l.more

abbrev pub PlainText : List Line → Type 0
PlainText ls = Every PlainLine ls

-- empty, or with a newline at its end
abbrev pub Ended : List ℕ → Type 0
Ended [] = Unit
Ended (c ∷ []) = c ≡ 10
Ended (c ∷ d ∷ s) = Ended (d ∷ s)

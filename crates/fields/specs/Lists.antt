-- Lists that the definitions are written with.
use Rattle.std.specs.Prelude.{ℕ, zero, suc, ◌+◌, ◌*◌, cond, List, [], ◌∷◌, eqb, length}
use Rattle.table.specs.Answers.{Answer, given, refused}

-- f 0, f 1 and so on: n of them
unfoldable pub tabulate : {A : Type 0} → ℕ → (ℕ → A) → List A
tabulate zero f = []
tabulate (suc n) f = f zero ∷ tabulate n (λ (k : ℕ). f (suc k))

-- the number that bytes make, low byte first
abbrev pub low_first : List ℕ → ℕ
low_first [] = 0
low_first (b ∷ bs) = b + 256 * low_first bs

-- what is made from bytes that must be n: those bytes, or refusal 3, WrongLength
abbrev pub exactly : ℕ → List ℕ → Answer (List ℕ)
exactly n s = cond (eqb (length s) n) (given s) (refused 3)

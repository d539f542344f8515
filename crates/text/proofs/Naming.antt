-- A command's name, by its row. Assumes nothing.
use Prim.Native.Nat.{ℕ}
use Prim.Native.String.{String}
use mathlib.Core.Bool.{Bool, true, false, cond}
use mathlib.Core.List.{List, [], ◌∷◌}
use mathlib.Core.Path.{◌≡◌, refl, sym, ap, ◌∙◌, subst}
use native.Mathlib.Omega.{arith}
use lib.Dec.{eqb}
use lib.ListN.{length}
use Rattle.bits.specs.Memory.{written_at}
use Rattle.bits.proofs.Memory.{written_nothing}
use Rattle.std.proofs.lemmas.Bool.Decides.{nat_tests}
use Rattle.table.specs.declared.rules.Direction.{Direction}
use Rattle.table.specs.declared.rules.Direction.TheVariants.{Down, Up}
use Rattle.table.specs.declared.rules.Rules.{Rules}
use Rattle.table.specs.Table.{Row, rows, side_of, name_in, name_of}
use Rattle.text.specs.Characters.{ascii}

-- the letters of one of two names
pub ascii_cond : (b : Bool) (m n : String) → ascii (cond b m n) ≡ cond b (ascii m) (ascii n)
ascii_cond true m n = refl
ascii_cond false m n = refl

-- whether all names of these rows pass a test, by computing
unfoldable pub names_pass : (String → Bool) → Direction → List Row → Bool
names_pass test d [] = true
names_pass test d (r ∷ rs) = cond (test (side_of d r.down r.up)) (names_pass test d rs) false

-- what the test tells holds then of the name of every byte
pub every_name : (P : String → Type 0) (test : String → Bool) → ((n : String) → test n ≡ true → P n) → P "" → (d : Direction) (rs : List Row) (c : ℕ)
    → names_pass test d rs ≡ true → P (name_in rs d c)
unfolding names_pass
every_name P test told none d [] c h = none
every_name P test told none d (r ∷ rs) c h = by (test (side_of d r.down r.up)) refl h (every_name P test told none d rs c)
  where
    pick : (b : Bool) → P (side_of d r.down r.up) → P (name_in rs d c) → P (cond b (side_of d r.down r.up) (name_in rs d c))
    pick true x y = x
    pick false x y = y

    by : (b : Bool) → test (side_of d r.down r.up) ≡ b → cond b (names_pass test d rs) false ≡ true
        → (names_pass test d rs ≡ true → P (name_in rs d c)) → P (name_in (r ∷ rs) d c)
    by true e h rest = pick (eqb c r.cid) (told (side_of d r.down r.up) e) (rest h)
    by false e h rest = let no_way : ◌≡◌ {A = ℕ} 0 1 = cc in absurd (omega arith)

-- ---- the lengths that names have

unfoldable has_length : ℕ → Bool
has_length n = cond (eqb n 10) true (cond (eqb n 12) true (cond (eqb n 13) true (cond (eqb n 15) true (eqb n 16))))

long_by : (d : Direction) → names_pass (λ (n : String). has_length (length (ascii n))) d rows ≡ true
unfolding ascii names_pass has_length
long_by Down = refl
long_by Up = refl

-- these letters have none of them
abbrev Unnamed : List ℕ → Type 0
Unnamed s = ¬ (length s ≡ 10) × ¬ (length s ≡ 12) × ¬ (length s ≡ 13) × ¬ (length s ≡ 15) × ¬ (length s ≡ 16)

not_named : (s : List ℕ) → has_length (length s) ≡ true → Unnamed s → ⊥
unfolding has_length
not_named s e h = grind (arith, nat_tests)

-- so a name with none of them has no letters, and nothing is to be written
pub no_name : (rules : Rules) (c : ℕ) (out : List ℕ) (at : ℕ) (letters : List ℕ) → letters ≡ ascii (name_of rules c) → Unnamed letters
    → (at, out) ≡ written_at out at (ascii (name_of rules c))
unfolding ascii
no_name rules c out at letters e h =
    written_nothing out at ∙ ap (written_at out at) (sym (none (subst Unnamed e h)))
  where
    none : Unnamed (ascii (name_of rules c)) → ascii (name_of rules c) ≡ []
    none =
        every_name (λ (n : String). Unnamed (ascii n) → ascii n ≡ []) (λ (n : String). has_length (length (ascii n))) (λ n e h. absurd (not_named (ascii n) e h)) (λ h. refl)
        rules.direction rows c (long_by rules.direction)

-- A byte that is no CID of the rows has no length and no name. Assumes nothing.
use Prim.Native.Nat.{ℕ}
use mathlib.Core.Path.{◌≡◌, refl}
use mathlib.Core.List.{List, [], ◌∷◌}
use mathlib.Core.Option.{none}
use borrow.Author.Tests.{ne_eqb}
use Rattle.table.specs.declared.rules.Direction.{Direction}
use Rattle.table.specs.Table.{Row, length_in, name_in}

-- what a `match` on the CIDs of the rows knows in its last arm, after P
abbrev pub After : Type 0 → List Row → ℕ → Type 0
After P [] c = P
After P (r ∷ rs) c = After (P × (c ≡ r.cid → ⊥)) rs c

before : (P : Type 0) (rs : List Row) (c : ℕ) → After P rs c → P
before P [] c a = a
before P (r ∷ rs) c a = (before (P × (c ≡ r.cid → ⊥)) rs c a).0

none_after : (P : Type 0) (rs : List Row) (d : Direction) (c : ℕ) → After P rs c → (length_in rs d c ≡ none) × (name_in rs d c ≡ "")
none_after P [] d c a = (refl, refl)
none_after P (r ∷ rs) d c a =
    let e = ne_eqb c r.cid (before (P × (c ≡ r.cid → ⊥)) rs c a).1 in
    let rest = none_after (P × (c ≡ r.cid → ⊥)) rs d c a in
    (rw e rest.0, rw e rest.1)

pub missing : (rs : List Row) (d : Direction) (c : ℕ) → After Unit rs c → length_in rs d c ≡ none
missing rs d c a = (none_after Unit rs d c a).0

pub nameless : (rs : List Row) (d : Direction) (c : ℕ) → After Unit rs c → name_in rs d c ≡ ""
nameless rs d c a = (none_after Unit rs d c a).1

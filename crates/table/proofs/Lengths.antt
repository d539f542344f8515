-- No payload of the table is longer than five bytes, and its CIDs are bytes from 2 on. Assumes nothing.
use Prim.Native.Nat.{ℕ, ◌≤◌, ◌<◌}
use mathlib.Core.Path.{◌≡◌, refl}
use mathlib.Core.Bool.{Bool, true, false, cond}
use mathlib.Core.List.{List, [], ◌∷◌}
use mathlib.Core.Option.{some}
use native.Mathlib.Omega.{arith}
use lib.Dec.{eqb, lit≤}
use borrow.Author.Tests.{eqb-true}
use Rattle.table.specs.declared.rules.Direction.{Direction}
use Rattle.table.specs.declared.rules.Direction.TheVariants.{Down, Up}
use Rattle.table.specs.declared.rules.Rules.{Rules}
use Rattle.table.specs.Table.{Row, rows, side_of, length_in, length_of}

abbrev Within : ℕ → List Row → Type 0
Within k [] = Unit
Within k (r ∷ rs) = (r.bytes_down ≤ k) × (r.bytes_up ≤ k) × Within k rs

side_within : (k : ℕ) (d : Direction) (down up : ℕ) → down ≤ k → up ≤ k → side_of d down up ≤ k
side_within k Down down up h l = h
side_within k Up down up h l = l

length_within : (k : ℕ) (rs : List Row) → Within k rs → (d : Direction) (c n : ℕ) → length_in rs d c ≡ some n → n ≤ k
length_within k [] w d c n e = let z : ◌≡◌ {A = ℕ} 0 1 = cc in absurd (omega arith)
length_within k (r ∷ rs) w d c n e = by (eqb c r.cid) (length_within k rs w.2 d c n) e
  where
    by : (t : Bool) → (length_in rs d c ≡ some n → n ≤ k) → cond t (some (side_of d r.bytes_down r.bytes_up)) (length_in rs d c) ≡ some n → n ≤ k
    by true ih e =
        let s : side_of d r.bytes_down r.bytes_up ≡ n = cc in
        let h = side_within k d r.bytes_down r.bytes_up w.0 w.1 in
        omega arith
    by false ih e = ih e

pub at_most_five : (rules : Rules) (c n : ℕ) → length_of rules c ≡ some n → n ≤ 5
at_most_five rules c n e = length_within 5 rows five rules.direction c n e
  where
    five : Within 5 rows
    five = (lit≤ tt, lit≤ tt, (lit≤ tt, lit≤ tt, (lit≤ tt, lit≤ tt, (lit≤ tt, lit≤ tt, (lit≤ tt, lit≤ tt, (lit≤ tt, lit≤ tt, (lit≤ tt, lit≤ tt, (lit≤ tt, lit≤ tt, (lit≤ tt, lit≤ tt, (lit≤ tt, lit≤ tt, tt))))))))))

abbrev Bytes : List Row → Type 0
Bytes [] = Unit
Bytes (r ∷ rs) = (2 ≤ r.cid) × (r.cid ≤ 255) × Bytes rs

cid_within : (rs : List Row) → Bytes rs → (d : Direction) (c n : ℕ) → length_in rs d c ≡ some n → (2 ≤ c) × (c < 256)
cid_within [] w d c n e = let z : ◌≡◌ {A = ℕ} 0 1 = cc in absurd (omega arith)
cid_within (r ∷ rs) w d c n e = by (eqb c r.cid) refl (cid_within rs w.2 d c n) e
  where
    by : (t : Bool) → eqb c r.cid ≡ t → (length_in rs d c ≡ some n → (2 ≤ c) × (c < 256))
        → cond t (some (side_of d r.bytes_down r.bytes_up)) (length_in rs d c) ≡ some n → (2 ≤ c) × (c < 256)
    by true q ih e = let same = eqb-true c r.cid q in (omega (arith, w.0), omega (arith, w.1))
    by false q ih e = ih e

pub cid_from_two : (rules : Rules) (c n : ℕ) → length_of rules c ≡ some n → (2 ≤ c) × (c < 256)
cid_from_two rules c n e = cid_within rows bytes rules.direction c n e
  where
    bytes : Bytes rows
    bytes = (lit≤ tt, lit≤ tt, (lit≤ tt, lit≤ tt, (lit≤ tt, lit≤ tt, (lit≤ tt, lit≤ tt, (lit≤ tt, lit≤ tt, (lit≤ tt, lit≤ tt, (lit≤ tt, lit≤ tt, (lit≤ tt, lit≤ tt, (lit≤ tt, lit≤ tt, (lit≤ tt, lit≤ tt, tt))))))))))

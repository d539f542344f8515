-- The table as the code holds it, the lengths of the CIDs below 16 in four bits each, is the table. Assumes nothing.
use Prim.Native.Nat.{ℕ, ◌*◌, ◌/◌, ◌%◌, ◌^◌, ◌<◌, ◌≤◌}
use mathlib.Core.Path.{◌≡◌, refl, sym, ap, ◌∙◌}
use mathlib.Core.Bool.{Bool, cond}
use mathlib.Core.List.{List, [], ◌∷◌}
use mathlib.Core.Option.{Option, none, some}
use native.Mathlib.Omega.{arith}
use lib.Dec.{eqb, lit<}
use borrow.Author.Tests.{eq-eqb, ne_eqb}
use Rattle.bits.proofs.Each.{Each, each}
use Rattle.table.specs.declared.rules.Direction.{Direction}
use Rattle.table.specs.declared.rules.Direction.TheVariants.{Down, Up}
use Rattle.table.specs.declared.rules.Rules.{Rules}
use Rattle.table.specs.Table.{Row, rows, side_of, length_in, length_of}

-- what the four bits of a CID say
abbrev saying : ℕ → Option ℕ
saying n = cond (eqb n 15) none (some n)

abbrev four : Direction → ℕ → ℕ
four d c = side_of d 0xFF5F_F411_5041_42FF 0xFF0F_F100_1210_10FF / 2 ^ (4 * c) % 16

Right : Direction → ℕ → Type 0
Right d c = saying (four d c) ≡ length_in rows d c

right : (d : Direction) → Each (Right d) 16
unfolding Right
right Down = (refl, (refl, (refl, (refl, (refl, (refl, (refl, (refl, (refl, (refl, (refl, (refl, (refl, (refl, (refl, (refl, tt))))))))))))))))
right Up = (refl, (refl, (refl, (refl, (refl, (refl, (refl, (refl, (refl, (refl, (refl, (refl, (refl, (refl, (refl, (refl, tt))))))))))))))))

-- rows whose CIDs are all below 16
abbrev Below : List Row → Type 0
Below [] = Unit
Below (r ∷ rs) = (r.cid < 16) × Below rs

none_above : (rs : List Row) → Below rs → (d : Direction) (c : ℕ) → 16 ≤ c → length_in rs d c ≡ none
none_above [] b d c h = refl
none_above (r ∷ rs) b d c h =
    ap (λ (t : Bool). cond t (some (side_of d r.bytes_down r.bytes_up)) (length_in rs d c)) (ne_eqb c r.cid (λ e. omega (arith, b.0)))
    ∙ none_above rs b.1 d c h

module _ (rules : Rules) (c : ℕ) where
  here : c < 16 → saying (four rules.direction c) ≡ length_of rules c
  unfolding Right
  here h = each (Right rules.direction) 16 c (right rules.direction) h

  pub above : 16 ≤ c → none ≡ length_of rules c
  above h = sym (none_above rows below rules.direction c h)
    where
      below : Below rows
      below = (lit< tt, (lit< tt, (lit< tt, (lit< tt, (lit< tt, (lit< tt, (lit< tt, (lit< tt, (lit< tt, (lit< tt, tt))))))))))

  module _ (n : ℕ) (e : n ≡ four rules.direction c) (h : c < 16) where
    pub no_cid : n ≡ 15 → none ≡ length_of rules c
    no_cid k = sym (ap (λ (t : Bool). cond t none (some n)) (eq-eqb n 15 k)) ∙ ap saying e ∙ here h

    pub a_cid : (n ≡ 15 → ⊥) → some n ≡ length_of rules c
    a_cid k = sym (ap (λ (t : Bool). cond t none (some n)) (ne_eqb n 15 k)) ∙ ap saying e ∙ here h

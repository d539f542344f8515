-- The laws of a channel mask, once over its width. Assumes nothing.
use mathlib.Core.Path.{◌≡◌, refl, sym, ap, ◌∙◌}
use mathlib.Core.Logic.{inl, inr, ◌≢◌}
use mathlib.Core.Bool.{Bool, true, false}
use mathlib.Core.List.{List}
use Prim.Native.Nat.{ℕ, ◌/◌, ◌%◌, ◌^◌, ◌<◌}
use native.Mathlib.Decide.{dec_lt, ℕ_discrete}
use native.Mathlib.Omega.{arith}
use lib.Dec.{eqb, lit<}
use lib.ListN.{length, get_or}
use lib.Seq.{get_or-set_same, get_or-set_other}
use Rattle.bits.specs.Bits.{set_field, bit_on, bit_of}
use Rattle.bits.proofs.Laws.{read_put, put_leaves}
use Rattle.fields.specs.Mask.{channel_on, switched}

pub bit_fits : (on : Bool) → bit_of on < 2 ^ 1
bit_fits true = lit< tt
bit_fits false = lit< tt

bit_told : (on : Bool) → eqb (bit_of on) 1 ≡ on
bit_told true = refl
bit_told false = refl

-- a channel that was switched is as it was switched
pub switched_same : (m : List ℕ) (c : ℕ) (on : Bool) → c / 8 < length m → channel_on (switched m c on) c ≡ on
switched_same m c on h =
    ap (bit_on (c % 8)) (get_or-set_same m (c / 8) (set_field (c % 8) 1 (get_or m (c / 8) 0) (bit_of on)) 0 h)
    ∙ ap (λ (n : ℕ). eqb n 1) (read_put (c % 8) 1 (get_or m (c / 8) 0) (bit_of on) (bit_fits on))
    ∙ bit_told on

-- and every other channel stays
pub switched_other : (m : List ℕ) (c d : ℕ) (on : Bool) → c / 8 < length m → d ≢ c → channel_on (switched m c on) d ≡ channel_on m d
switched_other m c d on h n = by (ℕ_discrete (d / 8) (c / 8))
  where
    b : ℕ
    b = set_field (c % 8) 1 (get_or m (c / 8) 0) (bit_of on)

    same_byte : d / 8 ≡ c / 8 → Dec (d % 8 < c % 8) → bit_on (d % 8) (set_field (c % 8) 1 (get_or m (c / 8) 0) (bit_of on)) ≡ bit_on (d % 8) (get_or m (c / 8) 0)
    same_byte e (yes l) = put_leaves (c % 8) 1 (get_or m (c / 8) 0) (bit_of on) (bit_fits on) (d % 8) (inl l)
    same_byte e (no l) =
        let apart : (d % 8 ≡ c % 8) → ⊥ = λ (f : d % 8 ≡ c % 8). n (omega arith) in
        put_leaves (c % 8) 1 (get_or m (c / 8) 0) (bit_of on) (bit_fits on) (d % 8) (inr (omega arith))

    by : Dec (d / 8 ≡ c / 8) → channel_on (switched m c on) d ≡ channel_on m d
    by (yes e) =
        ap (λ (i : ℕ). bit_on (d % 8) (get_or (switched m c on) i 0)) e
        ∙ ap (bit_on (d % 8)) (get_or-set_same m (c / 8) (set_field (c % 8) 1 (get_or m (c / 8) 0) (bit_of on)) 0 h)
        ∙ same_byte e (dec_lt (d % 8) (c % 8))
        ∙ ap (λ (i : ℕ). bit_on (d % 8) (get_or m i 0)) (sym e)
    by (no e) = ap (bit_on (d % 8)) (get_or-set_other m (c / 8) (d / 8) (set_field (c % 8) 1 (get_or m (c / 8) 0) (bit_of on)) 0 e)

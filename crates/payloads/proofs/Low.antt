-- The low bits of a byte. Assumes nothing.
use Prim.Native.Nat.{ℕ, ◌/◌, ◌%◌, ◌^◌}
use mathlib.Core.Path.{◌≡◌, refl, ap}
use mathlib.Core.Bool.{◌&&◌}
use native.Mathlib.Omega.{arith}
use lib.Dec.{eqb}
use Rattle.bits.specs.Bits.{field, bit_on}
use Rattle.bits.proofs.Each.{Each, each}

-- the lowest field is the remainder
pub low : (width b : ℕ) → b % 2 ^ width ≡ field 0 width b
low width b = let h : b ≡ b / 2 ^ 0 = omega arith in ap (λ (n : ℕ). n % 2 ^ width) h

Both : ℕ → Type 0
Both n = eqb n 3 ≡ (eqb (n % 2) 1 && eqb (n / 2 % 2) 1)

each_both : Each Both 4
unfolding Both
each_both = (refl, (refl, (refl, (refl, tt))))

-- both low bits are set where they make 3
pub both : (b : ℕ) → eqb (b % 4) 3 ≡ (bit_on 0 b && bit_on 1 b)
unfolding Both
both b =
    let h : b / 2 ^ 0 % 2 ≡ b % 4 % 2 = omega arith in
    let k : b / 2 ^ 1 % 2 ≡ b % 4 / 2 % 2 = omega arith in
    rw (h, k) (each Both 4 (b % 4) each_both (omega arith))

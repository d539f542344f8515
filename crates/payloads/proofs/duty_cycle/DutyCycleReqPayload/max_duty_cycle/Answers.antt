-- `DutyCycleReqPayload::max_duty_cycle` meets its contract: the bits are the exact value's at each of the sixteen numbers. Assumes nothing.
use Prim.Native.Nat.{ℕ, ◌-◌, ◌*◌, ◌/◌, ◌%◌, ◌^◌}
use mathlib.Core.Bool.{Bool, true, false, not, ◌&&◌}
use mathlib.Core.Path.{◌≡◌, refl, ap, ◌∙◌}
use native.Mathlib.Omega.{arith}
use lib.Dec.{T, eqb}
use lib.Ieee.{binary32, hid, ones, top, of_bits, nan_bits}
use Rattle.payloads.specs.Meanings.{one_over2_to}
use Rattle.bits.proofs.Each.{Each, each}
use Rattle.payloads.proofs.duty_cycle.DutyCycleReqPayload.max_duty_cycle.Goals as goal

Exact : ℕ → Type 0
Exact n = of_bits binary32 ((127 - n) * 2 ^ 23 % 2 ^ 32) ≡ one_over2_to n

exact : Each Exact 16
unfolding Exact of_bits
exact = (refl, (refl, (refl, (refl, (refl, (refl, (refl, (refl, (refl, (refl, (refl, (refl, (refl, (refl, (refl, (refl, tt))))))))))))))))

-- with a fraction of zeros it is no NaN, whatever stands above it
no_nan : (above : ℕ) → T (not (nan_bits binary32 (above * 2 ^ 23 % 2 ^ 32)))
unfolding nan_bits
no_nan above =
    let zeros : above * 2 ^ 23 % 2 ^ 32 % 2 ^ 23 ≡ 0 = omega arith in
    rw zeros (none (eqb (above * 2 ^ 23 % 2 ^ 32 % top binary32 / hid binary32) (ones binary32)))
  where
    none : (b : Bool) → T (not (b && false))
    none true = tt
    none false = tt

pub float_from_bits-result : goal.float_from_bits-result
float_from_bits-result c = no_nan _

pub returns : goal.returns
unfolding Exact
returns c =
    let read = c.max_duty_cycle_raw.ensures in
    each Exact 16 c.max_duty_cycle_raw.result exact (omega arith) ∙ ap one_over2_to read

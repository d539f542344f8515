-- The part of the time that a DutyCycleReq allows: crates/claims/specs/DutyCycle.antt. Assumes nothing.
use Prim.Native.Nat.{ℕ, ◌*◌, ◌%◌, ◌^◌}
use mathlib.Core.Bool.{false}
use mathlib.Core.List.{[], ◌∷◌}
use mathlib.Core.Path.{◌≡◌, refl, sym, ap, ◌∙◌, subst}
use native.Mathlib.Omega.{arith}
use lib.Ieee.{Float, binary32, of_bits, to_bits, minus, up, down}
use lib.Ieee.Exact.{HasValue}
use lib.ListN.{get_or}
use Rattle.bits.proofs.Each.{Each, each}
use Rattle.fields.specs.Places.{number_at, duty_cycle_req_max_duty_cycle}
use Rattle.payloads.specs.Meanings.{one_over2_to}
use Rattle.payloads.proofs.duty_cycle.DutyCycleReqPayload.max_duty_cycle.Reads as max_duty_cycle
use Rattle.claims.specs.Outcomes.{Gives}
use Rattle.claims.specs.DutyCycle.{halvings, HasBits, DutyCycleTells}

low_nibble : (b : ℕ) → number_at duty_cycle_req_max_duty_cycle (b ∷ []) ≡ b % 16
low_nibble b = omega arith

told : (b : ℕ) (x : Float) → Gives max_duty_cycle.Post (record { 0 = b }, tt) x → x ≡ one_over2_to (b % 16)
told b x g = g.1.1 ∙ ap one_over2_to (low_nibble b)

-- what `HasValue` says of the size of 1 / 2 ^ n
Sized : ℕ → Type 0
Sized n = 1 * up (minus 0 n) * 2 ^ n ≡ 1 * down (minus 0 n)

sized : Each Sized 16
unfolding Sized
sized = (refl, (refl, (refl, (refl, (refl, (refl, (refl, (refl, (refl, (refl, (refl, (refl, (refl, (refl, (refl, (refl, tt))))))))))))))))

has_value : (b : ℕ) → HasValue (one_over2_to (b % 16)) false 1 (2 ^ (b % 16))
unfolding Sized
has_value b = (refl, each Sized 16 (b % 16) sized (omega arith))

Known : ℕ → Type 0
Known n = to_bits binary32 (one_over2_to n) ≡ get_or halvings n 0

known : Each Known 16
unfolding Known to_bits
known = (refl, (refl, (refl, (refl, (refl, (refl, (refl, (refl, (refl, (refl, (refl, (refl, (refl, (refl, (refl, (refl, tt))))))))))))))))

bits : (b : ℕ) → HasBits b (get_or halvings (b % 16) 0)
unfolding Known
bits b x g = ap (to_bits binary32) (told b x g) ∙ each Known 16 (b % 16) known (omega arith)

-- computed from what the contract says, in whatever form it says it
all_the_time : HasBits 0x00 0x3F800000
unfolding of_bits to_bits
all_the_time x g = ap (to_bits binary32) g.1.1

pub duty_cycle_tells : DutyCycleTells
duty_cycle_tells = record {
  number = λ b n g. g.1.1 ∙ low_nibble b;
  value = λ b x g. subst (λ (y : Float). HasValue y false 1 (2 ^ (b % 16))) (sym (told b x g)) (has_value b);
  bits = bits;
  all_the_time = all_the_time;
  least = bits 0x0F;
  neighbour = bits 0x10;
  high_nibble = bits 0xF1;
}

-- The part of the time that a DutyCycleReq allows (RULES: Y3, Y5), of every outcome that the contracts admit: the number that the payload holds, the
-- float as a number, and the float by its bits.
use Rattle.std.specs.Prelude.{ℕ, ◌%◌, ◌^◌, false, List, [], ◌∷◌, ◌≡◌, Float, get_or}
use Rattle.std.specs.Float.{binary32}
use Rattle.std.specs.Float.Ieee.{to_bits}
use Rattle.std.specs.Float.Ieee.Exact.{HasValue}
use Rattle.payloads.proofs.duty_cycle.DutyCycleReqPayload.max_duty_cycle.Reads as max_duty_cycle
use Rattle.payloads.proofs.duty_cycle.DutyCycleReqPayload.max_duty_cycle_raw.Reads as max_duty_cycle_raw
use Rattle.claims.specs.Outcomes.{Gives}

-- the bits of 1, of 1 / 2, of 1 / 4 and so on to 1 / 2 ^ 15, in the single precision of IEEE 754
abbrev pub halvings : List ℕ
halvings =
    0x3F800000 ∷ 0x3F000000 ∷ 0x3E800000 ∷ 0x3E000000 ∷
    0x3D800000 ∷ 0x3D000000 ∷ 0x3C800000 ∷ 0x3C000000 ∷
    0x3B800000 ∷ 0x3B000000 ∷ 0x3A800000 ∷ 0x3A000000 ∷
    0x39800000 ∷ 0x39000000 ∷ 0x38800000 ∷ 0x38000000 ∷ []

-- whatever `max_duty_cycle` may answer of the payload with this byte has these bits
abbrev pub HasBits : (byte bits : ℕ) → Type 0
HasBits b bits = (x : Float) → Gives max_duty_cycle.Post (record { 0 = b }, tt) x → to_bits binary32 x ≡ bits

pub record DutyCycleTells : Type 0 where
  -- the number is the byte's low nibble
  pub number : (b n : ℕ) → Gives max_duty_cycle_raw.Post (record { 0 = b }, tt) n → n ≡ b % 16
  -- the float is exactly 1 / 2 ^ n, n being that number: `HasValue x false a c` is that x is finite, not negative, and a / c in size
  pub value : (b : ℕ) (x : Float) → Gives max_duty_cycle.Post (record { 0 = b }, tt) x → HasValue x false 1 (2 ^ (b % 16))
  -- its bits, of each of the sixteen
  pub bits : (b : ℕ) → HasBits b (get_or halvings (b % 16) 0)
  -- P18
  pub all_the_time : HasBits 0x00 0x3F800000
  pub least : HasBits 0x0F 0x38000000
  pub neighbour : HasBits 0x10 0x3F800000
  pub high_nibble : HasBits 0xF1 0x3F000000

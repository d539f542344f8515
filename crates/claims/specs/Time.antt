-- The seconds of the network time (RULES: Y9, K8), of every outcome that the contracts admit: four bytes with the low one first, as they are read and
-- as they are written, so that a number that is set is the number that is read.
use Rattle.std.specs.Prelude.{ℕ, ◌+◌, ◌*◌, ◌/◌, ◌%◌, ◌^◌, ◌<◌, List, [], ◌∷◌, ◌≡◌, length, drop, Result, Ok, Err}
use Rattle.std.specs.Borrow.{Bor}
use Rattle.bits.specs.Memory.{over}
use Rattle.table.specs.Table.{named}
use Rattle.table.specs.declared.refusal.Refusal.{Refusal}
use Rattle.payloads.specs.declared.device_time.DeviceTimeAnsPayload.{DeviceTimeAnsPayload}
use Rattle.payloads.proofs.device_time.DeviceTimeAnsPayload.new.Reads as payload_new
use Rattle.payloads.proofs.device_time.DeviceTimeAnsPayload.seconds.Reads as seconds
use Rattle.creators.specs.Image.{image_length}
use Rattle.creators.specs.declared.device_time.DeviceTimeAnsCreator.{DeviceTimeAnsCreator}
use Rattle.creators.proofs.device_time.DeviceTimeAnsCreator.set_seconds.Reads as set_seconds
use Rattle.creators.proofs.device_time.DeviceTimeAnsCreatorCreator6.build.Reads as build
use Rattle.claims.specs.Outcomes.{Gives}

-- a payload was read, and its seconds may only be these
abbrev pub InSeconds : ℕ → Result DeviceTimeAnsPayload Refusal → Type 0
InSeconds s (Ok p) = (r : ℕ) → Gives seconds.Post (p, tt) r → r ≡ s
InSeconds s (Err n) = ⊥

pub record TimeTells : Type 0 where
  -- what is read of a payload
  pub read : (p : DeviceTimeAnsPayload) (r : ℕ) → Gives seconds.Post (p, tt) r → r ≡ p.0 + 256 * p.1 + 256 ^ 2 * p.2 + 256 ^ 3 * p.3
  -- what is written into a creator's image, behind the CID; the rest of the image stays
  pub written : (c d : DeviceTimeAnsCreator) (s : ℕ) → Gives set_seconds.Post (c, (s, tt)) d
      → d.«data» ≡ over c.«data» 1 (s % 256 ∷ s / 256 % 256 ∷ s / 256 ^ 2 % 256 ∷ s / 256 ^ 3 % 256 ∷ [])
  -- any number of 32 bits, set in any creator, whose image has its six bytes: what is built, less the CID, is a payload that reads as that number
  pub set_is_read : (c d : DeviceTimeAnsCreator) (s : ℕ) (image : List ℕ) (payload : Bor (List ℕ)) (a : Result DeviceTimeAnsPayload Refusal)
      → length c.«data» ≡ image_length (named "DeviceTimeAns") → s < 2 ^ 32
      → Gives set_seconds.Post (c, (s, tt)) d → Gives build.Post (d, tt) image
      → payload.now ≡ drop 1 image → Gives payload_new.Post (payload, tt) a → InSeconds s a

-- The seconds of the network time: crates/claims/specs/Time.antt. Assumes nothing.
use Prim.Native.Nat.{ℕ, ◌/◌, ◌%◌, ◌^◌}
use mathlib.Core.List.{List, [], ◌∷◌, append_assoc}
use mathlib.Core.Path.{◌≡◌, ap, ◌∙◌}
use native.Mathlib.Omega.{arith}
use lib.ListN.{length, take, drop, length-drop}
use Rattle.std.specs.Prelude.{Result, Ok, Err}
use Rattle.bits.specs.Memory.{over}
use Rattle.table.specs.Answers.{given}
use Rattle.table.specs.Told.{told}
use Rattle.table.specs.declared.refusal.Refusal.{Refusal}
use Rattle.fields.specs.Lists.{exactly}
use Rattle.fields.proofs.Lists.{exactly_given}
use Rattle.payloads.specs.Bytes.{device_time_ans_bytes}
use Rattle.payloads.specs.Meanings.{seconds_of}
use Rattle.payloads.specs.declared.device_time.DeviceTimeAnsPayload.{DeviceTimeAnsPayload}
use Rattle.creators.specs.Image.{put_bytes}
use Rattle.creators.specs.Setters.{low_bytes, seconds_at}
use Rattle.creators.proofs.Setters.{length_seconds, seconds_read}
use Rattle.claims.specs.Time.{InSeconds, TimeTells}

-- a payload that was read from bytes
in-seconds : (bytes : List ℕ) (s : ℕ) → seconds_of bytes ≡ s → (a : Result DeviceTimeAnsPayload Refusal) → told device_time_ans_bytes a ≡ given bytes → InSeconds s a
in-seconds bytes s e (Ok p) t = λ r g. let same : device_time_ans_bytes p ≡ bytes = cc in g.1.1 ∙ ap seconds_of same ∙ e
in-seconds bytes s e (Err n) t = cc

-- what is written, byte by byte
four_bytes : (image : List ℕ) (s : ℕ) → seconds_at image s ≡ over image 1 (s % 256 ∷ s / 256 % 256 ∷ s / 256 ^ 2 % 256 ∷ s / 256 ^ 3 % 256 ∷ [])
unfolding seconds_at put_bytes low_bytes
four_bytes image s =
    let third : s / 256 / 256 % 256 ≡ s / 256 ^ 2 % 256 = omega arith in
    let fourth : s / 256 / 256 / 256 % 256 ≡ s / 256 ^ 3 % 256 = omega arith in
    rw (fourth, third) (append_assoc (take 1 image) (s % 256 ∷ s / 256 % 256 ∷ s / 256 ^ 2 % 256 ∷ s / 256 ^ 3 % 256 ∷ []) (drop 5 image))

pub time_tells : TimeTells
time_tells = record {
  read = λ p r g. g.1.1 ∙ (omega arith);
  written = λ c d s g. g.1.1 ∙ four_bytes c.«data» s;
  set_is_read = λ c d s image payload a long small set built same new.
      let written : List ℕ = seconds_at c.«data» s in
      let here : payload.now ≡ drop 1 written = same ∙ ap (drop 1) (built.1.1 ∙ set.1.1) in
      let five : length (drop 1 written) ≡ 5 = length-drop 1 written ∙ (omega (arith, length_seconds c.«data» s (omega arith))) in
      in-seconds (drop 1 written) s (seconds_read c.«data» s (omega arith) small) a (new.1.1 ∙ ap (exactly 5) here ∙ exactly_given 5 (drop 1 written) five);
}

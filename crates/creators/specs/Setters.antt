-- The setters that write something other than their argument, over an image (RULES: K5, K7 to K9).
use Rattle.std.specs.Prelude.{ℕ, zero, suc, ◌/◌, ◌%◌, ◌^◌, Bool, false, cond, List, [], ◌∷◌, leb, ℤ, pos, neg_ℤ, nat_abs, ◌+ℤ◌}
use Rattle.std.specs.Int.Signed.{le_z, non_neg}
use Rattle.table.specs.Answers.{Consent}
use Rattle.fields.specs.Places.{
  Place,
  dev_status_ans_margin,
  dev_status_ans_whole,
  tx_param_setup_req_bit_zero,
  device_time_ans_seconds,
  device_time_ans_fraction,
}
use Rattle.creators.specs.Image.{put_at, put_bytes, only_if}

-- ---- TXParamSetupReq

-- a dwell setter sets its bit. The Rust clears bit 0 as well
unfoldable pub dwell_at : Place → List ℕ → List ℕ
dwell_at p image = put_at p (put_at tx_param_setup_req_bit_zero image 0) 1

-- ---- DevStatusAns

-- from -32 to 31
unfoldable pub is_margin : ℤ → Bool
is_margin m = cond (le_z (neg_ℤ (pos 32)) m) (le_z m (pos 31)) false

-- a margin in the bits of its field: below 0 it has 64 added
unfoldable pub six_bits : ℤ → ℕ
six_bits m = nat_abs (cond (non_neg m) m (m +ℤ pos (2 ^ dev_status_ans_margin.width)))

-- the two bits above the margin are written 0. Refusal 9, MarginOutOfRange
unfoldable pub margin_at : List ℕ → ℤ → Consent × List ℕ
margin_at image m = only_if (is_margin m) 9 image (put_at dev_status_ans_whole image (six_bits m))

-- ---- DeviceTimeAns

-- the low n bytes of a number, low byte first
unfoldable pub low_bytes : ℕ → ℕ → List ℕ
low_bytes zero x = []
low_bytes (suc n) x = x % 256 ∷ low_bytes n (x / 256)

unfoldable pub seconds_at : List ℕ → ℕ → List ℕ
seconds_at image s = put_bytes device_time_ans_seconds image (low_bytes 4 s)

-- whole steps of 1/256 second, each 3,906,250 nanoseconds, mod 256. Refusal 12, NanoSecondsOutOfRange
unfoldable pub nano_seconds_at : List ℕ → ℕ → Consent × List ℕ
nano_seconds_at image n = only_if (leb n 1_000_000_000) 12 image (put_at device_time_ans_fraction image (n / 3_906_250 % 256))

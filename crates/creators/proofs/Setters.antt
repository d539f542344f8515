-- What is read after the setters of specs/Setters.antt and after `set_delay`, and what the dwell setters leave. Assumes nothing.
use Prim.Native.Nat.{ℕ, ◌+◌, ◌*◌, ◌/◌, ◌%◌, ◌^◌, ◌<◌, ◌≤◌, max}
use mathlib.Core.Path.{◌≡◌, refl, sym, ap, ◌∙◌, subst}
use mathlib.Core.Bool.{Bool, true, false}
use mathlib.Core.List.{List}
use mathlib.Core.Logic.{inl, inr}
use native.Mathlib.Omega.{arith}
use lib.Dec.{lit<}
use lib.IntN.{ℤ}
use lib.ListN.{length, get_or}
use lib.Seq.{get_or-drop}
use borrow.Author.Tests.{le-leb}
use Rattle.bits.specs.Bits.{field, bit_on}
use Rattle.table.specs.Answers.{accepted}
use Rattle.fields.specs.Lists.{low_first}
use Rattle.fields.specs.Places.{
  bit,
  yes_at,
  bytes_at,
  dev_status_ans_margin,
  dev_status_ans_whole,
  rx_timing_setup_req_delay,
  tx_param_setup_req_bit_zero,
  device_time_ans_seconds,
  device_time_ans_fraction,
}
use Rattle.payloads.specs.Meanings.{signed, margin_of, delay_of, seconds_of, nano_seconds_of}
use Rattle.creators.specs.Image.{put_at, only_if, checked_at}
use Rattle.creators.specs.Setters.{dwell_at, is_margin, six_bits, margin_at, low_bytes, seconds_at, nano_seconds_at}
use Rattle.creators.proofs.Margin.{six_bits_fit, signed_six}
use Rattle.creators.proofs.ReadBack.{
  payload_of,
  Outside,
  length_put,
  reads,
  says,
  leaves,
  accepted_writes,
  checked_reads,
  reads_within,
  length_run,
  reads_run,
}

-- ---- TXParamSetupReq

module _ (lo : ℕ) (image : List ℕ) (here : 1 < length image) where
  still : 1 < length (put_at tx_param_setup_req_bit_zero image 0)
  still = subst (λ (n : ℕ). 1 < n) (sym (length_put tx_param_setup_req_bit_zero image 0)) here

  pub dwell_says : yes_at (bit 0 lo) (payload_of (dwell_at (bit 0 lo) image)) ≡ true
  unfolding dwell_at
  dwell_says = says 0 lo (put_at tx_param_setup_req_bit_zero image 0) true still

  -- every bit outside its own stays, but bit 0
  pub dwell_leaves : (j k : ℕ) → Outside (bit 0 lo) j k → Outside tx_param_setup_req_bit_zero j k → bit_on k (get_or (dwell_at (bit 0 lo) image) j 0) ≡ bit_on k (get_or image j 0)
  unfolding dwell_at
  dwell_leaves j k o z =
      leaves (bit 0 lo) (put_at tx_param_setup_req_bit_zero image 0) 1 still (lit< tt) j k o
      ∙ leaves tx_param_setup_req_bit_zero image 0 here (lit< tt) j k z

  -- which is clear, where its own is another
  pub dwell_clears : 0 < lo → yes_at tx_param_setup_req_bit_zero (payload_of (dwell_at (bit 0 lo) image)) ≡ false
  unfolding dwell_at
  dwell_clears h =
      ap (bit_on 0) (get_or-drop 1 (dwell_at (bit 0 lo) image) 0 0)
      ∙ leaves (bit 0 lo) (put_at tx_param_setup_req_bit_zero image 0) 1 still (lit< tt) 1 0 (inr (inl h))
      ∙ sym (ap (bit_on 0) (get_or-drop 1 (put_at tx_param_setup_req_bit_zero image 0) 0 0))
      ∙ says 0 0 image false here

-- ---- DevStatusAns

-- an accepted margin is the margin read, in an image of bytes
pub margin_reads : (image : List ℕ) (m : ℤ) → 2 < length image → get_or image 2 0 < 2 ^ 8 → (margin_at image m).0 ≡ accepted → margin_of (payload_of (margin_at image m).1) ≡ m
unfolding margin_at
margin_reads image m here byte e =
    let w = accepted_writes (is_margin m) 9 image (put_at dev_status_ans_whole image (six_bits m)) e in
    let f : field 0 6 (six_bits m) ≡ six_bits m = let s : six_bits m < 64 = six_bits_fit m w.0 in omega arith in
    ap (λ (i : List ℕ). margin_of (payload_of i)) w.1
    ∙ ap (signed 6) (reads_within dev_status_ans_margin image (six_bits m) here byte ∙ f)
    ∙ signed_six m w.0

-- ---- RXTimingSetupReq

-- of an accepted code as many seconds are read as it says, and of code 0 one (RULES: K10)
pub delay_reads : (image : List ℕ) (code : ℕ) → 1 < length image → (checked_at rx_timing_setup_req_delay 10 image code).0 ≡ accepted
    → delay_of (payload_of (checked_at rx_timing_setup_req_delay 10 image code).1) ≡ max 1 code
delay_reads image code here e = ap (max 1) (checked_reads rx_timing_setup_req_delay 10 image code here e)

-- ---- DeviceTimeAns

module _ (image : List ℕ) (s : ℕ) (here : 4 < length image) where
  pub length_seconds : length (seconds_at image s) ≡ length image
  unfolding seconds_at low_bytes
  length_seconds = length_run device_time_ans_seconds image (low_bytes 4 s) here refl

  -- the bytes of the number, low byte first
  pub seconds_bytes : bytes_at device_time_ans_seconds (payload_of (seconds_at image s)) ≡ low_bytes 4 s
  unfolding seconds_at low_bytes
  seconds_bytes = reads_run device_time_ans_seconds image (low_bytes 4 s) here refl

  -- so what is read is the number set
  pub seconds_read : s < 2 ^ 32 → seconds_of (payload_of (seconds_at image s)) ≡ s
  unfolding low_bytes
  seconds_read h = ap low_first seconds_bytes ∙ (omega arith)

-- of less than a second, the nanoseconds read are those set or fewer, by less than a step (RULES: K7)
pub nanos_read : (image : List ℕ) (n : ℕ) → 5 < length image → n < 1_000_000_000
    → (nano_seconds_of (payload_of (nano_seconds_at image n).1) ≤ n) × (n < nano_seconds_of (payload_of (nano_seconds_at image n).1) + 3_906_250)
unfolding nano_seconds_at
nanos_read image n here h =
    let steps = n / 3_906_250 % 256 in
    let written = put_at device_time_ans_fraction image steps in
    let e : nano_seconds_of (payload_of (nano_seconds_at image n).1) ≡ steps * 3_906_250 =
    ap (λ (ok : Bool). nano_seconds_of (payload_of (only_if ok 12 image written).1)) (le-leb n 1_000_000_000 (omega arith))
    ∙ ap (λ (k : ℕ). k * 3_906_250) (reads device_time_ans_fraction image steps here (omega arith)) in
    rw e (omega arith, omega arith)

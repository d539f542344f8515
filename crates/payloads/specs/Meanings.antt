-- What the fields mean that are more than a number or a flag (RULES: Y5 to Y10). Where they stand is in Rattle.fields.specs.Places; what an
-- answer's flags mean together is in Acceptance.antt, and what a frequency, a mask and the settings mean is in crate fields.
use Rattle.std.specs.Prelude.{ℕ, ◌-◌, ◌*◌, ◌^◌, max, false, cond, List, [], ◌∷◌, ltb, ℤ, pos, ◌-ℤ◌, Float, get_or}
use Rattle.std.specs.Float.{fin}
use Rattle.std.specs.Float.Ieee.{minus}
use Rattle.fields.specs.Lists.{low_first}
use Rattle.fields.specs.Places.{
  number_at,
  bytes_at,
  duty_cycle_req_max_duty_cycle,
  dev_status_ans_margin,
  rx_timing_setup_req_delay,
  tx_param_setup_req_max_eirp,
  device_time_ans_seconds,
  device_time_ans_fraction,
}

-- ---- DutyCycleReq (the standard, 5.3)

-- 1 / 2 ^ n as a float: `fin false m e` is the number m * 2 ^ e
abbrev pub one_over2_to : ℕ → Float
one_over2_to n = fin false 1 (minus 0 n)

abbrev pub max_duty_cycle_of : List ℕ → Float
max_duty_cycle_of payload = one_over2_to (number_at duty_cycle_req_max_duty_cycle payload)

-- ---- DevStatusAns (the standard, 5.5)

-- a number of some bits as a signed number: from half of 2 ^ bits on, less 2 ^ bits
abbrev pub signed : ℕ → ℕ → ℤ
signed bits n = cond (ltb n (2 ^ (bits - 1))) (pos n) (pos n -ℤ pos (2 ^ bits))

abbrev pub margin_of : List ℕ → ℤ
margin_of payload = signed dev_status_ans_margin.width (number_at dev_status_ans_margin payload)

-- ---- RXTimingSetupReq (the standard, 5.7)

-- as many seconds as the number says, but 1 at least: a 0 is 1 second (RULES: Y7)
abbrev pub delay_of : List ℕ → ℕ
delay_of payload = max 1 (number_at rx_timing_setup_req_delay payload)

-- ---- TXParamSetupReq (the standard, 5.8)

-- the powers in dBm, by the number that stands for each
abbrev pub powers : List ℕ
powers = 8 ∷ 10 ∷ 12 ∷ 13 ∷ 14 ∷ 16 ∷ 18 ∷ 20 ∷ 21 ∷ 24 ∷ 26 ∷ 27 ∷ 29 ∷ 30 ∷ 33 ∷ 36 ∷ []

abbrev pub max_eirp_of : List ℕ → ℕ
max_eirp_of payload = get_or powers (number_at tx_param_setup_req_max_eirp payload) 0

-- ---- DeviceTimeAns (the standard, 5.9)

-- the seconds come with the low byte first (RULES: Y9)
abbrev pub seconds_of : List ℕ → ℕ
seconds_of payload = low_first (bytes_at device_time_ans_seconds payload)

-- a step of 1/256 second is 3,906,250 nanoseconds
abbrev pub nano_seconds_of : List ℕ → ℕ
nano_seconds_of payload = number_at device_time_ans_fraction payload * 3_906_250

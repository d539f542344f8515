-- The three settings of one byte (RULES: S1 to S4).
use Rattle.std.specs.Prelude.{ℕ, Bool, cond, ltb}
use Rattle.bits.specs.Bits.{field}
use Rattle.table.specs.Answers.{Answer, given, refused, Consent, accepted}

-- ---- DLSettings (the standard, 5.4): RFU bit 7, RX1DRoffset bits 6..4, RX2DataRate bits 3..0

abbrev pub rx1_dr_offset : ℕ → ℕ
rx1_dr_offset b = field 4 3 b

abbrev pub rx2_data_rate : ℕ → ℕ
rx2_data_rate b = field 0 4 b

-- ---- Redundancy (the standard, 5.2): RFU bit 7, ChMaskCntl bits 6..4, NbTrans bits 3..0

abbrev pub channel_mask_control : ℕ → ℕ
channel_mask_control b = field 4 3 b

abbrev pub number_of_transmissions : ℕ → ℕ
number_of_transmissions b = field 0 4 b

-- ---- DataRateRange (the standard, 5.6, DrRange): MaxDR bits 7..4, MinDR bits 3..0

abbrev pub max_data_rate : ℕ → ℕ
max_data_rate b = field 4 4 b

abbrev pub min_data_rate : ℕ → ℕ
min_data_rate b = field 0 4 b

-- refusal 6, InvalidDataRateRange: the high nibble is below the low nibble
abbrev pub upside_down : ℕ → Bool
upside_down b = ltb (max_data_rate b) (min_data_rate b)

-- the checked range of a byte, and whether there is one
abbrev pub range_of : ℕ → Answer ℕ
range_of b = cond (upside_down b) (refused 6) (given b)

abbrev pub range_verdict : ℕ → Consent
range_verdict b = cond (upside_down b) (refused 6) accepted

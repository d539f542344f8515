-- Any two outcomes that a public function's contract admits are equal. Assumes nothing.
use Prim.Native.Nat.{ℕ}
use mathlib.Core.Path.{sym, refl, ap, ◌∙◌}
use mathlib.Core.List.{List}
use mir.Val.{Fits}
use mir.Syntax.{w64}
use Rattle.bits.proofs.Fixed.{Fixed, FixedWith}
use Rattle.table.proofs.Told.{tells, verdict_tells, beside_tells}
use Rattle.fields.specs.Frequency.{bytes_of}
use Rattle.fields.proofs.Told.{frequency_tells}
use Rattle.fields.proofs.dl_settings.DLSettings.new.Reads as dl_new
use Rattle.fields.proofs.dl_settings.DLSettingsFromU8.from.Reads as dl_from
use Rattle.fields.proofs.dl_settings.DLSettings.rx1_dr_offset.Reads as dl_rx1_dr_offset
use Rattle.fields.proofs.dl_settings.DLSettings.rx2_data_rate.Reads as dl_rx2_data_rate
use Rattle.fields.proofs.dl_settings.DLSettings.raw_value.Reads as dl_raw_value
use Rattle.fields.proofs.redundancy.Redundancy.new.Reads as redundancy_new
use Rattle.fields.proofs.redundancy.RedundancyFromU8.from.Reads as redundancy_from
use Rattle.fields.proofs.redundancy.Redundancy.channel_mask_control.Reads as redundancy_channel_mask_control
use Rattle.fields.proofs.redundancy.Redundancy.number_of_transmissions.Reads as redundancy_number_of_transmissions
use Rattle.fields.proofs.redundancy.Redundancy.raw_value.Reads as redundancy_raw_value
use Rattle.fields.proofs.data_rate_range.DataRateRange.new_from_raw.Reads as range_new_from_raw
use Rattle.fields.proofs.data_rate_range.DataRateRangeFromU8.from.Reads as range_from
use Rattle.fields.proofs.data_rate_range.DataRateRange.new.Reads as range_new
use Rattle.fields.proofs.data_rate_range.DataRateRange.can_build_from.Reads as range_can_build_from
use Rattle.fields.proofs.data_rate_range.DataRateRange.max_data_rate.Reads as range_max_data_rate
use Rattle.fields.proofs.data_rate_range.DataRateRange.min_data_rate.Reads as range_min_data_rate
use Rattle.fields.proofs.data_rate_range.DataRateRange.raw_value.Reads as range_raw_value
use Rattle.fields.proofs.frequency.Frequency.new.Reads as frequency_new
use Rattle.fields.proofs.frequency.FrequencyFromArrayU83.from.Reads as frequency_from
use Rattle.fields.proofs.frequency.Frequency.value.Reads as frequency_value
use Rattle.fields.proofs.frequency.Frequency.as_ref.Reads as frequency_as_ref
use Rattle.fields.proofs.channel_mask.ChannelMaskDefault.default.Reads as mask_default
use Rattle.fields.proofs.channel_mask.ChannelMask.new.Reads as mask_new
use Rattle.fields.proofs.channel_mask.ChannelMaskFromArrayU8.from.Reads as mask_from
use Rattle.fields.proofs.channel_mask.ChannelMask.as_ref.Reads as mask_as_ref
use Rattle.fields.proofs.channel_mask.ChannelMask.set_bank.Reads as mask_set_bank
use Rattle.fields.proofs.channel_mask.ChannelMask.get_index.Reads as mask_get_index
use Rattle.fields.proofs.channel_mask.ChannelMask.set_channel.Reads as mask_set_channel
use Rattle.fields.proofs.channel_mask.ChannelMask.is_enabled.Reads as mask_is_enabled
use Rattle.fields.proofs.channel_mask.ChannelMask+2.statuses.Reads as mask2_statuses
use Rattle.fields.proofs.channel_mask.ChannelMask+2.channels_on.Reads as mask2_channels_on
use Rattle.fields.proofs.channel_mask.ChannelMask+9.statuses.Reads as mask9_statuses

dl_new_one : Fixed dl_new.Post
dl_new_one _ _ _ _ _ _ p q = ap (λ (b : ℕ). record { 0 = b }) (p ∙ sym q)

dl_from_one : Fixed dl_from.Post
dl_from_one _ _ _ _ _ _ p q = ap (λ (b : ℕ). record { 0 = b }) (p ∙ sym q)

dl_rx1_dr_offset_one : Fixed dl_rx1_dr_offset.Post
dl_rx1_dr_offset_one _ _ _ _ _ _ p q = p ∙ sym q

dl_rx2_data_rate_one : Fixed dl_rx2_data_rate.Post
dl_rx2_data_rate_one _ _ _ _ _ _ p q = p ∙ sym q

dl_raw_value_one : Fixed dl_raw_value.Post
dl_raw_value_one _ _ _ _ _ _ p q = p ∙ sym q

redundancy_new_one : Fixed redundancy_new.Post
redundancy_new_one _ _ _ _ _ _ p q = ap (λ (b : ℕ). record { 0 = b }) (p ∙ sym q)

redundancy_from_one : Fixed redundancy_from.Post
redundancy_from_one _ _ _ _ _ _ p q = ap (λ (b : ℕ). record { 0 = b }) (p ∙ sym q)

redundancy_channel_mask_control_one : Fixed redundancy_channel_mask_control.Post
redundancy_channel_mask_control_one _ _ _ _ _ _ p q = p ∙ sym q

redundancy_number_of_transmissions_one : Fixed redundancy_number_of_transmissions.Post
redundancy_number_of_transmissions_one _ _ _ _ _ _ p q = p ∙ sym q

redundancy_raw_value_one : Fixed redundancy_raw_value.Post
redundancy_raw_value_one _ _ _ _ _ _ p q = p ∙ sym q

range_new_from_raw_one : Fixed range_new_from_raw.Post
range_new_from_raw_one _ _ _ _ _ _ p q = ap (λ (b : ℕ). record { 0 = b }) (p ∙ sym q)

range_from_one : Fixed range_from.Post
range_from_one _ _ _ _ _ _ p q = ap (λ (b : ℕ). record { 0 = b }) (p ∙ sym q)

range_new_one : Fixed range_new.Post
range_new_one _ _ _ _ _ _ p q = tells (λ r. r.0) (λ b. record { 0 = b }) (λ r. refl) (p ∙ sym q)

range_can_build_from_one : Fixed range_can_build_from.Post
range_can_build_from_one _ _ _ _ _ _ p q = verdict_tells (p ∙ sym q)

range_max_data_rate_one : Fixed range_max_data_rate.Post
range_max_data_rate_one _ _ _ _ _ _ p q = p ∙ sym q

range_min_data_rate_one : Fixed range_min_data_rate.Post
range_min_data_rate_one _ _ _ _ _ _ p q = p ∙ sym q

range_raw_value_one : Fixed range_raw_value.Post
range_raw_value_one _ _ _ _ _ _ p q = p ∙ sym q

frequency_new_one : Fixed frequency_new.Post
frequency_new_one _ _ _ _ _ _ p q = tells bytes_of (λ s. record { 0 = s }) (λ _. refl) (p ∙ sym q)

frequency_from_one : Fixed frequency_from.Post
frequency_from_one _ _ _ _ _ _ p q = frequency_tells (p ∙ sym q)

frequency_value_one : Fixed frequency_value.Post
frequency_value_one _ _ _ _ _ _ p q = p ∙ sym q

frequency_as_ref_one : Fixed frequency_as_ref.Post
frequency_as_ref_one _ _ _ _ _ _ p q = p ∙ sym q

-- of a mask of any width
mask_default_one : (n : ℕ) (fits : Fits w64 n) → Fixed (mask_default.Post n fits)
mask_default_one n fits _ _ _ _ _ _ p q = ap (λ (m : List ℕ). record { 0 = m }) (p ∙ sym q)

mask_new_one : (n : ℕ) (fits : Fits w64 n) → Fixed (mask_new.Post n fits)
mask_new_one n fits _ _ _ _ _ _ p q = tells (λ m. m.0) (λ m. record { 0 = m }) (λ _. refl) (p ∙ sym q)

mask_from_one : (n : ℕ) (fits : Fits w64 n) → Fixed (mask_from.Post n fits)
mask_from_one n fits _ _ _ _ _ _ p q = ap (λ (m : List ℕ). record { 0 = m }) (p ∙ sym q)

mask_as_ref_one : (n : ℕ) (fits : Fits w64 n) → Fixed (mask_as_ref.Post n fits)
mask_as_ref_one n fits _ _ _ _ _ _ p q = p ∙ sym q

mask_set_bank_one : (n : ℕ) (fits : Fits w64 n) → FixedWith (λ s. s.0.now) (mask_set_bank.Post n fits)
mask_set_bank_one n fits _ _ _ _ _ _ p q = beside_tells (λ v m. (v, record { 0 = m })) (p ∙ sym q)

mask_get_index_one : (n : ℕ) (fits : Fits w64 n) → Fixed (mask_get_index.Post n fits)
mask_get_index_one n fits _ _ _ _ _ _ p q = tells (λ b. b) (λ b. b) (λ _. refl) (p ∙ sym q)

mask_set_channel_one : (n : ℕ) (fits : Fits w64 n) → FixedWith (λ s. s.0.now) (mask_set_channel.Post n fits)
mask_set_channel_one n fits _ _ _ _ _ _ p q = beside_tells (λ v m. (v, record { 0 = m })) (p ∙ sym q)

mask_is_enabled_one : (n : ℕ) (fits : Fits w64 n) → Fixed (mask_is_enabled.Post n fits)
mask_is_enabled_one n fits _ _ _ _ _ _ p q = tells (λ b. b) (λ b. b) (λ _. refl) (p ∙ sym q)

mask2_statuses_one : Fixed mask2_statuses.Post
mask2_statuses_one _ _ _ _ _ _ p q = p ∙ sym q

mask2_channels_on_one : Fixed mask2_channels_on.Post
mask2_channels_on_one _ _ _ _ _ _ p q = p ∙ sym q

mask9_statuses_one : Fixed mask9_statuses.Post
mask9_statuses_one _ _ _ _ _ _ p q = p ∙ sym q

-- Not for the auditor: only private functions cite this. A row of a ledger's settings.
use Rattle.std.specs.Prelude.{List, [], Option, None, Some}
use Rattle.ledger.specs.Memory.{parents_in}
use Rattle.ledger.specs.Settings.{
  Setting,
  data_rate,
  tx_power,
  channel_mask,
  redundancy,
  max_duty_cycle,
  rx1_dr_offset,
  rx2_data_rate,
  rx2_frequency,
  delay,
  downlink_dwell_time,
  uplink_dwell_time,
  max_eirp,
  channel_frequency,
  channel_rates,
  downlink_frequency,
}
use Rattle.ledger.specs.declared.memory.Asked.{Asked}
use Rattle.ledger.specs.declared.memory.Parents.{Parents}
use Rattle.ledger.specs.declared.settings.Which.{Which}
use Rattle.ledger.specs.declared.settings.Which.TheVariants.{
  DataRate,
  TxPower,
  ChannelMask,
  Redundancy,
  MaxDutyCycle,
  Rx1DrOffset,
  Rx2DataRate,
  Rx2Frequency,
  Delay,
  DownlinkDwellTime,
  UplinkDwellTime,
  MaxEirp,
  ChannelFrequency,
  ChannelRates,
  DownlinkFrequency,
}

-- the setting that is asked for
abbrev pub setting_of : Which → Setting
setting_of DataRate = data_rate
setting_of TxPower = tx_power
setting_of ChannelMask = channel_mask
setting_of Redundancy = redundancy
setting_of MaxDutyCycle = max_duty_cycle
setting_of Rx1DrOffset = rx1_dr_offset
setting_of Rx2DataRate = rx2_data_rate
setting_of Rx2Frequency = rx2_frequency
setting_of Delay = delay
setting_of DownlinkDwellTime = downlink_dwell_time
setting_of UplinkDwellTime = uplink_dwell_time
setting_of MaxEirp = max_eirp
setting_of (ChannelFrequency i) = channel_frequency i
setting_of (ChannelRates i) = channel_rates i
setting_of (DownlinkFrequency i) = downlink_frequency i

-- the parents that there are
abbrev pub parents_told : Option Parents → List Asked
parents_told None = []
parents_told (Some p) = parents_in p

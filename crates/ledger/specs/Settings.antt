-- The settings that are held (RULES: X9, X10): for each the request that writes it, and what that request says of it, by the readers.
use Rattle.std.specs.Prelude.{ℕ, Bool, true, ◌&&◌, ◌||◌, List, eqb, ltb}
use Rattle.table.specs.Table.{Command, named}
use Rattle.fields.specs.Frequency.{hertz}
use Rattle.fields.specs.Lists.{low_first}
use Rattle.fields.specs.Places.{
  number_at,
  bytes_at,
  link_adr_req_data_rate,
  link_adr_req_tx_power,
  link_adr_req_channel_mask,
  link_adr_req_redundancy,
  duty_cycle_req_max_duty_cycle,
  rx_param_setup_req_dl_settings,
  rx_param_setup_req_frequency,
  new_channel_req_channel_index,
  new_channel_req_frequency,
  new_channel_req_data_rate_range,
  tx_param_setup_req_downlink_dwell_time,
  tx_param_setup_req_uplink_dwell_time,
  dl_channel_req_channel_index,
  dl_channel_req_frequency,
}
use Rattle.fields.specs.Settings.{rx1_dr_offset as rx1_dr_offset_of, rx2_data_rate as rx2_data_rate_of}
use Rattle.payloads.specs.Meanings.{delay_of, max_eirp_of}
use Rattle.ledger.specs.Events.{Request}

pub data Setting : Type 0 where
  data_rate : Setting
  tx_power : Setting
  channel_mask : Setting
  redundancy : Setting
  max_duty_cycle : Setting
  rx1_dr_offset : Setting
  rx2_data_rate : Setting
  rx2_frequency : Setting
  delay : Setting
  downlink_dwell_time : Setting
  uplink_dwell_time : Setting
  max_eirp : Setting
  channel_frequency : (channel : ℕ) → Setting
  channel_rates : (channel : ℕ) → Setting
  downlink_frequency : (channel : ℕ) → Setting

-- the request that writes it
abbrev pub writer : Setting → Command
writer data_rate = named "LinkADRReq"
writer tx_power = named "LinkADRReq"
writer channel_mask = named "LinkADRReq"
writer redundancy = named "LinkADRReq"
writer max_duty_cycle = named "DutyCycleReq"
writer rx1_dr_offset = named "RXParamSetupReq"
writer rx2_data_rate = named "RXParamSetupReq"
writer rx2_frequency = named "RXParamSetupReq"
writer delay = named "RXTimingSetupReq"
writer downlink_dwell_time = named "TXParamSetupReq"
writer uplink_dwell_time = named "TXParamSetupReq"
writer max_eirp = named "TXParamSetupReq"
writer (channel_frequency i) = named "NewChannelReq"
writer (channel_rates i) = named "NewChannelReq"
writer (downlink_frequency i) = named "DlChannelReq"

-- what its payload says
abbrev pub says : Setting → List ℕ → ℕ
says data_rate p = number_at link_adr_req_data_rate p
says tx_power p = number_at link_adr_req_tx_power p
says channel_mask p = low_first (bytes_at link_adr_req_channel_mask p)
says redundancy p = number_at link_adr_req_redundancy p
says max_duty_cycle p = number_at duty_cycle_req_max_duty_cycle p
says rx1_dr_offset p = rx1_dr_offset_of (number_at rx_param_setup_req_dl_settings p)
says rx2_data_rate p = rx2_data_rate_of (number_at rx_param_setup_req_dl_settings p)
says rx2_frequency p = hertz (bytes_at rx_param_setup_req_frequency p)
says delay p = delay_of p
says downlink_dwell_time p = number_at tx_param_setup_req_downlink_dwell_time p
says uplink_dwell_time p = number_at tx_param_setup_req_uplink_dwell_time p
says max_eirp p = max_eirp_of p
says (channel_frequency i) p = hertz (bytes_at new_channel_req_frequency p)
says (channel_rates i) p = number_at new_channel_req_data_rate_range p
says (downlink_frequency i) p = hertz (bytes_at dl_channel_req_frequency p)

-- a request is for a channel's setting if it names that channel, and the channel is held, and for any other setting whatever it says
abbrev pub is_for : Setting → List ℕ → Bool
is_for data_rate p = true
is_for tx_power p = true
is_for channel_mask p = true
is_for redundancy p = true
is_for max_duty_cycle p = true
is_for rx1_dr_offset p = true
is_for rx2_data_rate p = true
is_for rx2_frequency p = true
is_for delay p = true
is_for downlink_dwell_time p = true
is_for uplink_dwell_time p = true
is_for max_eirp p = true
is_for (channel_frequency i) p = eqb i (number_at new_channel_req_channel_index p) && ltb i 16
is_for (channel_rates i) p = eqb i (number_at new_channel_req_channel_index p) && ltb i 16
is_for (downlink_frequency i) p = eqb i (number_at dl_channel_req_channel_index p) && ltb i 16

-- a request writes a setting: it is the one that does, and it is for the setting's channel, which is below 16
abbrev pub writes : Request → Setting → Bool
writes r σ = eqb r.cid (writer σ).cid && is_for σ r.body

-- a request for a channel that is not held
abbrev pub is_beyond : Request → Bool
is_beyond r =
    (eqb r.cid (named "NewChannelReq").cid && ltb 15 (number_at new_channel_req_channel_index r.body))
    || (eqb r.cid (named "DlChannelReq").cid && ltb 15 (number_at dl_channel_req_channel_index r.body))

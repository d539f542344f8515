-- Any two outcomes that a public function's contract admits are equal. Assumes nothing.
use Prim.Native.Nat.{ℕ}
use mathlib.Core.Path.{◌≡◌, sym, ap, ◌∙◌}
use mathlib.Core.List.{List}
use Rattle.bits.proofs.Fixed.{Fixed}
use Rattle.fields.proofs.Told.{frequency_tells}
use Rattle.payloads.specs.declared.payload_bytes.PayloadBytes.{PayloadBytes}
use Rattle.payloads.proofs.Told.{
  link_check_ans_tells,
  link_adr_req_tells,
  link_adr_ans_tells,
  duty_cycle_req_tells,
  rx_param_setup_req_tells,
  rx_param_setup_ans_tells,
  dev_status_ans_tells,
  new_channel_req_tells,
  new_channel_ans_tells,
  rx_timing_setup_req_tells,
  tx_param_setup_req_tells,
  dl_channel_req_tells,
  dl_channel_ans_tells,
  device_time_ans_tells,
  link_check_ans_bytes_tell,
  link_adr_req_bytes_tell,
}
use Rattle.payloads.proofs.link_check.LinkCheckReqPayload.new.Reads as link_check_req_new
use Rattle.payloads.proofs.link_check.LinkCheckReqPayloadCommandType.cid.Reads as link_check_req_cid
use Rattle.payloads.proofs.link_check.LinkCheckReqPayloadCommandType.uplink.Reads as link_check_req_uplink
use Rattle.payloads.proofs.link_check.LinkCheckReqPayloadCommandType.len.Reads as link_check_req_len
use Rattle.payloads.proofs.link_check.LinkCheckReqPayload.bytes.Reads as link_check_req_bytes
use Rattle.payloads.proofs.link_check.LinkCheckAnsPayload.new.Reads as link_check_ans_new
use Rattle.payloads.proofs.link_check.LinkCheckAnsPayloadFromArrayU82.from.Reads as link_check_ans_from
use Rattle.payloads.proofs.link_check.LinkCheckAnsPayloadCommandType.cid.Reads as link_check_ans_cid
use Rattle.payloads.proofs.link_check.LinkCheckAnsPayloadCommandType.uplink.Reads as link_check_ans_uplink
use Rattle.payloads.proofs.link_check.LinkCheckAnsPayloadCommandType.len.Reads as link_check_ans_len
use Rattle.payloads.proofs.link_check.LinkCheckAnsPayload.bytes.Reads as link_check_ans_bytes
use Rattle.payloads.proofs.link_check.LinkCheckAnsPayload.margin.Reads as link_check_ans_margin
use Rattle.payloads.proofs.link_check.LinkCheckAnsPayload.gateway_count.Reads as link_check_ans_gateway_count
use Rattle.payloads.proofs.link_adr.LinkADRReqPayload.new.Reads as link_adr_req_new
use Rattle.payloads.proofs.link_adr.LinkADRReqPayloadFromArrayU84.from.Reads as link_adr_req_from
use Rattle.payloads.proofs.link_adr.LinkADRReqPayloadCommandType.cid.Reads as link_adr_req_cid
use Rattle.payloads.proofs.link_adr.LinkADRReqPayloadCommandType.uplink.Reads as link_adr_req_uplink
use Rattle.payloads.proofs.link_adr.LinkADRReqPayloadCommandType.len.Reads as link_adr_req_len
use Rattle.payloads.proofs.link_adr.LinkADRReqPayload.bytes.Reads as link_adr_req_bytes
use Rattle.payloads.proofs.link_adr.LinkADRReqPayload.data_rate.Reads as link_adr_req_data_rate
use Rattle.payloads.proofs.link_adr.LinkADRReqPayload.tx_power.Reads as link_adr_req_tx_power
use Rattle.payloads.proofs.link_adr.LinkADRReqPayload.channel_mask.Reads as link_adr_req_channel_mask
use Rattle.payloads.proofs.link_adr.LinkADRReqPayload.redundancy.Reads as link_adr_req_redundancy
use Rattle.payloads.proofs.link_adr.LinkADRAnsPayload.new.Reads as link_adr_ans_new
use Rattle.payloads.proofs.link_adr.LinkADRAnsPayloadCommandType.cid.Reads as link_adr_ans_cid
use Rattle.payloads.proofs.link_adr.LinkADRAnsPayloadCommandType.uplink.Reads as link_adr_ans_uplink
use Rattle.payloads.proofs.link_adr.LinkADRAnsPayloadCommandType.len.Reads as link_adr_ans_len
use Rattle.payloads.proofs.link_adr.LinkADRAnsPayload.bytes.Reads as link_adr_ans_bytes
use Rattle.payloads.proofs.link_adr.LinkADRAnsPayload.channel_mask_ack.Reads as link_adr_ans_channel_mask_ack
use Rattle.payloads.proofs.link_adr.LinkADRAnsPayload.data_rate_ack.Reads as link_adr_ans_data_rate_ack
use Rattle.payloads.proofs.link_adr.LinkADRAnsPayload.powert_ack.Reads as link_adr_ans_powert_ack
use Rattle.payloads.proofs.link_adr.LinkADRAnsPayload.ack.Reads as link_adr_ans_ack
use Rattle.payloads.proofs.duty_cycle.DutyCycleReqPayload.new.Reads as duty_cycle_req_new
use Rattle.payloads.proofs.duty_cycle.DutyCycleReqPayloadCommandType.cid.Reads as duty_cycle_req_cid
use Rattle.payloads.proofs.duty_cycle.DutyCycleReqPayloadCommandType.uplink.Reads as duty_cycle_req_uplink
use Rattle.payloads.proofs.duty_cycle.DutyCycleReqPayloadCommandType.len.Reads as duty_cycle_req_len
use Rattle.payloads.proofs.duty_cycle.DutyCycleReqPayload.bytes.Reads as duty_cycle_req_bytes
use Rattle.payloads.proofs.duty_cycle.DutyCycleReqPayload.max_duty_cycle_raw.Reads as duty_cycle_req_max_duty_cycle_raw
use Rattle.payloads.proofs.duty_cycle.DutyCycleReqPayload.max_duty_cycle.Reads as duty_cycle_req_max_duty_cycle
use Rattle.payloads.proofs.duty_cycle.DutyCycleAnsPayload.new.Reads as duty_cycle_ans_new
use Rattle.payloads.proofs.duty_cycle.DutyCycleAnsPayloadCommandType.cid.Reads as duty_cycle_ans_cid
use Rattle.payloads.proofs.duty_cycle.DutyCycleAnsPayloadCommandType.uplink.Reads as duty_cycle_ans_uplink
use Rattle.payloads.proofs.duty_cycle.DutyCycleAnsPayloadCommandType.len.Reads as duty_cycle_ans_len
use Rattle.payloads.proofs.duty_cycle.DutyCycleAnsPayload.bytes.Reads as duty_cycle_ans_bytes
use Rattle.payloads.proofs.rx_param_setup.RXParamSetupReqPayload.new.Reads as rx_param_setup_req_new
use Rattle.payloads.proofs.rx_param_setup.RXParamSetupReqPayloadCommandType.cid.Reads as rx_param_setup_req_cid
use Rattle.payloads.proofs.rx_param_setup.RXParamSetupReqPayloadCommandType.uplink.Reads as rx_param_setup_req_uplink
use Rattle.payloads.proofs.rx_param_setup.RXParamSetupReqPayloadCommandType.len.Reads as rx_param_setup_req_len
use Rattle.payloads.proofs.rx_param_setup.RXParamSetupReqPayload.bytes.Reads as rx_param_setup_req_bytes
use Rattle.payloads.proofs.rx_param_setup.RXParamSetupReqPayload.dl_settings.Reads as rx_param_setup_req_dl_settings
use Rattle.payloads.proofs.rx_param_setup.RXParamSetupReqPayload.frequency.Reads as rx_param_setup_req_frequency
use Rattle.payloads.proofs.rx_param_setup.RXParamSetupAnsPayload.new.Reads as rx_param_setup_ans_new
use Rattle.payloads.proofs.rx_param_setup.RXParamSetupAnsPayloadCommandType.cid.Reads as rx_param_setup_ans_cid
use Rattle.payloads.proofs.rx_param_setup.RXParamSetupAnsPayloadCommandType.uplink.Reads as rx_param_setup_ans_uplink
use Rattle.payloads.proofs.rx_param_setup.RXParamSetupAnsPayloadCommandType.len.Reads as rx_param_setup_ans_len
use Rattle.payloads.proofs.rx_param_setup.RXParamSetupAnsPayload.bytes.Reads as rx_param_setup_ans_bytes
use Rattle.payloads.proofs.rx_param_setup.RXParamSetupAnsPayload.channel_ack.Reads as rx_param_setup_ans_channel_ack
use Rattle.payloads.proofs.rx_param_setup.RXParamSetupAnsPayload.rx2_data_rate_ack.Reads as rx_param_setup_ans_rx2_data_rate_ack
use Rattle.payloads.proofs.rx_param_setup.RXParamSetupAnsPayload.rx1_dr_offset_ack.Reads as rx_param_setup_ans_rx1_dr_offset_ack
use Rattle.payloads.proofs.rx_param_setup.RXParamSetupAnsPayload.ack.Reads as rx_param_setup_ans_ack
use Rattle.payloads.proofs.dev_status.DevStatusReqPayload.new.Reads as dev_status_req_new
use Rattle.payloads.proofs.dev_status.DevStatusReqPayloadCommandType.cid.Reads as dev_status_req_cid
use Rattle.payloads.proofs.dev_status.DevStatusReqPayloadCommandType.uplink.Reads as dev_status_req_uplink
use Rattle.payloads.proofs.dev_status.DevStatusReqPayloadCommandType.len.Reads as dev_status_req_len
use Rattle.payloads.proofs.dev_status.DevStatusReqPayload.bytes.Reads as dev_status_req_bytes
use Rattle.payloads.proofs.dev_status.DevStatusAnsPayload.new.Reads as dev_status_ans_new
use Rattle.payloads.proofs.dev_status.DevStatusAnsPayloadCommandType.cid.Reads as dev_status_ans_cid
use Rattle.payloads.proofs.dev_status.DevStatusAnsPayloadCommandType.uplink.Reads as dev_status_ans_uplink
use Rattle.payloads.proofs.dev_status.DevStatusAnsPayloadCommandType.len.Reads as dev_status_ans_len
use Rattle.payloads.proofs.dev_status.DevStatusAnsPayload.bytes.Reads as dev_status_ans_bytes
use Rattle.payloads.proofs.dev_status.DevStatusAnsPayload.battery.Reads as dev_status_ans_battery
use Rattle.payloads.proofs.dev_status.DevStatusAnsPayload.margin.Reads as dev_status_ans_margin
use Rattle.payloads.proofs.new_channel.NewChannelReqPayload.new.Reads as new_channel_req_new
use Rattle.payloads.proofs.new_channel.NewChannelReqPayloadCommandType.cid.Reads as new_channel_req_cid
use Rattle.payloads.proofs.new_channel.NewChannelReqPayloadCommandType.uplink.Reads as new_channel_req_uplink
use Rattle.payloads.proofs.new_channel.NewChannelReqPayloadCommandType.len.Reads as new_channel_req_len
use Rattle.payloads.proofs.new_channel.NewChannelReqPayload.bytes.Reads as new_channel_req_bytes
use Rattle.payloads.proofs.new_channel.NewChannelReqPayload.channel_index.Reads as new_channel_req_channel_index
use Rattle.payloads.proofs.new_channel.NewChannelReqPayload.frequency.Reads as new_channel_req_frequency
use Rattle.payloads.proofs.new_channel.NewChannelReqPayload.data_rate_range.Reads as new_channel_req_data_rate_range
use Rattle.payloads.proofs.new_channel.NewChannelAnsPayload.new.Reads as new_channel_ans_new
use Rattle.payloads.proofs.new_channel.NewChannelAnsPayloadCommandType.cid.Reads as new_channel_ans_cid
use Rattle.payloads.proofs.new_channel.NewChannelAnsPayloadCommandType.uplink.Reads as new_channel_ans_uplink
use Rattle.payloads.proofs.new_channel.NewChannelAnsPayloadCommandType.len.Reads as new_channel_ans_len
use Rattle.payloads.proofs.new_channel.NewChannelAnsPayload.bytes.Reads as new_channel_ans_bytes
use Rattle.payloads.proofs.new_channel.NewChannelAnsPayload.channel_freq_ack.Reads as new_channel_ans_channel_freq_ack
use Rattle.payloads.proofs.new_channel.NewChannelAnsPayload.data_rate_range_ack.Reads as new_channel_ans_data_rate_range_ack
use Rattle.payloads.proofs.new_channel.NewChannelAnsPayload.ack.Reads as new_channel_ans_ack
use Rattle.payloads.proofs.rx_timing_setup.RXTimingSetupReqPayload.new.Reads as rx_timing_setup_req_new
use Rattle.payloads.proofs.rx_timing_setup.RXTimingSetupReqPayloadCommandType.cid.Reads as rx_timing_setup_req_cid
use Rattle.payloads.proofs.rx_timing_setup.RXTimingSetupReqPayloadCommandType.uplink.Reads as rx_timing_setup_req_uplink
use Rattle.payloads.proofs.rx_timing_setup.RXTimingSetupReqPayloadCommandType.len.Reads as rx_timing_setup_req_len
use Rattle.payloads.proofs.rx_timing_setup.RXTimingSetupReqPayload.bytes.Reads as rx_timing_setup_req_bytes
use Rattle.payloads.proofs.rx_timing_setup.RXTimingSetupReqPayload.delay.Reads as rx_timing_setup_req_delay
use Rattle.payloads.proofs.rx_timing_setup.RXTimingSetupAnsPayload.new.Reads as rx_timing_setup_ans_new
use Rattle.payloads.proofs.rx_timing_setup.RXTimingSetupAnsPayloadCommandType.cid.Reads as rx_timing_setup_ans_cid
use Rattle.payloads.proofs.rx_timing_setup.RXTimingSetupAnsPayloadCommandType.uplink.Reads as rx_timing_setup_ans_uplink
use Rattle.payloads.proofs.rx_timing_setup.RXTimingSetupAnsPayloadCommandType.len.Reads as rx_timing_setup_ans_len
use Rattle.payloads.proofs.rx_timing_setup.RXTimingSetupAnsPayload.bytes.Reads as rx_timing_setup_ans_bytes
use Rattle.payloads.proofs.tx_param_setup.TXParamSetupReqPayload.new.Reads as tx_param_setup_req_new
use Rattle.payloads.proofs.tx_param_setup.TXParamSetupReqPayloadCommandType.cid.Reads as tx_param_setup_req_cid
use Rattle.payloads.proofs.tx_param_setup.TXParamSetupReqPayloadCommandType.uplink.Reads as tx_param_setup_req_uplink
use Rattle.payloads.proofs.tx_param_setup.TXParamSetupReqPayloadCommandType.len.Reads as tx_param_setup_req_len
use Rattle.payloads.proofs.tx_param_setup.TXParamSetupReqPayload.bytes.Reads as tx_param_setup_req_bytes
use Rattle.payloads.proofs.tx_param_setup.TXParamSetupReqPayload.downlink_dwell_time.Reads as tx_param_setup_req_downlink_dwell_time
use Rattle.payloads.proofs.tx_param_setup.TXParamSetupReqPayload.uplink_dwell_time.Reads as tx_param_setup_req_uplink_dwell_time
use Rattle.payloads.proofs.tx_param_setup.TXParamSetupReqPayload.max_eirp.Reads as tx_param_setup_req_max_eirp
use Rattle.payloads.proofs.tx_param_setup.TXParamSetupAnsPayload.new.Reads as tx_param_setup_ans_new
use Rattle.payloads.proofs.tx_param_setup.TXParamSetupAnsPayloadCommandType.cid.Reads as tx_param_setup_ans_cid
use Rattle.payloads.proofs.tx_param_setup.TXParamSetupAnsPayloadCommandType.uplink.Reads as tx_param_setup_ans_uplink
use Rattle.payloads.proofs.tx_param_setup.TXParamSetupAnsPayloadCommandType.len.Reads as tx_param_setup_ans_len
use Rattle.payloads.proofs.tx_param_setup.TXParamSetupAnsPayload.bytes.Reads as tx_param_setup_ans_bytes
use Rattle.payloads.proofs.dl_channel.DlChannelReqPayload.new.Reads as dl_channel_req_new
use Rattle.payloads.proofs.dl_channel.DlChannelReqPayloadCommandType.cid.Reads as dl_channel_req_cid
use Rattle.payloads.proofs.dl_channel.DlChannelReqPayloadCommandType.uplink.Reads as dl_channel_req_uplink
use Rattle.payloads.proofs.dl_channel.DlChannelReqPayloadCommandType.len.Reads as dl_channel_req_len
use Rattle.payloads.proofs.dl_channel.DlChannelReqPayload.bytes.Reads as dl_channel_req_bytes
use Rattle.payloads.proofs.dl_channel.DlChannelReqPayload.channel_index.Reads as dl_channel_req_channel_index
use Rattle.payloads.proofs.dl_channel.DlChannelReqPayload.frequency.Reads as dl_channel_req_frequency
use Rattle.payloads.proofs.dl_channel.DlChannelAnsPayload.new.Reads as dl_channel_ans_new
use Rattle.payloads.proofs.dl_channel.DlChannelAnsPayloadCommandType.cid.Reads as dl_channel_ans_cid
use Rattle.payloads.proofs.dl_channel.DlChannelAnsPayloadCommandType.uplink.Reads as dl_channel_ans_uplink
use Rattle.payloads.proofs.dl_channel.DlChannelAnsPayloadCommandType.len.Reads as dl_channel_ans_len
use Rattle.payloads.proofs.dl_channel.DlChannelAnsPayload.bytes.Reads as dl_channel_ans_bytes
use Rattle.payloads.proofs.dl_channel.DlChannelAnsPayload.channel_freq_ack.Reads as dl_channel_ans_channel_freq_ack
use Rattle.payloads.proofs.dl_channel.DlChannelAnsPayload.uplink_freq_ack.Reads as dl_channel_ans_uplink_freq_ack
use Rattle.payloads.proofs.dl_channel.DlChannelAnsPayload.ack.Reads as dl_channel_ans_ack
use Rattle.payloads.proofs.device_time.DeviceTimeReqPayload.new.Reads as device_time_req_new
use Rattle.payloads.proofs.device_time.DeviceTimeReqPayloadCommandType.cid.Reads as device_time_req_cid
use Rattle.payloads.proofs.device_time.DeviceTimeReqPayloadCommandType.uplink.Reads as device_time_req_uplink
use Rattle.payloads.proofs.device_time.DeviceTimeReqPayloadCommandType.len.Reads as device_time_req_len
use Rattle.payloads.proofs.device_time.DeviceTimeReqPayload.bytes.Reads as device_time_req_bytes
use Rattle.payloads.proofs.device_time.DeviceTimeAnsPayload.new.Reads as device_time_ans_new
use Rattle.payloads.proofs.device_time.DeviceTimeAnsPayloadCommandType.cid.Reads as device_time_ans_cid
use Rattle.payloads.proofs.device_time.DeviceTimeAnsPayloadCommandType.uplink.Reads as device_time_ans_uplink
use Rattle.payloads.proofs.device_time.DeviceTimeAnsPayloadCommandType.len.Reads as device_time_ans_len
use Rattle.payloads.proofs.device_time.DeviceTimeAnsPayload.bytes.Reads as device_time_ans_bytes
use Rattle.payloads.proofs.device_time.DeviceTimeAnsPayload.seconds.Reads as device_time_ans_seconds
use Rattle.payloads.proofs.device_time.DeviceTimeAnsPayload.nano_seconds.Reads as device_time_ans_nano_seconds
use Rattle.payloads.proofs.uplink.UplinkMacCommand.len.Reads as uplink_len
use Rattle.payloads.proofs.uplink.UplinkMacCommand.uplink.Reads as uplink_uplink
use Rattle.payloads.proofs.uplink.UplinkMacCommand.cid.Reads as uplink_cid
use Rattle.payloads.proofs.uplink.UplinkMacCommand.bytes.Reads as uplink_bytes
use Rattle.payloads.proofs.downlink.DownlinkMacCommand.len.Reads as downlink_len
use Rattle.payloads.proofs.downlink.DownlinkMacCommand.uplink.Reads as downlink_uplink
use Rattle.payloads.proofs.downlink.DownlinkMacCommand.cid.Reads as downlink_cid
use Rattle.payloads.proofs.downlink.DownlinkMacCommand.bytes.Reads as downlink_bytes

room_tells : {x y : PayloadBytes} → ◌≡◌ {A = ℕ × List ℕ} (x.len, x.bytes) (y.len, y.bytes) → x ≡ y
room_tells p = ap (λ (o : ℕ × List ℕ). record { len = o.0; bytes = o.1 }) p

link_check_req_new_one : Fixed link_check_req_new.Post
link_check_req_new_one _ _ _ _ _ _ p q = p ∙ sym q

link_check_req_cid_one : Fixed link_check_req_cid.Post
link_check_req_cid_one _ _ _ _ _ _ p q = p ∙ sym q

link_check_req_uplink_one : Fixed link_check_req_uplink.Post
link_check_req_uplink_one _ _ _ _ _ _ p q = p ∙ sym q

link_check_req_len_one : Fixed link_check_req_len.Post
link_check_req_len_one _ _ _ _ _ _ p q = p ∙ sym q

link_check_req_bytes_one : Fixed link_check_req_bytes.Post
link_check_req_bytes_one _ _ _ _ _ _ p q = p ∙ sym q

link_check_ans_new_one : Fixed link_check_ans_new.Post
link_check_ans_new_one _ _ _ _ _ _ p q = link_check_ans_tells (p ∙ sym q)

link_check_ans_from_one : Fixed link_check_ans_from.Post
link_check_ans_from_one _ _ _ _ _ _ p q = link_check_ans_bytes_tell (p ∙ sym q)

link_check_ans_cid_one : Fixed link_check_ans_cid.Post
link_check_ans_cid_one _ _ _ _ _ _ p q = p ∙ sym q

link_check_ans_uplink_one : Fixed link_check_ans_uplink.Post
link_check_ans_uplink_one _ _ _ _ _ _ p q = p ∙ sym q

link_check_ans_len_one : Fixed link_check_ans_len.Post
link_check_ans_len_one _ _ _ _ _ _ p q = p ∙ sym q

link_check_ans_bytes_one : Fixed link_check_ans_bytes.Post
link_check_ans_bytes_one _ _ _ _ _ _ p q = p ∙ sym q

link_check_ans_margin_one : Fixed link_check_ans_margin.Post
link_check_ans_margin_one _ _ _ _ _ _ p q = p ∙ sym q

link_check_ans_gateway_count_one : Fixed link_check_ans_gateway_count.Post
link_check_ans_gateway_count_one _ _ _ _ _ _ p q = p ∙ sym q

link_adr_req_new_one : Fixed link_adr_req_new.Post
link_adr_req_new_one _ _ _ _ _ _ p q = link_adr_req_tells (p ∙ sym q)

link_adr_req_from_one : Fixed link_adr_req_from.Post
link_adr_req_from_one _ _ _ _ _ _ p q = link_adr_req_bytes_tell (p ∙ sym q)

link_adr_req_cid_one : Fixed link_adr_req_cid.Post
link_adr_req_cid_one _ _ _ _ _ _ p q = p ∙ sym q

link_adr_req_uplink_one : Fixed link_adr_req_uplink.Post
link_adr_req_uplink_one _ _ _ _ _ _ p q = p ∙ sym q

link_adr_req_len_one : Fixed link_adr_req_len.Post
link_adr_req_len_one _ _ _ _ _ _ p q = p ∙ sym q

link_adr_req_bytes_one : Fixed link_adr_req_bytes.Post
link_adr_req_bytes_one _ _ _ _ _ _ p q = p ∙ sym q

link_adr_req_data_rate_one : Fixed link_adr_req_data_rate.Post
link_adr_req_data_rate_one _ _ _ _ _ _ p q = p ∙ sym q

link_adr_req_tx_power_one : Fixed link_adr_req_tx_power.Post
link_adr_req_tx_power_one _ _ _ _ _ _ p q = p ∙ sym q

link_adr_req_channel_mask_one : Fixed link_adr_req_channel_mask.Post
link_adr_req_channel_mask_one _ _ _ _ _ _ p q = ap (λ (m : List ℕ). record { 0 = m }) (p ∙ sym q)

link_adr_req_redundancy_one : Fixed link_adr_req_redundancy.Post
link_adr_req_redundancy_one _ _ _ _ _ _ p q = ap (λ (b : ℕ). record { 0 = b }) (p ∙ sym q)

link_adr_ans_new_one : Fixed link_adr_ans_new.Post
link_adr_ans_new_one _ _ _ _ _ _ p q = link_adr_ans_tells (p ∙ sym q)

link_adr_ans_cid_one : Fixed link_adr_ans_cid.Post
link_adr_ans_cid_one _ _ _ _ _ _ p q = p ∙ sym q

link_adr_ans_uplink_one : Fixed link_adr_ans_uplink.Post
link_adr_ans_uplink_one _ _ _ _ _ _ p q = p ∙ sym q

link_adr_ans_len_one : Fixed link_adr_ans_len.Post
link_adr_ans_len_one _ _ _ _ _ _ p q = p ∙ sym q

link_adr_ans_bytes_one : Fixed link_adr_ans_bytes.Post
link_adr_ans_bytes_one _ _ _ _ _ _ p q = p ∙ sym q

link_adr_ans_channel_mask_ack_one : Fixed link_adr_ans_channel_mask_ack.Post
link_adr_ans_channel_mask_ack_one _ _ _ _ _ _ p q = p ∙ sym q

link_adr_ans_data_rate_ack_one : Fixed link_adr_ans_data_rate_ack.Post
link_adr_ans_data_rate_ack_one _ _ _ _ _ _ p q = p ∙ sym q

link_adr_ans_powert_ack_one : Fixed link_adr_ans_powert_ack.Post
link_adr_ans_powert_ack_one _ _ _ _ _ _ p q = p ∙ sym q

link_adr_ans_ack_one : Fixed link_adr_ans_ack.Post
link_adr_ans_ack_one _ _ _ _ _ _ p q = p ∙ sym q

duty_cycle_req_new_one : Fixed duty_cycle_req_new.Post
duty_cycle_req_new_one _ _ _ _ _ _ p q = duty_cycle_req_tells (p ∙ sym q)

duty_cycle_req_cid_one : Fixed duty_cycle_req_cid.Post
duty_cycle_req_cid_one _ _ _ _ _ _ p q = p ∙ sym q

duty_cycle_req_uplink_one : Fixed duty_cycle_req_uplink.Post
duty_cycle_req_uplink_one _ _ _ _ _ _ p q = p ∙ sym q

duty_cycle_req_len_one : Fixed duty_cycle_req_len.Post
duty_cycle_req_len_one _ _ _ _ _ _ p q = p ∙ sym q

duty_cycle_req_bytes_one : Fixed duty_cycle_req_bytes.Post
duty_cycle_req_bytes_one _ _ _ _ _ _ p q = p ∙ sym q

duty_cycle_req_max_duty_cycle_raw_one : Fixed duty_cycle_req_max_duty_cycle_raw.Post
duty_cycle_req_max_duty_cycle_raw_one _ _ _ _ _ _ p q = p ∙ sym q

duty_cycle_req_max_duty_cycle_one : Fixed duty_cycle_req_max_duty_cycle.Post
duty_cycle_req_max_duty_cycle_one _ _ _ _ _ _ p q = p ∙ sym q

duty_cycle_ans_new_one : Fixed duty_cycle_ans_new.Post
duty_cycle_ans_new_one _ _ _ _ _ _ p q = p ∙ sym q

duty_cycle_ans_cid_one : Fixed duty_cycle_ans_cid.Post
duty_cycle_ans_cid_one _ _ _ _ _ _ p q = p ∙ sym q

duty_cycle_ans_uplink_one : Fixed duty_cycle_ans_uplink.Post
duty_cycle_ans_uplink_one _ _ _ _ _ _ p q = p ∙ sym q

duty_cycle_ans_len_one : Fixed duty_cycle_ans_len.Post
duty_cycle_ans_len_one _ _ _ _ _ _ p q = p ∙ sym q

duty_cycle_ans_bytes_one : Fixed duty_cycle_ans_bytes.Post
duty_cycle_ans_bytes_one _ _ _ _ _ _ p q = p ∙ sym q

rx_param_setup_req_new_one : Fixed rx_param_setup_req_new.Post
rx_param_setup_req_new_one _ _ _ _ _ _ p q = rx_param_setup_req_tells (p ∙ sym q)

rx_param_setup_req_cid_one : Fixed rx_param_setup_req_cid.Post
rx_param_setup_req_cid_one _ _ _ _ _ _ p q = p ∙ sym q

rx_param_setup_req_uplink_one : Fixed rx_param_setup_req_uplink.Post
rx_param_setup_req_uplink_one _ _ _ _ _ _ p q = p ∙ sym q

rx_param_setup_req_len_one : Fixed rx_param_setup_req_len.Post
rx_param_setup_req_len_one _ _ _ _ _ _ p q = p ∙ sym q

rx_param_setup_req_bytes_one : Fixed rx_param_setup_req_bytes.Post
rx_param_setup_req_bytes_one _ _ _ _ _ _ p q = p ∙ sym q

rx_param_setup_req_dl_settings_one : Fixed rx_param_setup_req_dl_settings.Post
rx_param_setup_req_dl_settings_one _ _ _ _ _ _ p q = ap (λ (b : ℕ). record { 0 = b }) (p ∙ sym q)

rx_param_setup_req_frequency_one : Fixed rx_param_setup_req_frequency.Post
rx_param_setup_req_frequency_one _ _ _ _ _ _ p q = frequency_tells (p ∙ sym q)

rx_param_setup_ans_new_one : Fixed rx_param_setup_ans_new.Post
rx_param_setup_ans_new_one _ _ _ _ _ _ p q = rx_param_setup_ans_tells (p ∙ sym q)

rx_param_setup_ans_cid_one : Fixed rx_param_setup_ans_cid.Post
rx_param_setup_ans_cid_one _ _ _ _ _ _ p q = p ∙ sym q

rx_param_setup_ans_uplink_one : Fixed rx_param_setup_ans_uplink.Post
rx_param_setup_ans_uplink_one _ _ _ _ _ _ p q = p ∙ sym q

rx_param_setup_ans_len_one : Fixed rx_param_setup_ans_len.Post
rx_param_setup_ans_len_one _ _ _ _ _ _ p q = p ∙ sym q

rx_param_setup_ans_bytes_one : Fixed rx_param_setup_ans_bytes.Post
rx_param_setup_ans_bytes_one _ _ _ _ _ _ p q = p ∙ sym q

rx_param_setup_ans_channel_ack_one : Fixed rx_param_setup_ans_channel_ack.Post
rx_param_setup_ans_channel_ack_one _ _ _ _ _ _ p q = p ∙ sym q

rx_param_setup_ans_rx2_data_rate_ack_one : Fixed rx_param_setup_ans_rx2_data_rate_ack.Post
rx_param_setup_ans_rx2_data_rate_ack_one _ _ _ _ _ _ p q = p ∙ sym q

rx_param_setup_ans_rx1_dr_offset_ack_one : Fixed rx_param_setup_ans_rx1_dr_offset_ack.Post
rx_param_setup_ans_rx1_dr_offset_ack_one _ _ _ _ _ _ p q = p ∙ sym q

rx_param_setup_ans_ack_one : Fixed rx_param_setup_ans_ack.Post
rx_param_setup_ans_ack_one _ _ _ _ _ _ p q = p ∙ sym q

dev_status_req_new_one : Fixed dev_status_req_new.Post
dev_status_req_new_one _ _ _ _ _ _ p q = p ∙ sym q

dev_status_req_cid_one : Fixed dev_status_req_cid.Post
dev_status_req_cid_one _ _ _ _ _ _ p q = p ∙ sym q

dev_status_req_uplink_one : Fixed dev_status_req_uplink.Post
dev_status_req_uplink_one _ _ _ _ _ _ p q = p ∙ sym q

dev_status_req_len_one : Fixed dev_status_req_len.Post
dev_status_req_len_one _ _ _ _ _ _ p q = p ∙ sym q

dev_status_req_bytes_one : Fixed dev_status_req_bytes.Post
dev_status_req_bytes_one _ _ _ _ _ _ p q = p ∙ sym q

dev_status_ans_new_one : Fixed dev_status_ans_new.Post
dev_status_ans_new_one _ _ _ _ _ _ p q = dev_status_ans_tells (p ∙ sym q)

dev_status_ans_cid_one : Fixed dev_status_ans_cid.Post
dev_status_ans_cid_one _ _ _ _ _ _ p q = p ∙ sym q

dev_status_ans_uplink_one : Fixed dev_status_ans_uplink.Post
dev_status_ans_uplink_one _ _ _ _ _ _ p q = p ∙ sym q

dev_status_ans_len_one : Fixed dev_status_ans_len.Post
dev_status_ans_len_one _ _ _ _ _ _ p q = p ∙ sym q

dev_status_ans_bytes_one : Fixed dev_status_ans_bytes.Post
dev_status_ans_bytes_one _ _ _ _ _ _ p q = p ∙ sym q

dev_status_ans_battery_one : Fixed dev_status_ans_battery.Post
dev_status_ans_battery_one _ _ _ _ _ _ p q = p ∙ sym q

dev_status_ans_margin_one : Fixed dev_status_ans_margin.Post
dev_status_ans_margin_one _ _ _ _ _ _ p q = p ∙ sym q

new_channel_req_new_one : Fixed new_channel_req_new.Post
new_channel_req_new_one _ _ _ _ _ _ p q = new_channel_req_tells (p ∙ sym q)

new_channel_req_cid_one : Fixed new_channel_req_cid.Post
new_channel_req_cid_one _ _ _ _ _ _ p q = p ∙ sym q

new_channel_req_uplink_one : Fixed new_channel_req_uplink.Post
new_channel_req_uplink_one _ _ _ _ _ _ p q = p ∙ sym q

new_channel_req_len_one : Fixed new_channel_req_len.Post
new_channel_req_len_one _ _ _ _ _ _ p q = p ∙ sym q

new_channel_req_bytes_one : Fixed new_channel_req_bytes.Post
new_channel_req_bytes_one _ _ _ _ _ _ p q = p ∙ sym q

new_channel_req_channel_index_one : Fixed new_channel_req_channel_index.Post
new_channel_req_channel_index_one _ _ _ _ _ _ p q = p ∙ sym q

new_channel_req_frequency_one : Fixed new_channel_req_frequency.Post
new_channel_req_frequency_one _ _ _ _ _ _ p q = frequency_tells (p ∙ sym q)

new_channel_req_data_rate_range_one : Fixed new_channel_req_data_rate_range.Post
new_channel_req_data_rate_range_one _ _ _ _ _ _ p q = ap (λ (b : ℕ). record { 0 = b }) (p ∙ sym q)

new_channel_ans_new_one : Fixed new_channel_ans_new.Post
new_channel_ans_new_one _ _ _ _ _ _ p q = new_channel_ans_tells (p ∙ sym q)

new_channel_ans_cid_one : Fixed new_channel_ans_cid.Post
new_channel_ans_cid_one _ _ _ _ _ _ p q = p ∙ sym q

new_channel_ans_uplink_one : Fixed new_channel_ans_uplink.Post
new_channel_ans_uplink_one _ _ _ _ _ _ p q = p ∙ sym q

new_channel_ans_len_one : Fixed new_channel_ans_len.Post
new_channel_ans_len_one _ _ _ _ _ _ p q = p ∙ sym q

new_channel_ans_bytes_one : Fixed new_channel_ans_bytes.Post
new_channel_ans_bytes_one _ _ _ _ _ _ p q = p ∙ sym q

new_channel_ans_channel_freq_ack_one : Fixed new_channel_ans_channel_freq_ack.Post
new_channel_ans_channel_freq_ack_one _ _ _ _ _ _ p q = p ∙ sym q

new_channel_ans_data_rate_range_ack_one : Fixed new_channel_ans_data_rate_range_ack.Post
new_channel_ans_data_rate_range_ack_one _ _ _ _ _ _ p q = p ∙ sym q

new_channel_ans_ack_one : Fixed new_channel_ans_ack.Post
new_channel_ans_ack_one _ _ _ _ _ _ p q = p ∙ sym q

rx_timing_setup_req_new_one : Fixed rx_timing_setup_req_new.Post
rx_timing_setup_req_new_one _ _ _ _ _ _ p q = rx_timing_setup_req_tells (p ∙ sym q)

rx_timing_setup_req_cid_one : Fixed rx_timing_setup_req_cid.Post
rx_timing_setup_req_cid_one _ _ _ _ _ _ p q = p ∙ sym q

rx_timing_setup_req_uplink_one : Fixed rx_timing_setup_req_uplink.Post
rx_timing_setup_req_uplink_one _ _ _ _ _ _ p q = p ∙ sym q

rx_timing_setup_req_len_one : Fixed rx_timing_setup_req_len.Post
rx_timing_setup_req_len_one _ _ _ _ _ _ p q = p ∙ sym q

rx_timing_setup_req_bytes_one : Fixed rx_timing_setup_req_bytes.Post
rx_timing_setup_req_bytes_one _ _ _ _ _ _ p q = p ∙ sym q

rx_timing_setup_req_delay_one : Fixed rx_timing_setup_req_delay.Post
rx_timing_setup_req_delay_one _ _ _ _ _ _ p q = p ∙ sym q

rx_timing_setup_ans_new_one : Fixed rx_timing_setup_ans_new.Post
rx_timing_setup_ans_new_one _ _ _ _ _ _ p q = p ∙ sym q

rx_timing_setup_ans_cid_one : Fixed rx_timing_setup_ans_cid.Post
rx_timing_setup_ans_cid_one _ _ _ _ _ _ p q = p ∙ sym q

rx_timing_setup_ans_uplink_one : Fixed rx_timing_setup_ans_uplink.Post
rx_timing_setup_ans_uplink_one _ _ _ _ _ _ p q = p ∙ sym q

rx_timing_setup_ans_len_one : Fixed rx_timing_setup_ans_len.Post
rx_timing_setup_ans_len_one _ _ _ _ _ _ p q = p ∙ sym q

rx_timing_setup_ans_bytes_one : Fixed rx_timing_setup_ans_bytes.Post
rx_timing_setup_ans_bytes_one _ _ _ _ _ _ p q = p ∙ sym q

tx_param_setup_req_new_one : Fixed tx_param_setup_req_new.Post
tx_param_setup_req_new_one _ _ _ _ _ _ p q = tx_param_setup_req_tells (p ∙ sym q)

tx_param_setup_req_cid_one : Fixed tx_param_setup_req_cid.Post
tx_param_setup_req_cid_one _ _ _ _ _ _ p q = p ∙ sym q

tx_param_setup_req_uplink_one : Fixed tx_param_setup_req_uplink.Post
tx_param_setup_req_uplink_one _ _ _ _ _ _ p q = p ∙ sym q

tx_param_setup_req_len_one : Fixed tx_param_setup_req_len.Post
tx_param_setup_req_len_one _ _ _ _ _ _ p q = p ∙ sym q

tx_param_setup_req_bytes_one : Fixed tx_param_setup_req_bytes.Post
tx_param_setup_req_bytes_one _ _ _ _ _ _ p q = p ∙ sym q

tx_param_setup_req_downlink_dwell_time_one : Fixed tx_param_setup_req_downlink_dwell_time.Post
tx_param_setup_req_downlink_dwell_time_one _ _ _ _ _ _ p q = p ∙ sym q

tx_param_setup_req_uplink_dwell_time_one : Fixed tx_param_setup_req_uplink_dwell_time.Post
tx_param_setup_req_uplink_dwell_time_one _ _ _ _ _ _ p q = p ∙ sym q

tx_param_setup_req_max_eirp_one : Fixed tx_param_setup_req_max_eirp.Post
tx_param_setup_req_max_eirp_one _ _ _ _ _ _ p q = p ∙ sym q

tx_param_setup_ans_new_one : Fixed tx_param_setup_ans_new.Post
tx_param_setup_ans_new_one _ _ _ _ _ _ p q = p ∙ sym q

tx_param_setup_ans_cid_one : Fixed tx_param_setup_ans_cid.Post
tx_param_setup_ans_cid_one _ _ _ _ _ _ p q = p ∙ sym q

tx_param_setup_ans_uplink_one : Fixed tx_param_setup_ans_uplink.Post
tx_param_setup_ans_uplink_one _ _ _ _ _ _ p q = p ∙ sym q

tx_param_setup_ans_len_one : Fixed tx_param_setup_ans_len.Post
tx_param_setup_ans_len_one _ _ _ _ _ _ p q = p ∙ sym q

tx_param_setup_ans_bytes_one : Fixed tx_param_setup_ans_bytes.Post
tx_param_setup_ans_bytes_one _ _ _ _ _ _ p q = p ∙ sym q

dl_channel_req_new_one : Fixed dl_channel_req_new.Post
dl_channel_req_new_one _ _ _ _ _ _ p q = dl_channel_req_tells (p ∙ sym q)

dl_channel_req_cid_one : Fixed dl_channel_req_cid.Post
dl_channel_req_cid_one _ _ _ _ _ _ p q = p ∙ sym q

dl_channel_req_uplink_one : Fixed dl_channel_req_uplink.Post
dl_channel_req_uplink_one _ _ _ _ _ _ p q = p ∙ sym q

dl_channel_req_len_one : Fixed dl_channel_req_len.Post
dl_channel_req_len_one _ _ _ _ _ _ p q = p ∙ sym q

dl_channel_req_bytes_one : Fixed dl_channel_req_bytes.Post
dl_channel_req_bytes_one _ _ _ _ _ _ p q = p ∙ sym q

dl_channel_req_channel_index_one : Fixed dl_channel_req_channel_index.Post
dl_channel_req_channel_index_one _ _ _ _ _ _ p q = p ∙ sym q

dl_channel_req_frequency_one : Fixed dl_channel_req_frequency.Post
dl_channel_req_frequency_one _ _ _ _ _ _ p q = frequency_tells (p ∙ sym q)

dl_channel_ans_new_one : Fixed dl_channel_ans_new.Post
dl_channel_ans_new_one _ _ _ _ _ _ p q = dl_channel_ans_tells (p ∙ sym q)

dl_channel_ans_cid_one : Fixed dl_channel_ans_cid.Post
dl_channel_ans_cid_one _ _ _ _ _ _ p q = p ∙ sym q

dl_channel_ans_uplink_one : Fixed dl_channel_ans_uplink.Post
dl_channel_ans_uplink_one _ _ _ _ _ _ p q = p ∙ sym q

dl_channel_ans_len_one : Fixed dl_channel_ans_len.Post
dl_channel_ans_len_one _ _ _ _ _ _ p q = p ∙ sym q

dl_channel_ans_bytes_one : Fixed dl_channel_ans_bytes.Post
dl_channel_ans_bytes_one _ _ _ _ _ _ p q = p ∙ sym q

dl_channel_ans_channel_freq_ack_one : Fixed dl_channel_ans_channel_freq_ack.Post
dl_channel_ans_channel_freq_ack_one _ _ _ _ _ _ p q = p ∙ sym q

dl_channel_ans_uplink_freq_ack_one : Fixed dl_channel_ans_uplink_freq_ack.Post
dl_channel_ans_uplink_freq_ack_one _ _ _ _ _ _ p q = p ∙ sym q

dl_channel_ans_ack_one : Fixed dl_channel_ans_ack.Post
dl_channel_ans_ack_one _ _ _ _ _ _ p q = p ∙ sym q

device_time_req_new_one : Fixed device_time_req_new.Post
device_time_req_new_one _ _ _ _ _ _ p q = p ∙ sym q

device_time_req_cid_one : Fixed device_time_req_cid.Post
device_time_req_cid_one _ _ _ _ _ _ p q = p ∙ sym q

device_time_req_uplink_one : Fixed device_time_req_uplink.Post
device_time_req_uplink_one _ _ _ _ _ _ p q = p ∙ sym q

device_time_req_len_one : Fixed device_time_req_len.Post
device_time_req_len_one _ _ _ _ _ _ p q = p ∙ sym q

device_time_req_bytes_one : Fixed device_time_req_bytes.Post
device_time_req_bytes_one _ _ _ _ _ _ p q = p ∙ sym q

device_time_ans_new_one : Fixed device_time_ans_new.Post
device_time_ans_new_one _ _ _ _ _ _ p q = device_time_ans_tells (p ∙ sym q)

device_time_ans_cid_one : Fixed device_time_ans_cid.Post
device_time_ans_cid_one _ _ _ _ _ _ p q = p ∙ sym q

device_time_ans_uplink_one : Fixed device_time_ans_uplink.Post
device_time_ans_uplink_one _ _ _ _ _ _ p q = p ∙ sym q

device_time_ans_len_one : Fixed device_time_ans_len.Post
device_time_ans_len_one _ _ _ _ _ _ p q = p ∙ sym q

device_time_ans_bytes_one : Fixed device_time_ans_bytes.Post
device_time_ans_bytes_one _ _ _ _ _ _ p q = p ∙ sym q

device_time_ans_seconds_one : Fixed device_time_ans_seconds.Post
device_time_ans_seconds_one _ _ _ _ _ _ p q = p ∙ sym q

device_time_ans_nano_seconds_one : Fixed device_time_ans_nano_seconds.Post
device_time_ans_nano_seconds_one _ _ _ _ _ _ p q = p ∙ sym q

uplink_len_one : Fixed uplink_len.Post
uplink_len_one _ _ _ _ _ _ p q = p ∙ sym q

uplink_uplink_one : Fixed uplink_uplink.Post
uplink_uplink_one _ _ _ _ _ _ p q = p ∙ sym q

uplink_cid_one : Fixed uplink_cid.Post
uplink_cid_one _ _ _ _ _ _ p q = p ∙ sym q

uplink_bytes_one : Fixed uplink_bytes.Post
uplink_bytes_one _ _ _ _ _ _ p q = room_tells (p ∙ sym q)

downlink_len_one : Fixed downlink_len.Post
downlink_len_one _ _ _ _ _ _ p q = p ∙ sym q

downlink_uplink_one : Fixed downlink_uplink.Post
downlink_uplink_one _ _ _ _ _ _ p q = p ∙ sym q

downlink_cid_one : Fixed downlink_cid.Post
downlink_cid_one _ _ _ _ _ _ p q = p ∙ sym q

downlink_bytes_one : Fixed downlink_bytes.Post
downlink_bytes_one _ _ _ _ _ _ p q = room_tells (p ∙ sym q)

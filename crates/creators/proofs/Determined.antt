-- Any two outcomes that a public function's contract admits are equal. Assumes nothing.
use Prim.Native.Nat.{ℕ}
use mathlib.Core.Path.{refl, sym, ap, ap₂, ◌∙◌}
use mathlib.Core.List.{List}
use Rattle.bits.proofs.Fixed.{Fixed, FixedWith}
use Rattle.table.proofs.Told.{beside_tells}
use Rattle.creators.proofs.Told.{uplink_kind_tells, downlink_kind_tells, creator_tells, image_tells}
use Rattle.creators.proofs.link_check.LinkCheckReqCreatorCreator1.new.Reads as link_check_req_new
use Rattle.creators.proofs.link_check.LinkCheckReqCreatorDefault.default.Reads as link_check_req_default
use Rattle.creators.proofs.link_check.LinkCheckReqCreatorCreator1.build.Reads as link_check_req_build
use Rattle.creators.proofs.link_check.LinkCheckReqCreatorCreator1.kind.Reads as link_check_req_kind
use Rattle.creators.proofs.link_check.LinkCheckReqCreatorCreator1.cid.Reads as link_check_req_cid
use Rattle.creators.proofs.link_check.LinkCheckReqCreatorCreator1.len.Reads as link_check_req_len
use Rattle.creators.proofs.link_check.LinkCheckAnsCreatorCreator3.new.Reads as link_check_ans_new
use Rattle.creators.proofs.link_check.LinkCheckAnsCreatorDefault.default.Reads as link_check_ans_default
use Rattle.creators.proofs.link_check.LinkCheckAnsCreatorCreator3.build.Reads as link_check_ans_build
use Rattle.creators.proofs.link_check.LinkCheckAnsCreatorCreator3.kind.Reads as link_check_ans_kind
use Rattle.creators.proofs.link_check.LinkCheckAnsCreatorCreator3.cid.Reads as link_check_ans_cid
use Rattle.creators.proofs.link_check.LinkCheckAnsCreatorCreator3.len.Reads as link_check_ans_len
use Rattle.creators.proofs.link_check.LinkCheckAnsCreator.set_margin.Reads as link_check_ans_set_margin
use Rattle.creators.proofs.link_check.LinkCheckAnsCreator.set_gateway_count.Reads as link_check_ans_set_gateway_count
use Rattle.creators.proofs.link_adr.LinkADRReqCreatorCreator5.new.Reads as link_adr_req_new
use Rattle.creators.proofs.link_adr.LinkADRReqCreatorDefault.default.Reads as link_adr_req_default
use Rattle.creators.proofs.link_adr.LinkADRReqCreatorCreator5.build.Reads as link_adr_req_build
use Rattle.creators.proofs.link_adr.LinkADRReqCreatorCreator5.kind.Reads as link_adr_req_kind
use Rattle.creators.proofs.link_adr.LinkADRReqCreatorCreator5.cid.Reads as link_adr_req_cid
use Rattle.creators.proofs.link_adr.LinkADRReqCreatorCreator5.len.Reads as link_adr_req_len
use Rattle.creators.proofs.link_adr.LinkADRReqCreator.set_data_rate.Reads as link_adr_req_set_data_rate
use Rattle.creators.proofs.link_adr.LinkADRReqCreator.set_tx_power.Reads as link_adr_req_set_tx_power
use Rattle.creators.proofs.link_adr.LinkADRReqCreator.set_channel_mask.Reads as link_adr_req_set_channel_mask
use Rattle.creators.proofs.link_adr.LinkADRReqCreator.set_redundancy.Reads as link_adr_req_set_redundancy
use Rattle.creators.proofs.link_adr.LinkADRAnsCreatorCreator2.new.Reads as link_adr_ans_new
use Rattle.creators.proofs.link_adr.LinkADRAnsCreatorDefault.default.Reads as link_adr_ans_default
use Rattle.creators.proofs.link_adr.LinkADRAnsCreatorCreator2.build.Reads as link_adr_ans_build
use Rattle.creators.proofs.link_adr.LinkADRAnsCreatorCreator2.kind.Reads as link_adr_ans_kind
use Rattle.creators.proofs.link_adr.LinkADRAnsCreatorCreator2.cid.Reads as link_adr_ans_cid
use Rattle.creators.proofs.link_adr.LinkADRAnsCreatorCreator2.len.Reads as link_adr_ans_len
use Rattle.creators.proofs.link_adr.LinkADRAnsCreator.set_channel_mask_ack.Reads as link_adr_ans_set_channel_mask_ack
use Rattle.creators.proofs.link_adr.LinkADRAnsCreator.set_data_rate_ack.Reads as link_adr_ans_set_data_rate_ack
use Rattle.creators.proofs.link_adr.LinkADRAnsCreator.set_tx_power_ack.Reads as link_adr_ans_set_tx_power_ack
use Rattle.creators.proofs.duty_cycle.DutyCycleReqCreatorCreator2.new.Reads as duty_cycle_req_new
use Rattle.creators.proofs.duty_cycle.DutyCycleReqCreatorDefault.default.Reads as duty_cycle_req_default
use Rattle.creators.proofs.duty_cycle.DutyCycleReqCreatorCreator2.build.Reads as duty_cycle_req_build
use Rattle.creators.proofs.duty_cycle.DutyCycleReqCreatorCreator2.kind.Reads as duty_cycle_req_kind
use Rattle.creators.proofs.duty_cycle.DutyCycleReqCreatorCreator2.cid.Reads as duty_cycle_req_cid
use Rattle.creators.proofs.duty_cycle.DutyCycleReqCreatorCreator2.len.Reads as duty_cycle_req_len
use Rattle.creators.proofs.duty_cycle.DutyCycleReqCreator.set_max_duty_cycle.Reads as duty_cycle_req_set_max_duty_cycle
use Rattle.creators.proofs.duty_cycle.DutyCycleAnsCreatorCreator1.new.Reads as duty_cycle_ans_new
use Rattle.creators.proofs.duty_cycle.DutyCycleAnsCreatorDefault.default.Reads as duty_cycle_ans_default
use Rattle.creators.proofs.duty_cycle.DutyCycleAnsCreatorCreator1.build.Reads as duty_cycle_ans_build
use Rattle.creators.proofs.duty_cycle.DutyCycleAnsCreatorCreator1.kind.Reads as duty_cycle_ans_kind
use Rattle.creators.proofs.duty_cycle.DutyCycleAnsCreatorCreator1.cid.Reads as duty_cycle_ans_cid
use Rattle.creators.proofs.duty_cycle.DutyCycleAnsCreatorCreator1.len.Reads as duty_cycle_ans_len
use Rattle.creators.proofs.rx_param_setup.RXParamSetupReqCreatorCreator5.new.Reads as rx_param_setup_req_new
use Rattle.creators.proofs.rx_param_setup.RXParamSetupReqCreatorDefault.default.Reads as rx_param_setup_req_default
use Rattle.creators.proofs.rx_param_setup.RXParamSetupReqCreatorCreator5.build.Reads as rx_param_setup_req_build
use Rattle.creators.proofs.rx_param_setup.RXParamSetupReqCreatorCreator5.kind.Reads as rx_param_setup_req_kind
use Rattle.creators.proofs.rx_param_setup.RXParamSetupReqCreatorCreator5.cid.Reads as rx_param_setup_req_cid
use Rattle.creators.proofs.rx_param_setup.RXParamSetupReqCreatorCreator5.len.Reads as rx_param_setup_req_len
use Rattle.creators.proofs.rx_param_setup.RXParamSetupReqCreator.set_dl_settings.Reads as rx_param_setup_req_set_dl_settings
use Rattle.creators.proofs.rx_param_setup.RXParamSetupReqCreator.set_frequency.Reads as rx_param_setup_req_set_frequency
use Rattle.creators.proofs.rx_param_setup.RXParamSetupAnsCreatorCreator2.new.Reads as rx_param_setup_ans_new
use Rattle.creators.proofs.rx_param_setup.RXParamSetupAnsCreatorDefault.default.Reads as rx_param_setup_ans_default
use Rattle.creators.proofs.rx_param_setup.RXParamSetupAnsCreatorCreator2.build.Reads as rx_param_setup_ans_build
use Rattle.creators.proofs.rx_param_setup.RXParamSetupAnsCreatorCreator2.kind.Reads as rx_param_setup_ans_kind
use Rattle.creators.proofs.rx_param_setup.RXParamSetupAnsCreatorCreator2.cid.Reads as rx_param_setup_ans_cid
use Rattle.creators.proofs.rx_param_setup.RXParamSetupAnsCreatorCreator2.len.Reads as rx_param_setup_ans_len
use Rattle.creators.proofs.rx_param_setup.RXParamSetupAnsCreator.set_channel_ack.Reads as rx_param_setup_ans_set_channel_ack
use Rattle.creators.proofs.rx_param_setup.RXParamSetupAnsCreator.set_rx2_data_rate_ack.Reads as rx_param_setup_ans_set_rx2_data_rate_ack
use Rattle.creators.proofs.rx_param_setup.RXParamSetupAnsCreator.set_rx1_data_rate_offset_ack.Reads as rx_param_setup_ans_set_rx1_data_rate_offset_ack
use Rattle.creators.proofs.dev_status.DevStatusReqCreatorCreator1.new.Reads as dev_status_req_new
use Rattle.creators.proofs.dev_status.DevStatusReqCreatorDefault.default.Reads as dev_status_req_default
use Rattle.creators.proofs.dev_status.DevStatusReqCreatorCreator1.build.Reads as dev_status_req_build
use Rattle.creators.proofs.dev_status.DevStatusReqCreatorCreator1.kind.Reads as dev_status_req_kind
use Rattle.creators.proofs.dev_status.DevStatusReqCreatorCreator1.cid.Reads as dev_status_req_cid
use Rattle.creators.proofs.dev_status.DevStatusReqCreatorCreator1.len.Reads as dev_status_req_len
use Rattle.creators.proofs.dev_status.DevStatusAnsCreatorCreator3.new.Reads as dev_status_ans_new
use Rattle.creators.proofs.dev_status.DevStatusAnsCreatorDefault.default.Reads as dev_status_ans_default
use Rattle.creators.proofs.dev_status.DevStatusAnsCreatorCreator3.build.Reads as dev_status_ans_build
use Rattle.creators.proofs.dev_status.DevStatusAnsCreatorCreator3.kind.Reads as dev_status_ans_kind
use Rattle.creators.proofs.dev_status.DevStatusAnsCreatorCreator3.cid.Reads as dev_status_ans_cid
use Rattle.creators.proofs.dev_status.DevStatusAnsCreatorCreator3.len.Reads as dev_status_ans_len
use Rattle.creators.proofs.dev_status.DevStatusAnsCreator.set_battery.Reads as dev_status_ans_set_battery
use Rattle.creators.proofs.dev_status.DevStatusAnsCreator.set_margin.Reads as dev_status_ans_set_margin
use Rattle.creators.proofs.new_channel.NewChannelReqCreatorCreator6.new.Reads as new_channel_req_new
use Rattle.creators.proofs.new_channel.NewChannelReqCreatorDefault.default.Reads as new_channel_req_default
use Rattle.creators.proofs.new_channel.NewChannelReqCreatorCreator6.build.Reads as new_channel_req_build
use Rattle.creators.proofs.new_channel.NewChannelReqCreatorCreator6.kind.Reads as new_channel_req_kind
use Rattle.creators.proofs.new_channel.NewChannelReqCreatorCreator6.cid.Reads as new_channel_req_cid
use Rattle.creators.proofs.new_channel.NewChannelReqCreatorCreator6.len.Reads as new_channel_req_len
use Rattle.creators.proofs.new_channel.NewChannelReqCreator.set_channel_index.Reads as new_channel_req_set_channel_index
use Rattle.creators.proofs.new_channel.NewChannelReqCreator.set_frequency.Reads as new_channel_req_set_frequency
use Rattle.creators.proofs.new_channel.NewChannelReqCreator.set_data_rate_range.Reads as new_channel_req_set_data_rate_range
use Rattle.creators.proofs.new_channel.NewChannelAnsCreatorCreator2.new.Reads as new_channel_ans_new
use Rattle.creators.proofs.new_channel.NewChannelAnsCreatorDefault.default.Reads as new_channel_ans_default
use Rattle.creators.proofs.new_channel.NewChannelAnsCreatorCreator2.build.Reads as new_channel_ans_build
use Rattle.creators.proofs.new_channel.NewChannelAnsCreatorCreator2.kind.Reads as new_channel_ans_kind
use Rattle.creators.proofs.new_channel.NewChannelAnsCreatorCreator2.cid.Reads as new_channel_ans_cid
use Rattle.creators.proofs.new_channel.NewChannelAnsCreatorCreator2.len.Reads as new_channel_ans_len
use Rattle.creators.proofs.new_channel.NewChannelAnsCreator.set_channel_frequency_ack.Reads as new_channel_ans_set_channel_frequency_ack
use Rattle.creators.proofs.new_channel.NewChannelAnsCreator.set_data_rate_range_ack.Reads as new_channel_ans_set_data_rate_range_ack
use Rattle.creators.proofs.rx_timing_setup.RXTimingSetupReqCreatorCreator2.new.Reads as rx_timing_setup_req_new
use Rattle.creators.proofs.rx_timing_setup.RXTimingSetupReqCreatorDefault.default.Reads as rx_timing_setup_req_default
use Rattle.creators.proofs.rx_timing_setup.RXTimingSetupReqCreatorCreator2.build.Reads as rx_timing_setup_req_build
use Rattle.creators.proofs.rx_timing_setup.RXTimingSetupReqCreatorCreator2.kind.Reads as rx_timing_setup_req_kind
use Rattle.creators.proofs.rx_timing_setup.RXTimingSetupReqCreatorCreator2.cid.Reads as rx_timing_setup_req_cid
use Rattle.creators.proofs.rx_timing_setup.RXTimingSetupReqCreatorCreator2.len.Reads as rx_timing_setup_req_len
use Rattle.creators.proofs.rx_timing_setup.RXTimingSetupReqCreator.set_delay.Reads as rx_timing_setup_req_set_delay
use Rattle.creators.proofs.rx_timing_setup.RXTimingSetupAnsCreatorCreator1.new.Reads as rx_timing_setup_ans_new
use Rattle.creators.proofs.rx_timing_setup.RXTimingSetupAnsCreatorDefault.default.Reads as rx_timing_setup_ans_default
use Rattle.creators.proofs.rx_timing_setup.RXTimingSetupAnsCreatorCreator1.build.Reads as rx_timing_setup_ans_build
use Rattle.creators.proofs.rx_timing_setup.RXTimingSetupAnsCreatorCreator1.kind.Reads as rx_timing_setup_ans_kind
use Rattle.creators.proofs.rx_timing_setup.RXTimingSetupAnsCreatorCreator1.cid.Reads as rx_timing_setup_ans_cid
use Rattle.creators.proofs.rx_timing_setup.RXTimingSetupAnsCreatorCreator1.len.Reads as rx_timing_setup_ans_len
use Rattle.creators.proofs.tx_param_setup.TXParamSetupReqCreatorCreator2.new.Reads as tx_param_setup_req_new
use Rattle.creators.proofs.tx_param_setup.TXParamSetupReqCreatorDefault.default.Reads as tx_param_setup_req_default
use Rattle.creators.proofs.tx_param_setup.TXParamSetupReqCreatorCreator2.build.Reads as tx_param_setup_req_build
use Rattle.creators.proofs.tx_param_setup.TXParamSetupReqCreatorCreator2.kind.Reads as tx_param_setup_req_kind
use Rattle.creators.proofs.tx_param_setup.TXParamSetupReqCreatorCreator2.cid.Reads as tx_param_setup_req_cid
use Rattle.creators.proofs.tx_param_setup.TXParamSetupReqCreatorCreator2.len.Reads as tx_param_setup_req_len
use Rattle.creators.proofs.tx_param_setup.TXParamSetupReqCreator.set_downlink_dwell_time.Reads as tx_param_setup_req_set_downlink_dwell_time
use Rattle.creators.proofs.tx_param_setup.TXParamSetupReqCreator.set_uplink_dwell_time.Reads as tx_param_setup_req_set_uplink_dwell_time
use Rattle.creators.proofs.tx_param_setup.TXParamSetupReqCreator.set_max_eirp.Reads as tx_param_setup_req_set_max_eirp
use Rattle.creators.proofs.tx_param_setup.TXParamSetupAnsCreatorCreator1.new.Reads as tx_param_setup_ans_new
use Rattle.creators.proofs.tx_param_setup.TXParamSetupAnsCreatorDefault.default.Reads as tx_param_setup_ans_default
use Rattle.creators.proofs.tx_param_setup.TXParamSetupAnsCreatorCreator1.build.Reads as tx_param_setup_ans_build
use Rattle.creators.proofs.tx_param_setup.TXParamSetupAnsCreatorCreator1.kind.Reads as tx_param_setup_ans_kind
use Rattle.creators.proofs.tx_param_setup.TXParamSetupAnsCreatorCreator1.cid.Reads as tx_param_setup_ans_cid
use Rattle.creators.proofs.tx_param_setup.TXParamSetupAnsCreatorCreator1.len.Reads as tx_param_setup_ans_len
use Rattle.creators.proofs.dl_channel.DlChannelReqCreatorCreator5.new.Reads as dl_channel_req_new
use Rattle.creators.proofs.dl_channel.DlChannelReqCreatorDefault.default.Reads as dl_channel_req_default
use Rattle.creators.proofs.dl_channel.DlChannelReqCreatorCreator5.build.Reads as dl_channel_req_build
use Rattle.creators.proofs.dl_channel.DlChannelReqCreatorCreator5.kind.Reads as dl_channel_req_kind
use Rattle.creators.proofs.dl_channel.DlChannelReqCreatorCreator5.cid.Reads as dl_channel_req_cid
use Rattle.creators.proofs.dl_channel.DlChannelReqCreatorCreator5.len.Reads as dl_channel_req_len
use Rattle.creators.proofs.dl_channel.DlChannelReqCreator.set_channel_index.Reads as dl_channel_req_set_channel_index
use Rattle.creators.proofs.dl_channel.DlChannelReqCreator.set_frequency.Reads as dl_channel_req_set_frequency
use Rattle.creators.proofs.dl_channel.DlChannelAnsCreatorCreator2.new.Reads as dl_channel_ans_new
use Rattle.creators.proofs.dl_channel.DlChannelAnsCreatorDefault.default.Reads as dl_channel_ans_default
use Rattle.creators.proofs.dl_channel.DlChannelAnsCreatorCreator2.build.Reads as dl_channel_ans_build
use Rattle.creators.proofs.dl_channel.DlChannelAnsCreatorCreator2.kind.Reads as dl_channel_ans_kind
use Rattle.creators.proofs.dl_channel.DlChannelAnsCreatorCreator2.cid.Reads as dl_channel_ans_cid
use Rattle.creators.proofs.dl_channel.DlChannelAnsCreatorCreator2.len.Reads as dl_channel_ans_len
use Rattle.creators.proofs.dl_channel.DlChannelAnsCreator.set_channel_frequency_ack.Reads as dl_channel_ans_set_channel_frequency_ack
use Rattle.creators.proofs.dl_channel.DlChannelAnsCreator.set_uplink_frequency_exists_ack.Reads as dl_channel_ans_set_uplink_frequency_exists_ack
use Rattle.creators.proofs.device_time.DeviceTimeReqCreatorCreator1.new.Reads as device_time_req_new
use Rattle.creators.proofs.device_time.DeviceTimeReqCreatorDefault.default.Reads as device_time_req_default
use Rattle.creators.proofs.device_time.DeviceTimeReqCreatorCreator1.build.Reads as device_time_req_build
use Rattle.creators.proofs.device_time.DeviceTimeReqCreatorCreator1.kind.Reads as device_time_req_kind
use Rattle.creators.proofs.device_time.DeviceTimeReqCreatorCreator1.cid.Reads as device_time_req_cid
use Rattle.creators.proofs.device_time.DeviceTimeReqCreatorCreator1.len.Reads as device_time_req_len
use Rattle.creators.proofs.device_time.DeviceTimeAnsCreatorCreator6.new.Reads as device_time_ans_new
use Rattle.creators.proofs.device_time.DeviceTimeAnsCreatorDefault.default.Reads as device_time_ans_default
use Rattle.creators.proofs.device_time.DeviceTimeAnsCreatorCreator6.build.Reads as device_time_ans_build
use Rattle.creators.proofs.device_time.DeviceTimeAnsCreatorCreator6.kind.Reads as device_time_ans_kind
use Rattle.creators.proofs.device_time.DeviceTimeAnsCreatorCreator6.cid.Reads as device_time_ans_cid
use Rattle.creators.proofs.device_time.DeviceTimeAnsCreatorCreator6.len.Reads as device_time_ans_len
use Rattle.creators.proofs.device_time.DeviceTimeAnsCreator.set_seconds.Reads as device_time_ans_set_seconds
use Rattle.creators.proofs.device_time.DeviceTimeAnsCreator.set_nano_seconds.Reads as device_time_ans_set_nano_seconds
use Rattle.creators.proofs.kinds.UplinkKindCommandKind.entry.Reads as uplink_kind_entry
use Rattle.creators.proofs.kinds.DownlinkKindCommandKind.entry.Reads as downlink_kind_entry
use Rattle.creators.proofs.kinds.MacCommandCreator.kind.Reads as creator_kind
use Rattle.creators.proofs.kinds.MacCommandCreator.cid.Reads as creator_cid
use Rattle.creators.proofs.kinds.MacCommandCreator.len.Reads as creator_len
use Rattle.creators.proofs.kinds.MacCommandCreator.build.Reads as creator_build
use Rattle.creators.proofs.kinds.MacCommandCreator.of.Reads as creator_of

link_check_req_new_one : Fixed link_check_req_new.Post
link_check_req_new_one _ _ _ _ _ _ p q = refl

link_check_req_default_one : Fixed link_check_req_default.Post
link_check_req_default_one _ _ _ _ _ _ p q = refl

link_check_req_build_one : Fixed link_check_req_build.Post
link_check_req_build_one _ _ _ _ _ _ p q = p ∙ sym q

link_check_req_kind_one : Fixed link_check_req_kind.Post
link_check_req_kind_one _ _ _ _ _ _ p q = uplink_kind_tells (p ∙ sym q)

link_check_req_cid_one : Fixed link_check_req_cid.Post
link_check_req_cid_one _ _ _ _ _ _ p q = p ∙ sym q

link_check_req_len_one : Fixed link_check_req_len.Post
link_check_req_len_one _ _ _ _ _ _ p q = p ∙ sym q

link_check_ans_new_one : Fixed link_check_ans_new.Post
link_check_ans_new_one _ _ _ _ _ _ p q = ap (λ (d : List ℕ). record { «data» = d }) (p ∙ sym q)

link_check_ans_default_one : Fixed link_check_ans_default.Post
link_check_ans_default_one _ _ _ _ _ _ p q = ap (λ (d : List ℕ). record { «data» = d }) (p ∙ sym q)

link_check_ans_build_one : Fixed link_check_ans_build.Post
link_check_ans_build_one _ _ _ _ _ _ p q = p ∙ sym q

link_check_ans_kind_one : Fixed link_check_ans_kind.Post
link_check_ans_kind_one _ _ _ _ _ _ p q = downlink_kind_tells (p ∙ sym q)

link_check_ans_cid_one : Fixed link_check_ans_cid.Post
link_check_ans_cid_one _ _ _ _ _ _ p q = p ∙ sym q

link_check_ans_len_one : Fixed link_check_ans_len.Post
link_check_ans_len_one _ _ _ _ _ _ p q = p ∙ sym q

link_check_ans_set_margin_one : Fixed link_check_ans_set_margin.Post
link_check_ans_set_margin_one _ _ _ _ _ _ p q = ap (λ (d : List ℕ). record { «data» = d }) (p ∙ sym q)

link_check_ans_set_gateway_count_one : Fixed link_check_ans_set_gateway_count.Post
link_check_ans_set_gateway_count_one _ _ _ _ _ _ p q = ap (λ (d : List ℕ). record { «data» = d }) (p ∙ sym q)

link_adr_req_new_one : Fixed link_adr_req_new.Post
link_adr_req_new_one _ _ _ _ _ _ p q = ap (λ (d : List ℕ). record { «data» = d }) (p ∙ sym q)

link_adr_req_default_one : Fixed link_adr_req_default.Post
link_adr_req_default_one _ _ _ _ _ _ p q = ap (λ (d : List ℕ). record { «data» = d }) (p ∙ sym q)

link_adr_req_build_one : Fixed link_adr_req_build.Post
link_adr_req_build_one _ _ _ _ _ _ p q = p ∙ sym q

link_adr_req_kind_one : Fixed link_adr_req_kind.Post
link_adr_req_kind_one _ _ _ _ _ _ p q = downlink_kind_tells (p ∙ sym q)

link_adr_req_cid_one : Fixed link_adr_req_cid.Post
link_adr_req_cid_one _ _ _ _ _ _ p q = p ∙ sym q

link_adr_req_len_one : Fixed link_adr_req_len.Post
link_adr_req_len_one _ _ _ _ _ _ p q = p ∙ sym q

link_adr_req_set_data_rate_one : FixedWith (λ s. s.0.now) link_adr_req_set_data_rate.Post
link_adr_req_set_data_rate_one _ _ _ _ _ _ p q = beside_tells (λ v d. (v, record { «data» = d })) (p ∙ sym q)

link_adr_req_set_tx_power_one : FixedWith (λ s. s.0.now) link_adr_req_set_tx_power.Post
link_adr_req_set_tx_power_one _ _ _ _ _ _ p q = beside_tells (λ v d. (v, record { «data» = d })) (p ∙ sym q)

link_adr_req_set_channel_mask_one : Fixed link_adr_req_set_channel_mask.Post
link_adr_req_set_channel_mask_one _ _ _ _ _ _ p q = ap (λ (d : List ℕ). record { «data» = d }) (p ∙ sym q)

link_adr_req_set_redundancy_one : Fixed link_adr_req_set_redundancy.Post
link_adr_req_set_redundancy_one _ _ _ _ _ _ p q = ap (λ (d : List ℕ). record { «data» = d }) (p ∙ sym q)

link_adr_ans_new_one : Fixed link_adr_ans_new.Post
link_adr_ans_new_one _ _ _ _ _ _ p q = ap (λ (d : List ℕ). record { «data» = d }) (p ∙ sym q)

link_adr_ans_default_one : Fixed link_adr_ans_default.Post
link_adr_ans_default_one _ _ _ _ _ _ p q = ap (λ (d : List ℕ). record { «data» = d }) (p ∙ sym q)

link_adr_ans_build_one : Fixed link_adr_ans_build.Post
link_adr_ans_build_one _ _ _ _ _ _ p q = p ∙ sym q

link_adr_ans_kind_one : Fixed link_adr_ans_kind.Post
link_adr_ans_kind_one _ _ _ _ _ _ p q = uplink_kind_tells (p ∙ sym q)

link_adr_ans_cid_one : Fixed link_adr_ans_cid.Post
link_adr_ans_cid_one _ _ _ _ _ _ p q = p ∙ sym q

link_adr_ans_len_one : Fixed link_adr_ans_len.Post
link_adr_ans_len_one _ _ _ _ _ _ p q = p ∙ sym q

link_adr_ans_set_channel_mask_ack_one : Fixed link_adr_ans_set_channel_mask_ack.Post
link_adr_ans_set_channel_mask_ack_one _ _ _ _ _ _ p q = ap (λ (d : List ℕ). record { «data» = d }) (p ∙ sym q)

link_adr_ans_set_data_rate_ack_one : Fixed link_adr_ans_set_data_rate_ack.Post
link_adr_ans_set_data_rate_ack_one _ _ _ _ _ _ p q = ap (λ (d : List ℕ). record { «data» = d }) (p ∙ sym q)

link_adr_ans_set_tx_power_ack_one : Fixed link_adr_ans_set_tx_power_ack.Post
link_adr_ans_set_tx_power_ack_one _ _ _ _ _ _ p q = ap (λ (d : List ℕ). record { «data» = d }) (p ∙ sym q)

duty_cycle_req_new_one : Fixed duty_cycle_req_new.Post
duty_cycle_req_new_one _ _ _ _ _ _ p q = ap (λ (d : List ℕ). record { «data» = d }) (p ∙ sym q)

duty_cycle_req_default_one : Fixed duty_cycle_req_default.Post
duty_cycle_req_default_one _ _ _ _ _ _ p q = ap (λ (d : List ℕ). record { «data» = d }) (p ∙ sym q)

duty_cycle_req_build_one : Fixed duty_cycle_req_build.Post
duty_cycle_req_build_one _ _ _ _ _ _ p q = p ∙ sym q

duty_cycle_req_kind_one : Fixed duty_cycle_req_kind.Post
duty_cycle_req_kind_one _ _ _ _ _ _ p q = downlink_kind_tells (p ∙ sym q)

duty_cycle_req_cid_one : Fixed duty_cycle_req_cid.Post
duty_cycle_req_cid_one _ _ _ _ _ _ p q = p ∙ sym q

duty_cycle_req_len_one : Fixed duty_cycle_req_len.Post
duty_cycle_req_len_one _ _ _ _ _ _ p q = p ∙ sym q

duty_cycle_req_set_max_duty_cycle_one : Fixed duty_cycle_req_set_max_duty_cycle.Post
duty_cycle_req_set_max_duty_cycle_one _ _ _ _ _ _ p q = ap (λ (d : List ℕ). record { «data» = d }) (p ∙ sym q)

duty_cycle_ans_new_one : Fixed duty_cycle_ans_new.Post
duty_cycle_ans_new_one _ _ _ _ _ _ p q = refl

duty_cycle_ans_default_one : Fixed duty_cycle_ans_default.Post
duty_cycle_ans_default_one _ _ _ _ _ _ p q = refl

duty_cycle_ans_build_one : Fixed duty_cycle_ans_build.Post
duty_cycle_ans_build_one _ _ _ _ _ _ p q = p ∙ sym q

duty_cycle_ans_kind_one : Fixed duty_cycle_ans_kind.Post
duty_cycle_ans_kind_one _ _ _ _ _ _ p q = uplink_kind_tells (p ∙ sym q)

duty_cycle_ans_cid_one : Fixed duty_cycle_ans_cid.Post
duty_cycle_ans_cid_one _ _ _ _ _ _ p q = p ∙ sym q

duty_cycle_ans_len_one : Fixed duty_cycle_ans_len.Post
duty_cycle_ans_len_one _ _ _ _ _ _ p q = p ∙ sym q

rx_param_setup_req_new_one : Fixed rx_param_setup_req_new.Post
rx_param_setup_req_new_one _ _ _ _ _ _ p q = ap (λ (d : List ℕ). record { «data» = d }) (p ∙ sym q)

rx_param_setup_req_default_one : Fixed rx_param_setup_req_default.Post
rx_param_setup_req_default_one _ _ _ _ _ _ p q = ap (λ (d : List ℕ). record { «data» = d }) (p ∙ sym q)

rx_param_setup_req_build_one : Fixed rx_param_setup_req_build.Post
rx_param_setup_req_build_one _ _ _ _ _ _ p q = p ∙ sym q

rx_param_setup_req_kind_one : Fixed rx_param_setup_req_kind.Post
rx_param_setup_req_kind_one _ _ _ _ _ _ p q = downlink_kind_tells (p ∙ sym q)

rx_param_setup_req_cid_one : Fixed rx_param_setup_req_cid.Post
rx_param_setup_req_cid_one _ _ _ _ _ _ p q = p ∙ sym q

rx_param_setup_req_len_one : Fixed rx_param_setup_req_len.Post
rx_param_setup_req_len_one _ _ _ _ _ _ p q = p ∙ sym q

rx_param_setup_req_set_dl_settings_one : Fixed rx_param_setup_req_set_dl_settings.Post
rx_param_setup_req_set_dl_settings_one _ _ _ _ _ _ p q = ap (λ (d : List ℕ). record { «data» = d }) (p ∙ sym q)

rx_param_setup_req_set_frequency_one : Fixed rx_param_setup_req_set_frequency.Post
rx_param_setup_req_set_frequency_one _ _ _ _ _ _ p q = ap (λ (d : List ℕ). record { «data» = d }) (p ∙ sym q)

rx_param_setup_ans_new_one : Fixed rx_param_setup_ans_new.Post
rx_param_setup_ans_new_one _ _ _ _ _ _ p q = ap (λ (d : List ℕ). record { «data» = d }) (p ∙ sym q)

rx_param_setup_ans_default_one : Fixed rx_param_setup_ans_default.Post
rx_param_setup_ans_default_one _ _ _ _ _ _ p q = ap (λ (d : List ℕ). record { «data» = d }) (p ∙ sym q)

rx_param_setup_ans_build_one : Fixed rx_param_setup_ans_build.Post
rx_param_setup_ans_build_one _ _ _ _ _ _ p q = p ∙ sym q

rx_param_setup_ans_kind_one : Fixed rx_param_setup_ans_kind.Post
rx_param_setup_ans_kind_one _ _ _ _ _ _ p q = uplink_kind_tells (p ∙ sym q)

rx_param_setup_ans_cid_one : Fixed rx_param_setup_ans_cid.Post
rx_param_setup_ans_cid_one _ _ _ _ _ _ p q = p ∙ sym q

rx_param_setup_ans_len_one : Fixed rx_param_setup_ans_len.Post
rx_param_setup_ans_len_one _ _ _ _ _ _ p q = p ∙ sym q

rx_param_setup_ans_set_channel_ack_one : Fixed rx_param_setup_ans_set_channel_ack.Post
rx_param_setup_ans_set_channel_ack_one _ _ _ _ _ _ p q = ap (λ (d : List ℕ). record { «data» = d }) (p ∙ sym q)

rx_param_setup_ans_set_rx2_data_rate_ack_one : Fixed rx_param_setup_ans_set_rx2_data_rate_ack.Post
rx_param_setup_ans_set_rx2_data_rate_ack_one _ _ _ _ _ _ p q = ap (λ (d : List ℕ). record { «data» = d }) (p ∙ sym q)

rx_param_setup_ans_set_rx1_data_rate_offset_ack_one : Fixed rx_param_setup_ans_set_rx1_data_rate_offset_ack.Post
rx_param_setup_ans_set_rx1_data_rate_offset_ack_one _ _ _ _ _ _ p q = ap (λ (d : List ℕ). record { «data» = d }) (p ∙ sym q)

dev_status_req_new_one : Fixed dev_status_req_new.Post
dev_status_req_new_one _ _ _ _ _ _ p q = refl

dev_status_req_default_one : Fixed dev_status_req_default.Post
dev_status_req_default_one _ _ _ _ _ _ p q = refl

dev_status_req_build_one : Fixed dev_status_req_build.Post
dev_status_req_build_one _ _ _ _ _ _ p q = p ∙ sym q

dev_status_req_kind_one : Fixed dev_status_req_kind.Post
dev_status_req_kind_one _ _ _ _ _ _ p q = downlink_kind_tells (p ∙ sym q)

dev_status_req_cid_one : Fixed dev_status_req_cid.Post
dev_status_req_cid_one _ _ _ _ _ _ p q = p ∙ sym q

dev_status_req_len_one : Fixed dev_status_req_len.Post
dev_status_req_len_one _ _ _ _ _ _ p q = p ∙ sym q

dev_status_ans_new_one : Fixed dev_status_ans_new.Post
dev_status_ans_new_one _ _ _ _ _ _ p q = ap (λ (d : List ℕ). record { «data» = d }) (p ∙ sym q)

dev_status_ans_default_one : Fixed dev_status_ans_default.Post
dev_status_ans_default_one _ _ _ _ _ _ p q = ap (λ (d : List ℕ). record { «data» = d }) (p ∙ sym q)

dev_status_ans_build_one : Fixed dev_status_ans_build.Post
dev_status_ans_build_one _ _ _ _ _ _ p q = p ∙ sym q

dev_status_ans_kind_one : Fixed dev_status_ans_kind.Post
dev_status_ans_kind_one _ _ _ _ _ _ p q = uplink_kind_tells (p ∙ sym q)

dev_status_ans_cid_one : Fixed dev_status_ans_cid.Post
dev_status_ans_cid_one _ _ _ _ _ _ p q = p ∙ sym q

dev_status_ans_len_one : Fixed dev_status_ans_len.Post
dev_status_ans_len_one _ _ _ _ _ _ p q = p ∙ sym q

dev_status_ans_set_battery_one : Fixed dev_status_ans_set_battery.Post
dev_status_ans_set_battery_one _ _ _ _ _ _ p q = ap (λ (d : List ℕ). record { «data» = d }) (p ∙ sym q)

dev_status_ans_set_margin_one : FixedWith (λ s. s.0.now) dev_status_ans_set_margin.Post
dev_status_ans_set_margin_one _ _ _ _ _ _ p q = beside_tells (λ v d. (v, record { «data» = d })) (p ∙ sym q)

new_channel_req_new_one : Fixed new_channel_req_new.Post
new_channel_req_new_one _ _ _ _ _ _ p q = ap (λ (d : List ℕ). record { «data» = d }) (p ∙ sym q)

new_channel_req_default_one : Fixed new_channel_req_default.Post
new_channel_req_default_one _ _ _ _ _ _ p q = ap (λ (d : List ℕ). record { «data» = d }) (p ∙ sym q)

new_channel_req_build_one : Fixed new_channel_req_build.Post
new_channel_req_build_one _ _ _ _ _ _ p q = p ∙ sym q

new_channel_req_kind_one : Fixed new_channel_req_kind.Post
new_channel_req_kind_one _ _ _ _ _ _ p q = downlink_kind_tells (p ∙ sym q)

new_channel_req_cid_one : Fixed new_channel_req_cid.Post
new_channel_req_cid_one _ _ _ _ _ _ p q = p ∙ sym q

new_channel_req_len_one : Fixed new_channel_req_len.Post
new_channel_req_len_one _ _ _ _ _ _ p q = p ∙ sym q

new_channel_req_set_channel_index_one : Fixed new_channel_req_set_channel_index.Post
new_channel_req_set_channel_index_one _ _ _ _ _ _ p q = ap (λ (d : List ℕ). record { «data» = d }) (p ∙ sym q)

new_channel_req_set_frequency_one : Fixed new_channel_req_set_frequency.Post
new_channel_req_set_frequency_one _ _ _ _ _ _ p q = ap (λ (d : List ℕ). record { «data» = d }) (p ∙ sym q)

new_channel_req_set_data_rate_range_one : Fixed new_channel_req_set_data_rate_range.Post
new_channel_req_set_data_rate_range_one _ _ _ _ _ _ p q = ap (λ (d : List ℕ). record { «data» = d }) (p ∙ sym q)

new_channel_ans_new_one : Fixed new_channel_ans_new.Post
new_channel_ans_new_one _ _ _ _ _ _ p q = ap (λ (d : List ℕ). record { «data» = d }) (p ∙ sym q)

new_channel_ans_default_one : Fixed new_channel_ans_default.Post
new_channel_ans_default_one _ _ _ _ _ _ p q = ap (λ (d : List ℕ). record { «data» = d }) (p ∙ sym q)

new_channel_ans_build_one : Fixed new_channel_ans_build.Post
new_channel_ans_build_one _ _ _ _ _ _ p q = p ∙ sym q

new_channel_ans_kind_one : Fixed new_channel_ans_kind.Post
new_channel_ans_kind_one _ _ _ _ _ _ p q = uplink_kind_tells (p ∙ sym q)

new_channel_ans_cid_one : Fixed new_channel_ans_cid.Post
new_channel_ans_cid_one _ _ _ _ _ _ p q = p ∙ sym q

new_channel_ans_len_one : Fixed new_channel_ans_len.Post
new_channel_ans_len_one _ _ _ _ _ _ p q = p ∙ sym q

new_channel_ans_set_channel_frequency_ack_one : Fixed new_channel_ans_set_channel_frequency_ack.Post
new_channel_ans_set_channel_frequency_ack_one _ _ _ _ _ _ p q = ap (λ (d : List ℕ). record { «data» = d }) (p ∙ sym q)

new_channel_ans_set_data_rate_range_ack_one : Fixed new_channel_ans_set_data_rate_range_ack.Post
new_channel_ans_set_data_rate_range_ack_one _ _ _ _ _ _ p q = ap (λ (d : List ℕ). record { «data» = d }) (p ∙ sym q)

rx_timing_setup_req_new_one : Fixed rx_timing_setup_req_new.Post
rx_timing_setup_req_new_one _ _ _ _ _ _ p q = ap (λ (d : List ℕ). record { «data» = d }) (p ∙ sym q)

rx_timing_setup_req_default_one : Fixed rx_timing_setup_req_default.Post
rx_timing_setup_req_default_one _ _ _ _ _ _ p q = ap (λ (d : List ℕ). record { «data» = d }) (p ∙ sym q)

rx_timing_setup_req_build_one : Fixed rx_timing_setup_req_build.Post
rx_timing_setup_req_build_one _ _ _ _ _ _ p q = p ∙ sym q

rx_timing_setup_req_kind_one : Fixed rx_timing_setup_req_kind.Post
rx_timing_setup_req_kind_one _ _ _ _ _ _ p q = downlink_kind_tells (p ∙ sym q)

rx_timing_setup_req_cid_one : Fixed rx_timing_setup_req_cid.Post
rx_timing_setup_req_cid_one _ _ _ _ _ _ p q = p ∙ sym q

rx_timing_setup_req_len_one : Fixed rx_timing_setup_req_len.Post
rx_timing_setup_req_len_one _ _ _ _ _ _ p q = p ∙ sym q

rx_timing_setup_req_set_delay_one : FixedWith (λ s. s.0.now) rx_timing_setup_req_set_delay.Post
rx_timing_setup_req_set_delay_one _ _ _ _ _ _ p q = beside_tells (λ v d. (v, record { «data» = d })) (p ∙ sym q)

rx_timing_setup_ans_new_one : Fixed rx_timing_setup_ans_new.Post
rx_timing_setup_ans_new_one _ _ _ _ _ _ p q = refl

rx_timing_setup_ans_default_one : Fixed rx_timing_setup_ans_default.Post
rx_timing_setup_ans_default_one _ _ _ _ _ _ p q = refl

rx_timing_setup_ans_build_one : Fixed rx_timing_setup_ans_build.Post
rx_timing_setup_ans_build_one _ _ _ _ _ _ p q = p ∙ sym q

rx_timing_setup_ans_kind_one : Fixed rx_timing_setup_ans_kind.Post
rx_timing_setup_ans_kind_one _ _ _ _ _ _ p q = uplink_kind_tells (p ∙ sym q)

rx_timing_setup_ans_cid_one : Fixed rx_timing_setup_ans_cid.Post
rx_timing_setup_ans_cid_one _ _ _ _ _ _ p q = p ∙ sym q

rx_timing_setup_ans_len_one : Fixed rx_timing_setup_ans_len.Post
rx_timing_setup_ans_len_one _ _ _ _ _ _ p q = p ∙ sym q

tx_param_setup_req_new_one : Fixed tx_param_setup_req_new.Post
tx_param_setup_req_new_one _ _ _ _ _ _ p q = ap (λ (d : List ℕ). record { «data» = d }) (p ∙ sym q)

tx_param_setup_req_default_one : Fixed tx_param_setup_req_default.Post
tx_param_setup_req_default_one _ _ _ _ _ _ p q = ap (λ (d : List ℕ). record { «data» = d }) (p ∙ sym q)

tx_param_setup_req_build_one : Fixed tx_param_setup_req_build.Post
tx_param_setup_req_build_one _ _ _ _ _ _ p q = p ∙ sym q

tx_param_setup_req_kind_one : Fixed tx_param_setup_req_kind.Post
tx_param_setup_req_kind_one _ _ _ _ _ _ p q = downlink_kind_tells (p ∙ sym q)

tx_param_setup_req_cid_one : Fixed tx_param_setup_req_cid.Post
tx_param_setup_req_cid_one _ _ _ _ _ _ p q = p ∙ sym q

tx_param_setup_req_len_one : Fixed tx_param_setup_req_len.Post
tx_param_setup_req_len_one _ _ _ _ _ _ p q = p ∙ sym q

tx_param_setup_req_set_downlink_dwell_time_one : Fixed tx_param_setup_req_set_downlink_dwell_time.Post
tx_param_setup_req_set_downlink_dwell_time_one _ _ _ _ _ _ p q = ap (λ (d : List ℕ). record { «data» = d }) (p ∙ sym q)

tx_param_setup_req_set_uplink_dwell_time_one : Fixed tx_param_setup_req_set_uplink_dwell_time.Post
tx_param_setup_req_set_uplink_dwell_time_one _ _ _ _ _ _ p q = ap (λ (d : List ℕ). record { «data» = d }) (p ∙ sym q)

tx_param_setup_req_set_max_eirp_one : FixedWith (λ s. s.0.now) tx_param_setup_req_set_max_eirp.Post
tx_param_setup_req_set_max_eirp_one _ _ _ _ _ _ p q = beside_tells (λ v d. (v, record { «data» = d })) (p ∙ sym q)

tx_param_setup_ans_new_one : Fixed tx_param_setup_ans_new.Post
tx_param_setup_ans_new_one _ _ _ _ _ _ p q = refl

tx_param_setup_ans_default_one : Fixed tx_param_setup_ans_default.Post
tx_param_setup_ans_default_one _ _ _ _ _ _ p q = refl

tx_param_setup_ans_build_one : Fixed tx_param_setup_ans_build.Post
tx_param_setup_ans_build_one _ _ _ _ _ _ p q = p ∙ sym q

tx_param_setup_ans_kind_one : Fixed tx_param_setup_ans_kind.Post
tx_param_setup_ans_kind_one _ _ _ _ _ _ p q = uplink_kind_tells (p ∙ sym q)

tx_param_setup_ans_cid_one : Fixed tx_param_setup_ans_cid.Post
tx_param_setup_ans_cid_one _ _ _ _ _ _ p q = p ∙ sym q

tx_param_setup_ans_len_one : Fixed tx_param_setup_ans_len.Post
tx_param_setup_ans_len_one _ _ _ _ _ _ p q = p ∙ sym q

dl_channel_req_new_one : Fixed dl_channel_req_new.Post
dl_channel_req_new_one _ _ _ _ _ _ p q = ap (λ (d : List ℕ). record { «data» = d }) (p ∙ sym q)

dl_channel_req_default_one : Fixed dl_channel_req_default.Post
dl_channel_req_default_one _ _ _ _ _ _ p q = ap (λ (d : List ℕ). record { «data» = d }) (p ∙ sym q)

dl_channel_req_build_one : Fixed dl_channel_req_build.Post
dl_channel_req_build_one _ _ _ _ _ _ p q = p ∙ sym q

dl_channel_req_kind_one : Fixed dl_channel_req_kind.Post
dl_channel_req_kind_one _ _ _ _ _ _ p q = downlink_kind_tells (p ∙ sym q)

dl_channel_req_cid_one : Fixed dl_channel_req_cid.Post
dl_channel_req_cid_one _ _ _ _ _ _ p q = p ∙ sym q

dl_channel_req_len_one : Fixed dl_channel_req_len.Post
dl_channel_req_len_one _ _ _ _ _ _ p q = p ∙ sym q

dl_channel_req_set_channel_index_one : Fixed dl_channel_req_set_channel_index.Post
dl_channel_req_set_channel_index_one _ _ _ _ _ _ p q = ap (λ (d : List ℕ). record { «data» = d }) (p ∙ sym q)

dl_channel_req_set_frequency_one : Fixed dl_channel_req_set_frequency.Post
dl_channel_req_set_frequency_one _ _ _ _ _ _ p q = ap (λ (d : List ℕ). record { «data» = d }) (p ∙ sym q)

dl_channel_ans_new_one : Fixed dl_channel_ans_new.Post
dl_channel_ans_new_one _ _ _ _ _ _ p q = ap (λ (d : List ℕ). record { «data» = d }) (p ∙ sym q)

dl_channel_ans_default_one : Fixed dl_channel_ans_default.Post
dl_channel_ans_default_one _ _ _ _ _ _ p q = ap (λ (d : List ℕ). record { «data» = d }) (p ∙ sym q)

dl_channel_ans_build_one : Fixed dl_channel_ans_build.Post
dl_channel_ans_build_one _ _ _ _ _ _ p q = p ∙ sym q

dl_channel_ans_kind_one : Fixed dl_channel_ans_kind.Post
dl_channel_ans_kind_one _ _ _ _ _ _ p q = uplink_kind_tells (p ∙ sym q)

dl_channel_ans_cid_one : Fixed dl_channel_ans_cid.Post
dl_channel_ans_cid_one _ _ _ _ _ _ p q = p ∙ sym q

dl_channel_ans_len_one : Fixed dl_channel_ans_len.Post
dl_channel_ans_len_one _ _ _ _ _ _ p q = p ∙ sym q

dl_channel_ans_set_channel_frequency_ack_one : Fixed dl_channel_ans_set_channel_frequency_ack.Post
dl_channel_ans_set_channel_frequency_ack_one _ _ _ _ _ _ p q = ap (λ (d : List ℕ). record { «data» = d }) (p ∙ sym q)

dl_channel_ans_set_uplink_frequency_exists_ack_one : Fixed dl_channel_ans_set_uplink_frequency_exists_ack.Post
dl_channel_ans_set_uplink_frequency_exists_ack_one _ _ _ _ _ _ p q = ap (λ (d : List ℕ). record { «data» = d }) (p ∙ sym q)

device_time_req_new_one : Fixed device_time_req_new.Post
device_time_req_new_one _ _ _ _ _ _ p q = refl

device_time_req_default_one : Fixed device_time_req_default.Post
device_time_req_default_one _ _ _ _ _ _ p q = refl

device_time_req_build_one : Fixed device_time_req_build.Post
device_time_req_build_one _ _ _ _ _ _ p q = p ∙ sym q

device_time_req_kind_one : Fixed device_time_req_kind.Post
device_time_req_kind_one _ _ _ _ _ _ p q = uplink_kind_tells (p ∙ sym q)

device_time_req_cid_one : Fixed device_time_req_cid.Post
device_time_req_cid_one _ _ _ _ _ _ p q = p ∙ sym q

device_time_req_len_one : Fixed device_time_req_len.Post
device_time_req_len_one _ _ _ _ _ _ p q = p ∙ sym q

device_time_ans_new_one : Fixed device_time_ans_new.Post
device_time_ans_new_one _ _ _ _ _ _ p q = ap (λ (d : List ℕ). record { «data» = d }) (p ∙ sym q)

device_time_ans_default_one : Fixed device_time_ans_default.Post
device_time_ans_default_one _ _ _ _ _ _ p q = ap (λ (d : List ℕ). record { «data» = d }) (p ∙ sym q)

device_time_ans_build_one : Fixed device_time_ans_build.Post
device_time_ans_build_one _ _ _ _ _ _ p q = p ∙ sym q

device_time_ans_kind_one : Fixed device_time_ans_kind.Post
device_time_ans_kind_one _ _ _ _ _ _ p q = downlink_kind_tells (p ∙ sym q)

device_time_ans_cid_one : Fixed device_time_ans_cid.Post
device_time_ans_cid_one _ _ _ _ _ _ p q = p ∙ sym q

device_time_ans_len_one : Fixed device_time_ans_len.Post
device_time_ans_len_one _ _ _ _ _ _ p q = p ∙ sym q

device_time_ans_set_seconds_one : Fixed device_time_ans_set_seconds.Post
device_time_ans_set_seconds_one _ _ _ _ _ _ p q = ap (λ (d : List ℕ). record { «data» = d }) (p ∙ sym q)

device_time_ans_set_nano_seconds_one : FixedWith (λ s. s.0.now) device_time_ans_set_nano_seconds.Post
device_time_ans_set_nano_seconds_one _ _ _ _ _ _ p q = beside_tells (λ v d. (v, record { «data» = d })) (p ∙ sym q)

uplink_kind_entry_one : Fixed uplink_kind_entry.Post
uplink_kind_entry_one _ _ _ _ _ _ p q = ap₂ (λ c n. record { cid = c; size = n }) (p.0 ∙ sym q.0) (p.1 ∙ sym q.1)

downlink_kind_entry_one : Fixed downlink_kind_entry.Post
downlink_kind_entry_one _ _ _ _ _ _ p q = ap₂ (λ c n. record { cid = c; size = n }) (p.0 ∙ sym q.0) (p.1 ∙ sym q.1)

-- of a creator of any command, in either direction
creator_kind_one : (A : _) (laws : _) (copies : _) (kinds : _) (kinds-dict : _) (clones : _) (clones-dict : _) → Fixed (creator_kind.Post A laws copies kinds kinds-dict clones clones-dict)
creator_kind_one A laws copies kinds kinds-dict clones clones-dict _ _ _ _ _ _ p q = p ∙ sym q

creator_cid_one : (A : _) (laws : _) (copies : _) (kinds : _) (kinds-dict : _) (clones : _) (clones-dict : _) → Fixed (creator_cid.Post A laws copies kinds kinds-dict clones clones-dict)
creator_cid_one A laws copies kinds kinds-dict clones clones-dict _ _ _ _ _ _ p q = p ∙ sym q

creator_len_one : (A : _) (laws : _) (copies : _) (kinds : _) (kinds-dict : _) (clones : _) (clones-dict : _) → Fixed (creator_len.Post A laws copies kinds kinds-dict clones clones-dict)
creator_len_one A laws copies kinds kinds-dict clones clones-dict _ _ _ _ _ _ p q = p ∙ sym q

creator_build_one : (A : _) (laws : _) (copies : _) (kinds : _) (kinds-dict : _) (clones : _) (clones-dict : _) → Fixed (creator_build.Post A laws copies kinds kinds-dict clones clones-dict)
creator_build_one A laws copies kinds kinds-dict clones clones-dict _ _ _ _ _ _ p q = image_tells (p ∙ sym q)

creator_of_one : (A : _) (n : _) (C : _) (laws : _) (fits : _) (laws-c : _) (copies : _) (copies-c : _) (kinds : _) (kinds-dict : _) (clones : _) (clones-dict : _) (creates : _) (creates-dict : _) (clones-c : _) (clones-c-dict : _) (defaults : _) (defaults-dict : _)
    → Fixed (creator_of.Post A n C laws fits laws-c copies copies-c kinds kinds-dict clones clones-dict creates creates-dict clones-c clones-c-dict defaults defaults-dict)
creator_of_one A n C laws fits laws-c copies copies-c kinds kinds-dict clones clones-dict creates creates-dict clones-c clones-c-dict defaults defaults-dict _ _ _ _ _ _ p q = creator_tells kinds.command kinds.apart (p ∙ sym q)

-- The bytes that each payload type holds, in the order of the payload.
use Rattle.std.specs.Prelude.{ℕ, List, [], ◌∷◌}
use Rattle.payloads.specs.declared.link_check.LinkCheckReqPayload.{LinkCheckReqPayload}
use Rattle.payloads.specs.declared.link_check.LinkCheckAnsPayload.{LinkCheckAnsPayload}
use Rattle.payloads.specs.declared.link_adr.LinkADRReqPayload.{LinkADRReqPayload}
use Rattle.payloads.specs.declared.link_adr.LinkADRAnsPayload.{LinkADRAnsPayload}
use Rattle.payloads.specs.declared.duty_cycle.DutyCycleReqPayload.{DutyCycleReqPayload}
use Rattle.payloads.specs.declared.duty_cycle.DutyCycleAnsPayload.{DutyCycleAnsPayload}
use Rattle.payloads.specs.declared.rx_param_setup.RXParamSetupReqPayload.{RXParamSetupReqPayload}
use Rattle.payloads.specs.declared.rx_param_setup.RXParamSetupAnsPayload.{RXParamSetupAnsPayload}
use Rattle.payloads.specs.declared.dev_status.DevStatusReqPayload.{DevStatusReqPayload}
use Rattle.payloads.specs.declared.dev_status.DevStatusAnsPayload.{DevStatusAnsPayload}
use Rattle.payloads.specs.declared.new_channel.NewChannelReqPayload.{NewChannelReqPayload}
use Rattle.payloads.specs.declared.new_channel.NewChannelAnsPayload.{NewChannelAnsPayload}
use Rattle.payloads.specs.declared.rx_timing_setup.RXTimingSetupReqPayload.{RXTimingSetupReqPayload}
use Rattle.payloads.specs.declared.rx_timing_setup.RXTimingSetupAnsPayload.{RXTimingSetupAnsPayload}
use Rattle.payloads.specs.declared.tx_param_setup.TXParamSetupReqPayload.{TXParamSetupReqPayload}
use Rattle.payloads.specs.declared.tx_param_setup.TXParamSetupAnsPayload.{TXParamSetupAnsPayload}
use Rattle.payloads.specs.declared.dl_channel.DlChannelReqPayload.{DlChannelReqPayload}
use Rattle.payloads.specs.declared.dl_channel.DlChannelAnsPayload.{DlChannelAnsPayload}
use Rattle.payloads.specs.declared.device_time.DeviceTimeReqPayload.{DeviceTimeReqPayload}
use Rattle.payloads.specs.declared.device_time.DeviceTimeAnsPayload.{DeviceTimeAnsPayload}

abbrev pub link_check_req_bytes : LinkCheckReqPayload → List ℕ
link_check_req_bytes p = []

abbrev pub link_check_ans_bytes : LinkCheckAnsPayload → List ℕ
link_check_ans_bytes p = p.0 ∷ p.1 ∷ []

abbrev pub link_adr_req_bytes : LinkADRReqPayload → List ℕ
link_adr_req_bytes p = p.0 ∷ p.1 ∷ p.2 ∷ p.3 ∷ []

abbrev pub link_adr_ans_bytes : LinkADRAnsPayload → List ℕ
link_adr_ans_bytes p = p.0 ∷ []

abbrev pub duty_cycle_req_bytes : DutyCycleReqPayload → List ℕ
duty_cycle_req_bytes p = p.0 ∷ []

abbrev pub duty_cycle_ans_bytes : DutyCycleAnsPayload → List ℕ
duty_cycle_ans_bytes p = []

abbrev pub rx_param_setup_req_bytes : RXParamSetupReqPayload → List ℕ
rx_param_setup_req_bytes p = p.0 ∷ p.1 ∷ p.2 ∷ p.3 ∷ []

abbrev pub rx_param_setup_ans_bytes : RXParamSetupAnsPayload → List ℕ
rx_param_setup_ans_bytes p = p.0 ∷ []

abbrev pub dev_status_req_bytes : DevStatusReqPayload → List ℕ
dev_status_req_bytes p = []

abbrev pub dev_status_ans_bytes : DevStatusAnsPayload → List ℕ
dev_status_ans_bytes p = p.0 ∷ p.1 ∷ []

abbrev pub new_channel_req_bytes : NewChannelReqPayload → List ℕ
new_channel_req_bytes p = p.0 ∷ p.1 ∷ p.2 ∷ p.3 ∷ p.4 ∷ []

abbrev pub new_channel_ans_bytes : NewChannelAnsPayload → List ℕ
new_channel_ans_bytes p = p.0 ∷ []

abbrev pub rx_timing_setup_req_bytes : RXTimingSetupReqPayload → List ℕ
rx_timing_setup_req_bytes p = p.0 ∷ []

abbrev pub rx_timing_setup_ans_bytes : RXTimingSetupAnsPayload → List ℕ
rx_timing_setup_ans_bytes p = []

abbrev pub tx_param_setup_req_bytes : TXParamSetupReqPayload → List ℕ
tx_param_setup_req_bytes p = p.0 ∷ []

abbrev pub tx_param_setup_ans_bytes : TXParamSetupAnsPayload → List ℕ
tx_param_setup_ans_bytes p = []

abbrev pub dl_channel_req_bytes : DlChannelReqPayload → List ℕ
dl_channel_req_bytes p = p.0 ∷ p.1 ∷ p.2 ∷ p.3 ∷ []

abbrev pub dl_channel_ans_bytes : DlChannelAnsPayload → List ℕ
dl_channel_ans_bytes p = p.0 ∷ []

abbrev pub device_time_req_bytes : DeviceTimeReqPayload → List ℕ
device_time_req_bytes p = []

abbrev pub device_time_ans_bytes : DeviceTimeAnsPayload → List ℕ
device_time_ans_bytes p = p.0 ∷ p.1 ∷ p.2 ∷ p.3 ∷ p.4 ∷ []

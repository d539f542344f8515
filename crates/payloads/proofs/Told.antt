-- A payload is known from its bytes, and an answer from what it tells: each has an inverse. Assumes nothing.
use Prim.Native.Nat.{ℕ, ◌-◌}
use mathlib.Core.Path.{◌≡◌, refl}
use mathlib.Core.List.{List, [], ◌∷◌}
use lib.ListN.{get_or}
use native.Mathlib.Omega.{arith}
use Rattle.std.specs.Prelude.{Result}
use Rattle.bits.proofs.Fixed.{by_inverse}
use Rattle.table.specs.declared.refusal.Refusal.{Refusal}
use Rattle.table.specs.Told.{told}
use Rattle.table.proofs.Told.{tells}
use Rattle.payloads.specs.Bytes.{
  link_check_ans_bytes,
  link_adr_req_bytes,
  link_adr_ans_bytes,
  duty_cycle_req_bytes,
  rx_param_setup_req_bytes,
  rx_param_setup_ans_bytes,
  dev_status_ans_bytes,
  new_channel_req_bytes,
  new_channel_ans_bytes,
  rx_timing_setup_req_bytes,
  tx_param_setup_req_bytes,
  dl_channel_req_bytes,
  dl_channel_ans_bytes,
  device_time_ans_bytes,
}
use Rattle.payloads.specs.Commands.{uplink_entry, uplink_bytes, downlink_entry, downlink_bytes}
use Rattle.payloads.specs.declared.link_check.LinkCheckAnsPayload.{LinkCheckAnsPayload}
use Rattle.payloads.specs.declared.link_adr.LinkADRReqPayload.{LinkADRReqPayload}
use Rattle.payloads.specs.declared.link_adr.LinkADRAnsPayload.{LinkADRAnsPayload}
use Rattle.payloads.specs.declared.duty_cycle.DutyCycleReqPayload.{DutyCycleReqPayload}
use Rattle.payloads.specs.declared.rx_param_setup.RXParamSetupReqPayload.{RXParamSetupReqPayload}
use Rattle.payloads.specs.declared.rx_param_setup.RXParamSetupAnsPayload.{RXParamSetupAnsPayload}
use Rattle.payloads.specs.declared.dev_status.DevStatusAnsPayload.{DevStatusAnsPayload}
use Rattle.payloads.specs.declared.new_channel.NewChannelReqPayload.{NewChannelReqPayload}
use Rattle.payloads.specs.declared.new_channel.NewChannelAnsPayload.{NewChannelAnsPayload}
use Rattle.payloads.specs.declared.rx_timing_setup.RXTimingSetupReqPayload.{RXTimingSetupReqPayload}
use Rattle.payloads.specs.declared.tx_param_setup.TXParamSetupReqPayload.{TXParamSetupReqPayload}
use Rattle.payloads.specs.declared.dl_channel.DlChannelReqPayload.{DlChannelReqPayload}
use Rattle.payloads.specs.declared.dl_channel.DlChannelAnsPayload.{DlChannelAnsPayload}
use Rattle.payloads.specs.declared.device_time.DeviceTimeAnsPayload.{DeviceTimeAnsPayload}
use Rattle.payloads.specs.declared.uplink.UplinkMacCommand.{UplinkMacCommand}
use Rattle.payloads.specs.declared.uplink.UplinkMacCommand.TheVariants as Uplink
use Rattle.payloads.specs.declared.downlink.DownlinkMacCommand.{DownlinkMacCommand}
use Rattle.payloads.specs.declared.downlink.DownlinkMacCommand.TheVariants as Downlink

-- ---- the answers of the sized constructors

pub link_check_ans_tells : {a b : Result LinkCheckAnsPayload Refusal} → told link_check_ans_bytes a ≡ told link_check_ans_bytes b → a ≡ b
link_check_ans_tells e = tells link_check_ans_bytes (λ s. record { 0 = get_or s 0 0; 1 = get_or s 1 0 }) (λ p. refl) e

pub link_adr_req_tells : {a b : Result LinkADRReqPayload Refusal} → told link_adr_req_bytes a ≡ told link_adr_req_bytes b → a ≡ b
link_adr_req_tells e = tells link_adr_req_bytes (λ s. record { 0 = get_or s 0 0; 1 = get_or s 1 0; 2 = get_or s 2 0; 3 = get_or s 3 0 }) (λ p. refl) e

pub link_adr_ans_tells : {a b : Result LinkADRAnsPayload Refusal} → told link_adr_ans_bytes a ≡ told link_adr_ans_bytes b → a ≡ b
link_adr_ans_tells e = tells link_adr_ans_bytes (λ s. record { 0 = get_or s 0 0 }) (λ p. refl) e

pub duty_cycle_req_tells : {a b : Result DutyCycleReqPayload Refusal} → told duty_cycle_req_bytes a ≡ told duty_cycle_req_bytes b → a ≡ b
duty_cycle_req_tells e = tells duty_cycle_req_bytes (λ s. record { 0 = get_or s 0 0 }) (λ p. refl) e

pub rx_param_setup_req_tells : {a b : Result RXParamSetupReqPayload Refusal} → told rx_param_setup_req_bytes a ≡ told rx_param_setup_req_bytes b → a ≡ b
rx_param_setup_req_tells e = tells rx_param_setup_req_bytes (λ s. record { 0 = get_or s 0 0; 1 = get_or s 1 0; 2 = get_or s 2 0; 3 = get_or s 3 0 }) (λ p. refl) e

pub rx_param_setup_ans_tells : {a b : Result RXParamSetupAnsPayload Refusal} → told rx_param_setup_ans_bytes a ≡ told rx_param_setup_ans_bytes b → a ≡ b
rx_param_setup_ans_tells e = tells rx_param_setup_ans_bytes (λ s. record { 0 = get_or s 0 0 }) (λ p. refl) e

pub dev_status_ans_tells : {a b : Result DevStatusAnsPayload Refusal} → told dev_status_ans_bytes a ≡ told dev_status_ans_bytes b → a ≡ b
dev_status_ans_tells e = tells dev_status_ans_bytes (λ s. record { 0 = get_or s 0 0; 1 = get_or s 1 0 }) (λ p. refl) e

pub new_channel_req_tells : {a b : Result NewChannelReqPayload Refusal} → told new_channel_req_bytes a ≡ told new_channel_req_bytes b → a ≡ b
new_channel_req_tells e = tells new_channel_req_bytes (λ s. record { 0 = get_or s 0 0; 1 = get_or s 1 0; 2 = get_or s 2 0; 3 = get_or s 3 0; 4 = get_or s 4 0 }) (λ p. refl) e

pub new_channel_ans_tells : {a b : Result NewChannelAnsPayload Refusal} → told new_channel_ans_bytes a ≡ told new_channel_ans_bytes b → a ≡ b
new_channel_ans_tells e = tells new_channel_ans_bytes (λ s. record { 0 = get_or s 0 0 }) (λ p. refl) e

pub rx_timing_setup_req_tells : {a b : Result RXTimingSetupReqPayload Refusal} → told rx_timing_setup_req_bytes a ≡ told rx_timing_setup_req_bytes b → a ≡ b
rx_timing_setup_req_tells e = tells rx_timing_setup_req_bytes (λ s. record { 0 = get_or s 0 0 }) (λ p. refl) e

pub tx_param_setup_req_tells : {a b : Result TXParamSetupReqPayload Refusal} → told tx_param_setup_req_bytes a ≡ told tx_param_setup_req_bytes b → a ≡ b
tx_param_setup_req_tells e = tells tx_param_setup_req_bytes (λ s. record { 0 = get_or s 0 0 }) (λ p. refl) e

pub dl_channel_req_tells : {a b : Result DlChannelReqPayload Refusal} → told dl_channel_req_bytes a ≡ told dl_channel_req_bytes b → a ≡ b
dl_channel_req_tells e = tells dl_channel_req_bytes (λ s. record { 0 = get_or s 0 0; 1 = get_or s 1 0; 2 = get_or s 2 0; 3 = get_or s 3 0 }) (λ p. refl) e

pub dl_channel_ans_tells : {a b : Result DlChannelAnsPayload Refusal} → told dl_channel_ans_bytes a ≡ told dl_channel_ans_bytes b → a ≡ b
dl_channel_ans_tells e = tells dl_channel_ans_bytes (λ s. record { 0 = get_or s 0 0 }) (λ p. refl) e

pub device_time_ans_tells : {a b : Result DeviceTimeAnsPayload Refusal} → told device_time_ans_bytes a ≡ told device_time_ans_bytes b → a ≡ b
device_time_ans_tells e = tells device_time_ans_bytes (λ s. record { 0 = get_or s 0 0; 1 = get_or s 1 0; 2 = get_or s 2 0; 3 = get_or s 3 0; 4 = get_or s 4 0 }) (λ p. refl) e

-- ---- payloads made from an array

pub link_check_ans_bytes_tell : {p q : LinkCheckAnsPayload} → link_check_ans_bytes p ≡ link_check_ans_bytes q → p ≡ q
link_check_ans_bytes_tell e = by_inverse link_check_ans_bytes (λ s. record { 0 = get_or s 0 0; 1 = get_or s 1 0 }) (λ p. refl) e

pub link_adr_req_bytes_tell : {p q : LinkADRReqPayload} → link_adr_req_bytes p ≡ link_adr_req_bytes q → p ≡ q
link_adr_req_bytes_tell e = by_inverse link_adr_req_bytes (λ s. record { 0 = get_or s 0 0; 1 = get_or s 1 0; 2 = get_or s 2 0; 3 = get_or s 3 0 }) (λ p. refl) e

-- ---- the commands of each direction, by CID and bytes. The CIDs begin at 2 and leave out 0B and 0C: the last is 0D's

pub uplink_of : ℕ × List ℕ → UplinkMacCommand
uplink_of x =
    let s = x.1 in
    get_or
    (Uplink.LinkCheckReq record {}
    ∷ Uplink.LinkADRAns record { 0 = get_or s 0 0 }
    ∷ Uplink.DutyCycleAns record {}
    ∷ Uplink.RXParamSetupAns record { 0 = get_or s 0 0 }
    ∷ Uplink.DevStatusAns record { 0 = get_or s 0 0; 1 = get_or s 1 0 }
    ∷ Uplink.NewChannelAns record { 0 = get_or s 0 0 }
    ∷ Uplink.RXTimingSetupAns record {}
    ∷ Uplink.TXParamSetupAns record {}
    ∷ Uplink.DlChannelAns record { 0 = get_or s 0 0 }
    ∷ [])
    (x.0 - 2)
    (Uplink.DeviceTimeReq record {})

pub uplink-back : (c : UplinkMacCommand) → uplink_of ((uplink_entry c).cid, uplink_bytes c) ≡ c
unfolding uplink_of
uplink-back = grind arith

pub downlink_of : ℕ × List ℕ → DownlinkMacCommand
downlink_of x =
    let s = x.1 in
    get_or
    (Downlink.LinkCheckAns record { 0 = get_or s 0 0; 1 = get_or s 1 0 }
    ∷ Downlink.LinkADRReq record { 0 = get_or s 0 0; 1 = get_or s 1 0; 2 = get_or s 2 0; 3 = get_or s 3 0 }
    ∷ Downlink.DutyCycleReq record { 0 = get_or s 0 0 }
    ∷ Downlink.RXParamSetupReq record { 0 = get_or s 0 0; 1 = get_or s 1 0; 2 = get_or s 2 0; 3 = get_or s 3 0 }
    ∷ Downlink.DevStatusReq record {}
    ∷ Downlink.NewChannelReq record { 0 = get_or s 0 0; 1 = get_or s 1 0; 2 = get_or s 2 0; 3 = get_or s 3 0; 4 = get_or s 4 0 }
    ∷ Downlink.RXTimingSetupReq record { 0 = get_or s 0 0 }
    ∷ Downlink.TXParamSetupReq record { 0 = get_or s 0 0 }
    ∷ Downlink.DlChannelReq record { 0 = get_or s 0 0; 1 = get_or s 1 0; 2 = get_or s 2 0; 3 = get_or s 3 0 }
    ∷ [])
    (x.0 - 2)
    (Downlink.DeviceTimeAns record { 0 = get_or s 0 0; 1 = get_or s 1 0; 2 = get_or s 2 0; 3 = get_or s 3 0; 4 = get_or s 4 0 })

pub downlink-back : (c : DownlinkMacCommand) → downlink_of ((downlink_entry c).cid, downlink_bytes c) ≡ c
unfolding downlink_of
downlink-back = grind arith

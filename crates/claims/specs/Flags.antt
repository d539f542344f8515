-- What the command types say by `uplink` (RULES: T2, T3): those that are sent up that they are, those that are sent down that they are not, of every
-- answer that their contracts admit.
use Rattle.std.specs.Prelude.{Bool, true, false, ◌≡◌}
use Rattle.payloads.specs.declared.downlink.DownlinkMacCommand.{DownlinkMacCommand}
use Rattle.payloads.specs.declared.uplink.UplinkMacCommand.{UplinkMacCommand}
use Rattle.payloads.proofs.link_check.LinkCheckAnsPayloadCommandType.uplink.Reads as link_check_ans
use Rattle.payloads.proofs.link_check.LinkCheckReqPayloadCommandType.uplink.Reads as link_check_req
use Rattle.payloads.proofs.link_adr.LinkADRReqPayloadCommandType.uplink.Reads as link_adr_req
use Rattle.payloads.proofs.link_adr.LinkADRAnsPayloadCommandType.uplink.Reads as link_adr_ans
use Rattle.payloads.proofs.duty_cycle.DutyCycleReqPayloadCommandType.uplink.Reads as duty_cycle_req
use Rattle.payloads.proofs.duty_cycle.DutyCycleAnsPayloadCommandType.uplink.Reads as duty_cycle_ans
use Rattle.payloads.proofs.rx_param_setup.RXParamSetupReqPayloadCommandType.uplink.Reads as rx_param_setup_req
use Rattle.payloads.proofs.rx_param_setup.RXParamSetupAnsPayloadCommandType.uplink.Reads as rx_param_setup_ans
use Rattle.payloads.proofs.dev_status.DevStatusReqPayloadCommandType.uplink.Reads as dev_status_req
use Rattle.payloads.proofs.dev_status.DevStatusAnsPayloadCommandType.uplink.Reads as dev_status_ans
use Rattle.payloads.proofs.new_channel.NewChannelReqPayloadCommandType.uplink.Reads as new_channel_req
use Rattle.payloads.proofs.new_channel.NewChannelAnsPayloadCommandType.uplink.Reads as new_channel_ans
use Rattle.payloads.proofs.rx_timing_setup.RXTimingSetupReqPayloadCommandType.uplink.Reads as rx_timing_setup_req
use Rattle.payloads.proofs.rx_timing_setup.RXTimingSetupAnsPayloadCommandType.uplink.Reads as rx_timing_setup_ans
use Rattle.payloads.proofs.tx_param_setup.TXParamSetupReqPayloadCommandType.uplink.Reads as tx_param_setup_req
use Rattle.payloads.proofs.tx_param_setup.TXParamSetupAnsPayloadCommandType.uplink.Reads as tx_param_setup_ans
use Rattle.payloads.proofs.dl_channel.DlChannelReqPayloadCommandType.uplink.Reads as dl_channel_req
use Rattle.payloads.proofs.dl_channel.DlChannelAnsPayloadCommandType.uplink.Reads as dl_channel_ans
use Rattle.payloads.proofs.device_time.DeviceTimeAnsPayloadCommandType.uplink.Reads as device_time_ans
use Rattle.payloads.proofs.device_time.DeviceTimeReqPayloadCommandType.uplink.Reads as device_time_req
use Rattle.payloads.proofs.downlink.DownlinkMacCommand.uplink.Reads as command_down
use Rattle.payloads.proofs.uplink.UplinkMacCommand.uplink.Reads as command_up
use Rattle.claims.specs.Outcomes.{Gives}

-- one that is sent down and one that is sent up, each by the answers that it may give
pub record Sides (Down Up : Bool → Type 0) : Type 0 where
  pub down : (r : Bool) → Down r → r ≡ false
  pub up : (r : Bool) → Up r → r ≡ true

pub record FlagsTell : Type 0 where
  -- the twenty types, as the rows of the table have them (RULES: T1)
  pub link_check : Sides (Gives link_check_ans.Post tt) (Gives link_check_req.Post tt)
  pub link_adr : Sides (Gives link_adr_req.Post tt) (Gives link_adr_ans.Post tt)
  pub duty_cycle : Sides (Gives duty_cycle_req.Post tt) (Gives duty_cycle_ans.Post tt)
  pub rx_param_setup : Sides (Gives rx_param_setup_req.Post tt) (Gives rx_param_setup_ans.Post tt)
  pub dev_status : Sides (Gives dev_status_req.Post tt) (Gives dev_status_ans.Post tt)
  pub new_channel : Sides (Gives new_channel_req.Post tt) (Gives new_channel_ans.Post tt)
  pub rx_timing_setup : Sides (Gives rx_timing_setup_req.Post tt) (Gives rx_timing_setup_ans.Post tt)
  pub tx_param_setup : Sides (Gives tx_param_setup_req.Post tt) (Gives tx_param_setup_ans.Post tt)
  pub dl_channel : Sides (Gives dl_channel_req.Post tt) (Gives dl_channel_ans.Post tt)
  pub device_time : Sides (Gives device_time_ans.Post tt) (Gives device_time_req.Post tt)
  -- a command of either enum, whichever it is
  pub command : (d : DownlinkMacCommand) (u : UplinkMacCommand) → Sides (Gives command_down.Post (d, tt)) (Gives command_up.Post (u, tt))

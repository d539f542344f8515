-- The commands of each direction: which command of the table a value is, and the bytes of its payload.
use Rattle.std.specs.Prelude.{ℕ, List, ◌++◌, length, replicate, take}
use Rattle.table.specs.Table.{Command, named}
use Rattle.table.specs.declared.rules.Direction.TheVariants.{Down, Up}
use Rattle.table.specs.declared.rules.Rules.{Rules}
use Rattle.payloads.specs.Bytes.{
  link_check_req_bytes,
  link_check_ans_bytes,
  link_adr_req_bytes,
  link_adr_ans_bytes,
  duty_cycle_req_bytes,
  duty_cycle_ans_bytes,
  rx_param_setup_req_bytes,
  rx_param_setup_ans_bytes,
  dev_status_req_bytes,
  dev_status_ans_bytes,
  new_channel_req_bytes,
  new_channel_ans_bytes,
  rx_timing_setup_req_bytes,
  rx_timing_setup_ans_bytes,
  tx_param_setup_req_bytes,
  tx_param_setup_ans_bytes,
  dl_channel_req_bytes,
  dl_channel_ans_bytes,
  device_time_req_bytes,
  device_time_ans_bytes,
}
use Rattle.payloads.specs.declared.uplink.UplinkMacCommand.{UplinkMacCommand}
use Rattle.payloads.specs.declared.uplink.UplinkMacCommand.TheVariants as Uplink
use Rattle.payloads.specs.declared.downlink.DownlinkMacCommand.{DownlinkMacCommand}
use Rattle.payloads.specs.declared.downlink.DownlinkMacCommand.TheVariants as Downlink

-- the rules of each direction
abbrev pub sent_up : Rules
sent_up = record { direction = Up }

abbrev pub sent_down : Rules
sent_down = record { direction = Down }

-- ---- Uplink

-- the command that it is in the table
abbrev pub uplink_entry : UplinkMacCommand → Command
uplink_entry (Uplink.LinkCheckReq p) = named "LinkCheckReq"
uplink_entry (Uplink.LinkADRAns p) = named "LinkADRAns"
uplink_entry (Uplink.DutyCycleAns p) = named "DutyCycleAns"
uplink_entry (Uplink.RXParamSetupAns p) = named "RXParamSetupAns"
uplink_entry (Uplink.DevStatusAns p) = named "DevStatusAns"
uplink_entry (Uplink.NewChannelAns p) = named "NewChannelAns"
uplink_entry (Uplink.RXTimingSetupAns p) = named "RXTimingSetupAns"
uplink_entry (Uplink.TXParamSetupAns p) = named "TXParamSetupAns"
uplink_entry (Uplink.DlChannelAns p) = named "DlChannelAns"
uplink_entry (Uplink.DeviceTimeReq p) = named "DeviceTimeReq"

abbrev pub uplink_bytes : UplinkMacCommand → List ℕ
uplink_bytes (Uplink.LinkCheckReq p) = link_check_req_bytes p
uplink_bytes (Uplink.LinkADRAns p) = link_adr_ans_bytes p
uplink_bytes (Uplink.DutyCycleAns p) = duty_cycle_ans_bytes p
uplink_bytes (Uplink.RXParamSetupAns p) = rx_param_setup_ans_bytes p
uplink_bytes (Uplink.DevStatusAns p) = dev_status_ans_bytes p
uplink_bytes (Uplink.NewChannelAns p) = new_channel_ans_bytes p
uplink_bytes (Uplink.RXTimingSetupAns p) = rx_timing_setup_ans_bytes p
uplink_bytes (Uplink.TXParamSetupAns p) = tx_param_setup_ans_bytes p
uplink_bytes (Uplink.DlChannelAns p) = dl_channel_ans_bytes p
uplink_bytes (Uplink.DeviceTimeReq p) = device_time_req_bytes p

-- ---- Downlink

-- the command that it is in the table
abbrev pub downlink_entry : DownlinkMacCommand → Command
downlink_entry (Downlink.LinkCheckAns p) = named "LinkCheckAns"
downlink_entry (Downlink.LinkADRReq p) = named "LinkADRReq"
downlink_entry (Downlink.DutyCycleReq p) = named "DutyCycleReq"
downlink_entry (Downlink.RXParamSetupReq p) = named "RXParamSetupReq"
downlink_entry (Downlink.DevStatusReq p) = named "DevStatusReq"
downlink_entry (Downlink.NewChannelReq p) = named "NewChannelReq"
downlink_entry (Downlink.RXTimingSetupReq p) = named "RXTimingSetupReq"
downlink_entry (Downlink.TXParamSetupReq p) = named "TXParamSetupReq"
downlink_entry (Downlink.DlChannelReq p) = named "DlChannelReq"
downlink_entry (Downlink.DeviceTimeAns p) = named "DeviceTimeAns"

abbrev pub downlink_bytes : DownlinkMacCommand → List ℕ
downlink_bytes (Downlink.LinkCheckAns p) = link_check_ans_bytes p
downlink_bytes (Downlink.LinkADRReq p) = link_adr_req_bytes p
downlink_bytes (Downlink.DutyCycleReq p) = duty_cycle_req_bytes p
downlink_bytes (Downlink.RXParamSetupReq p) = rx_param_setup_req_bytes p
downlink_bytes (Downlink.DevStatusReq p) = dev_status_req_bytes p
downlink_bytes (Downlink.NewChannelReq p) = new_channel_req_bytes p
downlink_bytes (Downlink.RXTimingSetupReq p) = rx_timing_setup_req_bytes p
downlink_bytes (Downlink.TXParamSetupReq p) = tx_param_setup_req_bytes p
downlink_bytes (Downlink.DlChannelReq p) = dl_channel_req_bytes p
downlink_bytes (Downlink.DeviceTimeAns p) = device_time_ans_bytes p

-- ---- In a fixed room

-- a payload at the front of five bytes, and its length; the bytes after it are 0
abbrev pub in_five : List ℕ → ℕ × List ℕ
in_five s = (length s, take 5 (s ++ replicate 5 0))

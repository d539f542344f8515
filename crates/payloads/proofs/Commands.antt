-- The laws of the commands of each direction. Assumes nothing.
use mathlib.Core.Bool.{true, false}
use mathlib.Core.Path.{◌≡◌}
use lib.ListN.{length, take}
use native.Mathlib.Omega.{arith}
use Rattle.table.specs.Table.{flag_of}
use Rattle.payloads.specs.Commands.{uplink_entry, uplink_bytes, downlink_entry, downlink_bytes, in_five}
use Rattle.payloads.specs.declared.uplink.UplinkMacCommand.{UplinkMacCommand}
use Rattle.payloads.specs.declared.downlink.DownlinkMacCommand.{DownlinkMacCommand}

-- a payload is as long as the table says
pub uplink_size : (c : UplinkMacCommand) → length (uplink_bytes c) ≡ (uplink_entry c).size
uplink_size = grind arith

-- it is sent up
pub uplink_flag : (c : UplinkMacCommand) → true ≡ flag_of (uplink_entry c)
uplink_flag = grind arith

-- five bytes are room for it: the first of them are the payload
pub uplink_room : (c : UplinkMacCommand) → take (in_five (uplink_bytes c)).0 (in_five (uplink_bytes c)).1 ≡ uplink_bytes c
uplink_room = grind arith

-- a payload is as long as the table says
pub downlink_size : (c : DownlinkMacCommand) → length (downlink_bytes c) ≡ (downlink_entry c).size
downlink_size = grind arith

-- it is not sent up
pub downlink_flag : (c : DownlinkMacCommand) → false ≡ flag_of (downlink_entry c)
downlink_flag = grind arith

-- five bytes are room for it: the first of them are the payload
pub downlink_room : (c : DownlinkMacCommand) → take (in_five (downlink_bytes c)).0 (in_five (downlink_bytes c)).1 ≡ downlink_bytes c
downlink_room = grind arith

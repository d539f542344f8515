-- The command at an offset as a value of its own type: what such a value is in the stream.
use Rattle.payloads.specs.declared.uplink.UplinkMacCommand.{UplinkMacCommand}
use Rattle.payloads.specs.declared.downlink.DownlinkMacCommand.{DownlinkMacCommand}
use Rattle.payloads.specs.Commands.{uplink_entry, uplink_bytes, downlink_entry, downlink_bytes}
use Rattle.walk.specs.Walk.{Cmd}

-- its CID, by the table, and the bytes of its payload
abbrev pub uplink_cmd : UplinkMacCommand → Cmd
uplink_cmd c = record { cid = (uplink_entry c).cid; body = uplink_bytes c }

abbrev pub downlink_cmd : DownlinkMacCommand → Cmd
downlink_cmd c = record { cid = (downlink_entry c).cid; body = downlink_bytes c }

-- The two kinds of creators (RULES: H6): the command of each kind, and the image beside it.
use Rattle.std.specs.Prelude.{ℕ, ◌+◌, List, get_or}
use Rattle.creators.specs.declared.kinds.Image.{Image}
use Rattle.creators.specs.declared.kinds.MacCommandCreator.{MacCommandCreator}
use Rattle.creators.specs.declared.kinds.UplinkKind.{UplinkKind}
use Rattle.creators.specs.declared.kinds.UplinkKind.TheVariants as Up
use Rattle.creators.specs.declared.kinds.DownlinkKind.{DownlinkKind}
use Rattle.creators.specs.declared.kinds.DownlinkKind.TheVariants as Down
use Rattle.table.specs.Table.{Command, named}
use Rattle.fields.specs.Lists.{tabulate}

abbrev pub uplink_command : UplinkKind → Command
uplink_command Up.LinkCheckReq = named "LinkCheckReq"
uplink_command Up.LinkADRAns = named "LinkADRAns"
uplink_command Up.DutyCycleAns = named "DutyCycleAns"
uplink_command Up.RXParamSetupAns = named "RXParamSetupAns"
uplink_command Up.DevStatusAns = named "DevStatusAns"
uplink_command Up.NewChannelAns = named "NewChannelAns"
uplink_command Up.RXTimingSetupAns = named "RXTimingSetupAns"
uplink_command Up.TXParamSetupAns = named "TXParamSetupAns"
uplink_command Up.DlChannelAns = named "DlChannelAns"
uplink_command Up.DeviceTimeReq = named "DeviceTimeReq"

abbrev pub downlink_command : DownlinkKind → Command
downlink_command Down.LinkCheckAns = named "LinkCheckAns"
downlink_command Down.LinkADRReq = named "LinkADRReq"
downlink_command Down.DutyCycleReq = named "DutyCycleReq"
downlink_command Down.RXParamSetupReq = named "RXParamSetupReq"
downlink_command Down.DevStatusReq = named "DevStatusReq"
downlink_command Down.NewChannelReq = named "NewChannelReq"
downlink_command Down.RXTimingSetupReq = named "RXTimingSetupReq"
downlink_command Down.TXParamSetupReq = named "TXParamSetupReq"
downlink_command Down.DlChannelReq = named "DlChannelReq"
downlink_command Down.DeviceTimeAns = named "DeviceTimeAns"

-- ---- an image beside its kind

-- an image in six bytes, which hold the longest one: 0 past its end
unfoldable pub padded : List ℕ → List ℕ
padded image = tabulate 6 (λ (k : ℕ). get_or image k 0)

-- a command, with its image
abbrev pub beside : Command → List ℕ → Command × List ℕ
beside c image = (c, padded image)

-- what is built: as many bytes as the command says, whatever the first is
abbrev pub built : Command × List ℕ → ℕ × List ℕ
built c = (1 + c.0.size, c.1)

-- ---- what the code's values tell

-- of one direction, by what its kinds are in the table
abbrev pub told_creator : {K : Type 0} → (K → Command) → MacCommandCreator K → Command × List ℕ
told_creator command c = (command c.kind, c.image)

abbrev pub told_uplink : MacCommandCreator UplinkKind → Command × List ℕ
told_uplink c = told_creator uplink_command c

abbrev pub told_downlink : MacCommandCreator DownlinkKind → Command × List ℕ
told_downlink c = told_creator downlink_command c

abbrev pub told_image : Image → ℕ × List ℕ
told_image i = (i.len, i.bytes)

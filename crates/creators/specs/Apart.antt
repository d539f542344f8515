-- No two kinds of a direction are one command, which the kinds' trait asks of each. Not for the auditor.
use Rattle.std.specs.Prelude.{◌-◌, List, [], ◌∷◌, get_or, ◌≡◌, refl}
use Rattle.bits.proofs.Fixed.{by_inverse}
use Rattle.table.specs.Table.{Command}
use Rattle.creators.specs.declared.kinds.UplinkKind.{UplinkKind}
use Rattle.creators.specs.declared.kinds.UplinkKind.TheVariants as Up
use Rattle.creators.specs.declared.kinds.DownlinkKind.{DownlinkKind}
use Rattle.creators.specs.declared.kinds.DownlinkKind.TheVariants as Down
use Rattle.creators.specs.Kinds.{uplink_command, downlink_command}

-- a kind by its command's CID: these begin at 2 and leave out 0B and 0C, so the last is 0D's
kind_of : {K : Type 0} → List K → K → Command → K
kind_of ks last c = get_or ks (c.cid - 2) last

uplink_of : Command → UplinkKind
uplink_of c = kind_of (Up.LinkCheckReq ∷ Up.LinkADRAns ∷ Up.DutyCycleAns ∷ Up.RXParamSetupAns ∷ Up.DevStatusAns ∷ Up.NewChannelAns ∷ Up.RXTimingSetupAns ∷ Up.TXParamSetupAns ∷ Up.DlChannelAns ∷ []) Up.DeviceTimeReq c

uplink_kind : (k : UplinkKind) → uplink_of (uplink_command k) ≡ k
unfolding uplink_of kind_of
uplink_kind Up.LinkCheckReq = refl
uplink_kind Up.LinkADRAns = refl
uplink_kind Up.DutyCycleAns = refl
uplink_kind Up.RXParamSetupAns = refl
uplink_kind Up.DevStatusAns = refl
uplink_kind Up.NewChannelAns = refl
uplink_kind Up.RXTimingSetupAns = refl
uplink_kind Up.TXParamSetupAns = refl
uplink_kind Up.DlChannelAns = refl
uplink_kind Up.DeviceTimeReq = refl

pub uplink_kinds_apart : (k m : UplinkKind) → uplink_command k ≡ uplink_command m → k ≡ m
uplink_kinds_apart k m p = by_inverse uplink_command uplink_of uplink_kind p

downlink_of : Command → DownlinkKind
downlink_of c = kind_of (Down.LinkCheckAns ∷ Down.LinkADRReq ∷ Down.DutyCycleReq ∷ Down.RXParamSetupReq ∷ Down.DevStatusReq ∷ Down.NewChannelReq ∷ Down.RXTimingSetupReq ∷ Down.TXParamSetupReq ∷ Down.DlChannelReq ∷ []) Down.DeviceTimeAns c

downlink_kind : (k : DownlinkKind) → downlink_of (downlink_command k) ≡ k
unfolding downlink_of kind_of
downlink_kind Down.LinkCheckAns = refl
downlink_kind Down.LinkADRReq = refl
downlink_kind Down.DutyCycleReq = refl
downlink_kind Down.RXParamSetupReq = refl
downlink_kind Down.DevStatusReq = refl
downlink_kind Down.NewChannelReq = refl
downlink_kind Down.RXTimingSetupReq = refl
downlink_kind Down.TXParamSetupReq = refl
downlink_kind Down.DlChannelReq = refl
downlink_kind Down.DeviceTimeAns = refl

pub downlink_kinds_apart : (k m : DownlinkKind) → downlink_command k ≡ downlink_command m → k ≡ m
downlink_kinds_apart k m p = by_inverse downlink_command downlink_of downlink_kind p

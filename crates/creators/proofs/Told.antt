-- A kind, with its image, is known from what it tells: each `told` has an inverse. Assumes nothing.
use Prim.Native.Nat.{ℕ}
use mathlib.Core.Path.{◌≡◌, refl, ap, ap₂}
use mathlib.Core.List.{List}
use Rattle.bits.proofs.Fixed.{by_inverse}
use Rattle.table.specs.Table.{Command}
use Rattle.creators.specs.declared.kinds.Image.{Image}
use Rattle.creators.specs.declared.kinds.UplinkKind.{UplinkKind}
use Rattle.creators.specs.declared.kinds.DownlinkKind.{DownlinkKind}
use Rattle.creators.specs.declared.kinds.MacCommandCreator.{MacCommandCreator}
use Rattle.creators.specs.Apart.{uplink_kinds_apart, downlink_kinds_apart}
use Rattle.creators.specs.Kinds.{uplink_command, downlink_command, told_creator, told_uplink, told_downlink, told_image}

pub uplink_kind_tells : {k m : UplinkKind} → uplink_command k ≡ uplink_command m → k ≡ m
uplink_kind_tells p = uplink_kinds_apart _ _ p

pub downlink_kind_tells : {k m : DownlinkKind} → downlink_command k ≡ downlink_command m → k ≡ m
downlink_kind_tells p = downlink_kinds_apart _ _ p

-- a creator of a direction whose kinds are no one command
pub creator_tells : {K : Type 0} (command : K → Command) → ((k m : K) → command k ≡ command m → k ≡ m)
    → {c e : MacCommandCreator K} → told_creator command c ≡ told_creator command e → c ≡ e
creator_tells command tells p = ap₂ (λ k i. record { kind = k; image = i }) (tells _ _ (ap (λ t. t.0) p)) (ap (λ t. t.1) p)

pub uplink_tells : {c e : MacCommandCreator UplinkKind} → told_uplink c ≡ told_uplink e → c ≡ e
uplink_tells p = creator_tells uplink_command uplink_kinds_apart p

pub downlink_tells : {c e : MacCommandCreator DownlinkKind} → told_downlink c ≡ told_downlink e → c ≡ e
downlink_tells p = creator_tells downlink_command downlink_kinds_apart p

image_told : ℕ × List ℕ → Image
image_told i = record { len = i.0; bytes = i.1 }

pub image_tells : {i j : Image} → told_image i ≡ told_image j → i ≡ j
unfolding image_told
image_tells p = by_inverse told_image image_told (λ i. refl) p

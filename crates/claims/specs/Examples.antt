-- The examples of RULES, P1 to P15 and P17, as one list. Each holds of every outcome that the contracts of the functions that it names admit.
use lib.Dec.{lit<}
use mir.Syntax.{w64}
use mir.Val.{Fits}
use Rattle.std.specs.Prelude.{ℕ, Bool, true, false, List, [], ◌∷◌, ◌++◌, map, ◌≡◌, ℤ, pos, neg_ℤ, Result, Ok, Err}
use Rattle.std.specs.Borrow.{Bor, MutBor}
use Rattle.table.specs.Answers.{Answer, Consent, given, refused, accepted}
use Rattle.table.specs.Table.{named}
use Rattle.table.specs.Told.{told, told_verdict}
use Rattle.table.specs.declared.refusal.Refusal.{Refusal}
use Rattle.table.specs.declared.rules.Direction.{Direction}
use Rattle.table.specs.declared.rules.Direction.TheVariants.{Down, Up}
use Rattle.table.specs.declared.rules.Rules.{Rules}
use Rattle.fields.specs.declared.channel_mask.ChannelMask.{ChannelMask}
use Rattle.fields.specs.declared.data_rate_range.DataRateRange.{DataRateRange}
use Rattle.fields.specs.declared.frequency.Frequency.{Frequency}
use Rattle.creators.specs.declared.dev_status.DevStatusAnsCreator.{DevStatusAnsCreator}
use Rattle.creators.specs.declared.device_time.DeviceTimeAnsCreator.{DeviceTimeAnsCreator}
use Rattle.creators.specs.declared.tx_param_setup.TXParamSetupReqCreator.{TXParamSetupReqCreator}
use Rattle.walk.specs.Walk.{Placed, placed, Ending, end, stop}
use Rattle.build.specs.Equal.{EqualLists}
use Rattle.build.specs.Handed.{from_frame}
use Rattle.build.specs.Records.{frameless, held_by, recs_in, slots_of}
use Rattle.build.specs.Build.{Built, total}
use Rattle.build.specs.Build as Build
use Rattle.build.specs.declared.record.Record.{Record}
use Rattle.lent.specs.Records.{items_of}
use Rattle.fields.proofs.frequency.Frequency.new.Reads as frequency_new
use Rattle.fields.proofs.frequency.Frequency.value.Reads as frequency_value
use Rattle.fields.proofs.data_rate_range.DataRateRange.new.Reads as range_new
use Rattle.fields.proofs.channel_mask.ChannelMask.is_enabled.Reads as is_enabled
use Rattle.fields.proofs.channel_mask.ChannelMask.set_channel.Reads as set_channel
use Rattle.payloads.proofs.dev_status.DevStatusAnsPayload.margin.Reads as margin
use Rattle.payloads.proofs.link_adr.LinkADRAnsPayload.ack.Reads as link_adr_ack
use Rattle.payloads.proofs.new_channel.NewChannelAnsPayload.ack.Reads as new_channel_ack
use Rattle.payloads.proofs.dl_channel.DlChannelAnsPayload.ack.Reads as dl_channel_ack
use Rattle.payloads.proofs.tx_param_setup.TXParamSetupReqPayload.max_eirp.Reads as max_eirp
use Rattle.payloads.proofs.device_time.DeviceTimeAnsPayload.seconds.Reads as seconds_read
use Rattle.creators.proofs.dev_status.DevStatusAnsCreator.set_margin.Reads as set_margin
use Rattle.creators.proofs.device_time.DeviceTimeAnsCreatorCreator6.new.Reads as device_time_new
use Rattle.creators.proofs.device_time.DeviceTimeAnsCreator.set_seconds.Reads as set_seconds
use Rattle.creators.proofs.device_time.DeviceTimeAnsCreator.set_nano_seconds.Reads as set_nano_seconds
use Rattle.creators.proofs.tx_param_setup.TXParamSetupReqCreatorCreator2.new.Reads as tx_param_new
use Rattle.creators.proofs.tx_param_setup.TXParamSetupReqCreator.set_max_eirp.Reads as set_max_eirp
use Rattle.creators.proofs.tx_param_setup.TXParamSetupReqCreator.set_downlink_dwell_time.Reads as set_dwell
use Rattle.claims.specs.Building.{FromSlots, FromStructs}
use Rattle.claims.specs.Handing.{ReadAs, HandsOut, record_steps, record_iterator}
use Rattle.claims.specs.Outcomes.{Gives, GivesWith}

-- the answers whose `ack` P9 asks
pub data Answering : Type 0 where
  LinkADRAns : Answering
  NewChannelAns : Answering
  DlChannelAns : Answering

pub data Example : Type 0 where
  -- a stream of a direction, and what is read of it: commands at their offsets, and the ending
  reads : Direction → (bytes : List ℕ) → List Placed → Ending → Example
  -- a stream of a direction in a frame, what is handed out of it as records, and the ending
  hands : Direction → (frame : ℕ) → (bytes : List ℕ) → List Record → Ending → Example
  -- three bytes, and the frequency in Hz
  frequency : (bytes : List ℕ) → (hz : ℕ) → Example
  -- the second byte of a DevStatusAns, and the margin, whatever the battery
  margin_reads : (byte : ℕ) → ℤ → Example
  -- a margin that is refused, whatever the creator
  no_margin : ℤ → Example
  -- an answer, its byte, and whether it says yes
  says : Answering → (byte : ℕ) → Bool → Example
  -- the image of a DeviceTimeAns, nanoseconds, the verdict, and the image then
  nano_seconds : (before : List ℕ) → ℕ → Consent → (after : List ℕ) → Example
  -- a power index, set in a fresh TXParamSetupReq before the downlink dwell time; the payload's byte then, and the power read
  power_then_dwell : (index : ℕ) → (byte : ℕ) → (dBm : ℕ) → Example
  -- seconds set in a fresh DeviceTimeAns, their four bytes, and the seconds read
  seconds : ℕ → (a b c d : ℕ) → (read : ℕ) → Example
  -- records sent up, packed and as structs, memory, the answer, and memory then
  builds : (slots : List ℕ) → List Record → (before : List ℕ) → Built → (after : List ℕ) → Example
  -- a mask's bytes, a channel, and whether it is on
  channel : (mask : List ℕ) → ℕ → Answer Bool → Example
  -- a mask's bytes, a channel and what it is set to, the verdict, and the bytes then
  channel_set : (mask : List ℕ) → ℕ → Bool → Consent → (after : List ℕ) → Example
  -- a byte, and the range made of it with the check
  range : ℕ → Answer ℕ → Example

-- these records are handed out, by either entry, and then this ending
pub record HandedOut (rules : Rules) (frame : ℕ) (stream : Bor (List ℕ)) (records : List Record) (ending : Ending) : Type 0 where
  pub cmds : List Placed
  pub same : map (from_frame frame) cmds ≡ records
  pub by-offsets : HandsOut (record_steps rules frame stream) (from_frame frame) cmds ending
  pub by_iterator : HandsOut (record_iterator rules frame stream) (from_frame frame) cmds ending

-- whatever `ack` may answer is this
abbrev pub Says : Answering → ℕ → Bool → Type 0
Says LinkADRAns b it = (r : Bool) → Gives link_adr_ack.Post (record { 0 = b }, tt) r → r ≡ it
Says NewChannelAns b it = (r : Bool) → Gives new_channel_ack.Post (record { 0 = b }, tt) r → r ≡ it
Says DlChannelAns b it = (r : Bool) → Gives dl_channel_ack.Post (record { 0 = b }, tt) r → r ≡ it

-- a frequency was read, and its value may only be this
abbrev pub InHertz : ℕ → Result Frequency Refusal → Type 0
InHertz hz (Ok f) = (r : ℕ) → Gives frequency_value.Post (f, tt) r → r ≡ hz
InHertz hz (Err n) = ⊥

-- a fresh creator, then two setters, and the reader of what they wrote
pub record PowerThenDwell (index byte dBm : ℕ) : Type 0 where
  pub set : (c : MutBor TXParamSetupReqCreator) (r : Result Unit Refusal) (c' d : TXParamSetupReqCreator) → Gives tx_param_new.Post tt c.now
      → GivesWith (λ s. s.0.now) set_max_eirp.Post (c, (index, tt)) r c' → Gives set_dwell.Post (c', tt) d
      → (told_verdict r ≡ accepted) × (d.«data» ≡ (named "TXParamSetupReq").cid ∷ byte ∷ [])
  pub read : (r : ℕ) → Gives max_eirp.Post (record { 0 = byte }, tt) r → r ≡ dBm

pub record SecondsThere (s a b c d back : ℕ) : Type 0 where
  pub set : (x y : DeviceTimeAnsCreator) → Gives device_time_new.Post tt x → Gives set_seconds.Post (x, (s, tt)) y
      → y.«data» ≡ (named "DeviceTimeAns").cid ∷ a ∷ b ∷ c ∷ d ∷ 0 ∷ []
  pub read : (r : ℕ) → Gives seconds_read.Post (record { 0 = a; 1 = b; 2 = c; 3 = d; 4 = 0 }, tt) r → r ≡ back

-- by either build
pub record BuildsTo (slots : List ℕ) (records : List Record) (before : List ℕ) (answer : Built) (after : List ℕ) : Type 0 where
  pub same : EqualLists (recs_in (slots_of slots)) (map held_by records)
  pub packed : (a : Built) (o : List ℕ) → FromSlots (record { direction = Up }) (slots_of slots) before a o → (a ≡ answer) × (o ≡ after)
  pub structs : (a : Built) (o : List ℕ) → FromStructs (record { direction = Up }) (items_of records) before a o → (a ≡ answer) × (o ≡ after)

-- a mask has two bytes
abbrev pub two_fits : Fits w64 2
two_fits = record { fits = lit< tt }

abbrev pub Holds : Example → Type 0
Holds (reads d bytes cmds ending) = (stream : Bor (List ℕ)) → stream.now ≡ bytes → ReadAs (record { direction = d }) stream cmds ending
Holds (hands d frame bytes records ending) = (stream : Bor (List ℕ)) → stream.now ≡ bytes → HandedOut (record { direction = d }) frame stream records ending
Holds (frequency bytes hz) = (s : Bor (List ℕ)) → s.now ≡ bytes → (a : Result Frequency Refusal) → Gives frequency_new.Post (s, tt) a → InHertz hz a
Holds (margin_reads b m) = (battery : ℕ) (r : ℤ) → Gives margin.Post (record { 0 = battery; 1 = b }, tt) r → r ≡ m
Holds (no_margin m) =
    (c : MutBor DevStatusAnsCreator) (r : Result Unit Refusal) (c' : DevStatusAnsCreator) → GivesWith (λ s. s.0.now) set_margin.Post (c, (m, tt)) r c'
    → (told_verdict r ≡ refused 9) × (c' ≡ c.now)
Holds (says a b it) = Says a b it
Holds (nano_seconds before n v after) =
    (c : MutBor DeviceTimeAnsCreator) (r : Result Unit Refusal) (c' : DeviceTimeAnsCreator) → c.now.«data» ≡ before
    → GivesWith (λ s. s.0.now) set_nano_seconds.Post (c, (n, tt)) r c' → (told_verdict r ≡ v) × (c'.«data» ≡ after)
Holds (power_then_dwell index byte dBm) = PowerThenDwell index byte dBm
Holds (seconds s a b c d back) = SecondsThere s a b c d back
Holds (builds slots records before answer after) = BuildsTo slots records before answer after
Holds (channel m c on) = (r : Result Bool Refusal) → Gives (is_enabled.Post 2 two_fits) (record { 0 = m }, (c, tt)) r → told (λ (x : Bool). x) r ≡ on
Holds (channel_set m c on v after) =
    (k : MutBor (ChannelMask 2)) (r : Result Unit Refusal) (k' : ChannelMask 2) → k.now.0 ≡ m
    → GivesWith (λ s. s.0.now) (set_channel.Post 2 two_fits) (k, (c, (on, tt))) r k' → (told_verdict r ≡ v) × (k'.0 ≡ after)
Holds (range b r) = (a : Result DataRateRange Refusal) → Gives range_new.Post (b, tt) a → told (λ (x : DataRateRange). x.0) a ≡ r

-- ---- P1 to P15, P17

-- a command, by its name, at an offset, with its payload
abbrev pub link_check_req : ℕ → Placed
link_check_req at = placed at (named "LinkCheckReq").cid []

abbrev pub link_adr_ans : ℕ → ℕ → Placed
link_adr_ans at b = placed at (named "LinkADRAns").cid (b ∷ [])

-- records of LinkCheckReq and LinkADRAns `07`
abbrev pub two : List Record
two =
    frameless (record { cid = (named "LinkCheckReq").cid; len = 0; bytes = 0 ∷ 0 ∷ 0 ∷ 0 ∷ 0 ∷ [] }) ∷
    frameless (record { cid = (named "LinkADRAns").cid; len = 1; bytes = 0x07 ∷ 0 ∷ 0 ∷ 0 ∷ 0 ∷ [] }) ∷ []

-- the same in slots, whose eighth bytes don't count
abbrev pub two_slots : List ℕ
two_slots =
    (named "LinkCheckReq").cid ∷ 0 ∷ 0 ∷ 0 ∷ 0 ∷ 0 ∷ 0 ∷ 0xEE ∷
    (named "LinkADRAns").cid ∷ 1 ∷ 0x07 ∷ 0 ∷ 0 ∷ 0 ∷ 0 ∷ 0xEE ∷ []

-- a DeviceTimeAns that is filled in: seconds, and a fraction
abbrev pub filled : ℕ → List ℕ
filled fraction = (named "DeviceTimeAns").cid ∷ 0x01 ∷ 0x02 ∷ 0x03 ∷ 0x04 ∷ fraction ∷ []

abbrev pub p1to6 : List Example
p1to6 =
    -- P1
    reads Up [] [] (end 0) ∷
    -- P2
    reads Up (0x02 ∷ 0x03 ∷ 0x00 ∷ []) (link_check_req 0 ∷ link_adr_ans 1 0x00 ∷ []) (end 3) ∷
    -- P3
    reads Down (0x02 ∷ 0x03 ∷ 0x00 ∷ []) (placed 0 (named "LinkCheckAns").cid (0x03 ∷ 0x00 ∷ []) ∷ []) (end 3) ∷
    -- P4
    reads Up (0x03 ∷ []) [] (stop 2 0) ∷
    -- P5
    reads Down (0x03 ∷ 0x51 ∷ 0x07 ∷ []) [] (stop 2 0) ∷
    reads Down (0x03 ∷ 0x51 ∷ 0x07 ∷ 0x00 ∷ []) [] (stop 2 0) ∷
    -- P6
    reads Up (0x02 ∷ 0x80 ∷ []) (link_check_req 0 ∷ []) (stop 1 1) ∷ []

abbrev pub p7to9 : List Example
p7to9 =
    -- P7
    frequency (0x28 ∷ 0x76 ∷ 0x84 ∷ []) 868_100_000 ∷
    frequency (0xFF ∷ 0xFF ∷ 0xFF ∷ []) 1_677_721_500 ∷
    -- P8
    margin_reads 0x1F (pos 31) ∷
    margin_reads 0x20 (neg_ℤ (pos 32)) ∷
    margin_reads 0xFF (neg_ℤ (pos 1)) ∷
    no_margin (neg_ℤ (pos 33)) ∷
    no_margin (pos 32) ∷
    -- P9
    says LinkADRAns 0x07 true ∷
    says NewChannelAns 0x07 false ∷
    says DlChannelAns 0x07 true ∷
    says LinkADRAns 0x0F false ∷ []

abbrev pub p10to13 : List Example
p10to13 =
    -- P10
    nano_seconds (filled 0xA5) 999_999_999 accepted (filled 0xFF) ∷
    nano_seconds (filled 0xA5) 1_000_000_000 accepted (filled 0x00) ∷
    nano_seconds (filled 0xA5) 1_000_000_001 (refused 12) (filled 0xA5) ∷
    -- P11
    power_then_dwell 15 0x2E 33 ∷
    -- P12
    seconds 16_909_060 0x04 0x03 0x02 0x01 16_909_060 ∷
    -- P13
    builds two_slots two (0xA0 ∷ 0xA1 ∷ 0xA2 ∷ 0xA3 ∷ []) (total 3) (0x02 ∷ 0x03 ∷ 0x07 ∷ 0xA3 ∷ []) ∷
    builds two_slots two (0xA0 ∷ 0xA1 ∷ []) (Build.refused 4) (0xA0 ∷ 0xA1 ∷ []) ∷ []

abbrev pub p14and15 : List Example
p14and15 =
    -- P14
    channel (0x00 ∷ 0x80 ∷ []) 15 (given true) ∷
    channel (0xFF ∷ 0x7F ∷ []) 15 (given false) ∷
    channel (0xFF ∷ 0xFF ∷ []) 16 (refused 5) ∷
    channel_set (0x00 ∷ 0x00 ∷ []) 15 true accepted (0x00 ∷ 0x80 ∷ []) ∷
    channel_set (0xFF ∷ 0xFF ∷ []) 15 false accepted (0xFF ∷ 0x7F ∷ []) ∷
    channel_set (0x12 ∷ 0x34 ∷ []) 16 true (refused 5) (0x12 ∷ 0x34 ∷ []) ∷
    -- P15
    range 0x50 (given 0x50) ∷
    range 0x55 (given 0x55) ∷
    range 0x05 (refused 6) ∷ []

-- P2's two commands as records of frame 7
abbrev pub two_of_frame7 : List Record
two_of_frame7 =
    record { cid = (named "LinkCheckReq").cid; payload = 0 ∷ 0 ∷ 0 ∷ 0 ∷ 0 ∷ []; frame = 7; len = 0; offset = 0 } ∷
    record { cid = (named "LinkADRAns").cid; payload = 0x00 ∷ 0 ∷ 0 ∷ 0 ∷ 0 ∷ []; frame = 7; len = 1; offset = 1 } ∷ []

abbrev pub p17 : List Example
p17 =
    hands Up 7 (0x02 ∷ 0x03 ∷ 0x00 ∷ []) two_of_frame7 (end 3) ∷
    -- cut short, in the frame with the largest number
    hands Down 4_294_967_295 (0x02 ∷ 0x03 ∷ 0x00 ∷ 0x0D ∷ [])
    (record { cid = (named "LinkCheckAns").cid; payload = 0x03 ∷ 0x00 ∷ 0 ∷ 0 ∷ 0 ∷ []; frame = 4_294_967_295; len = 2; offset = 0 } ∷ []) (stop 2 3) ∷
    -- no command
    hands Up 7 [] [] (end 0) ∷ []

abbrev pub examples : List Example
examples = p1to6 ++ (p7to9 ++ (p10to13 ++ (p14and15 ++ p17)))

-- the single claim: each of them holds
abbrev pub All : List Example → Type 0
All [] = Unit
All (e ∷ es) = Holds e × All es

abbrev pub ExamplesHold : Type 0
ExamplesHold = All examples

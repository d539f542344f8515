-- A refusal leaves things as they were (RULES: D1): lent memory, an iterator, a mask, a creator, of every outcome that the contracts admit. A checked
-- argument is refused with its number where it is bad (RULES: R5, R7 to R12), and where it is not, what was asked for is written and nothing else.
use mir.Syntax.{w64}
use mir.Val.{Fits}
use Rattle.std.specs.Prelude.{ℕ, ◌+◌, ◌*◌, ◌/◌, ◌%◌, ◌<◌, ◌≤◌, Bool, false, List, ◌≡◌, ℤ, length, set, Result}
use Rattle.std.specs.Borrow.{Bor, MutBor}
use Rattle.bits.specs.Memory.{over}
use Rattle.table.specs.Answers.{Answer, refused, accepted}
use Rattle.table.specs.Told.{told, told_verdict}
use Rattle.table.specs.declared.refusal.Refusal.{Refusal}
use Rattle.fields.specs.Mask.{all_on, mask_of, bank_of, enabled_of, switched, statuses_of, channels_on}
use Rattle.fields.specs.Places.{link_adr_req_data_rate, link_adr_req_tx_power, rx_timing_setup_req_delay, tx_param_setup_req_max_eirp, dev_status_ans_whole, device_time_ans_fraction}
use Rattle.fields.specs.declared.channel_mask.ChannelMask.{ChannelMask}
use Rattle.creators.specs.Image.{put_at}
use Rattle.creators.specs.Setters.{is_margin, six_bits}
use Rattle.creators.specs.declared.link_adr.LinkADRReqCreator.{LinkADRReqCreator}
use Rattle.creators.specs.declared.dev_status.DevStatusAnsCreator.{DevStatusAnsCreator}
use Rattle.creators.specs.declared.rx_timing_setup.RXTimingSetupReqCreator.{RXTimingSetupReqCreator}
use Rattle.creators.specs.declared.tx_param_setup.TXParamSetupReqCreator.{TXParamSetupReqCreator}
use Rattle.creators.specs.declared.device_time.DeviceTimeAnsCreator.{DeviceTimeAnsCreator}
use Rattle.walk.specs.Step.{Found}
use Rattle.walk.specs.Walk.{Cmd}
use Rattle.build.specs.Records.{Rec, held_by, command_bytes, packed_at}
use Rattle.build.specs.declared.record.Record.{Record}
use Rattle.lent.specs.declared.iterator.MacCommandIterator.{MacCommandIterator}
use Rattle.fields.proofs.channel_mask.ChannelMaskDefault.default.Reads as default
use Rattle.fields.proofs.channel_mask.ChannelMask.new.Reads as new
use Rattle.fields.proofs.channel_mask.ChannelMask.is_enabled.Reads as is_enabled
use Rattle.fields.proofs.channel_mask.ChannelMask.get_index.Reads as get_index
use Rattle.fields.proofs.channel_mask.ChannelMask.set_bank.Reads as set_bank
use Rattle.fields.proofs.channel_mask.ChannelMask.set_channel.Reads as set_channel
use Rattle.fields.proofs.channel_mask.ChannelMask+2.statuses.Reads as statuses_2
use Rattle.fields.proofs.channel_mask.ChannelMask+2.channels_on.Reads as channels_on_2
use Rattle.fields.proofs.channel_mask.ChannelMask+9.statuses.Reads as statuses_9
use Rattle.creators.proofs.link_adr.LinkADRReqCreator.set_data_rate.Reads as set_data_rate
use Rattle.creators.proofs.link_adr.LinkADRReqCreator.set_tx_power.Reads as set_tx_power
use Rattle.creators.proofs.dev_status.DevStatusAnsCreator.set_margin.Reads as set_margin
use Rattle.creators.proofs.rx_timing_setup.RXTimingSetupReqCreator.set_delay.Reads as set_delay
use Rattle.creators.proofs.tx_param_setup.TXParamSetupReqCreator.set_max_eirp.Reads as set_max_eirp
use Rattle.creators.proofs.device_time.DeviceTimeAnsCreator.set_nano_seconds.Reads as set_nano_seconds
use Rattle.build.proofs.record.Record.write.Reads as write
use Rattle.build.proofs.record.Record.pack.Reads as pack
use Rattle.claims.specs.Building.{RefusedKeeps, FromSlots, FromStructs, FromFour}
use Rattle.claims.specs.Handing.{NextAsked, NextRecordAsked}
use Rattle.claims.specs.Outcomes.{Gives, GivesWith}

-- a call with an argument that may be bad: the state before it, the state that was asked for, and the state after it
pub record Checked {A : Type 0} (bad : Type 0) (number : ℕ) (v : Result Unit Refusal) (before wanted after : A) : Type 0 where
  pub refuses : bad → (told_verdict v ≡ refused number) × (after ≡ before)
  pub accepts : (bad → ⊥) → (told_verdict v ≡ accepted) × (after ≡ wanted)
  pub keeps : (n : ℕ) → told_verdict v ≡ refused n → after ≡ before

-- a record written at an offset, or not for want of room
pub record Written (out : List ℕ) (at : ℕ) (r : Rec) (next : ℕ) (after : List ℕ) : Type 0 where
  pub no_room : length out < at + length (command_bytes r) → (next ≡ at) × (after ≡ out)
  pub room : at + length (command_bytes r) ≤ length out → (next ≡ at + length (command_bytes r)) × (after ≡ over out at (command_bytes r))

pub record RefusalsKeep : Type 0 where
  -- the memory that is built into
  pub slots : RefusedKeeps FromSlots
  pub structs : RefusedKeeps FromStructs
  pub four : RefusedKeeps FromFour
  -- an iterator that stands past its stream
  pub next : (it : MacCommandIterator) (a : Answer (Found Cmd)) (it' : MacCommandIterator) (n : ℕ) → NextAsked it a it' → a ≡ refused n → it' ≡ it
  pub next_record : (frame : ℕ) (it : MacCommandIterator) (a : Answer (Found Record)) (it' : MacCommandIterator) (n : ℕ) → NextRecordAsked frame it a it' → a ≡ refused n → it' ≡ it
  -- the memory that one record is written to, or packed into: where it has no room, nothing is written, and the offset stays
  pub write : (r : Record) (out : MutBor (List ℕ)) (at next : ℕ) (after : List ℕ) → GivesWith (λ s. s.1.0.now) write.Post (r, (out, (at, tt))) next after
      → Written out.now at (held_by r) next after
  pub pack : (r : Record) (slots : MutBor (List ℕ)) (i : ℕ) (after : List ℕ) → GivesWith (λ s. s.1.0.now) pack.Post (r, (slots, (i, tt))) tt after
      → (length slots.now / 8 ≤ i → after ≡ slots.now) × (after ≡ packed_at slots.now i (held_by r))
  -- a mask, of any width: a bank or a channel that it has not
  pub bank : (N : ℕ) (fits : Fits w64 N) (m : MutBor (ChannelMask N)) (i v : ℕ) (r : Result Unit Refusal) (m' : ChannelMask N)
      → GivesWith (λ s. s.0.now) (set_bank.Post N fits) (m, (i, (v, tt))) r m' → Checked (length m.now.0 ≤ i) 5 r m.now (record { 0 = set m.now.0 i v }) m'
  pub channel : (N : ℕ) (fits : Fits w64 N) (m : MutBor (ChannelMask N)) (c : ℕ) (on : Bool) (r : Result Unit Refusal) (m' : ChannelMask N)
      → GivesWith (λ s. s.0.now) (set_channel.Post N fits) (m, (c, (on, tt))) r m' → Checked (8 * length m.now.0 ≤ c) 5 r m.now (record { 0 = switched m.now.0 c on }) m'
  -- a creator. A margin is -32 to 31
  pub data_rate : (c : MutBor LinkADRReqCreator) (v : ℕ) (r : Result Unit Refusal) (c' : LinkADRReqCreator) → GivesWith (λ s. s.0.now) set_data_rate.Post (c, (v, tt)) r c'
      → Checked (15 < v) 7 r c.now (record { «data» = put_at link_adr_req_data_rate c.now.«data» v }) c'
  pub tx_power : (c : MutBor LinkADRReqCreator) (v : ℕ) (r : Result Unit Refusal) (c' : LinkADRReqCreator) → GivesWith (λ s. s.0.now) set_tx_power.Post (c, (v, tt)) r c'
      → Checked (15 < v) 8 r c.now (record { «data» = put_at link_adr_req_tx_power c.now.«data» v }) c'
  pub margin : (c : MutBor DevStatusAnsCreator) (m : ℤ) (r : Result Unit Refusal) (c' : DevStatusAnsCreator) → GivesWith (λ s. s.0.now) set_margin.Post (c, (m, tt)) r c'
      → Checked (is_margin m ≡ false) 9 r c.now (record { «data» = put_at dev_status_ans_whole c.now.«data» (six_bits m) }) c'
  pub delay : (c : MutBor RXTimingSetupReqCreator) (v : ℕ) (r : Result Unit Refusal) (c' : RXTimingSetupReqCreator) → GivesWith (λ s. s.0.now) set_delay.Post (c, (v, tt)) r c'
      → Checked (15 < v) 10 r c.now (record { «data» = put_at rx_timing_setup_req_delay c.now.«data» v }) c'
  pub max_eirp : (c : MutBor TXParamSetupReqCreator) (v : ℕ) (r : Result Unit Refusal) (c' : TXParamSetupReqCreator) → GivesWith (λ s. s.0.now) set_max_eirp.Post (c, (v, tt)) r c'
      → Checked (15 < v) 11 r c.now (record { «data» = put_at tx_param_setup_req_max_eirp c.now.«data» v }) c'
  pub nano_seconds : (c : MutBor DeviceTimeAnsCreator) (n : ℕ) (r : Result Unit Refusal) (c' : DeviceTimeAnsCreator) → GivesWith (λ s. s.0.now) set_nano_seconds.Post (c, (n, tt)) r c'
      → Checked (1_000_000_000 < n) 12 r c.now (record { «data» = put_at device_time_ans_fraction c.now.«data» (n / 3_906_250 % 256) }) c'

-- what a mask tells (RULES: S7 to S11, R4, R5), of any width, and how many channels one of 16 switches on (RULES: S12)
pub record MasksTell : Type 0 where
  pub default : (N : ℕ) (fits : Fits w64 N) (m : ChannelMask N) → Gives (default.Post N fits) tt m → m.0 ≡ all_on N
  pub new : (N : ℕ) (fits : Fits w64 N) (s : Bor (List ℕ)) (r : Result (ChannelMask N) Refusal) → Gives (new.Post N fits) (s, tt) r
      → told (λ (m : ChannelMask N). m.0) r ≡ mask_of N s.now
  pub enabled : (N : ℕ) (fits : Fits w64 N) (m : ChannelMask N) (c : ℕ) (r : Result Bool Refusal) → Gives (is_enabled.Post N fits) (m, (c, tt)) r
      → told (λ (on : Bool). on) r ≡ enabled_of m.0 c
  pub bank : (N : ℕ) (fits : Fits w64 N) (m : ChannelMask N) (i : ℕ) (r : Result ℕ Refusal) → Gives (get_index.Post N fits) (m, (i, tt)) r
      → told (λ (b : ℕ). b) r ≡ bank_of m.0 i
  pub statuses_2 : (m : ChannelMask 2) (r : List Bool) → Gives statuses_2.Post (m, tt) r → r ≡ statuses_of 16 m.0
  pub statuses_9 : (m : ChannelMask 9) (r : List Bool) → Gives statuses_9.Post (m, tt) r → r ≡ statuses_of 72 m.0
  pub on_2 : (m : ChannelMask 2) (r : ℕ) → Gives channels_on_2.Post (m, tt) r → r ≡ channels_on m.0

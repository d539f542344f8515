-- What a reader of a stream is handed out, through each of the public entries: all that their contracts admit (RULES: D3, W7).
use Rattle.std.specs.Prelude.{ℕ, ◌+◌, List, [], ◌∷◌, ◌++◌, map, ◌≡◌, length}
use Rattle.std.specs.Borrow.{Bor, MutBor}
use Rattle.table.specs.Answers.{Answer, given, refused}
use Rattle.table.specs.declared.rules.Rules.{Rules}
use Rattle.payloads.specs.Commands.{sent_up, sent_down}
use Rattle.payloads.specs.declared.uplink.UplinkMacCommand.{UplinkMacCommand}
use Rattle.payloads.specs.declared.downlink.DownlinkMacCommand.{DownlinkMacCommand}
use Rattle.walk.specs.Ownership.{offset_of}
use Rattle.walk.specs.Step.{Found, ended, command, stopped, Heading, retold}
use Rattle.walk.specs.Told.{told_step, told_uplink_step, told_downlink_step, told_walk}
use Rattle.walk.specs.Walk.{Cmd, Placed, Ending, end, stop, size}
use Rattle.walk.specs.declared.step.Step.{Step}
use Rattle.walk.specs.declared.command.CommandStep.{CommandStep}
use Rattle.walk.specs.declared.whole.WalkEnd.{WalkEnd}
use Rattle.build.specs.Records.{cmd_of, held_by}
use Rattle.build.specs.declared.handed.Handed.{Handed}
use Rattle.build.specs.declared.record.Record.{Record}
use Rattle.lent.specs.declared.iterator.MacCommandIterator.{MacCommandIterator}
use Rattle.walk.proofs.step.step_at.Reads as step-at
use Rattle.walk.proofs.step.payload_at.Reads as payload_at
use Rattle.walk.proofs.command.uplink_at.Reads as uplink_at
use Rattle.walk.proofs.command.downlink_at.Reads as downlink_at
use Rattle.walk.proofs.whole.walk.Reads as walk
use Rattle.build.proofs.handed.record_at.Reads as record_at
use Rattle.lent.proofs.iterator.MacCommandIterator.new.Reads as new
use Rattle.lent.proofs.iterator.MacCommandIterator.next.Reads as next
use Rattle.lent.proofs.iterator.MacCommandIterator.next_record.Reads as next_record
use Rattle.lent.proofs.iterator.parse_uplink_mac_commands.Reads as parse_uplink
use Rattle.lent.proofs.iterator.parse_downlink_mac_commands.Reads as parse_downlink
use Rattle.claims.specs.Outcomes.{Gives, GivesWith}

-- a way to read a stream: states, those to begin in, what may be answered in a state and the state then, and the offset of a state. A says how a
-- command is told
pub record Front (A : Type 0) : Type 1 where
  pub State : Type 0
  pub begin : State → Type 0
  pub ask : State → Answer (Found A) → State → Type 0
  pub offset : State → ℕ

-- ---- the entries

-- a command in numbers, with the payload that was shown of it
abbrev pub with_payload : Answer (Found Heading) → List ℕ → Answer (Found Cmd)
with_payload a payload = retold (λ (h : Heading). record { cid = h.cid; body = payload }) a

-- who reads by offsets begins at 0, goes on behind a command, and stays where there is none
abbrev pub onward : {A : Type 0} → Answer (Found A) → ℕ → ℕ
onward (given (command c next)) at = next
onward (given ended) at = at
onward (given (stopped n o)) at = at
onward (refused n) at = at

abbrev pub by_offsets : {A : Type 0} → (ℕ → Answer (Found A) → ℕ → Type 0) → Front A
by_offsets ask = record { State = ℕ; begin = λ at. at ≡ 0; ask = ask; offset = λ at. at }

-- `step_at`, and `payload_at` for the payload
pub data StepAsked (rules : Rules) (stream : Bor (List ℕ)) : ℕ → Answer (Found Cmd) → ℕ → Type 0 where
  asked : (at : ℕ) (r : Step) (p : Bor (List ℕ)) → Gives step-at.Post (rules, (stream, (at, tt))) r → Gives payload_at.Post (rules, (stream, (at, tt))) p
      → StepAsked rules stream at (with_payload (told_step r) p.now) (onward (with_payload (told_step r) p.now) at)

abbrev pub steps : Rules → Bor (List ℕ) → Front Cmd
steps rules stream = by_offsets (StepAsked rules stream)

-- `uplink_at`
pub data UplinkAsked (stream : Bor (List ℕ)) : ℕ → Answer (Found Cmd) → ℕ → Type 0 where
  asked : (at : ℕ) (r : CommandStep UplinkMacCommand) → Gives uplink_at.Post (stream, (at, tt)) r → UplinkAsked stream at (told_uplink_step r) (onward (told_uplink_step r) at)

abbrev pub uplink_steps : Bor (List ℕ) → Front Cmd
uplink_steps stream = by_offsets (UplinkAsked stream)

-- `downlink_at`
pub data DownlinkAsked (stream : Bor (List ℕ)) : ℕ → Answer (Found Cmd) → ℕ → Type 0 where
  asked : (at : ℕ) (r : CommandStep DownlinkMacCommand) → Gives downlink_at.Post (stream, (at, tt)) r → DownlinkAsked stream at (told_downlink_step r) (onward (told_downlink_step r) at)

abbrev pub downlink_steps : Bor (List ℕ) → Front Cmd
downlink_steps stream = by_offsets (DownlinkAsked stream)

-- `MacCommandIterator`: made by `new` or by a parse function, asked by `next`, with `payload_at` for the payload
pub data Made (stream : Bor (List ℕ)) : Rules → MacCommandIterator → Type 0 where
  by_new : {rules : Rules} {it : MacCommandIterator} → Gives new.Post (stream, (rules, tt)) it → Made stream rules it
  parsed_up : {it : MacCommandIterator} → Gives parse_uplink.Post (stream, tt) it → Made stream sent_up it
  parsed_down : {it : MacCommandIterator} → Gives parse_downlink.Post (stream, tt) it → Made stream sent_down it

pub data NextAsked : MacCommandIterator → Answer (Found Cmd) → MacCommandIterator → Type 0 where
  asked : (it : MutBor MacCommandIterator) (r : Step) (p : Bor (List ℕ)) (it' : MacCommandIterator) → GivesWith (λ s. s.0.now) next.Post (it, tt) r it'
      → Gives payload_at.Post (it.now.rules, (it.now.«data», (it.now.index, tt))) p
      → NextAsked it.now (with_payload (told_step r) p.now) it'

abbrev pub iterator : Rules → Bor (List ℕ) → Front Cmd
iterator rules stream = record { State = MacCommandIterator; begin = Made stream rules; ask = NextAsked; offset = λ it. it.index }

-- ---- the entries that hand out records (W7)

-- a step with the record that goes with its command
abbrev pub with_record : Handed → Answer (Found Record)
with_record r = retold (λ (h : Heading). r.«record») (told_step r.step)

-- `record_at`, for a frame number
pub data RecordAsked (rules : Rules) (frame : ℕ) (stream : Bor (List ℕ)) : ℕ → Answer (Found Record) → ℕ → Type 0 where
  asked : (at : ℕ) (r : Handed) → Gives record_at.Post (rules, (frame, (stream, (at, tt)))) r → RecordAsked rules frame stream at (with_record r) (onward (with_record r) at)

abbrev pub record_steps : Rules → (frame : ℕ) → Bor (List ℕ) → Front Record
record_steps rules frame stream = by_offsets (RecordAsked rules frame stream)

-- `next_record`, for a frame number
pub data NextRecordAsked (frame : ℕ) : MacCommandIterator → Answer (Found Record) → MacCommandIterator → Type 0 where
  asked : (it : MutBor MacCommandIterator) (r : Handed) (it' : MacCommandIterator) → GivesWith (λ s. s.0.now) next_record.Post (it, (frame, tt)) r it'
      → NextRecordAsked frame it.now (with_record r) it'

abbrev pub record_iterator : Rules → (frame : ℕ) → Bor (List ℕ) → Front Record
record_iterator rules frame stream = record { State = MacCommandIterator; begin = Made stream rules; ask = NextRecordAsked frame; offset = λ it. it.index }

-- read for the commands alone: a record's CID, and its payload to its length
pub data CommandAsked (F : Front Record) : F.State → Answer (Found Cmd) → F.State → Type 0 where
  asked : (st st' : F.State) (a : Answer (Found Record)) → F.ask st a st' → CommandAsked F st (retold (λ (r : Record). cmd_of (held_by r)) a) st'

abbrev pub commands_of : Front Record → Front Cmd
commands_of F = record { State = F.State; begin = F.begin; ask = CommandAsked F; offset = F.offset }

-- ---- what is handed out

abbrev pub NoCommand : {A : Type 0} → Answer (Found A) → Type 0
NoCommand (given (command c next)) = ⊥
NoCommand (given ended) = Unit
NoCommand (given (stopped n at)) = Unit
NoCommand (refused n) = Unit

-- the first of these commands, as it is told, or else the ending
abbrev pub first_told : {A : Type 0} → (Placed → A) → List Placed → Ending → Found A
first_told tell (p ∷ ps) e = command (tell p) (p.at + size p.cmd)
first_told tell [] (end at) = ended
first_told tell [] (stop n at) = stopped n at

module _ {A : Type 0} (F : Front A) where
  -- asked again and again, the entry has handed out these commands, and stands so
  pub data Calls : F.State → List A → Type 0 where
    begun : (st : F.State) → F.begin st → Calls st []
    handed : (st st' : F.State) (cs : List A) (c : A) (next : ℕ) → Calls st cs → F.ask st (given (command c next)) st' → Calls st' (cs ++ (c ∷ []))
    none_handed : (st st' : F.State) (cs : List A) (a : Answer (Found A)) → Calls st cs → F.ask st a st' → NoCommand a → Calls st' cs

  -- between the commands of a list that were handed out and those to come: it stands at the first of these, or at the ending, and whatever is
  -- answered is that
  pub record Between (tell : Placed → A) (cmds : List Placed) (ending : Ending) (st : F.State) (out : List A) : Type 0 where
    pub before : List Placed
    pub coming : List Placed
    pub parted : cmds ≡ before ++ coming
    pub handed_out : out ≡ map tell before
    pub stands : F.offset st ≡ offset_of coming ending
    pub answered : (a : Answer (Found A)) (st' : F.State) → F.ask st a st' → a ≡ given (first_told tell coming ending)

  -- exactly these commands are handed out, each told so, and then this ending for ever
  abbrev pub HandsOut : (Placed → A) → List Placed → Ending → Type 0
  HandsOut tell cmds ending = (st : F.State) (out : List A) → Calls st out → Between tell cmds ending st out

-- a command at an offset, told as itself
abbrev pub itself : Placed → Cmd
itself p = p.cmd

-- the same of all entries, and the whole walk counts the commands and tells the ending
pub record ReadAs (rules : Rules) (stream : Bor (List ℕ)) (cmds : List Placed) (ending : Ending) : Type 0 where
  pub by_steps : HandsOut (steps rules stream) itself cmds ending
  pub by_iterator : HandsOut (iterator rules stream) itself cmds ending
  pub as_records : (frame : ℕ) → HandsOut (commands_of (record_steps rules frame stream)) itself cmds ending
  pub by_record_iterator : (frame : ℕ) → HandsOut (commands_of (record_iterator rules frame stream)) itself cmds ending
  pub typed_up : rules ≡ sent_up → HandsOut (uplink_steps stream) itself cmds ending
  pub typed_down : rules ≡ sent_down → HandsOut (downlink_steps stream) itself cmds ending
  pub whole : (w : WalkEnd) → Gives walk.Post (rules, (stream, tt)) w → told_walk w ≡ (given ending, length cmds)

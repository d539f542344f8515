-- Where a command came from (RULES: W7, B5): what the entries hand out as records along the walk of a stream, and that a build looks at no frame
-- and no offset. Of every outcome that the contracts admit.
use Rattle.std.specs.Prelude.{ℕ, List, [], ◌∷◌, map, ◌≡◌}
use Rattle.std.specs.Borrow.{Bor, MutBor}
use denote.Param.Laws.{Laws, IsCopy}
use denote.RattleType.{RattleType}
use mir.Syntax.{Dict}
use Rattle.std.specs.declared.clone.Clone as Clone
use Rattle.bits.specs.Every.{Every}
use Rattle.table.specs.Answers.{given}
use Rattle.table.specs.Table.{length_of}
use Rattle.table.specs.declared.rules.Rules.{Rules}
use Rattle.payloads.specs.declared.uplink.UplinkMacCommand.{UplinkMacCommand}
use Rattle.payloads.specs.declared.downlink.DownlinkMacCommand.{DownlinkMacCommand}
use Rattle.creators.specs.declared.kinds.MacCommandCreator.{MacCommandCreator}
use Rattle.creators.specs.declared.kinds.CommandKind as CommandKind
use Rattle.walk.specs.Step.{command, Heading}
use Rattle.walk.specs.Told.{told_step}
use Rattle.walk.specs.Walk.{Placed, Walk, bare, walk_of}
use Rattle.walk.specs.declared.step.Step.{Step}
use Rattle.build.specs.Build.{Built}
use Rattle.build.specs.Equal.{Equal, EqualLists, as_rec}
use Rattle.build.specs.Handed.{from_frame, handed_at}
use Rattle.build.specs.Records.{held_by, no_record}
use Rattle.build.specs.Told.{told_handed}
use Rattle.build.specs.declared.handed.Handed.{Handed}
use Rattle.build.specs.declared.record.Record.{Record}
use Rattle.lent.specs.Packing.{Packed}
use Rattle.lent.specs.declared.iterator.MacCommandIterator.{MacCommandIterator}
use Rattle.walk.proofs.step.step_at.Reads as step-at
use Rattle.walk.proofs.step.payload_at.Reads as payload_at
use Rattle.build.proofs.handed.record_at.Reads as record_at
use Rattle.build.proofs.record.Record.new.Reads as new
use Rattle.build.proofs.record.Record.none.Reads as none
use Rattle.build.proofs.sources.RecordFromUplinkMacCommand.from.Reads as of_uplink
use Rattle.build.proofs.sources.RecordFromDownlinkMacCommand.from.Reads as of_downlink
use Rattle.build.proofs.sources.RecordFromMacCommandCreator.from.Reads as of_creator
use Rattle.build.proofs.record.Record.pack.Reads as pack
use Rattle.lent.proofs.iterator.MacCommandIterator.next.Reads as next
use Rattle.lent.proofs.iterator.MacCommandIterator.next_record.Reads as next_record
use Rattle.claims.specs.Building.{SlotsBuilt, StructsBuilt, FourBuilt, SlotsLength, StructsLength}
use Rattle.claims.specs.Handing.{NoCommand, HandsOut, record_steps, record_iterator}
use Rattle.claims.specs.Outcomes.{Gives, GivesWith}

-- ---- along the walk

-- records of these commands: each with the frame's number, its own offset, and the same CID, length and payload
pub record Stamped (frame : ℕ) (cmds : List Placed) (records : List Record) : Type 0 where
  pub frames : Every (λ (r : Record). r.frame ≡ frame) records
  pub offsets : map (λ (r : Record). r.offset) records ≡ map (λ (p : Placed). p.at) cmds
  pub commands : EqualLists (map held_by records) (map as_rec (bare cmds))

-- what is handed out as records of a frame, whatever its number, is exactly the walk's list, which every entry reads (`defined`, Owning.antt)
module _ (rules : Rules) (stream : Bor (List ℕ)) where
  abbrev w : Walk
  w = walk_of (length_of rules) stream.now

  pub record RecordsOfTheWalk (frame : ℕ) : Type 0 where
    pub by-offsets : HandsOut (record_steps rules frame stream) (from_frame frame) w.cmds w.ending
    pub by_iterator : HandsOut (record_iterator rules frame stream) (from_frame frame) w.cmds w.ending
    pub stamped : Stamped frame w.cmds (map (from_frame frame) w.cmds)

-- the record of a command that a step tells at an offset, with this payload
pub record Says (frame at : ℕ) (h : Heading) (payload : List ℕ) (r : Record) : Type 0 where
  pub its_frame : r.frame ≡ frame
  pub its_offset : r.offset ≡ at
  pub its_command : Equal (held_by r) (record { cid = h.cid; len = h.len; bytes = payload })

-- at every offset, on the walk's way or not: the step is that of `step_at`. Of a command the record says so, with the payload that `payload_at` shows;
-- where there is no command, it is that of no command. What else stands in it is as defined
pub record RecordThere (rules : Rules) (frame : ℕ) (stream : Bor (List ℕ)) (at : ℕ) (r : Handed) : Type 0 where
  pub its_step : (q : Step) → Gives step-at.Post (rules, (stream, (at, tt))) q → r.step ≡ q
  pub of_command : (h : Heading) (next : ℕ) (p : Bor (List ℕ)) → told_step r.step ≡ given (command h next) → Gives payload_at.Post (rules, (stream, (at, tt))) p
      → Says frame at h p.now r.«record»
  pub none : NoCommand (told_step r.step) → r.«record» ≡ no_record
  pub defined : told_handed r ≡ handed_at (length_of rules) frame stream.now at

-- asked of an iterator, the record is the one at its index, and the iterator is then as `next` would leave it
pub record RecordNext (frame : ℕ) (it : MutBor MacCommandIterator) (r : Handed) (it' : MacCommandIterator) : Type 0 where
  pub there : RecordThere it.now.rules frame it.now.«data» it.now.index r
  pub moved : (q : Step) (it'' : MacCommandIterator) → GivesWith (λ s. s.0.now) next.Post (it, tt) q it'' → it' ≡ it''

-- one that was made of parts, of a command or of a creator came from no frame, and has no place in one
pub record FromNoFrame (r : Record) : Type 0 where
  pub frame : r.frame ≡ 0
  pub offset : r.offset ≡ 0

pub record MadeOfNoFrame : Type 2 where
  pub new : (cid len : ℕ) (payload : List ℕ) (r : Record) → Gives new.Post (cid, (len, (payload, tt))) r → FromNoFrame r
  -- and that of no command has nothing in it
  pub none : (r : Record) → Gives none.Post tt r → r ≡ record { cid = 0; payload = 0 ∷ 0 ∷ 0 ∷ 0 ∷ 0 ∷ []; frame = 0; len = 0; offset = 0 }
  pub of_uplink : (c : UplinkMacCommand) (r : Record) → Gives of_uplink.Post (c, tt) r → FromNoFrame r
  pub of_downlink : (c : DownlinkMacCommand) (r : Record) → Gives of_downlink.Post (c, tt) r → FromNoFrame r
  -- of a creator of either direction: at every type of kinds
  pub of_creator : (K : RattleType) (laws : Laws K) (copy : IsCopy K) (kind : CommandKind.Ghosts K.Denot) (d : Dict) (clone : Clone.Ghosts K.Denot) (e : Dict)
      → (c : MacCommandCreator K.Denot) (r : Record) → Gives (of_creator.Post K laws copy kind d clone e) (c, tt) r → FromNoFrame r

-- ---- in a build

-- whatever is answered of the one and of the other, over the same memory, is the same, and so are the bytes then
abbrev pub SameOutcome : {X : Type 0} → (X → List ℕ → Built → List ℕ → Type 0) → X → X → Type 0
SameOutcome B x y = (before after after' : List ℕ) (a b : Built) → B x before a after → B y before b after' → (a ≡ b) × (after ≡ after')

-- of two lists, as structs and packed
pub record BuildsAlike (rules : Rules) (rs qs : List Record) : Type 0 where
  pub structs : SameOutcome (StructsBuilt rules) rs qs
  pub four : SameOutcome (FourBuilt rules) rs qs
  pub slots : (s t : List ℕ) → Packed s rs → Packed t qs → SameOutcome (SlotsBuilt rules) s t
  pub structs_length : (a b : Built) → StructsLength rules rs a → StructsLength rules qs b → a ≡ b
  pub slots_length : (s t : List ℕ) → Packed s rs → Packed t qs → (a b : Built) → SlotsLength rules s a → SlotsLength rules t b → a ≡ b

-- a record is packed into a slot without its frame and its offset
abbrev pub PacksAlike : Type 0
PacksAlike = (r q : Record) → held_by r ≡ held_by q → (s t : MutBor (List ℕ)) → s.now ≡ t.now → (i : ℕ) (after after' : List ℕ)
    → GivesWith (λ s. s.1.0.now) pack.Post (r, (s, (i, tt))) tt after → GivesWith (λ s. s.1.0.now) pack.Post (q, (t, (i, tt))) tt after' → after ≡ after'

pub record OriginsTell : Type 2 where
  pub walked : (rules : Rules) (stream : Bor (List ℕ)) (frame : ℕ) → RecordsOfTheWalk rules stream frame
  pub there : (rules : Rules) (frame : ℕ) (stream : Bor (List ℕ)) (at : ℕ) (r : Handed) → Gives record_at.Post (rules, (frame, (stream, (at, tt)))) r → RecordThere rules frame stream at r
  pub next_there : (frame : ℕ) (it : MutBor MacCommandIterator) (r : Handed) (it' : MacCommandIterator)
      → GivesWith (λ s. s.0.now) next_record.Post (it, (frame, tt)) r it' → RecordNext frame it r it'
  pub of_no_frame : MadeOfNoFrame
  -- lists that differ in frames and offsets only are equal, and equal lists are built alike
  pub uncounted : (rs qs : List Record) → map held_by rs ≡ map held_by qs → EqualLists (map held_by rs) (map held_by qs)
  pub built_alike : (rules : Rules) (rs qs : List Record) → EqualLists (map held_by rs) (map held_by qs) → BuildsAlike rules rs qs
  pub packed_alike : PacksAlike

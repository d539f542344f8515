-- What the builds answer and leave in lent memory: all that their contracts admit (RULES: D1, D3d to D3f, B1 to B4).
use Rattle.std.specs.Prelude.{ℕ, ◌<◌, ◌≤◌, List, map, ◌↔◌, ◌≡◌, length, take, drop, Result}
use Rattle.std.specs.Borrow.{Bor, MutBor}
use Rattle.bits.specs.Bits.{Byte}
use Rattle.bits.specs.Every.{Every}
use Rattle.table.specs.Table.{length_of}
use Rattle.table.specs.declared.rules.Rules.{Rules}
use Rattle.walk.specs.Walk.{Cmd, WellFormed, end, encode, place}
use Rattle.build.specs.Equal.{EqualLists, as_rec}
use Rattle.build.specs.Records.{Item, recs_in, cmds_of, slots_of}
use Rattle.build.specs.Build.{Built, total, refused_at, refused, build_of}
use Rattle.build.specs.ThereAndBack.{Commands, Full}
use Rattle.build.specs.Told.{told_build}
use Rattle.build.specs.declared.record.Record.{Record}
use Rattle.build.specs.declared.list.BuildError.{BuildError}
use Rattle.lent.specs.Records.{items_of}
use Rattle.build.proofs.packed.mac_commands_len.Reads as mac_commands_len
use Rattle.build.proofs.packed.build_mac_commands.Reads as build_mac_commands
use Rattle.lent.proofs.records.records_len.Reads as records_len
use Rattle.lent.proofs.records.build_records.Reads as build_records
use Rattle.lent.proofs.records.build_four.Reads as build_four
use Rattle.claims.specs.Handing.{ReadAs}
use Rattle.claims.specs.Outcomes.{Gives, GivesWith}

-- ---- the entries

-- a record's payload is an array of five bytes
abbrev pub Five : Record → Type 0
Five r = length r.payload ≡ 5

-- a way to build: from a list over some memory, what may be answered, and the memory then
abbrev pub Builder : Type 1
Builder = Rules → List Item → List ℕ → Built → List ℕ → Type 0

-- `build_mac_commands`, told by the slots that it was given: over which memory, what may be answered, and the memory then
pub data SlotsBuilt (rules : Rules) : List ℕ → List ℕ → Built → List ℕ → Type 0 where
  built : (slots : Bor (List ℕ)) (out : MutBor (List ℕ)) (r : Result ℕ BuildError) (after : List ℕ)
      → GivesWith (λ s. s.1.1.0.now) build_mac_commands.Post (rules, (slots, (out, tt))) r after
      → SlotsBuilt rules slots.now out.now (told_build r) after

-- `build_records`, told by the record structs in its slice
pub data StructsBuilt (rules : Rules) : List Record → List ℕ → Built → List ℕ → Type 0 where
  built : (records : Bor (List Record)) (out : MutBor (List ℕ)) (r : Result ℕ BuildError) (after : List ℕ)
      → GivesWith (λ s. s.1.1.0.now) build_records.Post (rules, (records, (out, tt))) r after
      → StructsBuilt rules records.now out.now (told_build r) after

-- `build_four`, told by those in its array
pub data FourBuilt (rules : Rules) : List Record → List ℕ → Built → List ℕ → Type 0 where
  built : (records : List Record) (out : MutBor (List ℕ)) (r : Result ℕ BuildError) (after : List ℕ)
      → GivesWith (λ s. s.1.1.0.now) build_four.Post (rules, (records, (out, tt))) r after
      → FourBuilt rules records out.now (told_build r) after

-- `mac_commands_len` and `records_len`: what may be answered
pub data SlotsLength (rules : Rules) : List ℕ → Built → Type 0 where
  asked : (slots : Bor (List ℕ)) (r : Result ℕ BuildError) → Gives mac_commands_len.Post (rules, (slots, tt)) r → SlotsLength rules slots.now (told_build r)

pub data StructsLength (rules : Rules) : List Record → Built → Type 0 where
  asked : (records : Bor (List Record)) (r : Result ℕ BuildError) → Gives records_len.Post (rules, (records, tt)) r → StructsLength rules records.now (told_build r)

-- the same, told by the list of items that the slots or the records are
pub data FromSlots (rules : Rules) : List Item → List ℕ → Built → List ℕ → Type 0 where
  from_slots : (slots : List ℕ) {before after : List ℕ} {a : Built} → SlotsBuilt rules slots before a after → FromSlots rules (slots_of slots) before a after

pub data FromStructs (rules : Rules) : List Item → List ℕ → Built → List ℕ → Type 0 where
  from_structs : (records : List Record) {before after : List ℕ} {a : Built} → Every Five records → StructsBuilt rules records before a after
      → FromStructs rules (items_of records) before a after

pub data FromFour (rules : Rules) : List Item → List ℕ → Built → List ℕ → Type 0 where
  from_four : (records : List Record) {before after : List ℕ} {a : Built} → Every Five records → FourBuilt rules records before a after
      → FromFour rules (items_of records) before a after

pub data LenOfSlots (rules : Rules) : List Item → Built → Type 0 where
  of_slots : (slots : List ℕ) {a : Built} → SlotsLength rules slots a → LenOfSlots rules (slots_of slots) a

pub data LenOfStructs (rules : Rules) : List Item → Built → Type 0 where
  of_structs : (records : List Record) {a : Built} → StructsLength rules records a → LenOfStructs rules (items_of records) a

-- ---- what is claimed of each

abbrev pub IsRefusal : Built → Type 0
IsRefusal (total n) = ⊥
IsRefusal (refused_at k place) = Unit
IsRefusal (refused k) = Unit

-- a list that stands for these commands: each a whole record, well formed, and equal to them
pub record StandsFor (rules : Rules) (cs : List Cmd) (xs : List Item) : Type 0 where
  pub well_formed : Commands (length_of rules) xs
  pub same : EqualLists (recs_in xs) (map as_rec cs)

-- the commands were written: the total is the number of their bytes, which stand in front, behind them memory is as it was, and who reads what was
-- written is handed out the commands and the end
pub record BackAgain (rules : Rules) (cs : List Cmd) (before : List ℕ) (a : Built) (after : List ℕ) : Type 0 where
  pub size : a ≡ total (length (encode cs))
  pub written : take (length (encode cs)) after ≡ encode cs
  pub later : drop (length (encode cs)) after ≡ drop (length (encode cs)) before
  pub reads : (stream : Bor (List ℕ)) → stream.now ≡ take (length (encode cs)) after → ReadAs rules stream (place 0 cs) (end (length (encode cs)))

-- R1, R3, R4, R16, with their places and their order (F5), and the memory then: those of crates/build/specs/Build.antt. A record that is taken has the
-- payload bytes that its length says
pub record AsDefined (rules : Rules) (xs : List Item) (before : List ℕ) (a : Built) (after : List ℕ) : Type 0 where
  pub says : ◌≡◌ {A = Built × List ℕ} (a, after) (build_of (length_of rules) xs before)
  pub full : Full (length_of rules) xs

module _ (B : Builder) where
  -- D1: a refusal leaves memory as it was
  abbrev pub RefusedKeeps : Type 0
  RefusedKeeps = (rules : Rules) (xs : List Item) (before after : List ℕ) (a : Built) → B rules xs before a after → IsRefusal a → after ≡ before

  -- D3d
  abbrev pub BuiltReadsBack : Type 0
  BuiltReadsBack = (rules : Rules) (cs : List Cmd) (xs : List Item) (before after : List ℕ) (a : Built) → length cs ≤ 4096 → StandsFor rules cs xs
      → length (encode cs) ≤ length before → B rules xs before a after → BackAgain rules cs before a after

  -- the definition, which fixes each refusal too
  abbrev pub BuildsAsDefined : Type 0
  BuildsAsDefined = (rules : Rules) (xs : List Item) (before after : List ℕ) (a : Built) → B rules xs before a after → AsDefined rules xs before a after

  -- accepted is what stands for at most 4,096 well-formed commands that fit, and nothing else
  abbrev pub AcceptsExactly : Type 0
  AcceptsExactly = (rules : Rules) (xs : List Item) (before after : List ℕ) (a : Built) → B rules xs before a after
      → ((n : ℕ) × (a ≡ total n)) ↔ ((length xs ≤ 4096) × Commands (length_of rules) xs × (length (encode (cmds_of xs)) ≤ length before))

-- D3e, of two builds: lists that were accepted and have equal bytes are equal
abbrev pub SameBytesSameList : Builder → Builder → Type 0
SameBytesSameList B C = (rules : Rules) (xs ys : List Item) (before before' after after' : List ℕ) (m n : ℕ)
    → B rules xs before (total m) after → C rules ys before' (total n) after' → take m after ≡ take n after' → EqualLists (recs_in xs) (recs_in ys)

-- the length that is asked beforehand: what the build answers, but for a total that has no room
pub data LengthAgrees (length-says : Built) (room : ℕ) (build-says : Built) : Type 0 where
  same : build-says ≡ length-says → LengthAgrees length-says room build-says
  no_room : (n : ℕ) → length-says ≡ total n → room < n → build-says ≡ refused 4 → LengthAgrees length-says room build-says

abbrev pub LengthForBuild : (Rules → List Item → Built → Type 0) → Builder → Type 0
LengthForBuild Len B = (rules : Rules) (xs : List Item) (before after : List ℕ) (l a : Built) → Len rules xs l → B rules xs before a after → LengthAgrees l (length before) a

-- every list of well-formed commands can be handed to each of the builds: it has packed slots and record structs that stand for it.
-- Where its payloads are bytes, so are the slots and the records' payloads
pub record CanBeBuilt (rules : Rules) (cs : List Cmd) : Type 0 where
  pub slots : List ℕ
  pub packed : StandsFor rules cs (slots_of slots)
  pub slot_bytes : Every (λ (c : Cmd). Every Byte c.body) cs → Every Byte slots
  pub records : List Record
  pub structs : StandsFor rules cs (items_of records)
  pub five : Every Five records
  pub record_bytes : Every (λ (c : Cmd). Every Byte c.body) cs → Every (λ (r : Record). Byte r.cid × Every Byte r.payload) records

abbrev pub EveryListBuilt : Type 0
EveryListBuilt = (rules : Rules) (cs : List Cmd) → WellFormed (length_of rules) cs → CanBeBuilt rules cs

-- all of that, of one build
pub record RightBuild (B : Builder) : Type 0 where
  pub reads_back : BuiltReadsBack B
  pub accepts : AcceptsExactly B
  pub same_list : SameBytesSameList B B
  pub defined : BuildsAsDefined B

pub record Builds : Type 0 where
  pub lists : EveryListBuilt
  pub slots : RightBuild FromSlots
  pub structs : RightBuild FromStructs
  pub four : RightBuild FromFour
  pub either : SameBytesSameList FromSlots FromStructs
  pub slots_length : LengthForBuild LenOfSlots FromSlots
  pub structs_length : LengthForBuild LenOfStructs FromStructs

-- What is claimed of the build over record structs and the packed build (RULES: H2, H3): the same records get the same answer.
-- proofs/Packing.antt proves it.
use Rattle.std.specs.Prelude.{ℕ, ◌*◌, ◌/◌, ◌<◌, List, ◌≡◌, length, get_or}
use Rattle.table.specs.Table.{length_of}
use Rattle.table.specs.declared.rules.Rules.{Rules}
use Rattle.build.specs.Records.{Rec, held_by, no_record, len_byte, slot_at, slots_of, packed_at}
use Rattle.build.specs.Build.{total_of, build_of}
use Rattle.build.specs.declared.record.Record.{Record}
use Rattle.lent.specs.Records.{items_of}

-- a record as a slot has it: its length in one byte
abbrev pub in_slot : Rec → Rec
in_slot r = record { cid = r.cid; len = len_byte r.len; bytes = r.bytes }

-- slots that hold these records, one a slot
pub record Packed (slots : List ℕ) (records : List Record) : Type 0 where
  pub count : length slots ≡ 8 * length records
  pub each : (i : ℕ) → i < length records → slot_at slots i ≡ in_slot (held_by (get_or records i no_record))

-- the length and the build of a slice of records are those of the same records, packed
pub record SameAnswers (rules : Rules) (records : List Record) (slots : List ℕ) : Type 0 where
  pub len : total_of (length_of rules) (items_of records) ≡ total_of (length_of rules) (slots_of slots)
  pub build : (out : List ℕ) → build_of (length_of rules) (items_of records) out ≡ build_of (length_of rules) (slots_of slots) out

abbrev pub AnswersAsPacked : Type 0
AnswersAsPacked = (rules : Rules) (records : List Record) (slots : List ℕ) → Packed slots records → SameAnswers rules records slots

-- `Record::pack` makes such a slot of a record with five payload bytes, and no other slot changes
pub record MakesSlot (s : List ℕ) (i : ℕ) (r : Rec) : Type 0 where
  pub made : slot_at (packed_at s i r) i ≡ in_slot r
  pub others : (j : ℕ) → (j ≡ i → ⊥) → slot_at (packed_at s i r) j ≡ slot_at s j

abbrev pub PackMakesSlots : Type 0
PackMakesSlots = (s : List ℕ) (i : ℕ) (r : Rec) → i < length s / 8 → length r.bytes ≡ 5 → MakesSlot s i r

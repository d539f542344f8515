-- Commands as records (RULES: B1, B4): a CID, a length, and payload bytes, of which none behind the length counts.
use Rattle.std.specs.Prelude.{ℕ, Bool, ◌+◌, ◌-◌, ◌*◌, ◌/◌, ◌%◌, cond, List, [], ◌∷◌, ◌++◌, map, eqb, ltb, length, get_or, take, replicate}
use Rattle.std.proofs.Math.Option.{Option, none, some}
use Rattle.bits.specs.Memory.{over}
use Rattle.table.specs.Answers.{Answer, given, refused}
use Rattle.fields.specs.Lists.{tabulate}
use Rattle.walk.specs.Walk.{Rule, Cmd}
use Rattle.build.specs.declared.record.Record.{Record}

pub record Rec : Type 0 where
  pub cid : ℕ
  pub len : ℕ
  pub bytes : List ℕ

-- an entry of a list: a record, or what is left of one that was cut off
pub data Item : Type 0 where
  whole : Rec → Item
  part : Item

-- the whole ones
abbrev pub recs_in : List Item → List Rec
recs_in [] = []
recs_in (whole r ∷ xs) = r ∷ recs_in xs
recs_in (part ∷ xs) = recs_in xs

-- the command that a record stands for
abbrev pub cmd_of : Rec → Cmd
cmd_of r = record { cid = r.cid; body = take r.len r.bytes }

abbrev pub cmds_of : List Item → List Cmd
cmds_of [] = []
cmds_of (whole r ∷ xs) = cmd_of r ∷ cmds_of xs
cmds_of (part ∷ xs) = cmds_of xs

-- ---- whether a record is well formed

-- the record's length against what the rule says of its CID: refusal 1, UnknownMacCommand, before refusal 3, WrongLength. Else the bytes
-- that the command takes
abbrev pub measured : Option ℕ → ℕ → Answer ℕ
measured none len = refused 1
measured (some n) len = cond (eqb len n) (given (1 + len)) (refused 3)

abbrev pub judged : Rule → Rec → Answer ℕ
judged L r = measured (L r.cid) r.len

-- what is left of a record that was cut off is refused with 3, whatever its bytes (RULES: H2)
abbrev pub judged_item : Rule → Item → Answer ℕ
judged_item L (whole r) = judged L r
judged_item L part = refused 3

-- ---- records as values (RULES: B5)

-- the command of a record, without where it came from
abbrev pub held_by : Record → Rec
held_by r = record { cid = r.cid; len = r.len; bytes = r.payload }

-- with where it came from: the number of the frame, and the offset of the CID in the frame's stream
abbrev pub stamped : (frame offset : ℕ) → Rec → Record
stamped frame offset r = record { cid = r.cid; payload = r.bytes; frame = frame; len = r.len; offset = offset }

-- from no frame: so is the record of a command, of a creator, of a packed slot
abbrev pub frameless : Rec → Record
frameless r = stamped 0 0 r

-- of no command: no row of the table has CID 0
abbrev pub no_record : Record
no_record = frameless (record { cid = 0; len = 0; bytes = replicate 5 0 })

-- of a command: its CID, its payload's length, and its payload's bytes
abbrev pub of_payload : ℕ → ℕ × List ℕ → Rec
of_payload cid payload = record { cid = cid; len = payload.0; bytes = payload.1 }

-- of a creator's image, of so many bytes: the first byte is the CID, and the others are the payload (RULES: H6)
abbrev pub of_image : ℕ × List ℕ → Rec
of_image image = record {
  cid = get_or image.1 0 0;
  len = image.0 - 1;
  bytes = get_or image.1 1 0 ∷ get_or image.1 2 0 ∷ get_or image.1 3 0 ∷ get_or image.1 4 0 ∷ get_or image.1 5 0 ∷ [];
}

-- ---- records packed in bytes, eight a slot: the CID, the length, five payload bytes, and an eighth that is ignored

abbrev pub slot_at : List ℕ → ℕ → Rec
slot_at s i = record {
  cid = get_or s (8 * i) 0;
  len = get_or s (8 * i + 1) 0;
  bytes = get_or s (8 * i + 2) 0 ∷ get_or s (8 * i + 3) 0 ∷ get_or s (8 * i + 4) 0 ∷ get_or s (8 * i + 5) 0 ∷ get_or s (8 * i + 6) 0 ∷ [];
}

abbrev pub whole_slots : List ℕ → List Rec
whole_slots s = tabulate (length s / 8) (slot_at s)

-- the records of values that each hold one
abbrev pub recs_held : {X : Type 0} → (X → Record) → List X → List Rec
recs_held held xs = map (λ x. held_by (held x)) xs

-- whole records, and behind them a part, where one is cut off
abbrev pub listed : List Rec → Bool → List Item
listed rs cut_off = map whole rs ++ cond cut_off (part ∷ []) []

-- all the slots, and behind them a part, where bytes are left that make no slot (RULES: H2)
abbrev pub slots_of : List ℕ → List Item
slots_of s = map whole (whole_slots s) ++ cond (eqb (length s % 8) 0) [] (part ∷ [])

-- a length in one byte: 255 for what has no room there, which is no command's length either
abbrev pub len_byte : ℕ → ℕ
len_byte n = cond (ltb n 256) n 255

-- a record put into slot i; the slot's eighth byte stays. Where there is no such slot, nothing changes
unfoldable pub packed_at : List ℕ → ℕ → Rec → List ℕ
packed_at s i r = cond (ltb i (length s / 8)) (over s (8 * i) (r.cid ∷ len_byte r.len ∷ r.bytes)) s

-- ---- a record's bytes, written

abbrev pub command_bytes : Rec → List ℕ
command_bytes r = r.cid ∷ take r.len r.bytes

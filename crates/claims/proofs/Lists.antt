-- Every list of well-formed commands can be handed to each of the builds: crates/claims/specs/Building.antt. Assumes nothing.
use Prim.Native.Nat.{ℕ, zero, suc, ◌+◌, ◌*◌, ◌<◌, ◌≤◌}
use mathlib.Core.Bool.{Bool, true, false, cond}
use mathlib.Core.List.{List, [], ◌∷◌, map}
use mathlib.Core.Option.{some}
use mathlib.Core.Path.{◌≡◌, refl, sym, ap, ◌∙◌, subst}
use native.Mathlib.Omega.{arith}
use lib.Dec.{eqb, lit≤}
use lib.ListN.{length, get_or, take}
use lib.Seq.{get_or-append-add, take-length}
use borrow.Author.Tests.{eqb-true}
use Rattle.bits.specs.Bits.{Byte}
use Rattle.bits.specs.Every.{Every}
use Rattle.table.specs.Table.{Row, rows, side_of, length_in, length_of}
use Rattle.table.specs.declared.rules.Direction.{Direction}
use Rattle.table.specs.declared.rules.Rules.{Rules}
use Rattle.table.proofs.Lengths.{at_most_five}
use Rattle.walk.specs.Walk.{Rule, Cmd, WellFormed}
use Rattle.build.specs.Records.{Rec, whole, held_by, frameless, no_record, slot_at, slots_of}
use Rattle.build.specs.declared.record.Record.{Record}
use Rattle.build.proofs.AsRecords.{five, five_is, five_front}
use Rattle.lent.specs.Packing.{in_slot}
use Rattle.lent.specs.Records.{recs_of, items_of}
use Rattle.lent.proofs.Packing.{short_stays, slots_are, slot_same}
use Rattle.claims.specs.Building.{Five, StandsFor, EveryListBuilt}

-- ---- a record and a slot of a command

abbrev record_of : Cmd → Record
record_of c = frameless (record { cid = c.cid; len = length c.body; bytes = five c.body })

-- the slot, in front of the others
abbrev slot_before : Cmd → List ℕ → List ℕ
slot_before c rest = c.cid ∷ length c.body ∷ get_or c.body 0 0 ∷ get_or c.body 1 0 ∷ get_or c.body 2 0 ∷ get_or c.body 3 0 ∷ get_or c.body 4 0 ∷ 0 ∷ rest

abbrev slots_for : List Cmd → List ℕ
slots_for [] = []
slots_for (c ∷ cs) = slot_before c (slots_for cs)

-- ---- records stand for commands

module _ (rules : Rules) where
  abbrev L : Rule
  L = length_of rules

  record_stands : (cs : List Cmd) → WellFormed L cs → StandsFor rules cs (items_of (map record_of cs))
  record_stands [] w = record { well_formed = tt; same = tt }
  record_stands (c ∷ cs) w =
      let r = record_stands cs w.1 in
      let short : length c.body ≤ 5 = at_most_five rules c.cid (length c.body) w.0 in
      record {
        well_formed = (w.0, short, r.well_formed);
        same = (record { cid = refl; len = refl; payload = ap (take (length c.body)) (five_is c.body) ∙ five_front c.body short ∙ sym (take-length c.body) }, r.same);
      }

  -- lengths that have room in a slot
  in-slots : (cs : List Cmd) → WellFormed L cs → map in_slot (recs_of (map record_of cs)) ≡ recs_of (map record_of cs)
  in-slots [] w = refl
  in-slots (c ∷ cs) w =
      let short : length c.body ≤ 5 = at_most_five rules c.cid (length c.body) w.0 in
      ap (λ (r : Rec). r ∷ map in_slot (recs_of (map record_of cs))) (short_stays (held_by (record_of c)) (omega arith))
      ∙ ap (λ (l : List Rec). held_by (record_of c) ∷ l) (in-slots cs w.1)

  slot_each : (cs : List Cmd) → WellFormed L cs → (i : ℕ) → i < length (map record_of cs) → slot_at (slots_for cs) i ≡ in_slot (held_by (get_or (map record_of cs) i no_record))
  slot_each [] w i h = absurd (omega arith)
  slot_each (c ∷ cs) w zero h =
      let short : length c.body ≤ 5 = at_most_five rules c.cid (length c.body) w.0 in
      sym (short_stays (held_by (record_of c)) (omega arith))
  slot_each (c ∷ cs) w (suc i) h =
      slot_same (slots_for (c ∷ cs)) (slots_for cs) (suc i) i (λ k l.
      let e : 8 * suc i + k ≡ 8 + (8 * i + k) = omega arith in
      ap (λ (j : ℕ). get_or (slots_for (c ∷ cs)) j 0) e ∙ get_or-append-add (slot_before c []) (slots_for cs) (8 * i + k) 0)
      ∙ slot_each cs w.1 i (omega arith)

  slots_count : (cs : List Cmd) → length (slots_for cs) ≡ 8 * length (map record_of cs)
  slots_count [] = refl
  slots_count (c ∷ cs) = let ih = slots_count cs in omega arith

  slot_stands : (cs : List Cmd) → WellFormed L cs → slots_of (slots_for cs) ≡ items_of (map record_of cs)
  slot_stands cs w =
      slots_are (map record_of cs) (slots_for cs) (record { count = slots_count cs; each = slot_each cs w })
      ∙ ap (map whole) (in-slots cs w)

  -- ---- bytes

  abbrev Low : List Row → Type 0
  Low [] = Unit
  Low (r ∷ rs) = (r.cid < 256) × Low rs

  cid_low : (rs : List Row) → Low rs → (d : Direction) (c n : ℕ) → length_in rs d c ≡ some n → c < 256
  cid_low [] w d c n e = cc
  cid_low (r ∷ rs) w d c n e = by (eqb c r.cid) refl e (cid_low rs w.1 d c n)
    where
      by : (t : Bool) → eqb c r.cid ≡ t → cond t (some (side_of d r.bytes_down r.bytes_up)) (length_in rs d c) ≡ some n
          → (length_in rs d c ≡ some n → c < 256) → c < 256
      by true q e ih = let h = w.0 in let same : c ≡ r.cid = eqb-true c r.cid q in omega arith
      by false q e ih = ih e

  all_low : Low rows
  all_low = (lit≤ tt, (lit≤ tt, (lit≤ tt, (lit≤ tt, (lit≤ tt, (lit≤ tt, (lit≤ tt, (lit≤ tt, (lit≤ tt, (lit≤ tt, tt))))))))))

  cid_byte : (c n : ℕ) → L c ≡ some n → c < 256
  cid_byte c n e = cid_low rows all_low rules.direction c n e

  at_byte : (b : List ℕ) → Every Byte b → (i : ℕ) → get_or b i 0 < 256
  at_byte [] h i = omega arith
  at_byte (x ∷ b) h zero = h.0
  at_byte (x ∷ b) h (suc i) = at_byte b h.1 i

  five_bytes : (b : List ℕ) → Every Byte b → Every Byte (five b)
  five_bytes b h = (at_byte b h 0, (at_byte b h 1, (at_byte b h 2, (at_byte b h 3, (at_byte b h 4, tt)))))

  slot_bytes : (cs : List Cmd) → WellFormed L cs → Every (λ (c : Cmd). Every Byte c.body) cs → Every Byte (slots_for cs)
  slot_bytes [] w h = tt
  slot_bytes (c ∷ cs) w h =
      let short : length c.body ≤ 5 = at_most_five rules c.cid (length c.body) w.0 in
      let at = at_byte c.body h.0 in
      (cid_byte c.cid (length c.body) w.0, (omega arith, (at 0, (at 1, (at 2, (at 3, (at 4, (omega arith, slot_bytes cs w.1 h.1))))))))

  record_bytes : (cs : List Cmd) → WellFormed L cs → Every (λ (c : Cmd). Every Byte c.body) cs
      → Every (λ (r : Record). (r.cid < 256) × Every Byte r.payload) (map record_of cs)
  record_bytes [] w h = tt
  record_bytes (c ∷ cs) w h = ((cid_byte c.cid (length c.body) w.0, five_bytes c.body h.0), record_bytes cs w.1 h.1)

all_five : (cs : List Cmd) → Every Five (map record_of cs)
all_five [] = tt
all_five (c ∷ cs) = (refl, all_five cs)

pub every_list_built : EveryListBuilt
every_list_built rules cs w = record {
  slots = slots_for cs;
  packed = subst (StandsFor rules cs) (sym (slot_stands rules cs w)) (record_stands rules cs w);
  slot_bytes = slot_bytes rules cs w;
  records = map record_of cs;
  structs = record_stands rules cs w;
  five = all_five cs;
  record_bytes = record_bytes rules cs w;
}

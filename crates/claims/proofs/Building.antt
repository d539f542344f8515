-- What the builds answer and leave: crates/claims/specs/Building.antt. Assumes nothing.
use Prim.Native.Nat.{ℕ, suc, ◌<◌, ◌≤◌}
use mathlib.Core.Bool.{Bool, true, false, cond}
use mathlib.Core.List.{List, [], ◌∷◌}
use mathlib.Core.Path.{◌≡◌, refl, sym, ap, ◌∙◌, subst}
use native.Mathlib.Decide.{dec_le}
use native.Mathlib.Omega.{arith}
use lib.Dec.{leb}
use lib.ListN.{length, take, drop}
use lib.Seq.{take-append_seam}
use borrow.Author.Tests.{le-leb, lt-leb}
use Rattle.bits.specs.Every.{Every}
use Rattle.bits.specs.Memory.{over}
use Rattle.table.specs.Table.{length_of}
use Rattle.table.specs.declared.rules.Rules.{Rules}
use Rattle.table.proofs.Lengths.{at_most_five}
use Rattle.walk.specs.Walk.{Rule, Cmd, Walk, end, encode, place, walk_of}
use Rattle.build.specs.Records.{Item, whole, part, cmds_of, slots_of}
use Rattle.build.specs.Build.{Built, total, refused_at, refused, total_of, fill, build_of}
use Rattle.build.specs.ThereAndBack.{Commands, Full}
use Rattle.build.specs.declared.record.Record.{Record}
use Rattle.build.proofs.Equal.{its_commands_are}
use Rattle.build.proofs.Slots.{slots_full}
use Rattle.build.proofs.ThereAndBack as ThereAndBack
use Rattle.lent.specs.Records.{items_of}
use Rattle.claims.specs.Building.{Five, Builder, SlotsBuilt, StructsBuilt, FourBuilt, SlotsLength, StructsLength, FromSlots, from_slots, FromStructs, from_structs, FromFour, from_four, LenOfSlots, of_slots, LenOfStructs, of_structs, IsRefusal, StandsFor, RefusedKeeps, BuiltReadsBack, AcceptsExactly, SameBytesSameList, LengthAgrees, same, no_room, LengthForBuild, BuildsAsDefined, RightBuild, Builds}
use Rattle.claims.specs.Building as Building
use Rattle.claims.specs.Handing.{ReadAs}
use Rattle.claims.proofs.Handing.{reads}
use Rattle.claims.proofs.Lists.{every_list_built}

-- ---- each build answers and leaves what the definition says

-- no payload of the table is longer than five bytes
full_five : (rules : Rules) (records : List Record) → Every Five records → Full (length_of rules) (items_of records)
full_five rules [] f = tt
full_five rules (r ∷ rs) f = (
  λ e. let m = at_most_five rules r.cid r.len e in let k : length r.payload ≡ 5 = f.0 in omega arith,
  full_five rules rs f.1,
)

-- what the contract of each says
pub slots_say : (rules : Rules) (slots before after : List ℕ) (a : Built) → SlotsBuilt rules slots before a after
    → ◌≡◌ {A = Built × List ℕ} (a, after) (build_of (length_of rules) (slots_of slots) before)
slots_say rules _ _ _ _ (Building.built slots out r after g) = ap (λ (o : List ℕ). (_, o)) (sym g.1.1.1) ∙ g.1.1.0

pub structs_say : (rules : Rules) (records : List Record) (before after : List ℕ) (a : Built) → StructsBuilt rules records before a after
    → ◌≡◌ {A = Built × List ℕ} (a, after) (build_of (length_of rules) (items_of records) before)
structs_say rules _ _ _ _ (Building.built records out r after g) = ap (λ (o : List ℕ). (_, o)) (sym g.1.1.1) ∙ g.1.1.0

pub four_says : (rules : Rules) (records : List Record) (before after : List ℕ) (a : Built) → FourBuilt rules records before a after
    → ◌≡◌ {A = Built × List ℕ} (a, after) (build_of (length_of rules) (items_of records) before)
four_says rules _ _ _ _ (Building.built records out r after g) = ap (λ (o : List ℕ). (_, o)) (sym g.1.1.1) ∙ g.1.1.0

pub slots_length_says : (rules : Rules) (slots : List ℕ) (a : Built) → SlotsLength rules slots a → a ≡ total_of (length_of rules) (slots_of slots)
slots_length_says rules _ _ (Building.asked slots r g) = g.1.1

pub structs_length_says : (rules : Rules) (records : List Record) (a : Built) → StructsLength rules records a → a ≡ total_of (length_of rules) (items_of records)
structs_length_says rules _ _ (Building.asked records r g) = g.1.1

pub slots_defined : BuildsAsDefined FromSlots
slots_defined rules _ before after a (from_slots slots b) = record { says = slots_say rules slots before after a b; full = slots_full rules slots }

pub structs_defined : BuildsAsDefined FromStructs
structs_defined rules _ before after a (from_structs records f b) = record { says = structs_say rules records before after a b; full = full_five rules records f }

four_defined : BuildsAsDefined FromFour
four_defined rules _ before after a (from_four records f b) = record { says = four_says rules records before after a b; full = full_five rules records f }

-- ---- the claims, of any build that does

-- what is no total leaves memory as it was
fill_kept : (b : Built) (bytes out : List ℕ) → IsRefusal (fill b bytes out).0 → (fill b bytes out).1 ≡ out
fill_kept (total n) bytes out h = by (leb n (length out)) h
  where
    by : (ok : Bool) → IsRefusal (cond {A = Built × List ℕ} ok (total n, over out 0 bytes) (refused 4, out)).0
        → (cond {A = Built × List ℕ} ok (total n, over out 0 bytes) (refused 4, out)).1 ≡ out
    by true h = absurd h
    by false h = refl
fill_kept (refused_at k place) bytes out h = refl
fill_kept (refused k) bytes out h = refl

-- as many records as commands
as_many : (L : Rule) (xs : List Item) → Commands L xs → length xs ≡ length (cmds_of xs)
as_many L [] c = refl
as_many L (whole r ∷ xs) c = ap suc (as_many L xs c.2)
as_many L (part ∷ xs) c = absurd c

module _ (B : Builder) (d : BuildsAsDefined B) where
  refused_keeps : RefusedKeeps B
  refused_keeps rules xs before after a b h =
      let e = (d rules xs before after a b).says in
      ap (λ x. x.1) e ∙ fill_kept (total_of (length_of rules) xs) (encode (cmds_of xs)) before (subst IsRefusal (ap (λ x. x.0) e) h)

  -- after a build of a list that stands for commands and fits, the walk of the bytes written is those commands and the end
  record Written (rules : Rules) (cs : List Cmd) (before : List ℕ) (a : Built) (after : List ℕ) : Type 0 where
    pub size : a ≡ total (length (encode cs))
    pub front : take (length (encode cs)) after ≡ encode cs
    pub later : drop (length (encode cs)) after ≡ drop (length (encode cs)) before
    pub walk : walk_of (length_of rules) (take (length (encode cs)) after) ≡ record { cmds = place 0 cs; ending = end (length (encode cs)) }

  written_list : (rules : Rules) (xs : List Item) (before after : List ℕ) (a : Built) → length xs ≤ 4096 → Commands (length_of rules) xs
      → length (encode (cmds_of xs)) ≤ length before → B rules xs before a after → Written rules (cmds_of xs) before a after
  written_list rules xs before after a few c fits b =
      let e = (d rules xs before after a b).says in
      let w = ThereAndBack.build_then_walk (length_of rules) xs before few c fits in
      record {
        size = ap (λ x. x.0) e ∙ w.size;
        front = ap (λ x. take (length (encode (cmds_of xs))) x.1) (e ∙ ThereAndBack.built (length_of rules) xs before few c fits)
            ∙ ap (take (length (encode (cmds_of xs)))) (ThereAndBack.over_front (length_of rules) xs before)
            ∙ take-append_seam (encode (cmds_of xs)) (drop (length (encode (cmds_of xs))) before);
        later = ap (λ x. drop (length (encode (cmds_of xs))) x.1) e ∙ w.later;
        walk = ap (λ x. walk_of (length_of rules) (take (length (encode (cmds_of xs))) x.1)) e ∙ w.walk;
      }

  written : (rules : Rules) (cs : List Cmd) (xs : List Item) (before after : List ℕ) (a : Built) → length cs ≤ 4096 → StandsFor rules cs xs
      → length (encode cs) ≤ length before → B rules xs before a after → Written rules cs before a after
  written rules cs xs before after a few st fits b =
      let same : cmds_of xs ≡ cs = its_commands_are xs cs st.same in
      subst (λ (cs : List Cmd). Written rules cs before a after) same (written_list rules xs before after a
      (subst (λ (n : ℕ). n ≤ 4096) (sym (as_many (length_of rules) xs st.well_formed ∙ ap length same)) few) st.well_formed
      (subst (λ (cs : List Cmd). length (encode cs) ≤ length before) (sym same) fits) b)

  built_reads_back : BuiltReadsBack B
  built_reads_back rules cs xs before after a few st fits b =
      let w = written rules cs xs before after a few st fits b in
      record {
        size = w.size;
        written = w.front;
        later = w.later;
        reads = λ stream e.
            subst (λ (x : Walk). ReadAs rules stream x.cmds x.ending) (ap (walk_of (length_of rules)) e ∙ w.walk) (reads rules stream);
      }

  accepts_exactly : AcceptsExactly B
  accepts_exactly rules xs before after a b =
      let x = d rules xs before after a b in
      let e : a ≡ (build_of (length_of rules) xs before).0 = ap (λ x. x.0) x.says in
      let t = ThereAndBack.accepts (length_of rules) xs before x.full in (
        λ (y : (n : ℕ) × (a ≡ total n)). t.0 (y.0, sym e ∙ y.1),
        λ (y : (length xs ≤ 4096) × Commands (length_of rules) xs × (length (encode (cmds_of xs)) ≤ length before)). let z = t.1 y in (z.0, e ∙ z.1),
      )

  -- what an accepted build wrote
  accepted_wrote : (rules : Rules) (xs : List Item) (before after : List ℕ) (n : ℕ) → B rules xs before (total n) after
      → Commands (length_of rules) xs × (take n after ≡ encode (cmds_of xs))
  accepted_wrote rules xs before after n b =
      let t = (accepts_exactly rules xs before after (total n) b).0 (n, refl) in
      let w = written_list rules xs before after (total n) t.0 t.1 t.2 b in
      let n_is : n ≡ length (encode (cmds_of xs)) = let q = w.size in cc in
      (t.1, ap (λ (k : ℕ). take k after) n_is ∙ w.front)

same_bytes : (B C : Builder) → BuildsAsDefined B → BuildsAsDefined C → SameBytesSameList B C
same_bytes B C d d' rules xs ys before before' after after' m n b c e =
    let w = accepted_wrote B d rules xs before after m b in
    let v = accepted_wrote C d' rules ys before' after' n c in
    ThereAndBack.equal_bytes_equal_lists (length_of rules) xs ys w.0 v.0 (sym w.1 ∙ e ∙ v.1)

-- the length that is asked beforehand
agrees : (l : Built) (bytes before : List ℕ) → LengthAgrees l (length before) (fill l bytes before).0
agrees (total n) bytes before = by (dec_le n (length before))
  where
    by : Dec (n ≤ length before) → LengthAgrees (total n) (length before) (fill (total n) bytes before).0
    by (yes h) = same (ap (λ (b : Bool). (cond {A = Built × List ℕ} b (total n, over before 0 bytes) (refused 4, before)).0) (le-leb n (length before) h))
    by (no h) =
        let more : length before < n = omega arith in
        no_room n refl more (ap (λ (b : Bool). (cond {A = Built × List ℕ} b (total n, over before 0 bytes) (refused 4, before)).0) (lt-leb n (length before) more))
agrees (refused_at k place) bytes before = same refl
agrees (refused k) bytes before = same refl

length_for_build : (Len : Rules → List Item → Built → Type 0) → ((rules : Rules) (xs : List Item) (l : Built) → Len rules xs l → l ≡ total_of (length_of rules) xs)
    → (B : Builder) → BuildsAsDefined B → LengthForBuild Len B
length_for_build Len len B d rules xs before after l a x b =
    let e : a ≡ (fill l (encode (cmds_of xs)) before).0 =
    ap (λ x. x.0) (d rules xs before after a b).says ∙ ap (λ (t : Built). (fill t (encode (cmds_of xs)) before).0) (sym (len rules xs l x)) in
    subst (LengthAgrees l (length before)) (sym e) (agrees l (encode (cmds_of xs)) before)

len_slots : (rules : Rules) (xs : List Item) (l : Built) → LenOfSlots rules xs l → l ≡ total_of (length_of rules) xs
len_slots rules _ l (of_slots slots x) = slots_length_says rules slots l x

len_structs : (rules : Rules) (xs : List Item) (l : Built) → LenOfStructs rules xs l → l ≡ total_of (length_of rules) xs
len_structs rules _ l (of_structs records x) = structs_length_says rules records l x

pub keeps_slots : RefusedKeeps FromSlots
keeps_slots = refused_keeps FromSlots slots_defined

pub keeps_structs : RefusedKeeps FromStructs
keeps_structs = refused_keeps FromStructs structs_defined

pub keeps_four : RefusedKeeps FromFour
keeps_four = refused_keeps FromFour four_defined

right : (B : Builder) → BuildsAsDefined B → RightBuild B
right B d = record { reads_back = built_reads_back B d; accepts = accepts_exactly B d; same_list = same_bytes B B d d; defined = d }

pub builds : Builds
builds = record {
  lists = every_list_built;
  slots = right FromSlots slots_defined;
  structs = right FromStructs structs_defined;
  four = right FromFour four_defined;
  either = same_bytes FromSlots FromStructs slots_defined structs_defined;
  slots_length = length_for_build LenOfSlots len_slots FromSlots slots_defined;
  structs_length = length_for_build LenOfStructs len_structs FromStructs structs_defined;
}

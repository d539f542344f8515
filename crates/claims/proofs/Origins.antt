-- Where a command came from: crates/claims/specs/Origins.antt. Assumes nothing.
use Prim.Native.Nat.{ℕ, ◌≤◌}
use mathlib.Core.Bool.{false}
use mathlib.Core.List.{List, [], ◌∷◌, map, append-nil}
use mathlib.Core.Path.{◌≡◌, refl, sym, ap, ◌∙◌, subst}
use lib.ListN.{length, take}
use lib.Seq.{take-length}
use denote.Ref.{Bor}
use Rattle.bits.specs.Every.{Every}
use Rattle.table.specs.Answers.{Answer, given, refused}
use Rattle.table.specs.Table.{length_of}
use Rattle.table.specs.declared.rules.Rules.{Rules}
use Rattle.table.proofs.Lengths.{at_most_five}
use Rattle.walk.specs.Step.{Found, ended, command, stopped, Heading, heading, found_at, in_numbers}
use Rattle.walk.specs.Told.{told_step}
use Rattle.walk.specs.Walk.{Cmd, Placed, WellFormed, bare, walk_of}
use Rattle.walk.proofs.Ownership.{every_byte_owned}
use Rattle.walk.proofs.Steps.{found_command}
use Rattle.walk.proofs.Told.{step_tells}
use Rattle.walk.proofs.step.payload_at.Reads as payload_at
use Rattle.build.specs.Build.{Built, build_of}
use Rattle.build.specs.Equal.{EqualLists, as_rec}
use Rattle.build.specs.Handed.{from_frame, record_found, handed_at}
use Rattle.build.specs.Records.{Rec, held_by, frameless, packed_at, slots_of}
use Rattle.build.specs.Told.{told_handed}
use Rattle.build.specs.declared.handed.Handed.{Handed}
use Rattle.build.specs.declared.record.Record.{Record}
use Rattle.build.proofs.AsRecords.{five_front, is_command, no_record_is}
use Rattle.build.proofs.Equal.{equal_self, equal_lists_built_alike}
use Rattle.lent.specs.Records.{items_of}
use Rattle.lent.proofs.Packing.{answers_as_packed}
use Rattle.claims.specs.Building.{SlotsBuilt, StructsBuilt, FourBuilt}
use Rattle.claims.specs.Handing.{NoCommand, with_payload, record_steps, record_iterator}
use Rattle.claims.specs.Origins.{RecordsOfTheWalk, Says, RecordThere, FromNoFrame, SameOutcome, BuildsAlike, PacksAlike, OriginsTell}
use Rattle.claims.proofs.Building.{slots_say, structs_say, four_says, slots_length_says, structs_length_says}
use Rattle.claims.specs.Outcomes.{Gives}
use Rattle.claims.proofs.Handing.{told_whole, next_says, next_record_says, hands_out, records_faithful, record_iterator_faithful}
use Rattle.claims.proofs.Keeping.{both}

-- ---- along the walk

-- what the records of a list say
frames_of : (frame : ℕ) (ps : List Placed) → Every (λ (r : Record). r.frame ≡ frame) (map (from_frame frame) ps)
frames_of frame [] = tt
frames_of frame (p ∷ ps) = (refl, frames_of frame ps)

offsets_of : (frame : ℕ) (ps : List Placed) → map (λ (r : Record). r.offset) (map (from_frame frame) ps) ≡ map (λ (p : Placed). p.at) ps
offsets_of frame [] = refl
offsets_of frame (p ∷ ps) = ap (λ (l : List ℕ). p.at ∷ l) (offsets_of frame ps)

commands_of : (rules : Rules) (frame : ℕ) (ps : List Placed) → WellFormed (length_of rules) (bare ps) → EqualLists (map held_by (map (from_frame frame) ps)) (map as_rec (bare ps))
commands_of rules frame [] w = tt
commands_of rules frame (p ∷ ps) w =
    let b = p.cmd.body in
    let short : length p.cmd.body ≤ 5 = at_most_five rules p.cmd.cid (length p.cmd.body) w.0 in
    (record { cid = refl; len = refl; payload = five_front b short ∙ sym (take-length b) }, commands_of rules frame ps w.1)

pub records_of_the_walk : (rules : Rules) (stream : Bor (List ℕ)) (frame : ℕ) → RecordsOfTheWalk rules stream frame
records_of_the_walk rules stream frame =
    let L = length_of rules in
    let cmds = (walk_of (length_of rules) stream.now).cmds in
    record {
      by-offsets = hands_out (length_of rules) stream.now (from_frame frame) (record_steps rules frame stream) (records_faithful rules frame stream);
      by_iterator = hands_out (length_of rules) stream.now (from_frame frame) (record_iterator rules frame stream) (record_iterator_faithful rules frame stream);
      stamped = record {
        frames = frames_of frame cmds;
        offsets = offsets_of frame cmds;
        commands = commands_of rules frame cmds (every_byte_owned L stream.now cmds [] (sym (append-nil cmds))).commands;
      };
    }

not_command : (a : Answer (Found Heading)) → NoCommand a → is_command a ≡ false
not_command (given (command h next)) n = absurd n
not_command (given ended) n = refl
not_command (given (stopped k o)) n = refl
not_command (refused k) n = refl

-- the step's command, with the payload that is shown, is the one that stands there
pub record_says : (rules : Rules) (frame : ℕ) (stream : Bor (List ℕ)) (at : ℕ) (r : Handed) → told_handed r ≡ handed_at (length_of rules) frame stream.now at
    → (h : Heading) (next : ℕ) (p : Bor (List ℕ)) → told_step r.step ≡ given (command h next) → Gives payload_at.Post (rules, (stream, (at, tt))) p
    → Says frame at h p.now r.«record»
record_says rules frame stream at r e h next p t g =
    let L = length_of rules in
    let c : Cmd = record { cid = h.cid; body = p.now } in
    let found : ◌≡◌ {A = Answer (Found Cmd)} (given (command c next)) (found_at (length_of rules) stream.now at) =
    ap (λ (x : Answer (Found Heading)). with_payload x p.now) (sym t) ∙ told_whole L stream at (told_step r.step) p (ap (λ x. x.0) e) g.1.1 in
    let is : r.«record» ≡ from_frame frame (record { at = at; cmd = c }) = ap (λ x. x.1) e ∙ ap (record_found frame at) (sym found) in
    let numbers : ◌≡◌ {A = Answer (Found Heading)} (given (command (heading h.cid (length p.now)) next)) (given (command h next)) =
    ap in_numbers found ∙ sym (ap (λ x. x.0) e) ∙ t in
    let same : heading h.cid (length p.now) ≡ h = cc in
    let len : length p.now ≡ h.len = ap (λ (x : Heading). x.len) same in
    let short : length p.now ≤ 5 = at_most_five rules h.cid (length p.now) (found_command L stream.now (sym found)).known in
    record {
      its_frame = ap (λ (q : Record). q.frame) is;
      its_offset = ap (λ (q : Record). q.offset) is;
      its_command = record {
        cid = ap (λ (q : Record). q.cid) is;
        len = ap (λ (q : Record). q.len) is ∙ len;
        payload = ap (λ (q : Record). take q.len q.payload) is ∙ five_front p.now short ∙ sym (take-length p.now) ∙ ap (λ (n : ℕ). take n p.now) len;
      };
    }

record_there : (rules : Rules) (frame : ℕ) (stream : Bor (List ℕ)) (at : ℕ) (r : Handed) → told_handed r ≡ handed_at (length_of rules) frame stream.now at
    → RecordThere rules frame stream at r
record_there rules frame stream at r e = record {
  its_step = λ q h. step_tells (ap (λ x. x.0) e ∙ sym h.1.1);
  of_command = record_says rules frame stream at r e;
  defined = e;
  none = λ n.
      ap (λ x. x.1) e ∙ sym (no_record_is (length_of rules) stream.now frame at (told_step r.step) (sym (ap (λ x. x.0) e)) (not_command (told_step r.step) n));
}

-- ---- in a build

-- two that each answer as their definition says, where the definitions agree
same_outcome : {X : Type 0} (B : X → List ℕ → Built → List ℕ → Type 0) (says : X → List ℕ → Built × List ℕ)
    → ((x : X) (before after : List ℕ) (a : Built) → B x before a after → ◌≡◌ {A = Built × List ℕ} (a, after) (says x before))
    → (x y : X) → ((before : List ℕ) → says x before ≡ says y before) → SameOutcome B x y
same_outcome B says h x y e before after after' a b p q = both (h x before after a p ∙ e before ∙ sym (h y before after' b q))

builds_alike : (rules : Rules) (rs qs : List Record) → EqualLists (map held_by rs) (map held_by qs) → BuildsAlike rules rs qs
builds_alike rules rs qs e =
    let L = length_of rules in
    let alike = equal_lists_built_alike L (map held_by rs) (map held_by qs) e in
    record {
      structs = same_outcome (StructsBuilt rules) (λ xs. build_of L (items_of xs)) (structs_say rules) rs qs alike.build;
      four = same_outcome (FourBuilt rules) (λ xs. build_of L (items_of xs)) (four_says rules) rs qs alike.build;
      slots = λ s t p q. same_outcome (SlotsBuilt rules) (λ x. build_of L (slots_of x)) (slots_say rules) s t
          (λ out. sym ((answers_as_packed rules rs s p).build out) ∙ alike.build out ∙ (answers_as_packed rules qs t q).build out);
      structs_length = λ a b x y. structs_length_says rules rs a x ∙ alike.len ∙ sym (structs_length_says rules qs b y);
      slots_length = λ s t p q a b x y.
          slots_length_says rules s a x ∙ sym (answers_as_packed rules rs s p).len ∙ alike.len ∙ (answers_as_packed rules qs t q).len
          ∙ sym (slots_length_says rules t b y);
    }

none_says : (x : Rec) (r : Record) → r ≡ frameless x → FromNoFrame r
none_says x r e = record { frame = ap (λ (q : Record). q.frame) e; offset = ap (λ (q : Record). q.offset) e }

packs_alike : PacksAlike
packs_alike r q e s t m i after after' g h =
    sym g.1.1.1 ∙ g.1.1.0 ∙ ap (λ (x : List ℕ). packed_at x i (held_by r)) m ∙ ap (packed_at t.now i) e ∙ sym h.1.1.0 ∙ h.1.1.1

pub origins_tell : OriginsTell
origins_tell = record {
  walked = records_of_the_walk;
  there = λ rules frame stream at r g. record_there rules frame stream at r g.1.1;
  next_there = λ frame it r it' g.
      let e = next_record_says it frame r it' g in
      record {
        there = record_there it.now.rules frame it.now.«data» it.now.index r (ap (λ x. x.0) e);
        moved = λ q it'' h. ap (λ x. x.1) e ∙ sym (ap (λ x. x.1) (next_says it q it'' h));
      };
  of_no_frame = record {
    new = λ cid len payload r g. none_says _ r g.1.1;
    none = λ r g. g.1.1;
    of_uplink = λ c r g. none_says _ r g.1.1;
    of_downlink = λ c r g. none_says _ r g.1.1;
    of_creator = λ K laws copy kind d clone e c r g. none_says _ r g.1.1;
  };
  uncounted = λ rs qs e. subst (EqualLists (map held_by rs)) e (equal_self (map held_by rs));
  built_alike = builds_alike;
  packed_alike = packs_alike;
}

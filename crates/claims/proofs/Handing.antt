-- What the public entries hand out is the defined walk: crates/claims/specs/Handing.antt and Owning.antt. Assumes nothing.
use Prim.Native.Nat.{ℕ, ◌+◌}
use mathlib.Core.Bool.{Bool, cond}
use mathlib.Core.List.{List, [], ◌∷◌, ◌++◌, append_assoc, map, map-append}
use mathlib.Core.Path.{◌≡◌, refl, sym, ap, ◌∙◌, subst}
use native.Mathlib.Omega.{arith}
use lib.ListN.{length, drop, length-append}
use lib.Seq.{length-take-le}
use borrow.Author.Tests.{le-leb}
use Rattle.std.specs.Borrow.{Bor, MutBor}
use Rattle.table.specs.Answers.{Answer, given, refused}
use Rattle.table.specs.Table.{length_of}
use Rattle.table.specs.declared.rules.Rules.{Rules}
use Rattle.table.proofs.Lengths.{at_most_five}
use Rattle.payloads.specs.Commands.{sent_up, sent_down}
use Rattle.walk.specs.Ownership.{offset_of, Owned}
use Rattle.walk.specs.Part.{Part, shown, payload_part}
use Rattle.walk.specs.Step.{Found, ended, command, stopped, Heading, first_of, first_move, found_at, retold, in_numbers, step_at}
use Rattle.walk.specs.Stepping.{moved_to}
use Rattle.walk.specs.Told.{told_step}
use Rattle.walk.specs.Walk.{Rule, Cmd, Placed, Ending, end, stop, Walk, encode, size, bare, walk_from, walk_of}
use Rattle.walk.specs.declared.step.Step.{Step}
use Rattle.walk.proofs.Ownership as Ownership
use Rattle.walk.proofs.Steps.{found_command}
use Rattle.build.specs.Handed.{from_frame, record_found, handed_at}
use Rattle.build.specs.Records.{cmd_of, held_by}
use Rattle.build.specs.Told.{told_handed}
use Rattle.build.specs.declared.handed.Handed.{Handed}
use Rattle.build.specs.declared.record.Record.{Record}
use Rattle.build.proofs.AsRecords.{five_front}
use Rattle.lent.specs.Iterator.{fresh, nexted, nexted_record}
use Rattle.lent.specs.declared.iterator.MacCommandIterator.{MacCommandIterator}
use Rattle.lent.proofs.iterator.MacCommandIterator.next.Reads as next
use Rattle.lent.proofs.iterator.MacCommandIterator.next_record.Reads as next_record
use Rattle.claims.specs.Handing.{Front, RecordAsked, NextRecordAsked, CommandAsked, commands_of, record_steps, record_iterator, with_payload, with_record, onward, by_offsets, StepAsked, UplinkAsked, DownlinkAsked, Made, by_new, parsed_up, parsed_down, NextAsked, NoCommand, first_told, Calls, begun, handed, none_handed, HandsOut, itself, ReadAs, steps, uplink_steps, downlink_steps, iterator}
use Rattle.claims.specs.Handing as Handing
use Rattle.claims.specs.Outcomes.{GivesWith}

-- ---- lists of commands

pub bare_append : (xs ys : List Placed) → bare (xs ++ ys) ≡ bare xs ++ bare ys
bare_append [] ys = refl
bare_append (x ∷ xs) ys = ap (λ (l : List Cmd). x.cmd ∷ l) (bare_append xs ys)

one_more_size : (cs : List Cmd) (c : Cmd) → length (encode (cs ++ (c ∷ []))) ≡ length (encode cs) + size c
one_more_size [] c = simp length-append (omega arith)
one_more_size (d ∷ cs) c =
    let ih = one_more_size cs c in
    simp length-append (omega arith)

-- ---- where the walk stands

module _ (L : Rule) (s : List ℕ) (before coming : List Placed) (e : (walk_of L s).cmds ≡ before ++ coming) where
  owned : Owned L s before coming
  owned = Ownership.every_byte_owned L s before coming e

  pub stands_behind : offset_of coming (walk_of L s).ending ≡ length (encode (bare before))
  stands_behind = sym (length-take-le (offset_of coming (walk_of L s).ending) s owned.within) ∙ ap length owned.bytes

  found_there : found_at L s (offset_of coming (walk_of L s).ending) ≡ given (first_of coming (walk_of L s).ending)
  unfolding found_at
  found_there =
      let k = offset_of coming (walk_of L s).ending in
      ap (λ (b : Bool). cond b (given (first_move (walk_from L k (drop k s)))) (refused 5)) (le-leb (offset_of coming (walk_of L s).ending) (length s) owned.within)
      ∙ ap (λ (w : Walk). given (first_move w)) (Ownership.resumes L s before coming e)

-- behind the first of those that are coming stands the next
stands_next : (L : Rule) (s : List ℕ) (before : List Placed) (p : Placed) (ps : List Placed) → (walk_of L s).cmds ≡ before ++ (p ∷ ps)
    → ((walk_of L s).cmds ≡ (before ++ (p ∷ [])) ++ ps) × (offset_of ps (walk_of L s).ending ≡ p.at + size p.cmd)
stands_next L s before p ps e =
    let split : (walk_of L s).cmds ≡ (before ++ (p ∷ [])) ++ ps = e ∙ sym (append_assoc before (p ∷ []) ps) in (
      split,
      stands_behind L s (before ++ (p ∷ [])) ps split
          ∙ ap (λ (l : List Cmd). length (encode l)) (bare_append before (p ∷ []))
          ∙ one_more_size (bare before) p.cmd
          ∙ ap (λ (k : ℕ). k + size p.cmd) (sym (stands_behind L s before (p ∷ ps) e)),
    )

-- ---- answers, however a command is told

onward_retold : {A B : Type 0} (f : A → B) (a : Answer (Found A)) (at : ℕ) → onward (retold f a) at ≡ onward a at
onward_retold f (given (command c next)) at = refl
onward_retold f (given ended) at = refl
onward_retold f (given (stopped n o)) at = refl
onward_retold f (refused n) at = refl

retold_itself : (a : Answer (Found Cmd)) → retold (λ (c : Cmd). c) a ≡ a
retold_itself (given (command c next)) = refl
retold_itself (given ended) = refl
retold_itself (given (stopped n o)) = refl
retold_itself (refused n) = refl

pub retold_refused : {A B : Type 0} (f : A → B) (a : Answer (Found A)) (n : ℕ) → retold f a ≡ refused n → a ≡ refused n
retold_refused f (given (command c next)) n e = cc
retold_refused f (given ended) n e = cc
retold_refused f (given (stopped k o)) n e = cc
retold_refused f (refused k) n e = cc

module _ {A : Type 0} (tell : Placed → A) where
  -- a step at an offset, its command told so
  abbrev pub told_at : Rule → List ℕ → ℕ → Answer (Found A)
  told_at L s at = retold (λ (c : Cmd). tell (record { at = at; cmd = c })) (found_at L s at)

  first-told : (coming : List Placed) (e : Ending)
      → retold (λ (c : Cmd). tell (record { at = offset_of coming e; cmd = c })) (given (first_of coming e)) ≡ given (first_told tell coming e)
  first-told (p ∷ ps) e = refl
  first-told [] (end o) = refl
  first-told [] (stop n o) = refl

  -- no ending is a command, nor moves who reads
  no_command : (e : Ending) {c : A} {next : ℕ} → ◌≡◌ {A = Answer (Found A)} (given (command c next)) (given (first_told tell [] e)) → ⊥
  no_command (end o) p = cc
  no_command (stop n o) p = cc

  stays : (e : Ending) (at : ℕ) → onward (given (first_told tell [] e)) at ≡ at
  stays (end o) at = refl
  stays (stop n o) at = refl

-- ---- an entry that answers as the definition of a step says, each command told so

pub record Faithful {A : Type 0} (L : Rule) (s : List ℕ) (tell : Placed → A) (F : Front A) : Type 1 where
  -- what holds of the states
  pub Sound : F.State → Type 0
  pub begins : (st : F.State) → F.begin st → Sound st × (F.offset st ≡ 0)
  pub asks : (st st' : F.State) (a : Answer (Found A)) → Sound st → F.ask st a st'
      → (a ≡ told_at tell L s (F.offset st)) × (F.offset st' ≡ onward a (F.offset st)) × Sound st'

module _ {A : Type 0} (L : Rule) (s : List ℕ) (tell : Placed → A) (F : Front A) (f : Faithful L s tell F) where
  -- between two parts of the walk's list
  pub record Position (st : F.State) (out : List A) : Type 0 where
    pub before : List Placed
    pub coming : List Placed
    pub parted : (walk_of L s).cmds ≡ before ++ coming
    pub handed_out : out ≡ map tell before
    pub stands : F.offset st ≡ offset_of coming (walk_of L s).ending
    pub sound : f.Sound st

  -- what is answered there
  pub answered : {st : F.State} {out : List A} (p : Position st out) (a : Answer (Found A)) (st' : F.State) → F.ask st a st'
      → a ≡ given (first_told tell p.coming (walk_of L s).ending)
  answered {st} p a st' q =
      (f.asks st st' a p.sound q).0
      ∙ ap (told_at tell L s) p.stands
      ∙ ap (retold (λ (c : Cmd). tell (record { at = offset_of p.coming (walk_of L s).ending; cmd = c }))) (found_there L s p.before p.coming p.parted)
      ∙ first-told tell p.coming (walk_of L s).ending

  moves : {st' : F.State} {out : List A} (c : A) (next : ℕ) (before coming : List Placed) → (walk_of L s).cmds ≡ before ++ coming → out ≡ map tell before
      → f.Sound st' → F.offset st' ≡ next → ◌≡◌ {A = Answer (Found A)} (given (command c next)) (given (first_told tell coming (walk_of L s).ending))
      → Position st' (out ++ (c ∷ []))
  moves c next before [] e h sound o a = absurd (no_command tell (walk_of L s).ending a)
  moves {out = out} c next before (p ∷ ps) e h sound o a =
      let c_is : c ≡ tell p = cc in
      let next_is : next ≡ p.at + size p.cmd = cc in
      let n = stands_next L s before p ps e in
      record {
        before = before ++ (p ∷ []);
        coming = ps;
        parted = n.0;
        handed_out = ap (λ (l : List A). l ++ (c ∷ [])) h ∙ ap (λ (d : A). map tell before ++ (d ∷ [])) c_is ∙ sym (map-append tell before (p ∷ []));
        stands = o ∙ next_is ∙ sym n.1;
        sound = sound;
      }

  rests : {st' : F.State} {out : List A} (a : Answer (Found A)) (at : ℕ) (before coming : List Placed) → (walk_of L s).cmds ≡ before ++ coming → out ≡ map tell before
      → at ≡ offset_of coming (walk_of L s).ending → f.Sound st' → F.offset st' ≡ onward a at → NoCommand a → a ≡ given (first_told tell coming (walk_of L s).ending)
      → Position st' out
  rests a at before [] e h k sound o n q = record {
    before = before;
    coming = [];
    parted = e;
    handed_out = h;
    stands = o ∙ ap (λ (x : Answer (Found A)). onward x at) q ∙ stays tell (walk_of L s).ending at ∙ k;
    sound = sound;
  }
  rests a at before (p ∷ ps) e h k sound o n q = absurd (subst NoCommand q n)

  pub position : {st : F.State} {out : List A} → Calls F st out → Position st out
  position (begun st b) =
      let x = f.begins st b in
      record {
        before = [];
        coming = (walk_of L s).cmds;
        parted = refl;
        handed_out = refl;
        stands = x.1 ∙ sym (stands_behind L s [] (walk_of L s).cmds refl);
        sound = x.0;
      }
  position (handed st st' cs c next r q) =
      let p = position r in
      let x = f.asks st st' (given (command c next)) p.sound q in
      moves c next p.before p.coming p.parted p.handed_out x.2 x.1 (answered p (given (command c next)) st' q)
  position (none_handed st st' cs a r q n) =
      let p = position r in
      let x = f.asks st st' a p.sound q in
      rests a (F.offset st) p.before p.coming p.parted p.handed_out p.stands x.2 x.1 n (answered p a st' q)

  pub hands_out : HandsOut F tell (walk_of L s).cmds (walk_of L s).ending
  hands_out st out r =
      let p = position r in
      record {
        before = p.before;
        coming = p.coming;
        parted = p.parted;
        handed_out = p.handed_out;
        stands = p.stands;
        answered = answered p;
      }

-- each command told as itself
bare_is : (ps : List Placed) → map itself ps ≡ bare ps
bare_is [] = refl
bare_is (p ∷ ps) = ap (λ (l : List Cmd). p.cmd ∷ l) (bare_is ps)

first_is : (ps : List Placed) (e : Ending) → first_told itself ps e ≡ first_of ps e
first_is (p ∷ ps) e = refl
first_is [] (end o) = refl
first_is [] (stop n o) = refl

module _ (L : Rule) (s : List ℕ) (F : Front Cmd) (f : Faithful L s itself F) {st : F.State} {out : List Cmd} (p : Position L s itself F f st out) where
  pub out_bare : out ≡ bare p.before
  out_bare = p.handed_out ∙ bare_is p.before

  pub answered_first : (a : Answer (Found Cmd)) (st' : F.State) → F.ask st a st' → a ≡ given (first_of p.coming (walk_of L s).ending)
  answered_first a st' q = answered L s itself F f p a st' q ∙ ap (λ (x : Found Cmd). given x) (first_is p.coming (walk_of L s).ending)

-- ---- each of the entries is one

-- with the payload that is shown, a command in numbers is the command
shown_whole : (L : Rule) (stream : Bor (List ℕ)) (at : ℕ) (a : Answer (Found Cmd)) → found_at L stream.now at ≡ a
    → with_payload (in_numbers a) (payload_part stream at (in_numbers a)).bytes ≡ a
shown_whole L stream at (given ended) e = refl
shown_whole L stream at (given (command c next)) e =
    let body : (payload_part stream at (in_numbers (given (command c next)))).bytes ≡ c.body =
    ap (λ (x : Answer (Found Cmd)). (payload_part stream at (in_numbers x)).bytes) (sym e) ∙ ap (λ (p : Part). p.bytes) (Ownership.payload_shown L stream at next c e) in
    ap (λ (b : List ℕ). given (command (record { cid = c.cid; body = b }) next)) body
shown_whole L stream at (given (stopped n o)) e = refl
shown_whole L stream at (refused n) e = refl

-- a step in numbers, and the payload that is shown there
pub told_whole : (L : Rule) (stream : Bor (List ℕ)) (at : ℕ) (x : Answer (Found Heading)) (p : Bor (List ℕ)) → x ≡ step_at L stream.now at
    → shown p ≡ payload_part stream at (step_at L stream.now at) → with_payload x p.now ≡ found_at L stream.now at
told_whole L stream at x p t q =
    ap (λ (y : Answer (Found Heading)). with_payload y p.now) t
    ∙ ap (λ (y : Part). with_payload (step_at L stream.now at) y.bytes) q
    ∙ shown_whole L stream at (found_at L stream.now at) refl

-- one that is asked by offsets
by-offsets : {A : Type 0} (L : Rule) (s : List ℕ) (tell : Placed → A) (ask : ℕ → Answer (Found A) → ℕ → Type 0)
    → ((at at' : ℕ) (a : Answer (Found A)) → ask at a at' → (a ≡ told_at tell L s at) × (at' ≡ onward a at))
    → Faithful L s tell (by_offsets ask)
by-offsets L s tell ask h = record {
  Sound = λ at. Unit;
  begins = λ at b. (tt, b);
  asks = λ at at' a _ q. let x = h at at' a q in (x.0, x.1, tt);
}

step_asked : (rules : Rules) (stream : Bor (List ℕ)) (at at' : ℕ) (a : Answer (Found Cmd)) → StepAsked rules stream at a at'
    → (a ≡ told_at itself (length_of rules) stream.now at) × (at' ≡ onward a at)
step_asked rules stream _ _ _ (Handing.asked at r p g q) = (told_whole (length_of rules) stream at (told_step r) p g.1.1 q.1.1 ∙ sym (retold_itself (found_at (length_of rules) stream.now at)), refl)

uplink_asked : (stream : Bor (List ℕ)) (at at' : ℕ) (a : Answer (Found Cmd)) → UplinkAsked stream at a at'
    → (a ≡ told_at itself (length_of sent_up) stream.now at) × (at' ≡ onward a at)
uplink_asked stream _ _ _ (Handing.asked at r g) = (g.1.1 ∙ sym (retold_itself (found_at (length_of sent_up) stream.now at)), refl)

downlink_asked : (stream : Bor (List ℕ)) (at at' : ℕ) (a : Answer (Found Cmd)) → DownlinkAsked stream at a at'
    → (a ≡ told_at itself (length_of sent_down) stream.now at) × (at' ≡ onward a at)
downlink_asked stream _ _ _ (Handing.asked at r g) = (g.1.1 ∙ sym (retold_itself (found_at (length_of sent_down) stream.now at)), refl)

pub steps_faithful : (rules : Rules) (stream : Bor (List ℕ)) → Faithful (length_of rules) stream.now itself (steps rules stream)
steps_faithful rules stream = by-offsets (length_of rules) stream.now itself (StepAsked rules stream) (step_asked rules stream)

pub uplink_faithful : (stream : Bor (List ℕ)) → Faithful (length_of sent_up) stream.now itself (uplink_steps stream)
uplink_faithful stream = by-offsets (length_of sent_up) stream.now itself (UplinkAsked stream) (uplink_asked stream)

pub downlink_faithful : (stream : Bor (List ℕ)) → Faithful (length_of sent_down) stream.now itself (downlink_steps stream)
downlink_faithful stream = by-offsets (length_of sent_down) stream.now itself (DownlinkAsked stream) (downlink_asked stream)

-- what the contract of `next` says
pub next_says : (it : MutBor MacCommandIterator) (r : Step) (it' : MacCommandIterator) → GivesWith (λ s. s.0.now) next.Post (it, tt) r it'
    → ◌≡◌ {A = Answer (Found Heading) × MacCommandIterator} (told_step r, it') (nexted it.now)
next_says it r it' q = ap (λ (x : MacCommandIterator). (told_step r, x)) (sym q.1.1.1) ∙ q.1.1.0

-- an iterator moves as one does who reads by offsets
moved : (a : Answer (Found Heading)) (at : ℕ) → moved_to a at ≡ onward a at
moved (given (command h next)) at = refl
moved (given ended) at = refl
moved (given (stopped n o)) at = refl
moved (refused n) at = refl

-- and keeps its stream and its rules
module _ (rules : Rules) (stream : Bor (List ℕ)) where
  pub record Keeps (it : MacCommandIterator) : Type 0 where
    pub same_stream : it.«data» ≡ stream
    pub same_rules : it.rules ≡ rules

  fresh_faithful : (it : MacCommandIterator) → it ≡ fresh stream rules → Keeps it × (it.index ≡ 0)
  fresh_faithful it e = (record { same_stream = ap (λ (x : MacCommandIterator). x.«data») e; same_rules = ap (λ (x : MacCommandIterator). x.rules) e }, ap (λ (x : MacCommandIterator). x.index) e)

  -- the step at an iterator's index is the stream's there
  its_step : (it : MacCommandIterator) → Keeps it → found_at (length_of it.rules) it.«data».now it.index ≡ found_at (length_of rules) stream.now it.index
  its_step it k =
      ap (λ (r : Rules). found_at (length_of r) it.«data».now it.index) k.same_rules
      ∙ ap (λ (s : Bor (List ℕ)). found_at (length_of rules) s.now it.index) k.same_stream

made_faithful : (stream : Bor (List ℕ)) (rules : Rules) (it : MacCommandIterator) → Made stream rules it → Keeps rules stream it × (it.index ≡ 0)
made_faithful stream rules it (by_new p) = fresh_faithful rules stream it p.1.1
made_faithful stream _ it (parsed_up p) = fresh_faithful sent_up stream it p.1.1
made_faithful stream _ it (parsed_down p) = fresh_faithful sent_down stream it p.1.1

module _ (rules : Rules) (stream : Bor (List ℕ)) where
  next_faithful : (it it' : MacCommandIterator) (a : Answer (Found Cmd)) → Keeps rules stream it → NextAsked it a it'
      → (a ≡ told_at itself (length_of rules) stream.now it.index) × (it'.index ≡ onward a it.index) × Keeps rules stream it'
  next_faithful _ _ _ k (Handing.asked it r p it' q g) =
      let e : ◌≡◌ {A = Answer (Found Heading) × MacCommandIterator} (told_step r, it') (nexted it.now) = next_says it r it' q in
      let L = length_of it.now.rules in
      let whole : with_payload (told_step r) p.now ≡ found_at L it.now.«data».now it.now.index =
      told_whole L it.now.«data» it.now.index (told_step r) p (ap (λ x. x.0) e) g.1.1 in (
        whole ∙ its_step rules stream it.now k ∙ sym (retold_itself (found_at (length_of rules) stream.now it.now.index)),
        ap (λ x. x.1.index) e
            ∙ ap (λ x. moved_to x.0 it.now.index) (sym e)
            ∙ moved (told_step r) it.now.index
            ∙ sym (onward_retold (λ (h : Heading). record { cid = h.cid; body = p.now }) (told_step r) it.now.index),
        record { same_stream = ap (λ x. x.1.«data») e ∙ k.same_stream; same_rules = ap (λ x. x.1.rules) e ∙ k.same_rules },
      )

  pub iterator_faithful : Faithful (length_of rules) stream.now itself (iterator rules stream)
  iterator_faithful = record {
    Sound = Keeps rules stream;
    begins = made_faithful stream rules;
    asks = next_faithful;
  }

-- ---- the entries that hand out records

-- what is handed out at an offset is the step there, its command told as a record of the frame
record_told : (L : Rule) (s : List ℕ) (frame at : ℕ) (r : Handed) → told_handed r ≡ handed_at L frame s at → with_record r ≡ told_at (from_frame frame) L s at
record_told L s frame at r e = ap (λ (x : Answer (Found Heading) × Record). retold (λ (h : Heading). x.1) x.0) e ∙ by (found_at L s at)
  where
    by : (y : Answer (Found Cmd)) → retold (λ (h : Heading). record_found frame at y) (in_numbers y) ≡ retold (λ (c : Cmd). from_frame frame (record { at = at; cmd = c })) y
    by (given (command c next)) = refl
    by (given ended) = refl
    by (given (stopped n o)) = refl
    by (refused n) = refl

module _ (rules : Rules) (s : List ℕ) (frame : ℕ) where
  -- no payload is longer than a record's five bytes, so the command is the record's
  record_command : (at : ℕ) (y : Answer (Found Cmd)) → found_at (length_of rules) s at ≡ y
      → retold (λ (r : Record). cmd_of (held_by r)) (retold (λ (c : Cmd). from_frame frame (record { at = at; cmd = c })) y) ≡ retold (λ (c : Cmd). c) y
  record_command at (given (command c next)) e =
      let g = found_command (length_of rules) s e in
      ap (λ (b : List ℕ). given (command (record { cid = c.cid; body = b }) next)) (five_front c.body (at_most_five rules c.cid (length c.body) g.known))
  record_command at (given ended) e = refl
  record_command at (given (stopped n o)) e = refl
  record_command at (refused n) e = refl

  pub commands_faithful : (F : Front Record) → Faithful (length_of rules) s (from_frame frame) F → Faithful (length_of rules) s itself (commands_of F)
  commands_faithful F f = record { Sound = f.Sound; begins = f.begins; asks = ask }
    where
      ask : (st st' : F.State) (a : Answer (Found Cmd)) → f.Sound st → CommandAsked F st a st'
          → (a ≡ told_at itself (length_of rules) s (F.offset st)) × (F.offset st' ≡ onward a (F.offset st)) × f.Sound st'
      ask _ _ _ sound (Handing.asked st st' a q) =
          let y = f.asks st st' a sound q in
          let at = F.offset st in (
            ap (retold (λ (r : Record). cmd_of (held_by r))) y.0 ∙ record_command at (found_at (length_of rules) s at) refl,
            y.1 ∙ sym (onward_retold (λ (r : Record). cmd_of (held_by r)) a at),
            y.2,
          )

-- what the contract of `next_record` says
pub next_record_says : (it : MutBor MacCommandIterator) (frame : ℕ) (r : Handed) (it' : MacCommandIterator)
    → GivesWith (λ s. s.0.now) next_record.Post (it, (frame, tt)) r it'
    → ◌≡◌ {A = (Answer (Found Heading) × Record) × MacCommandIterator} (told_handed r, it') (nexted_record frame it.now)
next_record_says it frame r it' q = ap (λ (x : MacCommandIterator). (told_handed r, x)) (sym q.1.1.1) ∙ q.1.1.0

module _ (rules : Rules) (frame : ℕ) (stream : Bor (List ℕ)) where
  record_asked : (at at' : ℕ) (a : Answer (Found Record)) → RecordAsked rules frame stream at a at'
      → (a ≡ told_at (from_frame frame) (length_of rules) stream.now at) × (at' ≡ onward a at)
  record_asked _ _ _ (Handing.asked at r g) = (record_told (length_of rules) stream.now frame at r g.1.1, refl)

  pub records_faithful : Faithful (length_of rules) stream.now (from_frame frame) (record_steps rules frame stream)
  records_faithful = by-offsets (length_of rules) stream.now (from_frame frame) (RecordAsked rules frame stream) record_asked

  next_record_faithful : (it it' : MacCommandIterator) (a : Answer (Found Record)) → Keeps rules stream it → NextRecordAsked frame it a it'
      → (a ≡ told_at (from_frame frame) (length_of rules) stream.now it.index) × (it'.index ≡ onward a it.index) × Keeps rules stream it'
  next_record_faithful _ _ _ k (Handing.asked it r it' q) =
      let e = next_record_says it frame r it' q in (
        record_told (length_of it.now.rules) it.now.«data».now frame it.now.index r (ap (λ x. x.0) e)
            ∙ ap (retold (λ (c : Cmd). from_frame frame (record { at = it.now.index; cmd = c }))) (its_step rules stream it.now k),
        ap (λ x. x.1.index) e
            ∙ ap (λ x. moved_to x.0.0 it.now.index) (sym e)
            ∙ moved (told_step r.step) it.now.index
            ∙ sym (onward_retold (λ (h : Heading). r.«record») (told_step r.step) it.now.index),
        record { same_stream = ap (λ x. x.1.«data») e ∙ k.same_stream; same_rules = ap (λ x. x.1.rules) e ∙ k.same_rules },
      )

  pub record_iterator_faithful : Faithful (length_of rules) stream.now (from_frame frame) (record_iterator rules frame stream)
  record_iterator_faithful = record {
    Sound = Keeps rules stream;
    begins = made_faithful stream rules;
    asks = next_record_faithful;
  }

-- ---- all entries hand out the defined walk

module _ (rules : Rules) (stream : Bor (List ℕ)) where
  pub reads : ReadAs rules stream (walk_of (length_of rules) stream.now).cmds (walk_of (length_of rules) stream.now).ending
  reads = record {
    by_steps = hands_out (length_of rules) stream.now itself (steps rules stream) (steps_faithful rules stream);
    by_iterator = hands_out (length_of rules) stream.now itself (iterator rules stream) (iterator_faithful rules stream);
    as_records = λ frame. hands_out (length_of rules) stream.now itself (commands_of (record_steps rules frame stream))
        (commands_faithful rules stream.now frame (record_steps rules frame stream) (records_faithful rules frame stream));
    by_record_iterator = λ frame. hands_out (length_of rules) stream.now itself (commands_of (record_iterator rules frame stream))
        (commands_faithful rules stream.now frame (record_iterator rules frame stream) (record_iterator_faithful rules frame stream));
    typed_up = λ e. subst (λ (r : Rules). HandsOut (uplink_steps stream) itself (walk_of (length_of r) stream.now).cmds (walk_of (length_of r) stream.now).ending) (sym e)
        (hands_out (length_of sent_up) stream.now itself (uplink_steps stream) (uplink_faithful stream));
    typed_down = λ e. subst (λ (r : Rules). HandsOut (downlink_steps stream) itself (walk_of (length_of r) stream.now).cmds (walk_of (length_of r) stream.now).ending) (sym e)
        (hands_out (length_of sent_down) stream.now itself (downlink_steps stream) (downlink_faithful stream));
    whole = λ w g. g.1.1;
  }

-- Each byte has one owner: crates/claims/specs/Owning.antt, from what the entries hand out and the laws of the defined walk. Assumes nothing.
use Prim.Native.Nat.{ℕ, suc, ◌+◌, ◌≤◌}
use mathlib.Core.List.{List, [], ◌∷◌, ◌++◌, append-nil}
use mathlib.Core.Path.{◌≡◌, refl, sym, ap, ◌∙◌, subst}
use native.Mathlib.Omega.{arith}
use lib.ListN.{length, take, drop, length-append}
use denote.Ref.{Bor}
use Rattle.table.specs.Answers.{Answer, given, refused}
use Rattle.table.specs.Table.{length_of}
use Rattle.table.specs.declared.rules.Rules.{Rules}
use Rattle.payloads.specs.Commands.{sent_up, sent_down}
use Rattle.walk.specs.Ownership.{offset_of, Ends}
use Rattle.walk.specs.Part.{shown, payload_part, part_of, empty_front}
use Rattle.walk.specs.Step.{Found, ended, command, stopped, Heading, first_of, found_at, in_numbers, step_at}
use Rattle.walk.specs.Walk.{Rule, Cmd, Placed, Ending, place_of, WellFormed, encode, size, place, bare, walk_from, walk_of}
use Rattle.walk.specs.declared.step.Step.{Step}
use Rattle.walk.specs.declared.whole.WalkEnd.{WalkEnd}
use Rattle.walk.proofs.Ownership as Ownership
use Rattle.walk.proofs.Ownership.{bare_place}
use Rattle.walk.proofs.Stepping.{steps_reach, steps_stay}
use Rattle.walk.proofs.Steps.{found_command}
use Rattle.walk.proofs.Told.{step_tells}
use Rattle.walk.proofs.step.after_steps.Reads as after_steps
use Rattle.walk.proofs.step.step_at.Reads as step-at
use Rattle.walk.proofs.step.payload_at.Reads as payload_at
use Rattle.walk.proofs.whole.walk.Reads as walk
use Rattle.claims.specs.Handing.{Front, with_payload, NoCommand, none_handed, itself, steps, uplink_steps, downlink_steps, iterator, record_steps, record_iterator, commands_of}
use Rattle.claims.specs.Outcomes.{Gives}
use Rattle.claims.specs.Owning.{OwnsBytes, StopsThere, Begins, all_out, coming, FrontsBegin, OneOwnerBy, WholeWalk, ShownBehind, LedTo, OneOwner, NextIsStep}
use Rattle.claims.proofs.Handing.{bare_append, next_says, stands_behind, told_at, Faithful, Position, position, out_bare, answered_first, reads, steps_faithful, uplink_faithful, downlink_faithful, iterator_faithful, commands_faithful, records_faithful, record_iterator_faithful}

-- ---- lists

bare_length : (ps : List Placed) → length (bare ps) ≡ length ps
bare_length [] = refl
bare_length (p ∷ ps) = ap suc (bare_length ps)

-- two beginnings of one list: the first is the beginning of the second, or goes on behind it with what follows there
data Beginnings (xs ys us vs : List Placed) : Type 0 where
  longer : (m : List Placed) → us ≡ xs ++ m → Beginnings xs ys us vs
  shorter : (p : Placed) (m more : List Placed) → xs ≡ us ++ (p ∷ m) → vs ≡ p ∷ more → Beginnings xs ys us vs

beginnings : (xs ys us vs : List Placed) → xs ++ ys ≡ us ++ vs → Beginnings xs ys us vs
beginnings [] ys us vs e = longer us refl
beginnings (x ∷ xs) ys [] vs e = shorter x xs (xs ++ ys) refl (sym e)
beginnings (x ∷ xs) ys (u ∷ us) vs e =
    let head : x ≡ u = cc in
    let tail : xs ++ ys ≡ us ++ vs = cc in
    by head (beginnings xs ys us vs tail)
  where
    by : x ≡ u → Beginnings xs ys us vs → Beginnings (x ∷ xs) ys (u ∷ us) vs
    by h (longer m e) = longer m (cc)
    by h (shorter p m more e q) = shorter p m more (cc) q

-- ---- of one entry

module _ (rules : Rules) (stream : Bor (List ℕ)) (F : Front Cmd) (f : Faithful (length_of rules) stream.now itself F) where
  abbrev L : Rule
  L = length_of rules

  abbrev s : List ℕ
  s = stream.now

  abbrev At : F.State → List Cmd → Type 0
  At st out = Position L s itself F f st out

  -- what was handed out
  its : {st : F.State} {out : List Cmd} (p : At st out) → out ≡ bare p.before
  its p = out_bare L s F f p

  owns : OwnsBytes rules stream F
  owns st out r =
      let p = position L s itself F f r in
      let o = Ownership.every_byte_owned L s p.before p.coming p.parted in
      record {
        commands = subst (WellFormed L) (sym (its p)) o.commands;
        within = subst (λ (k : ℕ). k ≤ length s) (sym p.stands) o.within;
        bytes = ap (λ (k : ℕ). take k s) p.stands ∙ o.bytes ∙ ap encode (sym (its p));
      }

  -- it stands behind what was handed out
  behind : {st : F.State} {out : List Cmd} (p : At st out) → F.offset st ≡ length (encode out)
  behind p = p.stands ∙ stands_behind L s p.before p.coming p.parted ∙ ap (λ (cs : List Cmd). length (encode cs)) (sym (its p))

  -- where no command is answered, none is to come
  none_coming : (a : Answer (Found Cmd)) (ps : List Placed) (e : Ending) → NoCommand a → a ≡ given (first_of ps e) → ps ≡ []
  none_coming a [] e n q = refl
  none_coming a (p ∷ ps) e n q = absurd (subst NoCommand q n)

  stops : StopsThere rules stream F
  stops st st' out a r q n =
      let p = position L s itself F f r in
      let p' = position L s itself F f (none_handed st st' out a r q n) in
      let told = answered_first L s F f p a st' q in
      let last : p.coming ≡ [] = none_coming a p.coming (walk_of L s).ending n told in
      let says : a ≡ given (first_of [] (walk_of L s).ending) = told ∙ ap (λ (ps : List Placed). given (first_of ps (walk_of L s).ending)) last in
      let there : F.offset st ≡ place_of (walk_of L s).ending = p.stands ∙ ap (λ (ps : List Placed). offset_of ps (walk_of L s).ending) last in
      let all : (walk_of L s).cmds ≡ p.before = p.parted ∙ ap (λ (ps : List Placed). p.before ++ ps) last ∙ append-nil p.before in
      record {
        ending = (walk_of L s).ending;
        says = says;
        ends = subst (λ (k : ℕ). Ends L k (drop k s) (walk_of L s).ending) (sym there) (Ownership.stops_only_there L s);
        stays = λ b st'' x.
            (f.asks st' st'' b p'.sound x).0
            ∙ ap (told_at itself L s) (behind p' ∙ sym (behind p))
            ∙ sym (f.asks st st' a p.sound q).0;
        whole = λ w g.
            g.1.1
            ∙ ap (λ (n : ℕ). (given (walk_of L s).ending, n)) (ap length all ∙ sym (bare_length p.before) ∙ ap length (sym (its p)));
      }

  begins : FrontsBegin rules stream F
  begins cs rest wf e st out r =
      let p = position L s itself F f r in
      let front = Ownership.fronts_are_beginnings L s cs rest wf e in
      by p (beginnings (place 0 cs) front.0 p.before p.coming (sym front.1 ∙ p.parted))
    where
      by : (p : At st out) → {ys : List Placed} → Beginnings (place 0 cs) ys p.before p.coming → Begins rules stream F cs st out
      by p (longer m q) =
          all_out (bare m) (its p ∙ ap bare q ∙ bare_append (place 0 cs) m ∙ ap (λ (l : List Cmd). l ++ bare m) (bare_place 0 cs))
      by p (shorter x m more q c) =
          coming x.cmd (bare m)
          (sym (bare_place 0 cs) ∙ ap bare q ∙ bare_append p.before (x ∷ m) ∙ ap (λ (l : List Cmd). l ++ (x.cmd ∷ bare m)) (sym (its p)))
          (λ a st' ask. answered_first L s F f p a st' ask
          ∙ ap (λ (ps : List Placed). given (first_of ps (walk_of L s).ending)) c
          ∙ ap (λ (k : ℕ). given (command x.cmd (k + size x.cmd))) (sym (p.stands ∙ ap (λ (ps : List Placed). offset_of ps (walk_of L s).ending) c)))

  pub one_owner_by : OneOwnerBy rules stream F
  one_owner_by = record { a = owns; b = stops; c = begins }

-- ---- of the whole walk, and of the payload that is shown

abbrev len_of : Answer (Found Heading) → ℕ
len_of (given (command h next)) = h.len
len_of (given ended) = 0
len_of (given (stopped n at)) = 0
len_of (refused n) = 0

module _ (rules : Rules) (stream : Bor (List ℕ)) where
  whole_walk : (w : WalkEnd) → Gives walk.Post (rules, (stream, tt)) w → WholeWalk rules stream w
  whole_walk w g =
      let L = length_of rules in
      let s = stream.now in
      record {
        ending = (walk_of L s).ending;
        count = length (walk_of L s).cmds;
        says = g.1.1;
        ends = Ownership.stops_only_there L s;
        at_least = λ cs rest wf e.
            let front = Ownership.fronts_are_beginnings L s cs rest wf e in
            let all : length (place 0 cs ++ front.0) ≡ length (place 0 cs) + length front.0 = length-append (place 0 cs) front.0 in
            let as_many : length (place 0 cs) ≡ length cs = sym (bare_length (place 0 cs)) ∙ ap length (bare_place 0 cs) in
            omega (arith, ap length front.1);
        at_most = Ownership.count_fits L s;
      }

  payload_shown : (at : ℕ) (r : Step) (p : Bor (List ℕ)) → Gives step-at.Post (rules, (stream, (at, tt))) r → Gives payload_at.Post (rules, (stream, (at, tt))) p
      → ShownBehind rules stream at r p
  payload_shown at r p g q = record {
    behind = λ h next e. by (found_at (length_of rules) stream.now at) refl h next (sym g.1.1 ∙ e);
    none = λ n. none (step_at (length_of rules) stream.now at) (subst (λ (x : Answer (Found Heading)). NoCommand (with_payload x [])) g.1.1 n) q.1.1;
  }
    where
      by : (a : Answer (Found Cmd)) → found_at (length_of rules) stream.now at ≡ a → (h : Heading) (next : ℕ) → step_at (length_of rules) stream.now at ≡ given (command h next)
          → (shown p ≡ part_of stream (at + 1) h.len) × (next ≡ at + (1 + h.len)) × (next ≤ length stream.now)
      by (given (command c n)) f h next e =
          let g = found_command (length_of rules) stream.now f in
          let told : ◌≡◌ {A = Answer (Found Heading)} (in_numbers (given (command c n))) (given (command h next)) = sym (ap in_numbers f) ∙ e in
          let len : h.len ≡ length c.body = ap len_of (sym told) in
          let next_is : next ≡ n = cc in
          (q.1.1 ∙ ap (payload_part stream at) e, omega (arith, g.behind), omega (arith, g.fits))
      by (given ended) f h next e = let told = sym (ap in_numbers f) ∙ e in cc
      by (given (stopped k o)) f h next e = let told = sym (ap in_numbers f) ∙ e in cc
      by (refused k) f h next e = let told = sym (ap in_numbers f) ∙ e in cc

      none : (a : Answer (Found Heading)) → NoCommand (with_payload a []) → shown p ≡ payload_part stream at a → shown p ≡ empty_front stream
      none (given ended) n e = e
      none (given (command h next)) n e = absurd n
      none (given (stopped k o)) n e = e
      none (refused k) n e = e

  led_to : (from n at : ℕ) → from ≤ length stream.now → Gives after_steps.Post (rules, (stream, (from, (n, tt)))) at → LedTo rules stream from n at
  led_to from n at h g =
      let L = length_of rules in
      let s = stream.now in
      let r = steps_reach (length_of rules) stream.now from n h in
      record {
        rest = ap (λ (k : ℕ). walk_from L k (drop k s)) g.1.1 ∙ r.rest;
        stands = g.1.1 ∙ r.stands;
        finds = λ q f. f.1.1 ∙ ap (step_at L s) g.1.1 ∙ ap in_numbers r.finds;
      }

pub one_owner : (rules : Rules) (stream : Bor (List ℕ)) → OneOwner rules stream
one_owner rules stream = record {
  by_steps = one_owner_by rules stream (steps rules stream) (steps_faithful rules stream);
  by_iterator = one_owner_by rules stream (iterator rules stream) (iterator_faithful rules stream);
  as_records = λ frame. one_owner_by rules stream (commands_of (record_steps rules frame stream))
      (commands_faithful rules stream.now frame (record_steps rules frame stream) (records_faithful rules frame stream));
  by_record_iterator = λ frame. one_owner_by rules stream (commands_of (record_iterator rules frame stream))
      (commands_faithful rules stream.now frame (record_iterator rules frame stream) (record_iterator_faithful rules frame stream));
  typed_up = λ e. subst (λ (r : Rules). OneOwnerBy r stream (uplink_steps stream)) (sym e) (one_owner_by sent_up stream (uplink_steps stream) (uplink_faithful stream));
  typed_down = λ e. subst (λ (r : Rules). OneOwnerBy r stream (downlink_steps stream)) (sym e) (one_owner_by sent_down stream (downlink_steps stream) (downlink_faithful stream));
  whole = whole_walk rules stream;
  payload = payload_shown rules stream;
  defined = reads rules stream;
  step_defined = λ at r g. g.1.1;
  walk_defined = λ from w g. g.1.1;
  steps_lead = led_to rules stream;
  steps_stay = λ from n at h g. g.1.1 ∙ steps_stay (length_of rules) stream.now from n h;
  up_defined = λ e at r g. g.1.1 ∙ ap (λ (x : Rules). found_at (length_of x) stream.now at) (sym e);
  down_defined = λ e at r g. g.1.1 ∙ ap (λ (x : Rules). found_at (length_of x) stream.now at) (sym e);
}

pub next_is_step : NextIsStep
next_is_step it q r it' a g = step_tells (ap (λ x. x.0) (next_says it q it' a) ∙ sym g.1.1)

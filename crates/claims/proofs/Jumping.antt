-- Jumping to a command by its number: crates/claims/specs/Jumping.antt. Assumes nothing.
use Prim.Native.Nat.{ℕ, ◌+◌, ◌*◌, ◌/◌, ◌%◌, ◌≤◌, ◌<◌}
use mathlib.Core.List.{List, [], ◌∷◌, ◌++◌}
use mathlib.Core.Path.{◌≡◌, refl, sym, ap, ◌∙◌, subst}
use native.Mathlib.Omega.{arith}
use Rattle.std.specs.Borrow.{Bor, MutBor}
use Rattle.std.specs.Prelude.{Result}
use lib.ListN.{length, get_or, take, drop, length-drop, drop_of_length-le, get_or-append}
use lib.Seq.{take-append_seam}
use Rattle.bits.specs.Memory.{over}
use Rattle.bits.proofs.Memory.{over_front, over_drop, over_length}
use Rattle.table.specs.Answers.{Answer, given, refused}
use Rattle.table.specs.Table.{length_of}
use Rattle.table.specs.declared.refusal.Refusal.{Refusal}
use Rattle.table.specs.declared.rules.Direction.{Direction}
use Rattle.table.specs.declared.rules.Rules.{Rules}
use Rattle.walk.specs.Ownership.{offset_of}
use Rattle.walk.specs.Step.{Found, ended, command, stopped, Heading, heading, found_at, step_at}
use Rattle.walk.specs.Stepping.{after_steps}
use Rattle.walk.specs.Walk.{Rule, Placed, go, walk_from, walk_of}
use Rattle.walk.proofs.Steps.{step_on}
use Rattle.jumps.specs.Entries.{entries_of, made}
use Rattle.jumps.specs.Jump.{Spot, spotted, jumped}
use Rattle.jumps.specs.Told.{told_entries, told_jump}
use Rattle.jumps.specs.declared.jump.Spot as Code
use Rattle.jumps.proofs.Making.{entry_at, entries_count, made_short, made_long, made_all, Making, short, long, all, making}
use Rattle.jumps.proofs.Reaching.{entry_past, none_covers, covered, Jumping, uncovered, past, there, jumping, reached, not_reached, by_own}
use Rattle.build.specs.declared.handed.Handed.{Handed}
use Rattle.build.proofs.handed.record_at.Reads as record_at
use Rattle.claims.specs.Jumping.{Makes, Asks, Nth, entries_for, EntriesIn, MakingTells, OwnTells, MadeOf, AnyTells, RecordIs, MakesAs, JumpsAs, SeventeenCommands, StopAfterSixteen, EntriesOfAnother, EmptyStream, JumpsTell}
use Rattle.claims.specs.Outcomes.{Gives}
use Rattle.claims.proofs.Origins.{record_says}

-- below the length of a list there is an n-th
nth_of : (ps : List Placed) (n : ℕ) {So : Placed → Type 0} → n < length ps → ((p : Placed) (behind : List Placed) → drop n ps ≡ p ∷ behind → So p) → Nth ps n So
nth_of ps n {So} h so = by (drop n ps) refl
  where
    by : (l : List Placed) → drop n ps ≡ l → Nth ps n So
    by [] e = absurd (omega (arith, length-drop n ps, ap length e))
    by (p ∷ behind) e = record { nth = p; behind = behind; there = e; so = so p behind e }

module _ (L : Rule) (s : List ℕ) where
  abbrev cmds : List Placed
  cmds = (walk_of L s).cmds

  abbrev entries : List ℕ
  entries = entries_of L s

  -- ---- making

  entries_in : (numbers : List ℕ) → length entries ≤ length numbers → EntriesIn cmds numbers (over numbers 0 entries)
  entries_in numbers h =
      let n = entries_count L s in
      record {
        each = λ k h. nth_of cmds (16 * k) (omega arith) (λ p behind e.
            let i : k < length entries = omega arith in
            ap (λ (l : List ℕ). get_or l k 0) (over_front numbers entries)
            ∙ get_or-append entries (drop (length entries) numbers) 0 k i
            ∙ entry_at k cmds (walk_of L s).ending i
            ∙ ap (λ (l : List Placed). offset_of l (walk_of L s).ending) e);
        others =
            let e : 0 + length entries + 0 ≡ entries_for (length cmds) = omega arith in
            subst (λ (i : ℕ). drop i (over numbers 0 entries) ≡ drop i numbers) e (over_drop numbers 0 entries (omega arith) 0);
        size = over_length numbers 0 entries (omega arith);
      }

  making_tells : (numbers : List ℕ) {a : Answer ℕ} {after : List ℕ} → ◌≡◌ {A = Answer ℕ × List ℕ} (a, after) (made L s numbers) → MakingTells cmds (length s) numbers a after
  making_tells numbers {a} {after} e =
      let n = entries_count L s in
      record {
        short = λ h. ap (λ x. x.0) (e ∙ sym (made_short L s numbers refl (omega arith)));
        long = λ h g. ap (λ x. x.0) (e ∙ sym (made_long L s numbers refl (omega arith) g));
        all = λ h g.
            let m = e ∙ sym (made_all L s numbers refl (omega arith) g refl) in
            (ap (λ x. x.0) m ∙ ap given n, subst (EntriesIn cmds numbers) (sym (ap (λ x. x.1) m)) (entries_in numbers (omega arith)));
        keeps = λ k r. kept k (making L s numbers) (sym e) r;
      }
    where
      kept : (k : ℕ) {o : Answer ℕ × List ℕ} → Making L s numbers o → o ≡ (a, after) → a ≡ refused k → after ≡ numbers
      kept k (short h) f r = sym (ap (λ x. x.1) f)
      kept k (long h g) f r = sym (ap (λ x. x.1) f)
      kept k (all h g) f r = let told = ap (λ x. x.0) f in cc

  -- the entries that it reported are the stream's
  reported : (numbers : List ℕ) {a : Answer ℕ} {after : List ℕ} {total : ℕ} → ◌≡◌ {A = Answer ℕ × List ℕ} (a, after) (made L s numbers) → a ≡ given total → take total after ≡ entries
  reported numbers {a} {after} {total} e r = by (making L s numbers) (sym e)
    where
      by : {o : Answer ℕ × List ℕ} → Making L s numbers o → o ≡ (a, after) → take total after ≡ entries
      by (short h) f = let told = ap (λ x. x.0) f in cc
      by (long h g) f = let told = ap (λ x. x.0) f in cc
      by (all h g) f =
          let same : given (length entries) ≡ given total = ap (λ x. x.0) f ∙ r in
          let total_is : length entries ≡ total = cc in
          ap (take total) (sym (ap (λ x. x.1) f) ∙ over_front numbers entries)
          ∙ ap (λ (k : ℕ). take k (entries ++ drop (length entries) numbers)) (sym total_is)
          ∙ take-append_seam entries (drop (length entries) numbers)

  -- ---- asking

  own_tells : (n : ℕ) → OwnTells cmds n (jumped L s entries n)
  own_tells n =
      let m = entries_count L s in
      record {
        nth = λ h. nth_of cmds n h (λ p behind e. by_own L s n (omega arith) ∙ reached L s 0 n (omega arith) e);
        near = λ h g. by_own L s n (omega arith) ∙ not_reached L s 0 n (omega arith) (drop_of_length-le cmds {i = n} h);
        far = λ h. sym (none_covers L s entries n (omega arith));
      }

  any_tells : (es : List ℕ) (n : ℕ) → AnyTells L s es n (jumped L s es n)
  any_tells es n = record {
    none = λ h. sym (none_covers L s es n h);
    past = λ h g. sym (covered L s es n h (entry_past L s (get_or es (n / 16) 0) (n % 16) g));
    nth = λ h g i. nth_of (walk_from L (get_or es (n / 16) 0) (drop (get_or es (n / 16) 0) s)).cmds (n % 16) i
        (λ p behind e. sym (covered L s es n h refl) ∙ reached L s (get_or es (n / 16) 0) (n % 16) g e);
    ends = λ h g e. sym (covered L s es n h refl) ∙ not_reached L s (get_or es (n / 16) 0) (n % 16) g (drop_of_length-le (walk_from L (get_or es (n / 16) 0) (drop (get_or es (n / 16) 0) s)).cmds {i = n % 16} e);
  }

  -- what is told was found by a step
  spotted_by : (at : ℕ) (f : Answer (Found Heading)) {x : Spot} → spotted at f ≡ given x → (x.at ≡ at) × ((next : ℕ) × (f ≡ given (command (heading x.cid x.len) next)))
  spotted_by at (given (command h next)) {x} e =
      let x_is : record { at = at; cid = h.cid; len = h.len } ≡ x = cc in
      (ap (λ (y : Spot). y.at) (sym x_is), (next, ap (λ (y : Spot). given (command (heading y.cid y.len) next)) x_is))
  spotted_by at (given ended) e = cc
  spotted_by at (given (stopped n o)) e = cc
  spotted_by at (refused n) e = cc

  -- a step finds it at its offset
  abbrev FoundThere : Spot → Type 0
  FoundThere x = (next : ℕ) × (step_at L s x.at ≡ given (command (heading x.cid x.len) next))

  -- so it does of what a jump tells, and leads behind its payload
  told_by : (es : List ℕ) (n : ℕ) {x : Spot} → jumped L s es n ≡ given x → step_at L s x.at ≡ given (command (heading x.cid x.len) (x.at + (1 + x.len)))
  told_by es n {x} e = behind (by (jumping L s es n) e)
    where
      behind : FoundThere x → step_at L s x.at ≡ given (command (heading x.cid x.len) (x.at + (1 + x.len)))
      behind f =
          let next_is : f.0 ≡ x.at + (1 + x.len) = omega (arith, (step_on L s x.at f.1).0) in
          f.1 ∙ ap (λ (k : ℕ). given (command (heading x.cid x.len) k)) next_is

      by : {a : Answer Spot} → Jumping L s es n a → a ≡ given x → FoundThere x
      by (uncovered h) f = cc
      by (past h g) f = cc
      by (there h g) f =
          let at : ℕ = after_steps L s (get_or es (n / 16) 0) (n % 16) in
          let found = spotted_by at (step_at L s at) f in
          (found.1.0, ap (step_at L s) found.0 ∙ found.1.1)

-- ---- of the functions

its_record : (rules : Rules) (stream entries : Bor (List ℕ)) (n : ℕ) (r : Result Code.Spot Refusal) (x : Spot) → Asks rules stream entries n r → told_jump r ≡ given x
    → (frame : ℕ) (q : Handed) → Gives record_at.Post (rules, (frame, (stream, (x.at, tt)))) q → RecordIs rules stream x frame q
its_record rules stream entries n r x a e frame q g =
    let found = ap (λ y. y.0) g.1.1 ∙ told_by (length_of rules) stream.now entries.now n (sym a.1.1 ∙ e) in
    record { its_step = found; its_record = λ p h. record_says rules frame stream x.at q g.1.1 (heading x.cid x.len) _ p found h }

-- an answer, and numbers that are left, by what is said of both
told_with : {a : Answer ℕ} {o after : List ℕ} {x : Answer ℕ × List ℕ} → (a, o) ≡ x → o ≡ after → (a, after) ≡ x
told_with {a} e f = ap (λ (l : List ℕ). (a, l)) (sym f) ∙ e

own : (rules : Rules) (stream entries : Bor (List ℕ)) → MadeOf rules stream.now entries.now → (n : ℕ) (r : Result Code.Spot Refusal) → Asks rules stream entries n r
    → OwnTells (walk_of (length_of rules) stream.now).cmds n (told_jump r)
own rules stream lent m n r q =
    let made_is = told_with m.made.1.1.0 m.made.1.1.1 in
    let reported-are = reported (length_of rules) m.stream.now m.numbers.now made_is m.reported in
    let entries_are = m.exactly ∙ reported-are ∙ ap (entries_of (length_of rules)) m.same in
    subst (OwnTells (walk_of (length_of rules) stream.now).cmds n)
    (sym (q.1.1 ∙ ap (λ (l : List ℕ). jumped (length_of rules) stream.now l n) entries_are)) (own_tells (length_of rules) stream.now n)

-- ---- examples, each computed from what the contract says, in whatever words it says it

-- the same reference to other numbers
abbrev to : Bor (List ℕ) → List ℕ → Bor (List ℕ)
to s l = record s { now = l }

abbrev to_lent : MutBor (List ℕ) → List ℕ → MutBor (List ℕ)
to_lent s l = record s { now = l }

makes : {d : Direction} {bytes before : List ℕ} {a : Answer ℕ} {after : List ℕ}
    → ((s : Bor (List ℕ)) (n : MutBor (List ℕ)) (r : Result ℕ Refusal) (left : List ℕ) → Makes (record { direction = d }) (to s bytes) (to_lent n before) r left → ◌≡◌ {A = Answer ℕ × List ℕ} (told_entries r, left) (a, after))
    → MakesAs d bytes before a after
makes {d} {bytes} computed = record {
  so = λ stream numbers s n r left g.
      let there = subst (λ (l : List ℕ). Makes (record { direction = d }) (to stream l) numbers r left) s g in
      let both = computed stream numbers r left (subst (λ (l : List ℕ). Makes (record { direction = d }) (to stream bytes) (to_lent numbers l) r left) n there) in
      (ap (λ x. x.0) both, ap (λ x. x.1) both);
}

jumps : {d : Direction} {bytes entries : List ℕ} {n : ℕ} {a : Answer Spot}
    → ((s l : Bor (List ℕ)) (r : Result Code.Spot Refusal) → Asks (record { direction = d }) (to s bytes) (to l entries) n r → told_jump r ≡ a) → JumpsAs d bytes entries n a
jumps {d} {bytes} {n = n} computed = record {
  so = λ stream lent s e r g.
      let there = subst (λ (l : List ℕ). Asks (record { direction = d }) (to stream l) lent n r) s g in
      computed stream lent r (subst (λ (l : List ℕ). Asks (record { direction = d }) (to stream bytes) (to lent l) n r) e there);
}

seventeen_commands : SeventeenCommands
unfolding made jumped after_steps found_at go
seventeen_commands = record {
  two_entries = makes (λ _ _ _ _ g. told_with g.1.1.0 g.1.1.1);
  no_room = makes (λ _ _ _ _ g. told_with g.1.1.0 g.1.1.1);
  before_last = jumps (λ _ _ _ g. g.1.1);
  last = jumps (λ _ _ _ g. g.1.1);
  behind = jumps (λ _ _ _ g. g.1.1);
  still_covered = jumps (λ _ _ _ g. g.1.1);
  not_covered = jumps (λ _ _ _ g. g.1.1);
  others_unread = jumps (λ _ _ _ g. g.1.1);
}

stop_after_sixteen : StopAfterSixteen
unfolding made jumped after_steps found_at go
stop_after_sixteen = record {
  one_entry = makes (λ _ _ _ _ g. told_with g.1.1.0 g.1.1.1);
  last = jumps (λ _ _ _ g. g.1.1);
  not_covered = jumps (λ _ _ _ g. g.1.1);
  at_stop = jumps (λ _ _ _ g. g.1.1);
}

of_another : EntriesOfAnother
unfolding made jumped after_steps found_at go
of_another = record {
  of_seventeen = makes (λ _ _ _ _ g. told_with g.1.1.0 g.1.1.1);
  own = makes (λ _ _ _ _ g. told_with g.1.1.0 g.1.1.1);
  by_own = jumps (λ _ _ _ g. g.1.1);
  in-payload = jumps (λ _ _ _ g. g.1.1);
  from_payload = jumps (λ _ _ _ g. g.1.1);
  at_length = jumps (λ _ _ _ g. g.1.1);
  past_length = jumps (λ _ _ _ g. g.1.1);
}

empty_stream : EmptyStream
unfolding made jumped after_steps found_at go
empty_stream = record {
  no_entries = makes (λ _ _ _ _ g. told_with g.1.1.0 g.1.1.1);
  not_covered = jumps (λ _ _ _ g. g.1.1);
  nothing_there = jumps (λ _ _ _ g. g.1.1);
}

pub jumps_tell : JumpsTell
jumps_tell = record {
  making = λ rules stream numbers r after g.
      making_tells (length_of rules) stream.now numbers.now (told_with g.1.1.0 g.1.1.1);
  own = own;
  any = λ rules stream entries n r q. subst (AnyTells (length_of rules) stream.now entries.now n) (sym q.1.1) (any_tells (length_of rules) stream.now entries.now n);
  its_record = its_record;
  seventeen_commands = seventeen_commands;
  stop_after_sixteen = stop_after_sixteen;
  of_another = of_another;
  empty_stream = empty_stream;
}

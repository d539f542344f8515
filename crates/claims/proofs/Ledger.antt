-- The ledger of parents: crates/claims/specs/Ledger.antt, but for its examples, which are proofs/LedgerExamples.antt. Assumes nothing.
use Prim.Native.Nat.{ℕ, zero, suc, ◌+◌, ◌/◌, ◌<◌, ◌≤◌}
use mathlib.Core.Bool.{Bool, true, false, cond}
use mathlib.Core.List.{List, [], ◌∷◌, ◌++◌, map, reverse, head?, tail, append_assoc}
use mathlib.Core.Logic.{◌↔◌}
use mathlib.Core.Option.{Option, none, some}
use mathlib.Core.Path.{◌≡◌, refl, sym, ap, ap₂, ◌∙◌, subst}
use native.Mathlib.Omega.{arith}
use lib.Dec.{ltb}
use lib.ListN.{length, drop, length-append}
use lib.Seq.{drop-append_seam}
use Rattle.std.specs.Borrow.{Bor, MutBor}
use Rattle.std.specs.Prelude.{Result, Ok, Err, None, Some}
use Rattle.std.specs.Prelude as Std
use Rattle.bits.specs.Every.{Every}
use Rattle.table.specs.Answers.{Answer, given, refused, Consent, accepted}
use Rattle.table.specs.Table.{length_of}
use Rattle.table.specs.declared.refusal.Refusal.{Refusal}
use Rattle.table.proofs.Told.{numbered, numbered_number}
use Rattle.fields.specs.Lists.{tabulate}
use Rattle.fields.proofs.Lists.{length_tabulate}
use Rattle.walk.specs.Walk.{Walk, walk_of}
use Rattle.ledger.specs.Asked.{in_hand}
use Rattle.ledger.specs.Book.{Book, noted, decided, answering, step, onward, steps, taken, going, taken_all, replayed}
use Rattle.ledger.specs.Claims.{Exact, fault_of, count_of, fresh, room_in}
use Rattle.ledger.specs.Events.{Request, Reply, Event, request, reply, stop_at, walk_events, rules_for, events_of, following, events}
use Rattle.ledger.specs.Memory.{held_in, book_of, note_at}
use Rattle.ledger.specs.Parents.{Shown, shown, Note}
use Rattle.ledger.specs.Settings.{
  Setting,
  data_rate,
  tx_power,
  channel_mask,
  redundancy,
  max_duty_cycle,
  rx1_dr_offset,
  rx2_data_rate,
  rx2_frequency,
  delay,
  downlink_dwell_time,
  uplink_dwell_time,
  max_eirp,
  channel_frequency,
  channel_rates,
  downlink_frequency,
  is_beyond,
}
use Rattle.ledger.specs.Told.{told_replay, told_line}
use Rattle.ledger.specs.Trace.{TraceLine, Lawful, written, written_all, front, parted, lines_of, BeginsWith}
use Rattle.ledger.specs.declared.Ledger.{Ledger}
use Rattle.ledger.specs.declared.exchange.BadLine.{BadLine}
use Rattle.ledger.specs.declared.settings.Parent.{Parent}
use Rattle.ledger.proofs.Asking.{fresh_is}
use Rattle.ledger.proofs.LineByLine as Texts
use Rattle.ledger.proofs.Matches.{queue_is_matching, stray_is_unmatched, open_are_unanswered}
use Rattle.ledger.proofs.Notes.{list_exactly, listed_is_one}
use Rattle.ledger.proofs.Parenting.{parents_exactly, exact_is_one, effects_in_order}
use Rattle.ledger.proofs.Replaying.{higher_not_held}
use Rattle.ledger.proofs.Tracing.{front_read, read_is_inverse, lines_none, lines_some, trace_read_back}
use Rattle.ledger.proofs.Walking.{named_either}
use Rattle.claims.specs.Ledger.{
  Replayed,
  Replays,
  FromNew,
  Asks,
  told_parent,
  EntriesAre,
  Tells,
  TraceText,
  WholeTells,
  Parted,
  FirstFault,
  RefusesExactly,
  Same,
  KeptLines,
  RefusedLineKeeps,
  FormIs,
  FedAsItComes,
  BooksTell,
  NothingGuessed,
  Holds,
  examples,
  LedgerTells,
}
use Rattle.claims.proofs.Handing as Handing

abbrev Lines : Type 0
Lines = List (Option TraceLine)

abbrev Outcome : Type 0
Outcome = Consent × ℕ × Book

-- ---- the contracts

-- what an outcome tells
abbrev pub outcome_of : Replayed → List ℕ → Outcome
outcome_of r after = (told_replay r.answer, told_line r.answer, book_of r.ledger after)

outcome : (l : Ledger) (text : Bor (List ℕ)) (list : MutBor (List ℕ)) (r : Replayed) (after : List ℕ) → Replays l text list r after
    → outcome_of r after ≡ replayed text.now (book_of l list.now)
outcome l text list r after g =
    let a = g.admitted.1.1 in
    ap (λ x. (told_replay r.answer, told_line r.answer, book_of x.0 x.1)) (sym a.1) ∙ a.0 ∙ ap (λ (k : Ledger). replayed text.now (book_of k list.now)) g.same

-- by what the text and the list are
outcome_at : (l : Ledger) (text : Bor (List ℕ)) (list : MutBor (List ℕ)) (r : Replayed) (after : List ℕ) {t w : List ℕ} → text.now ≡ t → list.now ≡ w
    → Replays l text list r after → outcome_of r after ≡ replayed t (book_of l w)
outcome_at l text list r after e f g = outcome l text list r after g ∙ ap₂ (λ (t w : List ℕ). replayed t (book_of l w)) e f

pub from_new : (text : Bor (List ℕ)) (list : MutBor (List ℕ)) (r : Replayed) (after : List ℕ) → FromNew text list r after
    → outcome_of r after ≡ replayed text.now (fresh list.now)
from_new text list r after g =
    outcome g.ledger text list r after g.replays
    ∙ ap (λ (l : Ledger). replayed text.now (book_of l list.now)) g.new.1.1
    ∙ ap (replayed text.now) (fresh_is list.now)

in-hand : (σ : Setting) (l : Ledger) (h : Std.Option Parent) → Asks σ l h → h ≡ in_hand (shown σ (held_in l.held σ))
in-hand data_rate l h g = g.1.1
in-hand tx_power l h g = g.1.1
in-hand channel_mask l h g = g.1.1
in-hand redundancy l h g = g.1.1
in-hand max_duty_cycle l h g = g.1.1
in-hand rx1_dr_offset l h g = g.1.1
in-hand rx2_data_rate l h g = g.1.1
in-hand rx2_frequency l h g = g.1.1
in-hand delay l h g = g.1.1
in-hand downlink_dwell_time l h g = g.1.1
in-hand uplink_dwell_time l h g = g.1.1
in-hand max_eirp l h g = g.1.1
in-hand (channel_frequency i) l h g = g.1.1
in-hand (channel_rates i) l h g = g.1.1
in-hand (downlink_frequency i) l h g = g.1.1

told_back : (o : Option Shown) → told_parent (in_hand o) ≡ o
told_back none = refl
told_back (some s) = refl

pub told_is : (σ : Setting) (l : Ledger) (h : Std.Option Parent) → Asks σ l h → told_parent h ≡ shown σ (held_in l.held σ)
told_is σ l h g = ap told_parent (in-hand σ l h g) ∙ told_back (shown σ (held_in l.held σ))

-- ---- entries

at_index : {A : Type 0} (n : ℕ) (f : ℕ → A) (k : ℕ) → k < n → head? (drop k (tabulate n f)) ≡ some (f k)
unfolding tabulate
at_index zero f k h = absurd (omega arith)
at_index (suc n) f zero h = refl
at_index (suc n) f (suc k) h = at_index n (λ i. f (suc i)) k (omega arith)

pub entries_are : (after : List ℕ) (n : ℕ) → EntriesAre after (tabulate n (note_at after))
entries_are after n list k e same h g =
    at_index n (note_at after) k (omega (arith, length_tabulate n (note_at after)))
    ∙ ap some (sym (g.1.1 ∙ ap (λ (w : List ℕ). note_at w k) same))

-- ---- lines that are all taken

-- have the form, and no number is told
record AllTaken (ls : Lines) (o : Outcome) : Type 0 where
  lines : List TraceLine
  read : ls ≡ map some lines
  number : o.1 ≡ 0

all_taken : (ls : Lines) (b : Book) → (taken_all ls b).0 ≡ accepted → AllTaken ls (taken_all ls b)
unfolding taken_all
all_taken [] b e = record { lines = []; read = refl; number = refl }
all_taken (none ∷ ls) b e = cc
all_taken (some l ∷ ls) b e = by (taken (some l) b) (all_taken ls) e
  where
    by : (z : Answer Book) → ((c : Book) → (taken_all ls c).0 ≡ accepted → AllTaken ls (taken_all ls c)) → (going z b (taken_all ls)).0 ≡ accepted
        → AllTaken (some l ∷ ls) (going z b (taken_all ls))
    by (given c) h e = let t = h c e in record { lines = l ∷ t.lines; read = ap (λ (x : Lines). some l ∷ x) t.read; number = t.number }
    by (refused k) h e = cc

-- the same of an outcome
record TakenWhole (t : List ℕ) (b c : Book) : Type 0 where
  text_is : TraceText t
  replays : replayed t b ≡ (accepted, 0, c)

taken_whole : (t : List ℕ) (b : Book) (r : Replayed) (after : List ℕ) → outcome_of r after ≡ replayed t b → told_replay r.answer ≡ accepted
    → (told_line r.answer ≡ 0) × TakenWhole t b (book_of r.ledger after)
taken_whole t b r after e a =
    let w = all_taken (lines_of t) b (ap (λ (o : Outcome). o.0) (sym e) ∙ a) in
    let text = trace_read_back.only t w.lines w.read in
    let zero : told_line r.answer ≡ 0 = ap (λ (o : Outcome). o.1) e ∙ w.number in (
      zero,
      record {
        text_is = record { lines = w.lines; lawful = text.0; text_is = text.1 };
        replays = sym e ∙ ap₂ (λ (x : Consent) (i : ℕ). (x, i, book_of r.ledger after)) a zero;
      },
    )

-- ---- what a ledger tells

tells : (ls : List TraceLine) (lent : List ℕ) (l : Ledger) (after : List ℕ) → Every Lawful ls
    → replayed (written_all ls) (fresh lent) ≡ (accepted, 0, book_of l after) → Tells ls lent l after
tells ls lent l after lawful e =
    let read = trace_read_back.all ls lawful in
    let all : taken_all (map some ls) (fresh lent) ≡ (accepted, 0, book_of l after) = ap (λ (x : Lines). taken_all x (fresh lent)) (sym read) ∙ e in
    let list = list_exactly lent (written_all ls) ls (book_of l after) read e in
    record {
      counted = ap (λ (b : Book). b.lines) (Texts.whole_book lent ls (book_of l after) all);
      parents = λ σ h g.
          subst (Exact σ (reverse (events 0 ls))) (sym (told_is σ l h g)) (parents_exactly lent (written_all ls) ls (book_of l after) read e σ);
      notes = tabulate l.listed (note_at after);
      listed = list.entries;
      count = sym (length_tabulate l.listed (note_at after));
      entries = entries_are after l.listed;
      behind = list.behind;
      long = list.long;
    }

whole_tells : WholeTells
whole_tells text list r after g a =
    let w = taken_whole text.now (fresh list.now) r after (from_new text list r after g) a in
    let t = w.1.text_is in
    record {
      text_is = t;
      line = w.0;
      tells = tells t.lines list.now r.ledger after t.lawful
          (ap (λ (x : List ℕ). replayed x (fresh list.now)) (sym t.text_is) ∙ w.1.replays);
    }

-- ---- a text parted at a line

-- by what is read of it: these lines, and then this one
record PartedAt (t : List ℕ) (good : Lines) (bad : Option TraceLine) : Type 0 where
  at : Parted t
  good_are : good ≡ map some at.lines
  bad_is : front at.rest ≡ bad

some_read : (good : Lines) (bad : Option TraceLine) (rest : Lines) → ◌≡◌ {A = Lines} [] (good ++ bad ∷ rest) → ⊥
some_read good bad rest e = let long = ap length e ∙ length-append good (bad ∷ rest) in omega arith

not_empty : (t : List ℕ) (good : Lines) (bad : Option TraceLine) (rest : Lines) → lines_of t ≡ good ++ bad ∷ rest → 1 ≤ length t
not_empty [] good bad rest e = absurd (some_read good bad rest (sym lines_none ∙ e))
not_empty (c ∷ s) good bad rest e = omega arith

line_before : (m : TraceLine) (ls : List TraceLine) (rest : List ℕ) {t u : List ℕ} → t ≡ written m ++ u → u ≡ written_all ls ++ rest
    → t ≡ written_all (m ∷ ls) ++ rest
unfolding written_all
line_before m ls rest e f = e ∙ ap (λ (x : List ℕ). written m ++ x) f ∙ sym (append_assoc (written m) (written_all ls) rest)

parted_at : (good : Lines) (bad : Option TraceLine) (rest : Lines) (t : List ℕ) → lines_of t ≡ good ++ bad ∷ rest → PartedAt t good bad
unfolding written_all
parted_at [] bad rest t e =
    record {
      at = record { lines = []; lawful = tt; rest = t; some_left = not_empty t [] bad rest e; text_is = refl };
      good_are = refl;
      bad_is = by (front t) (sym (lines_some t (not_empty t [] bad rest e)) ∙ e);
    }
  where
    by : (o : Option TraceLine) → parted o t lines_of ≡ bad ∷ rest → o ≡ bad
    by none f = cc
    by (some m) f = cc
parted_at (x ∷ good) bad rest t e =
    by (front t) refl (sym (lines_some t (not_empty t (x ∷ good) bad rest e)) ∙ e) (parted_at good bad rest)
  where
    by : (o : Option TraceLine) → front t ≡ o → parted o t lines_of ≡ x ∷ (good ++ bad ∷ rest)
        → ((u : List ℕ) → lines_of u ≡ good ++ bad ∷ rest → PartedAt u good bad) → PartedAt t (x ∷ good) bad
    by none f g r = let nothing : ◌≡◌ {A = Lines} [] (good ++ bad ∷ rest) = cc in absurd (some_read good bad rest nothing)
    by (some m) f g r =
        let p = front_read t m f in
        let here : x ≡ some m = cc in
        let behind : lines_of (drop (length (written m)) t) ≡ good ++ bad ∷ rest = cc in
        let left : drop (length (written m)) t ≡ p.rest = ap (drop (length (written m))) p.text ∙ drop-append_seam (written m) p.rest in
        let more = r p.rest (ap lines_of (sym left) ∙ behind) in
        record {
          at = record {
            lines = m ∷ more.at.lines;
            lawful = (p.lawful, more.at.lawful);
            rest = more.at.rest;
            some_left = more.at.some_left;
            text_is = line_before m more.at.lines more.at.rest p.text more.at.text_is;
          };
          good_are = ap₂ (λ (y : Option TraceLine) (l : Lines). y ∷ l) here more.good_are;
          bad_is = more.bad_is;
        }

-- and back: what is read of it
abbrev rest_read : List ℕ → Lines
rest_read t = tail (parted (front t) t lines_of)

read_parted : (t : List ℕ) (p : Parted t) → lines_of t ≡ map some p.lines ++ front p.rest ∷ rest_read p.rest
read_parted t p =
    ap lines_of p.text_is
    ∙ trace_read_back.joined p.lines p.rest p.lawful
    ∙ ap (λ (x : Lines). map some p.lines ++ x) (lines_some p.rest p.some_left ∙ by (front p.rest))
  where
    by : (o : Option TraceLine) → parted o p.rest lines_of ≡ o ∷ tail (parted o p.rest lines_of)
    by none = refl
    by (some m) = refl

-- its lines alone, and what is read of them
taken_alone : {t : List ℕ} {good : Lines} (b : Book) (p : Parted t) → good ≡ map some p.lines → replayed (written_all p.lines) b ≡ taken_all good b
taken_alone b p e = ap (λ (x : Lines). taken_all x b) (trace_read_back.all p.lines p.lawful ∙ sym e)

one_list : (xs ys : List TraceLine) → ◌≡◌ {A = Lines} (map some xs) (map some ys) → xs ≡ ys
one_list [] [] e = refl
one_list [] (y ∷ ys) e = cc
one_list (x ∷ xs) [] e = cc
one_list (x ∷ xs) (y ∷ ys) e =
    let first : ◌≡◌ {A = Option TraceLine} (some x) (some y) = cc in
    let same : x ≡ y = cc in
    ap₂ (λ (z : TraceLine) (l : List TraceLine). z ∷ l) same (one_list xs ys cc)

-- ---- refusals

module _ (t lent : List ℕ) (k n : ℕ) (b : Book) where
  first_fault : replayed t (fresh lent) ≡ (refused k, n, b) → FirstFault t lent k n b
  first_fault e =
      let h = (Texts.halts_exactly lent t k n b).0 e in
      let p = parted_at (map some h.good) h.bad h.rest t h.lines in
      let same : h.good ≡ p.at.lines = one_list h.good p.at.lines p.good_are in
      record {
        at = p.at;
        line = h.number ∙ ap (λ (ls : List TraceLine). count_of (length ls + 1)) same;
        before = taken_alone (fresh lent) p.at p.good_are ∙ h.before;
        why =
            ap₂ (λ (o : Option TraceLine) (ls : List TraceLine). fault_of (room_in lent) n o (reverse (events 0 ls))) p.bad_is (sym same) ∙ h.why;
      }

  is_refused : FirstFault t lent k n b → replayed t (fresh lent) ≡ (refused k, n, b)
  is_refused f = (Texts.halts_exactly lent t k n b).1 (record {
    good = f.at.lines;
    bad = front f.at.rest;
    rest = rest_read f.at.rest;
    lines = read_parted t f.at;
    number = f.line;
    before = sym (taken_alone (fresh lent) f.at refl) ∙ f.before;
    why = f.why;
  })

refuses_exactly : RefusesExactly
refuses_exactly text list r after g = record {
  refuses = λ k. (refuses k, λ f. verdict_is (is_refused text.now list.now k (told_line r.answer) (book_of r.ledger after) f));
  accepts = (
    λ a k n b f. let v = verdict_is (is_refused text.now list.now k n b f) in cc,
    λ none-at-fault. by (told_replay r.answer) refl none-at-fault,
  );
  tells = λ k f. tells f.at.lines list.now r.ledger after f.at.lawful f.before;
}
  where
    verdict_is : {v : Consent} {n : ℕ} {b : Book} → replayed text.now (fresh list.now) ≡ (v, n, b) → told_replay r.answer ≡ v
    verdict_is e = ap (λ (o : Outcome). o.0) (from_new text list r after g ∙ e)

    refuses : (k : ℕ) → told_replay r.answer ≡ refused k → FirstFault text.now list.now k (told_line r.answer) (book_of r.ledger after)
    refuses k v =
        first_fault text.now list.now k (told_line r.answer) (book_of r.ledger after)
        (sym (from_new text list r after g) ∙ ap (λ (c : Consent). (c, told_line r.answer, book_of r.ledger after)) v)

    by : (c : Consent) → told_replay r.answer ≡ c → ((k n : ℕ) (b : Book) → FirstFault text.now list.now k n b → ⊥)
        → told_replay r.answer ≡ accepted
    by (given x) e h = e
    by (refused k) e h = absurd (h k (told_line r.answer) (book_of r.ledger after) (refuses k e))

-- an event is not refused for the form
abbrev NotForm : Answer Book → Type 0
NotForm a = a ≡ refused 18 → ⊥

given_fine : (b : Book) → NotForm (given b)
given_fine b e = cc

other_fine : (k : ℕ) → (k ≡ 18 → ⊥) → NotForm (refused k)
other_fine k h e = h cc

cond_fine : (t : Bool) (x y : Answer Book) → NotForm x → NotForm y → NotForm (cond t x y)
cond_fine true x y f g = f
cond_fine false x y f g = g

noted_fine : (n : Note) (b : Book) → NotForm (noted n b)
noted_fine n b = cond_fine (ltb b.listed (length b.list / 4)) _ _ (given_fine _) (other_fine 4 (λ e. omega arith))

decided_fine : (yea : Bool) (r : Request) (b : Book) → NotForm (decided yea r b)
decided_fine false r b = given_fine b
decided_fine true r b = cond_fine (is_beyond r) _ _ (noted_fine _ b) (given_fine _)

answering_fine : (a : Reply) (o : Option Request) (b : Book) → NotForm (answering a o b)
answering_fine a none b = noted_fine _ b
answering_fine a (some r) b = decided_fine a.agrees r _

step_fine : (x : Event) (b : Book) → NotForm (step x b)
step_fine (request r) b = cond_fine (ltb (length (b.pending r.cid)) 8) _ _ (given_fine _) (other_fine 17 (λ e. omega arith))
step_fine (reply a) b = answering_fine a (head? (b.pending a.cid)) b
step_fine (stop_at p) b = noted_fine _ b

steps_fine : (es : List Event) (b : Book) → NotForm (steps es b)
unfolding steps
steps_fine [] b = given_fine b
steps_fine (x ∷ es) b = by (step x b) (step_fine x b) (steps_fine es)
  where
    by : (z : Answer Book) → NotForm z → ((c : Book) → NotForm (steps es c)) → NotForm (onward z (steps es))
    by (given c) f h = h c
    by (refused k) f h = λ e. let same : k ≡ 18 = cc in f (ap refused same)

-- an answer is known from what it tells
answer_of : Consent → ℕ → Result Unit BadLine
answer_of (given x) n = Ok tt
answer_of (refused k) n = Err (record { reason = numbered k; line = n })

answer_back : (a : Result Unit BadLine) → answer_of (told_replay a) (told_line a) ≡ a
unfolding answer_of
answer_back (Ok x) = refl
answer_back (Err e) = ap (λ (r : Refusal). Err (record { reason = r; line = e.line })) (numbered_number e.reason)

answer_tells : {a b : Result Unit BadLine} → told_replay a ≡ told_replay b → told_line a ≡ told_line b → a ≡ b
answer_tells {a} {b} p q = sym (answer_back a) ∙ ap₂ answer_of p q ∙ answer_back b

same_from : (r : Replayed) (after : List ℕ) (s : Replayed) (after' : List ℕ) → outcome_of r after ≡ outcome_of s after' → Same r after s after'
same_from r after s after' e = record {
  answer = answer_tells (ap (λ (o : Outcome). o.0) e) (ap (λ (o : Outcome). o.1) e);
  book = ap (λ (o : Outcome). o.2) e;
}

-- a text whose first line is refused
at_once : (t : List ℕ) (c : Book) (k : ℕ) → 1 ≤ length t → taken (front t) c ≡ refused k → replayed t c ≡ (refused k, following c.lines, c)
unfolding taken_all
at_once t c k h why = ap (λ (x : Lines). taken_all x c) (lines_some t h) ∙ by (front t) why
  where
    by : (o : Option TraceLine) → taken o c ≡ refused k → taken_all (parted o t lines_of) c ≡ (refused k, following c.lines, c)
    by none e = ap (λ (z : Answer Book). going z c (taken_all [])) e
    by (some m) e = ap (λ (z : Answer Book). going z c (taken_all (lines_of (drop (length (written m)) t)))) e

refused_form : (t : List ℕ) (c : Book) (k : ℕ) → taken (front t) c ≡ refused k → (k ≡ 18) ↔ ((m : TraceLine) → BeginsWith t m → ⊥)
refused_form t c k why = (
  λ eighteen m begins.
      steps_fine (events_of (following c.lines) m) _
      (ap (λ (o : Option TraceLine). taken o c) (sym (read_is_inverse.back t m begins)) ∙ why ∙ ap refused eighteen),
  λ no_line. by (front t) refl no_line why,
)
  where
    by : (o : Option TraceLine) → front t ≡ o → ((m : TraceLine) → BeginsWith t m → ⊥) → taken o c ≡ refused k → k ≡ 18
    by none f no_line why = cc
    by (some m) f no_line why = absurd (no_line m (front_read t m f))

kept : (l : Ledger) (text : Bor (List ℕ)) (list : MutBor (List ℕ)) (r : Replayed) (after : List ℕ) (k : ℕ) (p : Parted text.now)
    → told_replay r.answer ≡ refused k → told_line r.answer ≡ following r.ledger.lines
    → replayed (written_all p.lines) (book_of l list.now) ≡ (accepted, 0, book_of r.ledger after)
    → taken (front p.rest) (book_of r.ledger after) ≡ refused k → KeptLines l text list r after k
kept l text list r after k p v n before why = record {
  at = p;
  line = n;
  before = λ alone lent s after' same lent_same replays.
      let o = outcome_at l alone lent s after' same lent_same replays ∙ before in
      (ap (λ (x : Outcome). x.0) o, sym (ap (λ (x : Outcome). x.2) o));
  again = λ left lent s after' same lent_same replays.
      same_from r after s after'
      (ap₂ (λ (x : Consent) (i : ℕ). (x, i, book_of r.ledger after)) v n
      ∙ sym (at_once p.rest (book_of r.ledger after) k p.some_left why)
      ∙ sym (outcome_at r.ledger left lent s after' same lent_same replays));
  why = why;
  form = refused_form p.rest (book_of r.ledger after) k why;
}

refusals_keep : RefusedLineKeeps
refusals_keep l text list r after k g v =
    let b : Book = book_of l list.now in
    let c : Book = book_of r.ledger after in
    let h = Texts.refusal_keeps text.now k (told_line r.answer) b c (sym (outcome l text list r after g) ∙ ap (λ (x : Consent). (x, told_line r.answer, c)) v) in
    let p = parted_at h.good h.bad h.rest text.now h.lines in
    kept l text list r after k p.at v h.number (taken_alone b p.at p.good_are ∙ h.before)
    (ap (λ (o : Option TraceLine). taken o c) p.bad_is ∙ h.why)

-- ---- the text's form

form_is : FormIs
form_is = record {
  accepted_is = λ l text list r after g a.
      (taken_whole text.now (book_of l list.now) r after (outcome l text list r after g) a).1.text_is;
  one = λ ls ms p q e. one_list ls ms (sym (trace_read_back.all ls p) ∙ ap lines_of e ∙ trace_read_back.all ms q);
}

-- ---- line by line

line_by_line : FedAsItComes
line_by_line l text more joined list lent r s after after' two joined_is Lent-is one =
    let b : Book = book_of l list.now in
    let c : Book = book_of two.first.ledger two.left.now in
    let w = taken_whole text.now b two.first two.left.now
    (outcome l text list two.first two.left.now two.one) two.whole in
    same_from r after s after'
    (outcome two.first.ledger more two.left r after two.two
    ∙ sym (Texts.text_by_text trace_read_back text.now more.now b c w.1.replays)
    ∙ sym (outcome_at l joined lent s after' joined_is Lent-is one))

books_tell : BooksTell
books_tell l m list list' e =
    let lists : list ≡ list' = ap (λ (b : Book). b.list) e in
    record {
      lists = lists;
      counts = (ap (λ (b : Book). b.lines) e, ap (λ (b : Book). b.listed) e);
      settings = λ σ h g p q. in-hand σ l h p ∙ ap (λ (b : Book). in_hand (shown σ (b.held σ))) e ∙ sym (in-hand σ m g q);
      on = λ text lent text' lent' r s after after' text_is Lent-is lent'-is p q.
          same_from r after s after'
          (outcome_at l text lent r after text_is Lent-is p ∙ ap (replayed text'.now) e ∙ sym (outcome_at m text' lent' s after' refl lent'-is q));
    }

-- ---- nothing is guessed

nothing_guessed : (n : ℕ) (l : TraceLine) (stream : Bor (List ℕ)) → stream.now ≡ l.stream → NothingGuessed n l stream
unfolding events_of
nothing_guessed n l stream e =
    let w : Walk = walk_of (length_of (rules_for l)) stream.now in
    record {
      cmds = w.cmds;
      ending = w.ending;
      read = Handing.reads (rules_for l) stream;
      events_are = ap (λ (s : List ℕ). walk_events (rules_for l) n l.frame (walk_of (length_of (rules_for l)) s)) (sym e);
    }

pub ledger_tells : Every Holds examples → LedgerTells
ledger_tells hold = record {
  whole_tells = whole_tells;
  refuses_exactly = refuses_exactly;
  refusals_keep = refusals_keep;
  says_which = λ e. (refl, refl);
  says_none = (refl, refl);
  form_is = form_is;
  line_by_line = line_by_line;
  books_tell = books_tell;
  nothing_guessed = nothing_guessed;
  named_either = named_either;
  matching = queue_is_matching;
  strays = stray_is_unmatched;
  open_ones = open_are_unanswered;
  exact_is_one = exact_is_one;
  listed_is_one = listed_is_one;
  in_order = effects_in_order;
  higher_not_held = higher_not_held;
  examples_hold = hold;
}

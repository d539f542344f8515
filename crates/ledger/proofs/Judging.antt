-- A line is judged rightly before anything of it is written: what its commands will find is known from the open requests before it, and from how
-- many commands of each CID went before. Assumes nothing.
use Prim.Native.Nat.{ℕ, zero, suc, ◌+◌, ◌-◌, ◌*◌, ◌/◌, ◌<◌, ◌≤◌}
use mathlib.Core.Bool.{Bool, true, false, cond, ◌&&◌, true≢false}
use mathlib.Core.List.{List, [], ◌∷◌, ◌++◌, head?, tail, map}
use Rattle.std.specs.Prelude.{None, Some, slice_get}
use mathlib.Core.Option.{Option, none, some}
use mathlib.Core.Path.{◌≡◌, refl, sym, ap, ◌∙◌, subst}
use native.Mathlib.Decide.{dec_lt}
use native.Mathlib.Nat.{sub-zero}
use native.Mathlib.Omega.{arith}
use borrow.Author.Tests.{eqb-true, eqb-false, lt-ltb, le-ltb}
use lib.Dec.{eqb, ltb}
use lib.ListN.{length, get_or, take, drop, set, replicate, length-append, length-set, get_or-replicate, get_or-eq_default}
use lib.Seq.{drop-drop, get_or-set_same, get_or-set_other}
use Rattle.bits.proofs.Memory.{over_length}
use Rattle.bits.specs.Bits.{bit_of}
use Rattle.bits.specs.Memory.{over}
use Rattle.payloads.specs.Commands.{in_five}
use Rattle.table.specs.Answers.{Answer, given, refused, accepted}
use Rattle.table.specs.Table.{length_of}
use Rattle.table.specs.declared.rules.Rules.{Rules}
use Rattle.walk.specs.Step.{ended as ended_step, command, stopped as stopped_at, heading, step_at}
use Rattle.walk.specs.Walk.{placed}
use Rattle.ledger.specs.Book.{Book, in_four, noted, put, opening, takes_effect, decided, answering, asked, step, onward, steps}
use Rattle.ledger.specs.Events.{Request, Reply, Event, request, reply, is_request, agrees_with, place, event_of}
use Rattle.ledger.specs.Memory.{request_of, open_requests, open_in, pending_in}
use Rattle.ledger.specs.Parents.{Note, beyond, stray, stopped, brought_by}
use Rattle.ledger.specs.Settings.{is_beyond}
use Rattle.ledger.specs.Working.{reply_of, book_in, ended, events_from, taking, left_behind, Judges}
use Rattle.ledger.specs.declared.memory.Asked.{Asked}
use Rattle.ledger.specs.declared.memory.Queue.{Queue}
use Rattle.ledger.specs.declared.memory.Parents.{Parents}
use Rattle.ledger.proofs.Walking.{Stands, stands, events_command, events_end, events_stop, never_refused}

-- ---- lists

tail_drop : {A : Type 0} (n : ℕ) (l : List A) → tail (drop n l) ≡ drop (n + 1) l
tail_drop {A} n l = one (drop n l) ∙ drop-drop 1 n l
  where
    one : (x : List A) → tail x ≡ drop 1 x
    one [] = refl
    one (a ∷ x) = refl

none_tail : {A : Type 0} (l : List A) → head? l ≡ none → l ≡ tail l
none_tail [] e = refl
none_tail (a ∷ l) e = let no_way : ◌≡◌ {A = ℕ} 0 1 = cc in absurd (omega arith)

-- ---- whether an answer brings an entry

open_none : (c : ℕ) (l : List Asked) (k : ℕ) → slice_get l k ≡ None → head? (drop k (map (request_of c) l)) ≡ none
open_none c [] zero e = refl
open_none c [] (suc k) e = refl
open_none c (x ∷ l) zero e = cc
open_none c (x ∷ l) (suc k) e = open_none c l k e

open_some : (c : ℕ) (l : List Asked) (k : ℕ) (r : Asked) → slice_get l k ≡ Some r → head? (drop k (map (request_of c) l)) ≡ some (request_of c r)
open_some c [] zero r e = cc
open_some c [] (suc k) r e = cc
open_some c (x ∷ l) zero r e = let same : x ≡ r = cc in ap (λ (y : Asked). some (request_of c y)) same
open_some c (x ∷ l) (suc k) r e = open_some c l k r e

module _ (q : Queue) (c k : ℕ) (yea : Bool) where
  abbrev pub brought : ℕ
  brought = length (brought_by (reply_of c yea 0 0 0) (head? (drop k (open_requests c q))))

  pub due_stray : slice_get (open_in q) k ≡ None → 1 ≡ brought
  due_stray h = sym (ap (λ (o : Option Request). length (brought_by (reply_of c yea 0 0 0) o)) (open_none c (open_in q) k h))

  module _ (r : Asked) (h : slice_get (open_in q) k ≡ Some r) where
    brought_at : brought ≡ length (brought_by (reply_of c yea 0 0 0) (some (request_of c r)))
    brought_at = ap (λ (o : Option Request). length (brought_by (reply_of c yea 0 0 0) o)) (open_some c (open_in q) k r h)

    -- the request that it finds is for a channel that is not held, or for one that is
    pub due_far : is_beyond (request_of c r) ≡ true → bit_of yea ≡ brought
    due_far e = sym (brought_at ∙ by yea)
      where
        by : (t : Bool) → length (brought_by (reply_of c t 0 0 0) (some (request_of c r))) ≡ bit_of t
        by true = rw e
        by false = refl

    pub due_near : is_beyond (request_of c r) ≡ false → 0 ≡ brought
    due_near e = sym (brought_at ∙ by yea)
      where
        by : (t : Bool) → length (brought_by (reply_of c t 0 0 0) (some (request_of c r))) ≡ 0
        by true = rw e
        by false = refl

-- ---- what a command takes of the room, and what comes of it

pub taking_none : (left : ℕ) → taking 0 left ≡ given left
taking_none left = rw (le-ltb left 0 (omega arith)) (ap given (sub-zero left))

abbrev left_in : Book → ℕ
left_in b = length b.list / 4 - b.listed

-- one more of the CID c
abbrev more : List ℕ → ℕ → List ℕ
more seen c = set seen c (get_or seen c 0 + 1)

module _ (asks : ℕ → Bool) (p : List Queue) where
  -- what is known of the open requests, where so many commands of each CID went before
  record Kept (pending : ℕ → List Request) (seen : List ℕ) : Type 0 where
    asked_more : (c : ℕ) → asks c ≡ true → length (pending c) ≡ length (pending_in p c) + get_or seen c 0
    answered : (c : ℕ) → asks c ≡ false → pending c ≡ drop (get_or seen c 0) (pending_in p c)

  -- a book is handed on, with so many commands seen and so much room left
  record On (a : Answer Book) (seen : List ℕ) (left : ℕ) : Type 0 where
    book : Book
    is : a ≡ given book
    kept : Kept book.pending seen
    room : left ≡ left_in book

  -- a command hands a book on that has this room left, or is refused so
  record Outcome (x : Answer ℕ) (a : Answer Book) (seen : List ℕ) : Type 0 where
    goes : (left : ℕ) → x ≡ given left → On a seen left
    stops : (k : ℕ) → x ≡ refused k → a ≡ refused k

  outcome_none : {b : Book} {seen : List ℕ} (left : ℕ) → Kept b.pending seen → left ≡ left_in b → Outcome (given left) (given b) seen
  outcome_none {b} left k r = record {
    goes = λ m e. let same : left ≡ m = cc in record { book = b; is = refl; kept = k; room = sym same ∙ r };
    stops = λ m e. cc;
  }

  outcome_full : {seen : List ℕ} → Outcome (refused 17) (refused 17) seen
  outcome_full = record { goes = λ m e. cc; stops = λ m e. let same : 17 ≡ m = cc in ap refused same }

  outcome_due : (n : Note) (b : Book) {seen : List ℕ} (left : ℕ) → Kept b.pending seen → left ≡ left_in b → Outcome (taking 1 left) (noted n b) seen
  outcome_due n b {seen} left k r = by (dec_lt 0 left)
    where
      written : List ℕ
      written = over b.list (4 * b.listed) (in_four n)

      with_note : Book
      with_note = record { lines = b.lines; listed = b.listed + 1; pending = b.pending; held = b.held; list = written }

      by : Dec (0 < left) → Outcome (taking 1 left) (noted n b) seen
      by (no e) =
          let f : taking 1 left ≡ refused 4 = rw (lt-ltb left 1 (omega arith)) in
          let full : ltb b.listed (length b.list / 4) ≡ false = le-ltb b.listed (length b.list / 4) (omega arith) in
          record { goes = λ m z. cc; stops = λ m z. let same : 4 ≡ m = cc in rw full (ap refused same) }
      by (yes e) =
          let f : taking 1 left ≡ given (left - 1) = rw (le-ltb left 1 (omega arith)) in
          let there : ltb b.listed (length b.list / 4) ≡ true = lt-ltb b.listed (length b.list / 4) (omega arith) in
          let same : length written ≡ length b.list = over_length b.list (4 * b.listed) (in_four n) (omega arith) in
          record {
            goes = λ m z. let one_less : left - 1 ≡ m = cc in
                record { book = with_note; is = rw there; kept = k; room = omega (arith, ap (λ (i : ℕ). i / 4) same) };
            stops = λ m z. cc;
          }

  -- of the last event
  last_ended : (x : Answer ℕ) {a : Answer Book} {seen : List ℕ} → Outcome x a seen → ended x ≡ ended (onward a (λ b. given b))
  last_ended (given left) o = sym (ap (λ (y : Answer Book). ended (onward y (λ b. given b))) (o.goes left refl).is)
  last_ended (refused k) o = sym (ap (λ (y : Answer Book). ended (onward y (λ b. given b))) (o.stops k refl))

  -- one request more, or one answer
  kept_request : {pending : ℕ → List Request} {seen : List ℕ} (r : Request) → asks r.cid ≡ true → r.cid < length seen → Kept pending seen
      → Kept (put r.cid (pending r.cid ++ (r ∷ [])) pending) (more seen r.cid)
  kept_request {pending} {seen} r w h k = record {
    asked_more = λ c e. here c e (eqb r.cid c) refl;
    answered = λ c e. other c e (eqb r.cid c) refl;
  }
    where
      here : (c : ℕ) → asks c ≡ true → (t : Bool) → eqb r.cid c ≡ t
          → length (cond t (pending r.cid ++ (r ∷ [])) (pending c)) ≡ length (pending_in p c) + get_or (more seen r.cid) c 0
      here c e true q =
          let same : r.cid ≡ c = eqb-true r.cid c q in
          rw (← same, get_or-set_same seen r.cid (get_or seen r.cid 0 + 1) 0 h, length-append) (omega (arith, k.asked_more r.cid w))
      here c e false q = rw (get_or-set_other seen r.cid c (get_or seen r.cid 0 + 1) 0 (λ z. eqb-false r.cid c q (sym z))) (k.asked_more c e)

      other : (c : ℕ) → asks c ≡ false → (t : Bool) → eqb r.cid c ≡ t
          → cond t (pending r.cid ++ (r ∷ [])) (pending c) ≡ drop (get_or (more seen r.cid) c 0) (pending_in p c)
      other c e true q = absurd (true≢false (sym w ∙ ap asks (eqb-true r.cid c q) ∙ e))
      other c e false q = rw (get_or-set_other seen r.cid c (get_or seen r.cid 0 + 1) 0 (λ z. eqb-false r.cid c q (sym z))) (k.answered c e)

  kept_answer : {pending : ℕ → List Request} {seen : List ℕ} (d : ℕ) → asks d ≡ false → d < length seen → Kept pending seen
      → Kept (put d (tail (pending d)) pending) (more seen d)
  kept_answer {pending} {seen} d w h k = record { asked_more = λ c e. other c e (eqb d c) refl; answered = λ c e. here c e (eqb d c) refl }
    where
      here : (c : ℕ) → asks c ≡ false → (t : Bool) → eqb d c ≡ t
          → cond t (tail (pending d)) (pending c) ≡ drop (get_or (more seen d) c 0) (pending_in p c)
      here c e true q =
          let same : d ≡ c = eqb-true d c q in
          rw (← same, get_or-set_same seen d (get_or seen d 0 + 1) 0 h) (ap tail (k.answered d w) ∙ tail_drop (get_or seen d 0) (pending_in p d))
      here c e false q = rw (get_or-set_other seen d c (get_or seen d 0 + 1) 0 (λ z. eqb-false d c q (sym z))) (k.answered c e)

      other : (c : ℕ) → asks c ≡ true → (t : Bool) → eqb d c ≡ t
          → length (cond t (tail (pending d)) (pending c)) ≡ length (pending_in p c) + get_or (more seen d) c 0
      other c e true q = absurd (true≢false (sym e ∙ ap asks (sym (eqb-true d c q)) ∙ w))
      other c e false q = rw (get_or-set_other seen d c (get_or seen d 0 + 1) 0 (λ z. eqb-false d c q (sym z))) (k.asked_more c e)

  -- an answer without a request: nothing is open, and nothing leaves
  kept_stray : {pending : ℕ → List Request} {seen : List ℕ} (d : ℕ) → asks d ≡ false → d < length seen → head? (pending d) ≡ none → Kept pending seen
      → Kept pending (more seen d)
  kept_stray {pending} {seen} d w h e k =
      let m = kept_answer d w h k in
      record { asked_more = λ c q. ap length (same c (eqb d c) refl) ∙ m.asked_more c q; answered = λ c q. same c (eqb d c) refl ∙ m.answered c q }
    where
      same : (c : ℕ) (t : Bool) → eqb d c ≡ t → pending c ≡ cond t (tail (pending d)) (pending c)
      same c true q = ap pending (sym (eqb-true d c q)) ∙ none_tail (pending d) e
      same c false q = refl

  module _ (b : Book) {seen : List ℕ} (left : ℕ) (k : Kept b.pending seen) (r : left ≡ left_in b) where
    request_outcome : (q : Request) → asks q.cid ≡ true → q.cid < length seen → (yea : Bool)
        → Outcome (left_behind (pending_in p q.cid) true (get_or seen q.cid 0) q.cid yea left) (asked q b) (more seen q.cid)
    request_outcome q w h yea =
        subst (λ (m : ℕ). Outcome (cond (ltb m 8) (given left) (refused 17)) (asked q b) (more seen q.cid)) (k.asked_more q.cid w)
        (by (ltb (length (b.pending q.cid)) 8))
      where
        by : (t : Bool) → Outcome (cond t (given left) (refused 17)) (cond t (given (opening q.cid (b.pending q.cid ++ (q ∷ [])) b)) (refused 17))
            (more seen q.cid)
        by true = outcome_none left (kept_request q w h k) r
        by false = outcome_full

    answer_outcome : (a : Reply) → asks a.cid ≡ false → a.cid < length seen
        → Outcome (left_behind (pending_in p a.cid) false (get_or seen a.cid 0) a.cid a.agrees left) (answering a (head? (b.pending a.cid)) b)
        (more seen a.cid)
    answer_outcome a w h =
        subst (λ (l : List Request). Outcome (due (head? l)) (answering a (head? (b.pending a.cid)) b) (more seen a.cid))
        (k.answered a.cid w)
        (by (head? (b.pending a.cid)) refl)
      where
        due : Option Request → Answer ℕ
        due o = taking (length (brought_by (reply_of a.cid a.agrees 0 0 0) o)) left

        after : Book
        after = opening a.cid (tail (b.pending a.cid)) b

        beyond_by : (q : Request) (t : Bool) → Outcome (taking (length (cond t (beyond q.at ∷ []) [])) left)
            (cond t (noted (beyond q.at) after) (given (takes_effect q after))) (more seen a.cid)
        beyond_by q true = outcome_due (beyond q.at) after left (kept_answer a.cid w h k) r
        beyond_by q false = rw taking_none (outcome_none left (kept_answer a.cid w h k) r)

        decided_by : (q : Request) (y : Bool) → Outcome (taking (length (cond (y && is_beyond q) (beyond q.at ∷ []) [])) left) (decided y q after)
            (more seen a.cid)
        decided_by q true = beyond_by q (is_beyond q)
        decided_by q false = rw taking_none (outcome_none left (kept_answer a.cid w h k) r)

        by : (o : Option Request) → head? (b.pending a.cid) ≡ o → Outcome (due o) (answering a o b) (more seen a.cid)
        by none e = outcome_due (stray a.at) b left (kept_stray a.cid w h e k) r
        by (some q) e = decided_by q a.agrees

-- ---- along a line

abbrev pub unseen : List ℕ
unseen = replicate 16 0

none_seen : (c : ℕ) → get_or unseen c 0 ≡ 0
none_seen c = by (dec_lt c 16)
  where
    by : Dec (c < 16) → get_or unseen c 0 ≡ 0
    by (yes h) = get_or-replicate 16 c 0 0 h
    by (no h) = get_or-eq_default unseen 0 {n = c} (omega arith)

module _ (rules : Rules) (s : List ℕ) (p : List Queue) (listed room : ℕ) where
  -- the events from an offset on, in this book, are refused as all events are
  record Stage (n f lines : ℕ) (h : List Parents) (l : List ℕ) (at : ℕ) (seen : List ℕ) (left : ℕ) : Type 0 where
    book : Book
    same : ended (steps (events_from rules n f s 0) (book_in lines listed p h l)) ≡ ended (steps (events_from rules n f s at) book)
    kept : Kept (is_request rules) p book.pending seen
    left_is : left ≡ left_in book

  -- up to an offset nothing is refused, and so many commands of each CID stand before it
  pub record Judged (at : ℕ) (seen : List ℕ) (left : ℕ) : Type 0 where
    pub within : at ≤ length s
    pub sixteen : length seen ≡ 16
    pub few : (c : ℕ) → get_or seen c 0 ≤ at
    stage : (n f lines : ℕ) (h : List Parents) (l : List ℕ) → length l / 4 ≡ room → Stage n f lines h l at seen left

  pub judged_none : {left : ℕ} → left ≡ room - listed → Judged 0 unseen left
  judged_none {left} e = record {
    within = omega arith;
    sixteen = refl;
    few = λ c. omega (arith, none_seen c);
    stage = λ n f lines h l r. record {
      book = book_in lines listed p h l;
      same = refl;
      kept = record {
        asked_more = λ c q. omega (arith, none_seen c);
        answered = λ c q. sym (ap (λ (k : ℕ). drop k (pending_in p c)) (none_seen c));
      };
      left_is = omega arith;
    };
  }

  module _ {at : ℕ} {seen : List ℕ} {left : ℕ} (j : Judged at seen left) where
    pub judged_end : step_at (length_of rules) s at ≡ given ended_step → Judges rules s p listed room accepted
    unfolding steps
    judged_end e n f lines h l r =
        let t = j.stage n f lines h l r in
        sym (t.same ∙ ap (λ (es : List Event). ended (steps es t.book)) (events_end rules n f s at j.within e))

    pub judged_never : {k : ℕ} → step_at (length_of rules) s at ≡ refused k → Judges rules s p listed room accepted
    judged_never e = absurd (never_refused rules s at j.within e)

    pub judged_stop : {k o : ℕ} {x : Answer ℕ} → step_at (length_of rules) s at ≡ given (stopped_at k o) → x ≡ taking 1 left
        → Judges rules s p listed room (ended x)
    unfolding steps
    judged_stop {x = x} e y n f lines h l r =
        let t = j.stage n f lines h l r in
        let o = outcome_due (is_request rules) p (stopped (place n f at)) t.book left t.kept t.left_is in
        ap ended y
        ∙ last_ended (is_request rules) p (taking 1 left) o
        ∙ sym (t.same ∙ ap (λ (es : List Event). ended (steps es t.book)) (events_stop rules n f s at j.within e))

    module _ {cid len next : ℕ} (e : step_at (length_of rules) s at ≡ given (command (heading cid len) next)) where
      abbrev payload : List ℕ
      payload = take len (drop (at + 1) s)

      abbrev behind : Answer ℕ
      behind = left_behind (pending_in p cid) (is_request rules cid) (get_or seen cid 0) cid (agrees_with cid payload) left

      outcome : (n f : ℕ) (b : Book) → Kept (is_request rules) p b.pending seen → left ≡ left_in b
          → Outcome (is_request rules) p behind (step (event_of rules n f (placed at cid payload)) b) (more seen cid)
      outcome n f b k r = by (is_request rules cid) refl
        where
          low : cid < length seen
          low = omega (arith, (stands rules s e).low, j.sixteen)

          asking : Request
          asking = record { at = place n f at; cid = cid; body = (in_five payload).1 }

          replying : Reply
          replying = record { at = place n f at; cid = cid; agrees = agrees_with cid payload }

          by : (t : Bool) → is_request rules cid ≡ t
              → Outcome (is_request rules) p (left_behind (pending_in p cid) t (get_or seen cid 0) cid (agrees_with cid payload) left)
              (step (cond t (request asking) (reply replying)) b) (more seen cid)
          by true q = request_outcome (is_request rules) p b left k r asking q low (agrees_with cid payload)
          by false q = answer_outcome (is_request rules) p b left k r replying q low

      pub judged_fault : {k : ℕ} → refused k ≡ behind → Judges rules s p listed room (refused k)
      unfolding steps
      judged_fault {k} z n f lines h l r =
          let t = j.stage n f lines h l r in
          let o = outcome n f t.book t.kept t.left_is in
          sym (t.same ∙ ap (λ (es : List Event). ended (steps es t.book)) (events_command rules n f s at e)
          ∙ ap (λ (x : Answer Book). ended (onward x (steps (events_from rules n f s next)))) (o.stops k (sym z)))

      pub judged_next : {after : ℕ} → given after ≡ behind → Judged next (more seen cid) after
      unfolding steps
      judged_next {after} z = record {
        within = (stands rules s e).fits;
        sixteen = length-set seen cid (get_or seen cid 0 + 1) ∙ j.sixteen;
        few = λ c. few_by c (dec_lt c cid) (dec_lt cid c);
        stage = λ n f lines h l r.
            let t = j.stage n f lines h l r in
            let o = (outcome n f t.book t.kept t.left_is).goes after (sym z) in
            record {
              book = o.book;
              same = t.same ∙ ap (λ (es : List Event). ended (steps es t.book)) (events_command rules n f s at e)
                  ∙ ap (λ (x : Answer Book). ended (onward x (steps (events_from rules n f s next)))) o.is;
              kept = o.kept;
              left_is = o.room;
            };
      }
        where
          g : Stands rules s at cid len next
          g = stands rules s e

          few_by : (c : ℕ) → Dec (c < cid) → Dec (cid < c) → get_or (more seen cid) c 0 ≤ next
          few_by c (yes h) d = rw (get_or-set_other seen cid c (get_or seen cid 0 + 1) 0 (λ x. omega arith)) (omega (arith, j.few c, g.behind))
          few_by c (no h) (yes d) = rw (get_or-set_other seen cid c (get_or seen cid 0 + 1) 0 (λ x. omega arith)) (omega (arith, j.few c, g.behind))
          few_by c (no h) (no d) =
              let c_is : c ≡ cid = omega arith in
              let low : cid < length seen = omega (arith, g.low, j.sixteen) in
              rw (c_is, get_or-set_same seen cid (get_or seen cid 0 + 1) 0 low) (omega (arith, j.few cid, g.behind))

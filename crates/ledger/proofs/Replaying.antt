-- Step by step a ledger is what the past says: events and lines, taken from the ledger after a past, are refused as the past says, and else come
-- to the ledger after the longer past. Assumes nothing.
use Prim.Native.Nat.{ℕ, ◌+◌, ◌*◌, ◌/◌, ◌<◌, ◌≤◌}
use mathlib.Core.Bool.{Bool, true, false, cond, ◌&&◌, ◌||◌, true≢false}
use mathlib.Core.List.{List, [], ◌∷◌, ◌++◌, head?, tail, append-nil, append_assoc, reverse_aux}
use mathlib.Core.Logic.{◌⊎◌, inl, inr}
use mathlib.Core.Option.{Option, none, some}
use mathlib.Core.Path.{◌≡◌, refl, sym, ap, ◌∙◌, fun_ext}
use native.Mathlib.Omega.{arith}
use borrow.Author.Tests.{eqb-true, eqb-false, ltb-true, ne_eqb, le-ltb}
use lib.Dec.{eqb, ltb}
use lib.ListN.{length, take, drop, length-append, length-drop}
use lib.Seq.{take-take, take-append_seam, drop-append-add, drop-drop}
use Rattle.bits.specs.Memory.{over}
use Rattle.table.specs.Answers.{Answer, given, refused}
use Rattle.fields.specs.Places.{number_at, new_channel_req_channel_index, dl_channel_req_channel_index}
use Rattle.ledger.specs.Book.{Book, in_four, noted, put, takes_effect, decided, answering, step, onward, steps, taken}
use Rattle.ledger.specs.Claims.{in_numbers, book_after, full, fault, or_else, first_fault, fault_of, room_in, HigherNotHeld}
use Rattle.ledger.specs.Events.{Request, Reply, Event, request, reply, stop_at, events_of, following}
use Rattle.ledger.specs.Matching.{unanswered, open_after, answered_by}
use Rattle.ledger.specs.Parents.{joining, parents, Note, beyond, stray, stopped, brought_by, due, notes}
use Rattle.ledger.specs.Settings.{
  Setting,
  data_rate,
  tx_power,
  channel_mask,
  redundancy,
  max_duty_cycle,
  rx1_dr_offset,
  rx2_data_rate,
  rx2_frequency,
  delay,
  downlink_dwell_time,
  uplink_dwell_time,
  max_eirp,
  channel_frequency,
  channel_rates,
  downlink_frequency,
  writes,
  is_beyond,
}
use Rattle.ledger.specs.Trace.{TraceLine}

-- ---- a request for a channel that is not held writes nothing

-- its CID is 7 or 10, and the channel that stands there is over 15
abbrev High : (c i j : ℕ) → Type 0
High c i j = ((c ≡ 7) × (15 < i)) ⊎ ((c ≡ 10) × (15 < j))

high : (c i j : ℕ) → (eqb c 7 && ltb 15 i) || (eqb c 10 && ltb 15 j) ≡ true → High c i j
high c i j h = by (eqb c 7) refl (ltb 15 i) refl (eqb c 10) refl (ltb 15 j) refl h
  where
    by : (p : Bool) → eqb c 7 ≡ p → (q : Bool) → ltb 15 i ≡ q → (s : Bool) → eqb c 10 ≡ s → (t : Bool) → ltb 15 j ≡ t → (p && q) || (s && t) ≡ true
        → High c i j
    by true p true q s r t u h = inl (eqb-true c 7 p, ltb-true 15 i q)
    by true p false q true r true u h = inr (eqb-true c 10 r, ltb-true 15 j u)
    by true p false q true r false u h = absurd (true≢false (sym h))
    by true p false q false r t u h = absurd (true≢false (sym h))
    by false p b q true r true u h = inr (eqb-true c 10 r, ltb-true 15 j u)
    by false p b q true r false u h = absurd (true≢false (sym h))
    by false p b q false r t u h = absurd (true≢false (sym h))

-- so it is no request of another CID, and for no channel below 16
other_cid : {c i j : ℕ} (d : ℕ) (x : Bool) → eqb d 7 ≡ false → eqb d 10 ≡ false → High c i j → eqb c d && x ≡ false
other_cid {c} d x p q h =
    ap (λ (b : Bool). b && x) (ne_eqb c d (λ e. elim h [ inl s ↦ eqb-false d 7 p (sym e ∙ s.0) | inr s ↦ eqb-false d 10 q (sym e ∙ s.0) ]))

other_channel : (b : Bool) (n i : ℕ) → 15 < i → b && (eqb n i && ltb n 16) ≡ false
other_channel false n i h = refl
other_channel true n i h = by (eqb n i) refl
  where
    by : (b : Bool) → eqb n i ≡ b → b && ltb n 16 ≡ false
    by false e = refl
    by true e = le-ltb n 16 (omega (arith, eqb-true n i e))

at_seven : {c i j : ℕ} (n : ℕ) → High c i j → eqb c 7 && (eqb n i && ltb n 16) ≡ false
at_seven {c} {i} {j} n (inl s) = other_channel (eqb c 7) n i s.1
at_seven {c} {i} {j} n (inr s) = ap (λ (b : Bool). b && (eqb n i && ltb n 16)) (ap (λ (k : ℕ). eqb k 7) s.0)

at_ten : {c i j : ℕ} (n : ℕ) → High c i j → eqb c 10 && (eqb n j && ltb n 16) ≡ false
at_ten {c} {i} {j} n (inl s) = ap (λ (b : Bool). b && (eqb n j && ltb n 16)) (ap (λ (k : ℕ). eqb k 10) s.0)
at_ten {c} {i} {j} n (inr s) = other_channel (eqb c 10) n j s.1

pub higher_not_held : HigherNotHeld
higher_not_held r b = by (high r.cid (number_at new_channel_req_channel_index r.body) (number_at dl_channel_req_channel_index r.body) b)
  where
    by : High r.cid (number_at new_channel_req_channel_index r.body) (number_at dl_channel_req_channel_index r.body) → (σ : Setting)
        → writes r σ ≡ false
    by h data_rate = other_cid 3 true refl refl h
    by h tx_power = other_cid 3 true refl refl h
    by h channel_mask = other_cid 3 true refl refl h
    by h redundancy = other_cid 3 true refl refl h
    by h max_duty_cycle = other_cid 4 true refl refl h
    by h rx1_dr_offset = other_cid 5 true refl refl h
    by h rx2_data_rate = other_cid 5 true refl refl h
    by h rx2_frequency = other_cid 5 true refl refl h
    by h delay = other_cid 8 true refl refl h
    by h downlink_dwell_time = other_cid 9 true refl refl h
    by h uplink_dwell_time = other_cid 9 true refl refl h
    by h max_eirp = other_cid 9 true refl refl h
    by h (channel_frequency n) = at_seven n h
    by h (channel_rates n) = at_seven n h
    by h (downlink_frequency n) = at_ten n h

-- ---- an open request, and an answer to it

-- what is open, changed in its place, is what is open of each CID, changed if it is that one
put_at : (f : List Request → List Request) (qs : ℕ → List Request) (c d : ℕ) (b : Bool) → eqb c d ≡ b
    → cond b (f (qs c)) (qs d) ≡ cond b (f (qs d)) (qs d)
put_at f qs c d true e = ap (λ (k : ℕ). f (qs k)) (eqb-true c d e)
put_at f qs c d false e = refl

nothing_leaves : (rs : List Request) → head? rs ≡ none → tail rs ≡ rs
nothing_leaves [] h = refl
nothing_leaves (r ∷ rs) h = cc

-- so a stray changes nothing
unmoved : (past : List Event) (c d : ℕ) → head? (unanswered c past) ≡ none → (b : Bool) → eqb c d ≡ b
    → unanswered d past ≡ cond b (tail (unanswered d past)) (unanswered d past)
unmoved past c d h true e = sym (nothing_leaves (unanswered d past) (ap (λ (k : ℕ). head? (unanswered k past)) (sym (eqb-true c d e)) ∙ h))
unmoved past c d h false e = refl

cond_same : {A : Type 0} (b : Bool) (x : A) → cond b x x ≡ x
cond_same true x = refl
cond_same false x = refl

-- ---- the last two parents

held_on : (b : Bool) (r : Request) (ps : List Request) → cond b (take 2 (r ∷ take 2 ps)) (take 2 ps) ≡ take 2 (cond b (r ∷ ps) ps)
held_on true r ps = ap (λ (l : List Request). r ∷ l) (take-take 1 2 ps (omega arith))
held_on false r ps = refl

-- ---- the list

numbers_append : (ms ns : List Note) → in_numbers (ms ++ ns) ≡ in_numbers ms ++ in_numbers ns
numbers_append [] ns = refl
numbers_append (m ∷ ms) ns = ap (λ (l : List ℕ). in_four m ++ l) (numbers_append ms ns)

pub numbers_long : (ns : List Note) → length (in_numbers ns) ≡ 4 * length ns
numbers_long [] = refl
numbers_long (n ∷ ns) = omega (arith, numbers_long ns)

-- the numbers of a list that is as it was lent behind its entries
abbrev pub list_of : List ℕ → List Note → List ℕ
list_of lent ns = in_numbers ns ++ drop (length (in_numbers ns)) lent

pub list_long : (lent : List ℕ) (ns : List Note) → length ns ≤ room_in lent → length (list_of lent ns) ≡ length lent
list_long lent ns h =
    length-append (in_numbers ns) (drop (length (in_numbers ns)) lent) ∙ omega (arith, numbers_long ns, length-drop (length (in_numbers ns)) lent)

list_on : (lent : List ℕ) (ns : List Note) (n : Note) → over (list_of lent ns) (4 * length ns) (in_four n) ≡ list_of lent (ns ++ (n ∷ []))
list_on lent ns n =
    let front : List ℕ = in_numbers ns in
    let four : List ℕ = in_four n in
    let behind : drop (length front + 4) (list_of lent ns) ≡ drop (length front + 4) lent =
    drop-append-add front (drop (length front) lent) 4 ∙ drop-drop 4 (length front) lent in
    let numbers : in_numbers (ns ++ (n ∷ [])) ≡ front ++ four = numbers_append ns (n ∷ []) in
    let long : length (front ++ four) ≡ length front + 4 = length-append front four in
    ap (λ (k : ℕ). over (list_of lent ns) k four) (sym (numbers_long ns))
    ∙ ap (λ (l : List ℕ). l ++ (four ++ drop (length front + 4) (list_of lent ns))) (take-append_seam front (drop (length front) lent))
    ∙ ap (λ (l : List ℕ). front ++ (four ++ l)) (behind ∙ ap (λ (k : ℕ). drop k lent) (sym long))
    ∙ sym (append_assoc front four (drop (length (front ++ four)) lent))
    ∙ ap (λ (l : List ℕ). l ++ drop (length l) lent) (sym numbers)

-- ---- an event

abbrev pub verdict : Option ℕ → Book → Answer Book
verdict none b = given b
verdict (some k) b = refused k

verdict_cond : (b : Bool) (k : ℕ) {l m : Book} → l ≡ m → cond b (given l) (refused k) ≡ verdict (cond b none (some k)) m
verdict_cond true k e = ap given e
verdict_cond false k e = refl

same_book : {k l : Book} → k.lines ≡ l.lines → k.listed ≡ l.listed → k.pending ≡ l.pending → k.held ≡ l.held → k.list ≡ l.list → k ≡ l
same_book p q r s t = λ i. record { lines = p i; listed = q i; pending = r i; held = s i; list = t i }

module _ (lent : List ℕ) where
  abbrev pub Fits : List Event → Type 0
  Fits past = length (notes past) ≤ room_in lent

  abbrev book_with : ℕ → List Note → (ℕ → List Request) → (Setting → List Request) → Book
  book_with n ns pending held = record { lines = n; listed = length ns; pending = pending; held = held; list = list_of lent ns }

  noted_is : (n : ℕ) (x : Note) (past : List Event) (pending : ℕ → List Request) (held : Setting → List Request) → Fits past
      → noted x (book_with n (notes past) pending held) ≡ verdict (full (room_in lent) (x ∷ []) past) (book_with n (notes past ++ (x ∷ [])) pending held)
  noted_is n x past pending held h =
      let ns : List Note = notes past in
      let longer : Book = record {
        lines = n;
        listed = length ns + 1;
        pending = pending;
        held = held;
        list = over (list_of lent ns) (4 * length ns) (in_four x);
      } in
      ap (λ (k : ℕ). cond (ltb (length ns) (k / 4)) (given longer) (refused 4)) (list_long lent ns h)
      ∙ verdict_cond (ltb (length ns) (room_in lent)) 4 (same_book refl (sym (length-append ns (x ∷ []))) refl refl (list_on lent ns x))

  -- nothing is due
  none_due : (n : ℕ) (past : List Event) (pending : ℕ → List Request) (held : Setting → List Request)
      → book_with n (notes past) pending held ≡ book_with n (notes past ++ []) pending held
  none_due n past pending held = ap (λ (ns : List Note). book_with n ns pending held) (sym (append-nil (notes past)))

  -- an answer that finds o to be the earliest open request of its CID
  answer_is : (n : ℕ) (a : Reply) (past : List Event) → Fits past → (o : Option Request) → answered_by a past ≡ o
      → answering a o (book_after n lent past) ≡ verdict (full (room_in lent) (brought_by a o) past)
      (book_with n (notes past ++ brought_by a o) (λ c. open_after c (reply a) (unanswered c past))
      (λ σ. take 2 (joining σ (cond a.agrees o none) (parents σ past))))
  answer_is n a past f none h =
      noted_is n (stray a.at) past (λ c. unanswered c past) (λ σ. take 2 (parents σ past)) f
      ∙ ap (verdict (full (room_in lent) (brought_by a none) past))
      (same_book refl refl (fun_ext (λ d. unmoved past a.cid d h (eqb a.cid d) refl))
      (fun_ext (λ σ. ap (λ (o : Option Request). take 2 (joining σ o (parents σ past))) (sym (cond_same a.agrees none)))) refl)
  answer_is n a past f (some r) h = by a.agrees
    where
      moved : put a.cid (tail (unanswered a.cid past)) (λ c. unanswered c past) ≡ (λ c. open_after c (reply a) (unanswered c past))
      moved = fun_ext (λ d. put_at tail (λ c. unanswered c past) a.cid d (eqb a.cid d) refl)

      before : Book
      before = book_with n (notes past) (put a.cid (tail (unanswered a.cid past)) (λ c. unanswered c past)) (λ σ. take 2 (parents σ past))

      joined : Setting → List Request
      joined σ = take 2 (joining σ (some r) (parents σ past))

      yes_to : (high : Bool) → (high ≡ true → (σ : Setting) → writes r σ ≡ false)
          → cond high (noted (beyond r.at) before) (given (takes_effect r before))
          ≡ verdict (full (room_in lent) (cond high (beyond r.at ∷ []) []) past)
          (book_with n (notes past ++ cond high (beyond r.at ∷ []) []) (λ c. open_after c (reply a) (unanswered c past)) joined)
      yes_to true w =
          noted_is n (beyond r.at) past before.pending before.held f
          ∙ ap (verdict (full (room_in lent) (beyond r.at ∷ []) past))
          (same_book refl refl moved (fun_ext (λ σ. ap (λ (b : Bool). take 2 (cond b (r ∷ parents σ past) (parents σ past))) (sym (w refl σ)))) refl)
      yes_to false w =
          ap given (same_book refl refl moved (fun_ext (λ σ. held_on (writes r σ) r (parents σ past))) refl
          ∙ none_due n past (λ c. open_after c (reply a) (unanswered c past)) joined)

      by : (yea : Bool) → decided yea r before ≡ verdict (full (room_in lent) (cond (yea && is_beyond r) (beyond r.at ∷ []) []) past)
          (book_with n (notes past ++ cond (yea && is_beyond r) (beyond r.at ∷ []) []) (λ c. open_after c (reply a) (unanswered c past))
          (λ σ. take 2 (joining σ (cond yea (some r) none) (parents σ past))))
      by true = yes_to (is_beyond r) (higher_not_held r)
      by false =
          ap given (same_book refl refl moved refl refl
          ∙ none_due n past (λ c. open_after c (reply a) (unanswered c past)) (λ σ. take 2 (parents σ past)))

  pub step_is : (n : ℕ) (e : Event) (past : List Event) → Fits past
      → step e (book_after n lent past) ≡ verdict (fault (room_in lent) e past) (book_after n lent (e ∷ past))
  step_is n (request r) past f =
      verdict_cond (ltb (length (unanswered r.cid past)) 8) 17
      (same_book refl refl (fun_ext (λ d. put_at (λ rs. rs ++ (r ∷ [])) (λ c. unanswered c past) r.cid d (eqb r.cid d) refl)) refl refl
      ∙ none_due n past (λ c. open_after c (request r) (unanswered c past)) (λ σ. take 2 (parents σ past)))
  step_is n (reply a) past f = answer_is n a past f (answered_by a past) refl
  step_is n (stop_at p) past f = noted_is n (stopped p) past (λ c. unanswered c past) (λ σ. take 2 (parents σ past)) f

  -- ---- an event that is not at fault leaves room for what it brings

  room_left : (past : List Event) (ns : List Note) → full (room_in lent) ns past ≡ none → length ns ≤ 1 → Fits past
      → length (notes past ++ ns) ≤ room_in lent
  room_left past [] f o h = simp append-nil h
  room_left past (n ∷ ns) f o h = by (ltb (length (notes past)) (room_in lent)) refl f
    where
      by : (b : Bool) → ltb (length (notes past)) (room_in lent) ≡ b → cond {A = Option ℕ} b none (some 4) ≡ none
          → length (notes past ++ n ∷ ns) ≤ room_in lent
      by true e f = simp length-append (omega (arith, ltb-true (length (notes past)) (room_in lent) e))
      by false e f = let no_way : ◌≡◌ {A = ℕ} 0 1 = cc in absurd (omega arith)

  one_due : (a : Reply) (o : Option Request) → length (brought_by a o) ≤ 1
  one_due a none = omega arith
  one_due a (some r) = by (a.agrees && is_beyond r)
    where
      by : (b : Bool) → length {A = Note} (cond b (beyond r.at ∷ []) []) ≤ 1
      by true = omega arith
      by false = omega arith

  pub fits_on : (e : Event) (past : List Event) → fault (room_in lent) e past ≡ none → Fits past → Fits (e ∷ past)
  fits_on (request r) past f h = simp append-nil h
  fits_on (reply a) past f h = room_left past (due (reply a) past) f (one_due a (answered_by a past)) h
  fits_on (stop_at p) past f h = room_left past (stopped p ∷ []) f (omega arith) h

  -- ---- events: given exactly if none is at fault, and then the ledger after the longer past

  pub steps_are : (n : ℕ) (es past : List Event) → Fits past
      → steps es (book_after n lent past) ≡ verdict (first_fault (room_in lent) es past) (book_after n lent (reverse_aux es past))
  unfolding steps
  steps_are n [] past f = refl
  steps_are n (e ∷ es) past f =
      ap (λ (x : Answer Book). onward x (steps es)) (step_is n e past f) ∙ by (steps_are n es (e ∷ past)) (fault (room_in lent) e past) refl
    where
      by : (Fits (e ∷ past) → steps es (book_after n lent (e ∷ past))
          ≡ verdict (first_fault (room_in lent) es (e ∷ past)) (book_after n lent (reverse_aux es (e ∷ past))))
          → (o : Option ℕ) → fault (room_in lent) e past ≡ o → onward (verdict o (book_after n lent (e ∷ past))) (steps es)
          ≡ verdict (or_else o (first_fault (room_in lent) es (e ∷ past))) (book_after n lent (reverse_aux es (e ∷ past)))
      by h none q = h (fits_on e past q f)
      by h (some k) q = refl

  pub fits_along : (es past : List Event) → first_fault (room_in lent) es past ≡ none → Fits past → Fits (reverse_aux es past)
  fits_along [] past f h = h
  fits_along (e ∷ es) past f h = by (fits_along es (e ∷ past)) (fault (room_in lent) e past) refl f
    where
      by : (first_fault (room_in lent) es (e ∷ past) ≡ none → Fits (e ∷ past) → Fits (reverse_aux es (e ∷ past)))
          → (o : Option ℕ) → fault (room_in lent) e past ≡ o → or_else o (first_fault (room_in lent) es (e ∷ past)) ≡ none → Fits (reverse_aux es (e ∷ past))
      by g none q f = g f (fits_on e past q h)
      by g (some k) q f = let no_way : ◌≡◌ {A = ℕ} 0 1 = cc in absurd (omega arith)

  -- ---- a line

  pub taken_is : (n : ℕ) (l : TraceLine) (past : List Event) → Fits past
      → taken (some l) (book_after n lent past)
      ≡ verdict (fault_of (room_in lent) (following n) (some l) past) (book_after (following n) lent (reverse_aux (events_of (following n) l) past))
  taken_is n l past f = steps_are (following n) (events_of (following n) l) past f

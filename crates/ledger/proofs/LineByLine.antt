-- The claims on texts: whole ones, refused ones, and one behind the other. Assumes nothing; that a trace is read back as it was written is handed in
-- where it is needed.
use Prim.Native.Nat.{ℕ, suc, ◌+◌}
use mathlib.Core.Bool.{Bool, true, false, cond}
use mathlib.Core.List.{List, [], ◌∷◌, ◌++◌, map, reverse, reverse_aux, reverse_aux-append}
use mathlib.Core.Logic.{◌⊎◌, inl, inr}
use mathlib.Core.Option.{Option, none, some}
use mathlib.Core.Path.{◌≡◌, refl, sym, ap, ap₂, ◌∙◌, subst}
use native.Mathlib.Nat.{zero-add, add-zero}
use native.Mathlib.Omega.{arith}
use borrow.Author.Tests.{ltb-true, ltb-false, le-ltb}
use lib.Dec.{ltb}
use lib.ListN.{length}
use Rattle.table.specs.Answers.{Answer, given, refused, Consent, accepted}
use Rattle.ledger.specs.Book.{Book, taken, going, taken_all, replayed}
use Rattle.ledger.specs.Claims.{
  book_after,
  fault_of,
  count_of,
  fresh,
  room_in,
  WholeIs,
  Halted,
  HaltsExactly,
  WholeExactly,
  Kept,
  RefusalKeeps,
  continued,
  LineByLine,
  TextByText,
}
use Rattle.ledger.specs.Events.{Event, events_of, following, events}
use Rattle.ledger.specs.Trace.{TraceLine, lines_of, TraceReadBack}
use Rattle.ledger.proofs.Replaying.{Fits, verdict, fits_along, taken_is}

abbrev Lines : Type 0
Lines = List (Option TraceLine)

-- ---- from any ledger

abbrev Outcome : Type 0
Outcome = Consent × ℕ × Book

-- a refusal is not the outcome of lines that are all taken
never : {k m n : ℕ} {b c : Book} → ◌≡◌ {A = Outcome} (refused k, m, b) (accepted, n, c) → ⊥
never {k} e =
    let same : ◌≡◌ {A = Consent} (refused k) accepted = ap (λ (x : Outcome). x.0) e in
    let no_way : ◌≡◌ {A = ℕ} 0 1 = cc in
    omega arith

-- the outcomes that there are
abbrev Either : Outcome → Type 0
Either o = ((c : Book) × (o ≡ (accepted, 0, c))) ⊎ ((k : ℕ) × (n : ℕ) × (c : Book) × (o ≡ (refused k, n, c)))

whole_or_halted : (ls : Lines) (b : Book) → Either (taken_all ls b)
unfolding taken_all
whole_or_halted [] b = inl (b, refl)
whole_or_halted (x ∷ ls) b = by (whole_or_halted ls) (taken x b)
  where
    by : ((c : Book) → Either (taken_all ls c)) → (z : Answer Book) → Either (going z b (taken_all ls))
    by h (given c) = h c
    by h (refused k) = inr (k, following b.lines, b, refl)

pub line_by_line : LineByLine
unfolding taken_all
line_by_line [] ys b = refl
line_by_line (x ∷ xs) ys b = by (line_by_line xs ys) (taken x b)
  where
    by : ((c : Book) → taken_all (xs ++ ys) c ≡ continued (taken_all xs c) (taken_all ys)) → (z : Answer Book)
        → going z b (taken_all (xs ++ ys)) ≡ continued (going z b (taken_all xs)) (taken_all ys)
    by h (given c) = h c
    by h (refused k) = refl

kept : (ls : Lines) (k n : ℕ) (b c : Book) → taken_all ls b ≡ (refused k, n, c) → Kept b ls k n c
unfolding taken_all
kept [] k n b c e = absurd (never (sym e))
kept (x ∷ ls) k n b c e = by (kept ls k n) (taken x b) refl e
  where
    by : ((b c : Book) → taken_all ls b ≡ (refused k, n, c) → Kept b ls k n c) → (z : Answer Book) → taken x b ≡ z
        → going z b (taken_all ls) ≡ (refused k, n, c) → Kept b (x ∷ ls) k n c
    by h (given d) q e = let t = h d c e in record {
      good = x ∷ t.good;
      bad = t.bad;
      rest = t.rest;
      lines = ap (λ (l : Lines). x ∷ l) t.lines;
      number = t.number;
      before = ap (λ (z : Answer Book). going z b (taken_all t.good)) q ∙ t.before;
      why = t.why;
    }
    by h (refused j) q e =
        let verdicts : ◌≡◌ {A = Consent} (refused j) (refused k) = ap (λ (o : Outcome). o.0) e in
        let books : b ≡ c = ap (λ (o : Outcome). o.2) e in
        record {
          good = [];
          bad = x;
          rest = ls;
          lines = refl;
          number = sym (ap (λ (o : Outcome). o.1) e) ∙ ap (λ (d : Book). following d.lines) books;
          before = ap (λ (d : Book). (accepted, 0, d)) books;
          why = ap (taken x) (sym books) ∙ q ∙ cc;
        }

pub refusal_keeps : RefusalKeeps
refusal_keeps t = kept (lines_of t)

-- lines that are all taken have the form
all_read : (ls : Lines) (b c : Book) → taken_all ls b ≡ (accepted, 0, c) → (xs : List TraceLine) × (ls ≡ map some xs)
unfolding taken_all
all_read [] b c e = ([], refl)
all_read (none ∷ ls) b c e = absurd (never e)
all_read (some l ∷ ls) b c e = by (all_read ls) (taken (some l) b) e
  where
    by : ((b c : Book) → taken_all ls b ≡ (accepted, 0, c) → (xs : List TraceLine) × (ls ≡ map some xs)) → (z : Answer Book)
        → going z b (taken_all ls) ≡ (accepted, 0, c) → (xs : List TraceLine) × (some l ∷ ls ≡ map some xs)
    by h (given d) e = let t = h d c e in (l ∷ t.0, ap (λ (x : Lines). some l ∷ x) t.1)
    by h (refused k) e = absurd (never e)

pub text_by_text : TraceReadBack → TextByText
text_by_text back t u b c e =
    let a = all_read (lines_of t) b c e in
    let w = back.only t a.0 a.1 in
    ap (λ (x : List ℕ). taken_all (lines_of (x ++ u)) b) w.1
    ∙ ap (λ (x : Lines). taken_all x b) (back.joined a.0 u w.0)
    ∙ line_by_line (map some a.0) (lines_of u) b
    ∙ ap (λ (x : Lines). continued (taken_all x b) (taken_all (lines_of u))) (sym a.1)
    ∙ ap (λ (x : Outcome). continued x (taken_all (lines_of u))) e

-- ---- the number of a line

abbrev largest : ℕ
largest = 18_446_744_073_709_551_615

abbrev number_after : ℕ → List TraceLine → ℕ
number_after n [] = n
number_after n (l ∷ ls) = number_after (following n) ls

next_count : (k : ℕ) → following (count_of k) ≡ count_of (k + 1)
next_count k = by (ltb k largest) refl
  where
    by : (b : Bool) → ltb k largest ≡ b → following (cond b k largest) ≡ count_of (k + 1)
    by true e = rw e (more (ltb (k + 1) largest) refl)
      where
        more : (b : Bool) → ltb (k + 1) largest ≡ b → k + 1 ≡ cond b (k + 1) largest
        more true f = refl
        more false f = omega (arith, ltb-true k largest e, ltb-false (k + 1) largest f)
    by false e = sym (ap (λ (b : Bool). cond b (k + 1) largest) (le-ltb (k + 1) largest (omega (arith, ltb-false k largest e))))

count_after : (k : ℕ) (ls : List TraceLine) → number_after (count_of k) ls ≡ count_of (k + length ls)
count_after k [] = ap count_of (sym (add-zero k))
count_after k (l ∷ ls) =
    let all : k + 1 + length ls ≡ k + suc (length ls) = omega arith in
    ap (λ (n : ℕ). number_after n ls) (next_count k) ∙ count_after (k + 1) ls ∙ ap count_of all

count_is : (ls : List TraceLine) → number_after 0 ls ≡ count_of (length ls)
count_is ls = count_after 0 ls ∙ ap count_of (zero-add (length ls))

next_is : (ls : List TraceLine) → following (number_after 0 ls) ≡ count_of (length ls + 1)
next_is ls = ap following (count_is ls) ∙ next_count (length ls)

-- ---- lines that are all taken

-- the past after a line, n lines standing before it
abbrev past_of : ℕ → TraceLine → List Event → List Event
past_of n l past = reverse_aux (events_of (following n) l) past

joined : (n : ℕ) (past : List Event) (l : TraceLine) (ls : List TraceLine)
    → reverse_aux (events (following n) ls) (past_of n l past) ≡ reverse_aux (events n (l ∷ ls)) past
unfolding events
joined n past l ls = sym (reverse_aux-append (events_of (following n) l) (events (following n) ls) past)

module _ (lent : List ℕ) where
  -- the next line's fault, n lines standing before it
  abbrev next_fault : ℕ → Option TraceLine → List Event → Option ℕ
  next_fault n x past = fault_of (room_in lent) (following n) x past

  -- the ledger after a line, and after lines
  abbrev book_of : ℕ → TraceLine → List Event → Book
  book_of n l past = book_after (following n) lent (past_of n l past)

  abbrev ledger_after : ℕ → List Event → List TraceLine → Book
  ledger_after n past ls = book_after (number_after n ls) lent (reverse_aux (events n ls) past)

  -- a line is taken first, or refused
  first_is : (n : ℕ) (past : List Event) (l : TraceLine) (ls : Lines) → Fits lent past
      → taken_all (some l ∷ ls) (book_after n lent past)
      ≡ going (verdict (next_fault n (some l) past) (book_of n l past)) (book_after n lent past) (taken_all ls)
  unfolding taken_all
  first_is n past l ls f = ap (λ (x : Answer Book). going x (book_after n lent past) (taken_all ls)) (taken_is lent n l past f)

  pub record Took (n : ℕ) (past : List Event) (ls : List TraceLine) (b : Book) : Type 0 where
    pub book : b ≡ ledger_after n past ls
    pub fits : Fits lent (reverse_aux (events n ls) past)

  all_taken : (n : ℕ) (past : List Event) (ls : List TraceLine) (b : Book) → Fits lent past
      → taken_all (map some ls) (book_after n lent past) ≡ (accepted, 0, b) → Took n past ls b
  unfolding taken_all events
  all_taken n past [] b f e = record { book = sym (ap (λ (x : Outcome). x.2) e); fits = f }
  all_taken n past (l ∷ ls) b f e =
      by (all_taken (following n) (past_of n l past) ls b) (next_fault n (some l) past) refl (sym (first_is n past l (map some ls) f) ∙ e)
    where
      by : (Fits lent (past_of n l past) → taken_all (map some ls) (book_of n l past) ≡ (accepted, 0, b) → Took (following n) (past_of n l past) ls b)
          → (o : Option ℕ) → next_fault n (some l) past ≡ o
          → going (verdict o (book_of n l past)) (book_after n lent past) (taken_all (map some ls)) ≡ (accepted, 0, b)
          → Took n past (l ∷ ls) b
      by h none q e =
          let t = h (fits_along lent (events_of (following n) l) past q f) e in
          record {
            book = t.book ∙ ap (book_after (number_after (following n) ls) lent) (joined n past l ls);
            fits = subst (Fits lent) (joined n past l ls) t.fits;
          }
      by h (some k) q e = absurd (never e)

  -- from a fresh ledger
  fresh_fits : Fits lent []
  fresh_fits = omega arith

  pub taken_whole : (ls : List TraceLine) (b : Book) → taken_all (map some ls) (fresh lent) ≡ (accepted, 0, b) → Took 0 [] ls b
  taken_whole ls b e = all_taken 0 [] ls b fresh_fits e

  pub whole_book : (ls : List TraceLine) (b : Book) → taken_all (map some ls) (fresh lent) ≡ (accepted, 0, b)
      → b ≡ book_after (count_of (length ls)) lent (reverse (events 0 ls))
  whole_book ls b e = (taken_whole ls b e).book ∙ ap (λ (n : ℕ). book_after n lent (reverse (events 0 ls))) (count_is ls)

  pub whole_is : WholeIs lent
  whole_is t b e =
      let a = all_read (lines_of t) (fresh lent) b e in
      record { lines = a.0; read = a.1; book = whole_book a.0 b (ap (λ (x : Lines). taken_all x (fresh lent)) (sym a.1) ∙ e) }

  -- ---- a line that is refused

  -- Halted, from any past and any number of lines on
  record Halts (n : ℕ) (past : List Event) (k m : ℕ) (ls : Lines) (b : Book) : Type 0 where
    good : List TraceLine
    bad : Option TraceLine
    rest : Lines
    lines : ls ≡ map some good ++ bad ∷ rest
    number : m ≡ following (number_after n good)
    before : taken_all (map some good) (book_after n lent past) ≡ (accepted, 0, b)
    why : fault_of (room_in lent) m bad (reverse_aux (events n good) past) ≡ some k

  -- it is the first
  at_once : (n : ℕ) (past : List Event) (k m j : ℕ) (x : Option TraceLine) (ls : Lines) (b : Book) → next_fault n x past ≡ some j
      → ◌≡◌ {A = Outcome} (refused j, following n, book_after n lent past) (refused k, m, b) → Halts n past k m (x ∷ ls) b
  unfolding taken_all events
  at_once n past k m j x ls b q e =
      let verdicts : ◌≡◌ {A = Consent} (refused j) (refused k) = ap (λ (o : Outcome). o.0) e in
      let numbers : following n ≡ m = ap (λ (o : Outcome). o.1) e in
      let same : j ≡ k = cc in
      record {
        good = [];
        bad = x;
        rest = ls;
        lines = refl;
        number = sym numbers;
        before = ap (λ (o : Outcome). (accepted, 0, o.2)) e;
        why = ap (λ (i : ℕ). fault_of (room_in lent) i x past) (sym numbers) ∙ q ∙ ap some same;
      }

  halts : (n : ℕ) (past : List Event) (k m : ℕ) (ls : Lines) (b : Book) → Fits lent past
      → taken_all ls (book_after n lent past) ≡ (refused k, m, b) → Halts n past k m ls b
  unfolding taken_all
  halts n past k m [] b f e = absurd (never (sym e))
  halts n past k m (none ∷ ls) b f e = at_once n past k m 18 none ls b refl e
  halts n past k m (some l ∷ ls) b f e =
      by (halts (following n) (past_of n l past) k m ls b) (next_fault n (some l) past) refl (sym (first_is n past l ls f) ∙ e)
    where
      by : (Fits lent (past_of n l past) → taken_all ls (book_of n l past) ≡ (refused k, m, b) → Halts (following n) (past_of n l past) k m ls b)
          → (o : Option ℕ) → next_fault n (some l) past ≡ o
          → going (verdict o (book_of n l past)) (book_after n lent past) (taken_all ls) ≡ (refused k, m, b)
          → Halts n past k m (some l ∷ ls) b
      by h none q e =
          let t = h (fits_along lent (events_of (following n) l) past q f) e in
          let go : Option ℕ → Outcome = λ o. going (verdict o (book_of n l past)) (book_after n lent past) (taken_all (map some t.good)) in
          record {
            good = l ∷ t.good;
            bad = t.bad;
            rest = t.rest;
            lines = ap (λ (x : Lines). some l ∷ x) t.lines;
            number = t.number;
            before = first_is n past l (map some t.good) f ∙ ap go q ∙ t.before;
            why = ap (fault_of (room_in lent) m t.bad) (sym (joined n past l t.good)) ∙ t.why;
          }
      by h (some j) q e = at_once n past k m j (some l) ls b q e

  -- a line at fault is refused
  refused_next : (n : ℕ) (past : List Event) (k : ℕ) (x : Option TraceLine) (ls : Lines) → Fits lent past → next_fault n x past ≡ some k
      → taken_all (x ∷ ls) (book_after n lent past) ≡ (refused k, following n, book_after n lent past)
  unfolding taken_all
  refused_next n past k none ls f q = let same : 18 ≡ k = cc in ap (λ (i : ℕ). (refused i, following n, book_after n lent past)) same
  refused_next n past k (some l) ls f q =
      first_is n past l ls f ∙ ap (λ (o : Option ℕ). going (verdict o (book_of n l past)) (book_after n lent past) (taken_all ls)) q

  halted_is : (k n : ℕ) (ls : Lines) (b : Book) → Halted lent k n ls b → taken_all ls (fresh lent) ≡ (refused k, n, b)
  halted_is k n ls b h =
      let t = taken_whole h.good b h.before in
      let past : List Event = reverse (events 0 h.good) in
      let number : following (number_after 0 h.good) ≡ n = next_is h.good ∙ sym h.number in
      let why : next_fault (number_after 0 h.good) h.bad past ≡ some k =
      ap (λ (i : ℕ). fault_of (room_in lent) i h.bad past) number ∙ h.why in
      ap (λ (x : Lines). taken_all x (fresh lent)) h.lines
      ∙ line_by_line (map some h.good) (h.bad ∷ h.rest) (fresh lent)
      ∙ ap (λ (o : Outcome). continued o (taken_all (h.bad ∷ h.rest))) h.before
      ∙ ap (taken_all (h.bad ∷ h.rest)) t.book
      ∙ refused_next (number_after 0 h.good) past k h.bad h.rest t.fits why
      ∙ ap₂ (λ (i : ℕ) (c : Book). (refused k, i, c)) number (sym t.book)

  pub halts_exactly : HaltsExactly lent
  halts_exactly t k n b = (to, halted_is k n (lines_of t) b)
    where
      to : replayed t (fresh lent) ≡ (refused k, n, b) → Halted lent k n (lines_of t) b
      to e = let h = halts 0 [] k n (lines_of t) b fresh_fits e in record {
        good = h.good;
        bad = h.bad;
        rest = h.rest;
        lines = h.lines;
        number = h.number ∙ next_is h.good;
        before = h.before;
        why = h.why;
      }

  pub whole_exactly : WholeExactly lent
  whole_exactly t = (
    λ w k n c h. never (sym (halted_is k n (lines_of t) c h) ∙ w.1),
    λ h. elim (whole_or_halted (lines_of t) (fresh lent)) [
      | inl w ↦ w
      | inr w ↦ absurd (h w.0 w.1 w.2 ((halts_exactly t w.0 w.1 w.2).0 w.3))
    ],
  )

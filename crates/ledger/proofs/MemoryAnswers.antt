-- What an answer makes of a ledger's memory is what it makes of the book that the memory means. Assumes nothing.
use Prim.Native.Nat.{ℕ, ◌+◌, ◌*◌, ◌/◌, ◌%◌, ◌<◌}
use mathlib.Core.Bool.{Bool, true, false, cond, ◌&&◌}
use mathlib.Core.List.{List, [], ◌∷◌, ◌++◌, head?, tail, map}
use mathlib.Core.Option.{Option, none}
use mathlib.Core.Path.{◌≡◌, refl, sym, ap, fun_ext, ◌∙◌}
use native.Mathlib.Omega.{arith}
use borrow.Author.Tests.{eqb-true, eq-eqb, ne_eqb, lt-ltb, ltb-true}
use lib.Dec.{eqb, ltb}
use lib.ListN.{length, get_or, set, take}
use Rattle.std.specs.Prelude.{None, Some, slice_get}
use Rattle.bits.specs.Memory.{over}
use Rattle.table.specs.Answers.{Answer, given, refused}
use Rattle.ledger.specs.Book.{Book, in_four, noted, put, opening, holding, takes_effect, decided, answering, step}
use Rattle.ledger.specs.Events.{Request, Reply, reply}
use Rattle.ledger.specs.Memory.{five_of, request_of, open_in, parents_in, pending_in, row_of, row_in, held_in, no_queue, no_parents}
use Rattle.ledger.specs.Parents.{Note, beyond, stray}
use Rattle.ledger.specs.Settings.{Setting, writer, is_for, writes, is_beyond}
use Rattle.ledger.specs.Working.{row_written, book_in, fault_in}
use Rattle.ledger.specs.declared.memory.Asked.{Asked}
use Rattle.ledger.specs.declared.memory.Queue.{Queue}
use Rattle.ledger.specs.declared.memory.Parents.{Parents}
use Rattle.ledger.proofs.MemoryQueues.{map-append, map-tail, map-take_two, got_first, none_first, put_in, row_put}
use Rattle.ledger.proofs.MemoryWritten.{writes_row, writes_none, beyond_row}

-- ---- an entry

-- a note that is not refused has room
has_room : (t : Bool) (b : Book) → fault_in (cond t (given b) (refused 4)) ≡ 0 → t ≡ true
has_room true b e = refl
has_room false b e = absurd (omega arith)

pub room_for : (b : Book) (n : Note) → fault_in (noted n b) ≡ 0 → b.listed < length b.list / 4
room_for b n e = ltb-true b.listed (length b.list / 4) (has_room (ltb b.listed (length b.list / 4)) _ e)

pub noted_is : (b : Book) (n : Note) → b.listed < length b.list / 4
    → given (record { lines = b.lines; listed = b.listed + 1; pending = b.pending; held = b.held; list = over b.list (4 * b.listed) (in_four n) }) ≡ noted n b
noted_is b n room = sym (simp (lt-ltb b.listed (length b.list / 4) room))

-- ---- a request that is answered yes

module _ (c : ℕ) (r : Asked) (row : ℕ) (row_is : row ≡ row_written c (r.payload % 256)) where
  abbrev asked : Request
  asked = request_of c r

  not_beyond : (row ≡ 38 → ⊥) → is_beyond asked ≡ false
  not_beyond h = beyond_row c r ∙ ne_eqb (row_written c (r.payload % 256)) 38 (λ e. h (row_is ∙ e))

  pub is-beyond : row ≡ 38 → is_beyond asked ≡ true
  is-beyond h = beyond_row c r ∙ eq-eqb (row_written c (r.payload % 256)) 38 (sym row_is ∙ h)

  same_writer : (σ : Setting) → writes asked σ ≡ true → c ≡ (writer σ).cid
  same_writer σ e = by (eqb c (writer σ).cid) refl e
    where
      by : (t : Bool) → eqb c (writer σ).cid ≡ t → (t && is_for σ (five_of r.payload)) ≡ true → c ≡ (writer σ).cid
      by true q g = eqb-true c (writer σ).cid q
      by false q g = cc

  -- it is held
  module _ (h : List Parents) (p : Parents) (there : row < length h) (low : row < 37)
      (after : parents_in p ≡ take 2 (r ∷ parents_in (get_or h row no_parents))) where
    row_after : (d k : ℕ) → row_in (set h row p) d k ≡ cond (eqb row k) (take 2 (request_of d r ∷ row_in h d k)) (row_in h d k)
    row_after d k = row_put h row p there d k ∙ by (eqb row k) refl
      where
        by : (t : Bool) → eqb row k ≡ t → cond t (map (request_of d) (parents_in p)) (row_in h d k) ≡ cond t (take 2 (request_of d r ∷ row_in h d k)) (row_in h d k)
        by true e =
            ap (map (request_of d)) after ∙ map-take_two d r (parents_in (get_or h row no_parents))
            ∙ ap (λ (i : ℕ). take 2 (request_of d r ∷ row_in h d i)) (eqb-true row k e)
        by false e = refl

    is_held : (σ : Setting) → held_in (set h row p) σ ≡ holding asked (held_in h) σ
    is_held σ = by (writes asked σ) refl
      where
        the_row : writes asked σ ≡ eqb row (row_of σ)
        the_row = writes_row c r (omega arith) σ ∙ ap (λ (k : ℕ). eqb k (row_of σ)) (sym row_is)

        by : (t : Bool) → writes asked σ ≡ t → held_in (set h row p) σ ≡ cond t (take 2 (asked ∷ held_in h σ)) (held_in h σ)
        by true e =
            row_after (writer σ).cid (row_of σ)
            ∙ ap (λ (t : Bool). cond t (take 2 (request_of (writer σ).cid r ∷ held_in h σ)) (held_in h σ)) (sym the_row ∙ e)
            ∙ ap (λ (d : ℕ). take 2 (request_of d r ∷ held_in h σ)) (sym (same_writer σ e))
        by false e =
            row_after (writer σ).cid (row_of σ)
            ∙ ap (λ (t : Bool). cond t (take 2 (request_of (writer σ).cid r ∷ held_in h σ)) (held_in h σ)) (sym the_row ∙ e)

  is_not_held : (h : List Parents) → row ≡ 37 → (σ : Setting) → held_in h σ ≡ holding asked (held_in h) σ
  is_not_held h e σ = sym (ap (λ (t : Bool). cond t (take 2 (asked ∷ held_in h σ)) (held_in h σ)) (writes_none c r (sym row_is ∙ e) σ))

  module _ (lines listed : ℕ) (q : List Queue) (h : List Parents) (l : List ℕ) where
    -- by whether it is for a channel that is not held
    abbrev choice : Bool → Answer Book
    choice t = cond t (noted (beyond asked.at) (book_in lines listed q h l)) (given (takes_effect asked (book_in lines listed q h l)))

    takes : (v : List Parents) → (row ≡ 38 → ⊥) → ((σ : Setting) → held_in v σ ≡ holding asked (held_in h) σ)
        → given (book_in lines listed q v l) ≡ decided true asked (book_in lines listed q h l)
    takes v other same =
        ap (λ (held : Setting → List Request). given (record { lines = lines; listed = listed; pending = pending_in q; held = held; list = l }))
        (fun_ext same)
        ∙ sym (ap choice (not_beyond other))

    pub holds_it : (p : Parents) → row < length h → row < 37 → parents_in p ≡ take 2 (r ∷ parents_in (get_or h row no_parents))
        → given (book_in lines listed q (set h row p) l) ≡ decided true asked (book_in lines listed q h l)
    holds_it p there low after = takes (set h row p) (λ e. omega arith) (is_held h p there low after)

-- ---- an answer

none_tail : (s : List Request) → head? s ≡ none → s ≡ tail s
none_tail [] e = refl
none_tail (x ∷ s) e = cc

put_same : (c : ℕ) (p : ℕ → List Request) → put c (p c) p ≡ p
put_same c p = fun_ext (λ d. by d (eqb c d) refl)
  where
    by : (d : ℕ) (t : Bool) → eqb c d ≡ t → cond t (p c) (p d) ≡ p d
    by d true e = ap p (eqb-true c d e)
    by d false e = refl

module _ (a : Reply) (lines listed : ℕ) (q : List Queue) (h : List Parents) (l : List ℕ) where
  abbrev book : Book
  book = book_in lines listed q h l

  -- what the queue has when its first request is gone, or there was none
  module _ (x : Queue) (there : a.cid < length q) (gone : open_in x ≡ tail (open_in (get_or q a.cid no_queue))) where
    left_is : book_in lines listed (set q a.cid x) h l ≡ opening a.cid (tail (pending_in q a.cid)) book
    left_is =
        ap (λ (p : ℕ → List Request). record { lines = lines; listed = listed; pending = p; held = held_in h; list = l })
        (put_in q a.cid x there
        ∙ ap (λ (s : List Asked). put a.cid (map (request_of a.cid) s) (pending_in q)) gone
        ∙ ap (λ (s : List Request). put a.cid s (pending_in q)) (map-tail a.cid (open_in (get_or q a.cid no_queue))))

    -- to no request
    module _ (empty : slice_get (open_in (get_or q a.cid no_queue)) 0 ≡ None) where
      first_none : head? (pending_in q a.cid) ≡ none
      first_none = none_first a.cid (open_in (get_or q a.cid no_queue)) empty

      same_book : book_in lines listed (set q a.cid x) h l ≡ book
      same_book =
          left_is
          ∙ ap (λ (p : ℕ → List Request). record { lines = lines; listed = listed; pending = p; held = held_in h; list = l })
          (ap (λ (s : List Request). put a.cid s (pending_in q)) (sym (none_tail (pending_in q a.cid) first_none)) ∙ put_same a.cid (pending_in q))

      pub is_stray : noted (stray a.at) (book_in lines listed (set q a.cid x) h l) ≡ step (reply a) book
      is_stray =
          ap (noted (stray a.at)) same_book
          ∙ sym (ap (λ (first : Option Request). answering a first book) first_none)

  -- to the first request
  module _ (r : Asked) (first : slice_get (open_in (get_or q a.cid no_queue)) 0 ≡ Some r) where
    abbrev left : Book
    left = opening a.cid (tail (pending_in q a.cid)) book

    is_answered : step (reply a) book ≡ decided a.agrees (request_of a.cid r) left
    is_answered = ap (λ (o : Option Request). answering a o book) (got_first a.cid (open_in (get_or q a.cid no_queue)) r first)

    pub room_beyond : a.agrees ≡ true → fault_in (step (reply a) book) ≡ 0 → row_written a.cid (r.payload % 256) ≡ 38 → listed < length l / 4
    room_beyond t e k =
        let f : fault_in (decided true (request_of a.cid r) left) ≡ 0 =
        ap (λ (b : Bool). fault_in (decided b (request_of a.cid r) left)) (sym t) ∙ ap fault_in (sym is_answered) ∙ e in
        let far : is_beyond (request_of a.cid r) ≡ true = is-beyond a.cid r (row_written a.cid (r.payload % 256)) refl k in
        let g : fault_in (noted (beyond (request_of a.cid r).at) left) ≡ 0 =
        ap (λ (b : Bool). fault_in (cond b (noted (beyond (request_of a.cid r).at) left) (given (takes_effect (request_of a.cid r) left)))) (sym far) ∙ f in
        room_for left (beyond (request_of a.cid r).at) g

    module _ (x : Queue) (there : a.cid < length q) (gone : open_in x ≡ tail (open_in (get_or q a.cid no_queue))) where
      pub answers_yes : a.agrees ≡ true → (b : Book) → given b ≡ decided true (request_of a.cid r) (book_in lines listed (set q a.cid x) h l)
          → given b ≡ step (reply a) book
      answers_yes t b e =
          e
          ∙ ap (decided true (request_of a.cid r)) (left_is x there gone)
          ∙ ap (λ (y : Bool). decided y (request_of a.cid r) left) (sym t)
          ∙ sym is_answered

      pub answers_no : a.agrees ≡ false → given (book_in lines listed (set q a.cid x) h l) ≡ step (reply a) book
      answers_no t =
          ap given (left_is x there gone)
          ∙ ap (λ (y : Bool). decided y (request_of a.cid r) left) (sym t)
          ∙ sym is_answered

-- ---- a request

pub asked_in : (c : ℕ) (r : Asked) (lines listed : ℕ) (q : List Queue) (h : List Parents) (l : List ℕ) (x : Queue) → c < length q
    → open_in x ≡ open_in (get_or q c no_queue) ++ (r ∷ [])
    → book_in lines listed (set q c x) h l ≡ opening c (pending_in q c ++ (request_of c r ∷ [])) (book_in lines listed q h l)
asked_in c r lines listed q h l x there after =
    ap (λ (p : ℕ → List Request). record { lines = lines; listed = listed; pending = p; held = held_in h; list = l })
    (put_in q c x there
    ∙ ap (λ (s : List Asked). put c (map (request_of c) s) (pending_in q)) after
    ∙ ap (λ (s : List Request). put c s (pending_in q)) (map-append c (open_in (get_or q c no_queue)) (r ∷ [])))

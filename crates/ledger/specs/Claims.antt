-- What is claimed of the ledger (RULES: X7 to X15): what is shown and listed, when a text is refused, and what a replay of one text and then another
-- comes to; of every text that is replayed from a fresh ledger, and behind that from any. Each claim is proved: those on settings in
-- proofs/Parenting.antt (higher channels: proofs/Replaying.antt), on the list in proofs/Notes.antt, on texts in proofs/LineByLine.antt. A past is a
-- list of events, the latest first.
use Rattle.std.specs.Prelude.{ℕ, ◌+◌, ◌*◌, ◌/◌, ◌≤◌, true, false, cond, List, [], ◌∷◌, ◌++◌, map, reverse, ◌↔◌, ◌≡◌, ltb, length, take, drop}
use Rattle.std.proofs.Math.Option.{Option, none, some}
use Rattle.table.specs.Answers.{given, refused, Consent, accepted}
use Rattle.fields.specs.Lists.{tabulate}
use Rattle.ledger.specs.Book.{Book, in_four, taken, taken_all, replayed}
use Rattle.ledger.specs.Events.{Place, Request, Reply, Event, request, reply, stop_at, events_of, following, events}
use Rattle.ledger.specs.Matching.{unanswered, EarliestOf, Matched}
use Rattle.ledger.specs.Memory.{at_most, note_at}
use Rattle.ledger.specs.Parents.{Shown, shown, parents, Note, beyond, stray, stopped, due, notes}
use Rattle.ledger.specs.Settings.{Setting, says, writes, is_beyond}
use Rattle.ledger.specs.Trace.{TraceLine, lines_of}

-- ---- what is shown of a setting

-- somewhere in this past an answer says yes to the request r, which writes the setting
pub record TookEffect (σ : Setting) (past : List Event) (r : Request) : Type 0 where
  pub later : List Event
  pub yea : Reply
  pub earlier : List Event
  pub past_is : past ≡ later ++ reply yea ∷ earlier
  pub matched : Matched earlier yea r
  pub agrees : yea.agrees ≡ true
  pub for : writes r σ ≡ true

-- and no answer after it says yes to a request writing the setting: r is the one answered last
pub record IsParent (σ : Setting) (past : List Event) (r : Request) : Type 0 where
  pub effect : TookEffect σ past r
  pub last : (q : Request) (t : TookEffect σ past q) → length effect.later ≤ length t.later

-- what is shown names the parent, shows what it says, and is marked exactly if there was a parent before it that said the same
pub record Names (σ : Setting) (past : List Event) (s : Shown) : Type 0 where
  pub made : Request
  pub is : IsParent σ past made
  pub named : s.parent ≡ made.at
  pub told : s.value ≡ says σ made.body
  pub marked : (s.unchanged ≡ true) ↔ ((q : Request) × IsParent σ is.effect.earlier q × (says σ made.body ≡ says σ q.body))

-- what is shown of a setting is exact: nothing if no request writing it was answered yes
abbrev pub Exact : Setting → List Event → Option Shown → Type 0
Exact σ past none = (r : Request) → TookEffect σ past r → ⊥
Exact σ past (some s) = Names σ past s

-- and this fixes what is shown
abbrev pub ExactIsOne : Type 0
ExactIsOne = (σ : Setting) (past : List Event) (o p : Option Shown) → Exact σ past o → Exact σ past p → o ≡ p

-- the same in the order of the trace: a request, later its answer, which says yes
pub record InOrder (σ : Setting) (es : List Event) (r : Request) : Type 0 where
  pub before : List Event
  pub between : List Event
  pub after : List Event
  pub yea : Reply
  pub trace : es ≡ before ++ request r ∷ (between ++ reply yea ∷ after)
  pub cid_is : r.cid ≡ yea.cid
  pub earliest : EarliestOf yea.cid (reverse (before ++ request r ∷ between)) (reverse before)
  pub agrees : yea.agrees ≡ true
  pub for : writes r σ ≡ true

abbrev pub EffectsInOrder : Type 0
EffectsInOrder = (σ : Setting) (es : List Event) (r : Request) → TookEffect σ (reverse es) r ↔ InOrder σ es r

-- a request for a higher channel is the parent of nothing
abbrev pub HigherNotHeld : Type 0
HigherNotHeld = (r : Request) → is_beyond r ≡ true → (σ : Setting) → writes r σ ≡ false

-- ---- what is listed

-- what an event brings into the list: a stray, a yes to a request for a channel that is not held, a stop
pub data Brings : Event → List Event → Note → Type 0 where
  strays : {past : List Event} (a : Reply) → ((r : Request) → Matched past a r → ⊥) → Brings (reply a) past (stray a.at)
  reaches : {past : List Event} (a : Reply) (r : Request) → Matched past a r → a.agrees ≡ true → is_beyond r ≡ true
      → Brings (reply a) past (beyond r.at)
  stops : {past : List Event} (p : Place) → Brings (stop_at p) past (stopped p)

-- the list has those entries and no others, in the order of events
pub data Listed : List Event → List Note → Type 0 where
  nothing : Listed [] []
  entered : {past : List Event} {ns : List Note} {n : Note} (e : Event) → Brings e past n → Listed past ns → Listed (e ∷ past) (ns ++ (n ∷ []))
  passed : {past : List Event} {ns : List Note} (e : Event) → ((n : Note) → Brings e past n → ⊥) → Listed past ns → Listed (e ∷ past) ns

-- and this fixes them
abbrev pub ListedIsOne : Type 0
ListedIsOne = (past : List Event) (ms ns : List Note) → Listed past ms → Listed past ns → ms ≡ ns

-- ---- the ledger after a past, said of the past alone

abbrev pub in_numbers : List Note → List ℕ
in_numbers [] = []
in_numbers (n ∷ ns) = in_four n ++ in_numbers ns

-- n lines were taken: of each CID the unanswered requests are open, of each setting the last two parents are held, and the list begins with the
-- entries' numbers and is behind them as it was lent
abbrev pub book_after : (n : ℕ) → (lent : List ℕ) → (past : List Event) → Book
book_after n lent past = record {
  lines = n;
  listed = length (notes past);
  pending = λ c. unanswered c past;
  held = λ σ. take 2 (parents σ past);
  list = in_numbers (notes past) ++ drop (length (in_numbers (notes past))) lent;
}

-- ---- refusals, said of the past alone

abbrev pub or_else : Option ℕ → Option ℕ → Option ℕ
or_else none o = o
or_else (some k) o = some k

module _ (room : ℕ) where
  -- entries are due: refusal 4 where as many are listed as the list has room for
  abbrev pub full : List Note → List Event → Option ℕ
  full [] past = none
  full (n ∷ ns) past = cond (ltb (length (notes past)) room) none (some 4)

  -- the refusal of an event: 17 where eight requests of its CID are unanswered
  abbrev pub fault : Event → List Event → Option ℕ
  fault (request r) past = cond (ltb (length (unanswered r.cid past)) 8) none (some 17)
  fault (reply a) past = full (due (reply a) past) past
  fault (stop_at p) past = full (due (stop_at p) past) past

  -- the first among events
  abbrev pub first_fault : List Event → List Event → Option ℕ
  first_fault [] past = none
  first_fault (e ∷ es) past = or_else (fault e past) (first_fault es (e ∷ past))

  -- of the line with the number n: 18 where it has not the form
  abbrev pub fault_of : (n : ℕ) → Option TraceLine → List Event → Option ℕ
  fault_of n none past = some 18
  fault_of n (some l) past = first_fault (events_of n l) past

-- ---- the claims on a text, replayed from a fresh ledger with this list lent

-- the number of lines, as far as 64 bits can count
abbrev pub count_of : ℕ → ℕ
count_of n = at_most 18_446_744_073_709_551_615 n

module _ (lent : List ℕ) where
  abbrev pub fresh : Book
  fresh = record { lines = 0; listed = 0; pending = λ c. []; held = λ σ. []; list = lent }

  abbrev pub room_in : ℕ
  room_in = length lent / 4

  -- the lines of a text that is replayed whole: they all have the form, and the ledger is the one after their events
  pub record Whole (t : List ℕ) (b : Book) : Type 0 where
    pub lines : List TraceLine
    pub read : lines_of t ≡ map some lines
    pub book : b ≡ book_after (count_of (length lines)) lent (reverse (events 0 lines))

  abbrev pub WholeIs : Type 0
  WholeIs = (t : List ℕ) (b : Book) → replayed t fresh ≡ (accepted, 0, b) → Whole t b

  -- parents exactly: of every text replayed whole, what is shown of each setting
  abbrev pub ParentsExactly : Type 0
  ParentsExactly = (t : List ℕ) (ls : List TraceLine) (b : Book) → lines_of t ≡ map some ls → replayed t fresh ≡ (accepted, 0, b)
      → (σ : Setting) → Exact σ (reverse (events 0 ls)) (shown σ (b.held σ))

  -- the list exactly: its entries, and behind them the lent numbers as they were
  pub record Lists (past : List Event) (b : Book) : Type 0 where
    pub entries : Listed past (tabulate b.listed (note_at b.list))
    pub behind : drop (4 * b.listed) b.list ≡ drop (4 * b.listed) lent
    pub long : length b.list ≡ length lent

  abbrev pub ListExactly : Type 0
  ListExactly = (t : List ℕ) (ls : List TraceLine) (b : Book) → lines_of t ≡ map some ls → replayed t fresh ≡ (accepted, 0, b)
      → Lists (reverse (events 0 ls)) b

  -- a refusal k at line n: the lines before that line are replayed whole, n follows their number, the ledger and the list are theirs, and the
  -- line has this fault
  pub record Halted (k n : ℕ) (ls : List (Option TraceLine)) (b : Book) : Type 0 where
    pub good : List TraceLine
    pub bad : Option TraceLine
    pub rest : List (Option TraceLine)
    pub lines : ls ≡ map some good ++ bad ∷ rest
    pub number : n ≡ count_of (length good + 1)
    pub before : taken_all (map some good) fresh ≡ (accepted, 0, b)
    pub why : fault_of room_in n bad (reverse (events 0 good)) ≡ some k

  abbrev pub HaltsExactly : Type 0
  HaltsExactly = (t : List ℕ) (k n : ℕ) (b : Book) → (replayed t fresh ≡ (refused k, n, b)) ↔ Halted k n (lines_of t) b

  -- a text is replayed whole exactly if no line of it is at fault
  abbrev pub WholeExactly : Type 0
  WholeExactly = (t : List ℕ) → ((b : Book) × (replayed t fresh ≡ (accepted, 0, b))) ↔ ((k n : ℕ) (b : Book) → Halted k n (lines_of t) b → ⊥)

-- ---- from any ledger, reached or not

-- a refusal at line n: that line is refused, and the ledger and the list are those after the lines before it
pub record Kept (b : Book) (ls : List (Option TraceLine)) (k n : ℕ) (c : Book) : Type 0 where
  pub good : List (Option TraceLine)
  pub bad : Option TraceLine
  pub rest : List (Option TraceLine)
  pub lines : ls ≡ good ++ bad ∷ rest
  pub number : n ≡ following c.lines
  pub before : taken_all good b ≡ (accepted, 0, c)
  pub why : taken bad c ≡ refused k

abbrev pub RefusalKeeps : Type 0
RefusalKeeps = (t : List ℕ) (k n : ℕ) (b c : Book) → replayed t b ≡ (refused k, n, c) → Kept b (lines_of t) k n c

abbrev pub continued : Consent × ℕ × Book → (Book → Consent × ℕ × Book) → Consent × ℕ × Book
continued (given x, n, b) f = f b
continued (refused k, n, b) f = (refused k, n, b)

-- lines, and then others
abbrev pub LineByLine : Type 0
LineByLine = (xs ys : List (Option TraceLine)) (b : Book) → taken_all (xs ++ ys) b ≡ continued (taken_all xs b) (taken_all ys)

-- a text that is replayed whole, and then another: it comes to the same in one call, in two, or line by line
abbrev pub TextByText : Type 0
TextByText = (t u : List ℕ) (b c : Book) → replayed t b ≡ (accepted, 0, c) → replayed (t ++ u) b ≡ replayed u c

-- What a replay makes of a ledger (RULES: X13 to X15), for every ledger, reached or not.
use Rattle.std.specs.Prelude.{ℕ, ◌+◌, ◌*◌, ◌/◌, Bool, true, false, cond, eqb, ltb, length, take}
use mathlib.Core.List.{List, [], ◌∷◌, ◌++◌, head?, tail}
use Rattle.std.proofs.Math.Option.{Option, none, some}
use Rattle.bits.specs.Memory.{over}
use Rattle.table.specs.Answers.{Answer, given, refused, Consent, accepted}
use Rattle.ledger.specs.Events.{Request, Reply, Event, request, reply, stop_at, events_of, following}
use Rattle.ledger.specs.Parents.{Note, beyond, stray, stopped}
use Rattle.ledger.specs.Settings.{Setting, writes, is_beyond}
use Rattle.ledger.specs.Trace.{TraceLine, lines_of}

-- a ledger with its list: the lines taken, the entries listed, the open requests of each CID, the earliest first, the last two parents of each
-- setting, the last first, and the lent numbers
pub record Book : Type 0 where
  pub lines : ℕ
  pub listed : ℕ
  pub pending : ℕ → List Request
  pub held : Setting → List Request
  pub list : List ℕ

-- ---- an event

-- an entry in numbers, four of them
abbrev pub in_four : Note → List ℕ
in_four n = n.kind ∷ n.at.line ∷ n.at.frame ∷ n.at.offset ∷ []

-- it goes behind the last; refusal 4, BufferTooShort, where the lent numbers have no room for it
abbrev pub noted : Note → Book → Answer Book
noted n b =
    cond (ltb b.listed (length b.list / 4))
    (given (record { lines = b.lines; listed = b.listed + 1; pending = b.pending; held = b.held; list = over b.list (4 * b.listed) (in_four n) }))
    (refused 4)

abbrev pub put : ℕ → List Request → (ℕ → List Request) → ℕ → List Request
put c rs pending d = cond (eqb c d) rs (pending d)

abbrev pub opening : ℕ → List Request → Book → Book
opening c rs b = record { lines = b.lines; listed = b.listed; pending = put c rs b.pending; held = b.held; list = b.list }

-- a request is open behind the others of its CID; refusal 17, PendingFull, where eight are
abbrev pub asked : Request → Book → Answer Book
asked r b = cond (ltb (length (b.pending r.cid)) 8) (given (opening r.cid (b.pending r.cid ++ (r ∷ [])) b)) (refused 17)

-- a request is the parent of each setting that it writes, and the parent before it is kept
abbrev pub holding : Request → (Setting → List Request) → Setting → List Request
holding r held σ = cond (writes r σ) (take 2 (r ∷ held σ)) (held σ)

abbrev pub takes_effect : Request → Book → Book
takes_effect r b = record { lines = b.lines; listed = b.listed; pending = b.pending; held = holding r b.held; list = b.list }

-- a request that is open no more is answered yes, or no
abbrev pub decided : (yes : Bool) → Request → Book → Answer Book
decided false r b = given b
decided true r b = cond (is_beyond r) (noted (beyond r.at) b) (given (takes_effect r b))

-- an answer, where this is the earliest open request of its CID
abbrev pub answering : Reply → Option Request → Book → Answer Book
answering a none b = noted (stray a.at) b
answering a (some r) b = decided a.agrees r (opening a.cid (tail (b.pending a.cid)) b)

abbrev pub step : Event → Book → Answer Book
step (request r) b = asked r b
step (reply a) b = answering a (head? (b.pending a.cid)) b
step (stop_at p) b = noted (stopped p) b

-- ---- events, in their order, up to the first refusal

abbrev pub onward : Answer Book → (Book → Answer Book) → Answer Book
onward (given b) f = f b
onward (refused k) f = refused k

unfoldable pub steps : List Event → Book → Answer Book
steps [] b = given b
steps (e ∷ es) b = onward (step e b) (steps es)

-- ---- lines

-- a line taken has the next number
abbrev pub counted : Book → Book
counted b = record { lines = following b.lines; listed = b.listed; pending = b.pending; held = b.held; list = b.list }

-- refusal 18, BadTraceLine, where the line has not the form
abbrev pub taken : Option TraceLine → Book → Answer Book
taken none b = refused 18
taken (some l) b = steps (events_of (following b.lines) l) (counted b)

-- a refused line leaves the book as it was before it, and its number is told
abbrev pub going : Answer Book → Book → (Book → Consent × ℕ × Book) → Consent × ℕ × Book
going (given c) b rest = rest c
going (refused k) b rest = (refused k, following b.lines, b)

unfoldable pub taken_all : List (Option TraceLine) → Book → Consent × ℕ × Book
taken_all [] b = (accepted, 0, b)
taken_all (l ∷ ls) b = going (taken l b) b (taken_all ls)

-- the verdict on a text, the number of the line that is refused, 0 for none, and the book then
abbrev pub replayed : List ℕ → Book → Consent × ℕ × Book
replayed text b = taken_all (lines_of text) b

-- Not for the auditor: only private functions cite this. Books and events as the code has them in hand.
use Rattle.std.specs.Prelude.{ℕ, ◌+◌, ◌-◌, ◌/◌, Bool, cond, List, ◌≡◌, ◌<◌, eqb, ltb, length, drop}
use mathlib.Core.List.{head?}
use Rattle.std.proofs.Math.Option.{Option, none, some}
use Rattle.table.specs.Answers.{Answer, given, refused, Consent, accepted}
use Rattle.table.specs.Table.{length_of}
use Rattle.table.specs.declared.rules.Rules.{Rules}
use Rattle.walk.specs.Walk.{walk_from}
use Rattle.ledger.specs.Book.{Book, steps, taken}
use Rattle.ledger.specs.Events.{Request, Reply, Event, place, walk_events}
use Rattle.ledger.specs.Memory.{pending_in, held_in}
use Rattle.ledger.specs.Parents.{Note, beyond, stray, stopped, brought_by}
use Rattle.ledger.specs.Trace.{TraceLine, written, front}
use Rattle.ledger.specs.declared.memory.Kind.{Kind}
use Rattle.ledger.specs.declared.memory.Place.{Place as Spot}
use Rattle.ledger.specs.declared.memory.Queue.{Queue}
use Rattle.ledger.specs.declared.memory.Parents.{Parents}
use Rattle.ledger.specs.declared.memory.Written.{Written}

-- ---- requests, answers and entries

abbrev pub reply_of : (cid : ℕ) → Bool → (line frame offset : ℕ) → Reply
reply_of c yea n f o = record { at = place n f o; cid = c; agrees = yea }

abbrev pub entry_of : Kind → Spot → Note
entry_of Kind.Beyond p = beyond (place p.line p.frame p.offset)
entry_of Kind.Stray p = stray (place p.line p.frame p.offset)
entry_of Kind.Stopped p = stopped (place p.line p.frame p.offset)

-- the row that a request writes, by its CID and the first byte of its payload: 37 for none, 38 where it is for a channel that is not held
abbrev pub row_written : (cid index : ℕ) → ℕ
row_written c i =
    cond (eqb c 0x03) 0
    (cond (eqb c 0x04) 1
    (cond (eqb c 0x05) 2
    (cond (eqb c 0x08) 3
    (cond (eqb c 0x09) 4
    (cond (eqb c 0x07) (cond (ltb i 16) (5 + i) 38)
    (cond (eqb c 0x0A) (cond (ltb i 16) (21 + i) 38) 37))))))

abbrev pub row_told : Written → ℕ
row_told (Written.Row r) = r
row_told Written.Nothing = 37
row_told Written.Beyond = 38

abbrev pub IsRow : Written → Type 0
IsRow (Written.Row r) = r < 37
IsRow Written.Nothing = Unit {0}
IsRow Written.Beyond = Unit {0}

-- ---- books in memory

abbrev pub book_in : (lines listed : ℕ) → List Queue → List Parents → List ℕ → Book
book_in lines listed p h l = record { lines = lines; listed = listed; pending = pending_in p; held = held_in h; list = l }

-- the number of a refusal, and 0 for none
abbrev pub fault_in : Answer Book → ℕ
fault_in (given b) = 0
fault_in (refused k) = k

-- the events of a stream from an offset on, in line n and frame f
unfoldable pub events_from : Rules → (n f : ℕ) → List ℕ → (at : ℕ) → List Event
events_from rules n f s at = walk_events rules n f (walk_from (length_of rules) at (drop at s))

abbrev pub ended : {A : Type 0} → Answer A → Consent
ended (given x) = accepted
ended (refused k) = refused k

-- this is said of a stream's events, wherever they stand, in every book with these pending requests, so many entries and so much room
abbrev pub Judges : Rules → (stream : List ℕ) → List Queue → (listed room : ℕ) → Consent → Type 0
Judges rules s p listed room v =
    (n f lines : ℕ) (h : List Parents) (l : List ℕ) → length l / 4 ≡ room → v ≡ ended (steps (events_from rules n f s 0) (book_in lines listed p h l))

-- so many entries take room, where so many have it: how many have room behind them
abbrev pub taking : (entries left : ℕ) → Answer ℕ
taking n left = cond (ltb left n) (refused 4) (given (left - n))

-- the same of a command that so many of its CID go before, by the requests of its CID that are open before its line
abbrev pub left_behind : (rs : List Request) → (asks : Bool) → (before cid : ℕ) → (yea : Bool) → (left : ℕ) → Answer ℕ
left_behind rs asks k c yea left =
    cond asks (cond (ltb (length rs + k) 8) (given left) (refused 17))
    (taking (length (brought_by (reply_of c yea 0 0 0) (head? (drop k rs)))) left)

-- ---- lines of a text

abbrev pub with_next : ℕ → Option TraceLine → Option (TraceLine × ℕ)
with_next at none = none
with_next at (some l) = some (l, at + length (written l))

-- the line at an offset of a text, and the offset behind it
unfoldable pub front_at : List ℕ → ℕ → Option (TraceLine × ℕ)
front_at t at = with_next at (front (drop at t))

-- what a line came to: the offset behind it, or the number of its refusal; and the book then
abbrev pub by_taken : Answer Book → ℕ → Book → Answer ℕ × Book
by_taken (given c) next b = (given next, c)
by_taken (refused k) next b = (refused k, b)

abbrev pub at_line : Option (TraceLine × ℕ) → Book → Answer ℕ × Book
at_line none b = (refused 18, b)
at_line (some x) b = by_taken (taken (some x.0) b) x.1 b

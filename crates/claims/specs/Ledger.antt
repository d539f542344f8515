-- The ledger of parents (RULES: X1 to X16, X18): what a replayed exchange tells, of every outcome that the contracts of `Ledger::new`, `replay_trace`, the
-- fifteen methods that ask for a setting, and `entry_at` admit.
use Rattle.std.specs.Prelude.{ℕ, ◌+◌, ◌*◌, ◌<◌, Bool, true, false, ◌↔◌, ◌≡◌, length, drop, Result, Ok, Err, None, Some}
use Rattle.std.specs.Prelude as Std
use Prim.Native.String.{String}
use mathlib.Core.List.{List, [], ◌∷◌, ◌++◌, reverse, head?}
use Rattle.std.proofs.Math.Option.{Option, none, some}
use Rattle.std.specs.Borrow.{Bor, MutBor}
use Rattle.bits.specs.Every.{Every}
use Rattle.table.specs.Answers.{Consent, accepted, refused}
use Rattle.table.specs.Refusals.{number_of}
use Rattle.text.specs.Characters.{ascii}
use Rattle.walk.specs.Walk.{Placed, Ending}
use Rattle.ledger.specs.Asked.{note_of}
use Rattle.ledger.specs.Book.{Book, taken, replayed}
use Rattle.ledger.specs.Claims.{
  Exact,
  ExactIsOne,
  EffectsInOrder,
  HigherNotHeld,
  Listed,
  ListedIsOne,
  in_numbers,
  fault_of,
  count_of,
  fresh,
  room_in,
}
use Rattle.ledger.specs.Events.{place, walk_events, NamedEither, rules_for, events_of, following, events}
use Rattle.ledger.specs.Matching.{QueueIsMatching, StrayIsUnmatched, OpenAreUnanswered}
use Rattle.ledger.specs.Memory.{book_of}
use Rattle.ledger.specs.Parents.{Shown, Note, beyond, stray, stopped}
use Rattle.ledger.specs.Settings.{
  Setting,
  data_rate,
  tx_power,
  channel_mask,
  redundancy,
  max_duty_cycle,
  rx1_dr_offset,
  rx2_data_rate,
  rx2_frequency,
  delay,
  downlink_dwell_time,
  uplink_dwell_time,
  max_eirp,
  channel_frequency,
  channel_rates,
  downlink_frequency,
}
use Rattle.ledger.specs.Told.{told_replay, told_line}
use Rattle.ledger.specs.Trace.{TraceLine, Lawful, written_all, front, BeginsWith}
use Rattle.ledger.specs.declared.Ledger.{Ledger}
use Rattle.ledger.specs.declared.entries.Entry.{Entry}
use Rattle.ledger.specs.declared.exchange.BadLine.{BadLine}
use Rattle.ledger.specs.declared.settings.Parent.{Parent}
use Rattle.ledger.proofs.Ledger.new.Reads as new
use Rattle.ledger.proofs.Ledger.data_rate.Reads as data_rate
use Rattle.ledger.proofs.Ledger.tx_power.Reads as tx_power
use Rattle.ledger.proofs.Ledger.channel_mask.Reads as channel_mask
use Rattle.ledger.proofs.Ledger.redundancy.Reads as redundancy_byte
use Rattle.ledger.proofs.Ledger.max_duty_cycle.Reads as max_duty_cycle
use Rattle.ledger.proofs.Ledger.rx1_dr_offset.Reads as rx1_dr_offset
use Rattle.ledger.proofs.Ledger.rx2_data_rate.Reads as rx2_data_rate
use Rattle.ledger.proofs.Ledger.rx2_frequency.Reads as rx2_frequency
use Rattle.ledger.proofs.Ledger.delay.Reads as delay_seconds
use Rattle.ledger.proofs.Ledger.downlink_dwell_time.Reads as downlink_dwell_time
use Rattle.ledger.proofs.Ledger.uplink_dwell_time.Reads as uplink_dwell_time
use Rattle.ledger.proofs.Ledger.max_eirp.Reads as max_eirp
use Rattle.ledger.proofs.Ledger.channel_frequency.Reads as channel_frequency
use Rattle.ledger.proofs.Ledger.channel_rates.Reads as channel_rates
use Rattle.ledger.proofs.Ledger.downlink_frequency.Reads as downlink_frequency
use Rattle.ledger.proofs.entries.entry_at.Reads as entry_at
use Rattle.ledger.proofs.exchange.replay_trace.Reads as replay_trace
use Rattle.claims.specs.Handing.{ReadAs}
use Rattle.claims.specs.Outcomes.{Gives, GivesWith}

-- ---- what the functions may answer

-- what a replay comes to: the answer, and the ledger then
pub record Replayed : Type 0 where
  pub answer : Result Unit BadLine
  pub ledger : Ledger

-- a text is replayed into a lent ledger, which is this one, and a lent list: the outcome may be this, and the list be left so
pub record Replays (l : Ledger) (text : Bor (List ℕ)) (list : MutBor (List ℕ)) (r : Replayed) (after : List ℕ) : Type 0 where
  pub lent : MutBor Ledger
  pub same : lent.now ≡ l
  pub admitted : GivesWith {M = Ledger × List ℕ} (λ s. (s.0.now, s.1.1.0.now)) replay_trace.Post (lent, (text, (list, tt))) r.answer (r.ledger, after)

-- the same into a new ledger
pub record FromNew (text : Bor (List ℕ)) (list : MutBor (List ℕ)) (r : Replayed) (after : List ℕ) : Type 0 where
  pub ledger : Ledger
  pub new : Gives new.Post tt ledger
  pub replays : Replays ledger text list r after

-- a ledger is asked for a setting, by its method: the answer may be this. (A channel is a number below 256 there; what is claimed holds of any.)
abbrev pub Asks : Setting → Ledger → Std.Option Parent → Type 0
Asks data_rate l h = Gives data_rate.Post (l, tt) h
Asks tx_power l h = Gives tx_power.Post (l, tt) h
Asks channel_mask l h = Gives channel_mask.Post (l, tt) h
Asks redundancy l h = Gives redundancy_byte.Post (l, tt) h
Asks max_duty_cycle l h = Gives max_duty_cycle.Post (l, tt) h
Asks rx1_dr_offset l h = Gives rx1_dr_offset.Post (l, tt) h
Asks rx2_data_rate l h = Gives rx2_data_rate.Post (l, tt) h
Asks rx2_frequency l h = Gives rx2_frequency.Post (l, tt) h
Asks delay l h = Gives delay_seconds.Post (l, tt) h
Asks downlink_dwell_time l h = Gives downlink_dwell_time.Post (l, tt) h
Asks uplink_dwell_time l h = Gives uplink_dwell_time.Post (l, tt) h
Asks max_eirp l h = Gives max_eirp.Post (l, tt) h
Asks (channel_frequency i) l h = Gives channel_frequency.Post (l, (i, tt)) h
Asks (channel_rates i) l h = Gives channel_rates.Post (l, (i, tt)) h
Asks (downlink_frequency i) l h = Gives downlink_frequency.Post (l, (i, tt)) h

-- what that answer says: no parent, or the place of the parent, its value and its mark
abbrev pub told_parent : Std.Option Parent → Option Shown
told_parent None = none
told_parent (Some p) = some (record { parent = place p.line p.frame p.offset; value = p.value; unchanged = p.unchanged })

-- a list is asked for the entry with this index: the answer may be this
abbrev pub Enters : Bor (List ℕ) → ℕ → Entry → Type 0
Enters list k e = Gives entry_at.Post (list, (k, tt)) e

-- whatever a list that is left so answers, these are its first entries
abbrev pub EntriesAre : (after : List ℕ) → List Note → Type 0
EntriesAre after ns =
    (list : Bor (List ℕ)) (k : ℕ) (e : Entry) → list.now ≡ after → k < length ns → Enters list k e → head? (drop k ns) ≡ some (note_of e)

-- ---- parents exactly, and the list exactly

-- a ledger and its list tell of these lines, and of nothing else
pub record Tells (lines : List TraceLine) (lent : List ℕ) (l : Ledger) (after : List ℕ) : Type 0 where
  -- so many were taken
  pub counted : l.lines ≡ count_of (length lines)
  -- each setting: no parent, if no request writing it was answered yes; else the one answered last, what it says, and its mark
  pub parents : (σ : Setting) (h : Std.Option Parent) → Asks σ l h → Exact σ (reverse (events 0 lines)) (told_parent h)
  -- the list: the strays, the yeses to requests for higher channels and the stops, in order; behind them the numbers are as they were lent
  pub notes : List Note
  pub listed : Listed (reverse (events 0 lines)) notes
  pub count : l.listed ≡ length notes
  pub entries : EntriesAre after notes
  pub behind : drop (4 * l.listed) after ≡ drop (4 * l.listed) lent
  pub long : length after ≡ length lent

-- a text that is the text of lawful lines
pub record TraceText (t : List ℕ) : Type 0 where
  pub lines : List TraceLine
  pub lawful : Every Lawful lines
  pub text_is : t ≡ written_all lines

-- a text that is accepted, replayed into a new ledger
pub record WholeText (text : Bor (List ℕ)) (list : MutBor (List ℕ)) (r : Replayed) (after : List ℕ) : Type 0 where
  pub text_is : TraceText text.now
  pub line : told_line r.answer ≡ 0
  pub tells : Tells text_is.lines list.now r.ledger after

abbrev pub WholeTells : Type 0
WholeTells =
    (text : Bor (List ℕ)) (list : MutBor (List ℕ)) (r : Replayed) (after : List ℕ) → FromNew text list r after → told_replay r.answer ≡ accepted
    → WholeText text list r after

-- ---- refusals

-- lawful lines of a text, and the text behind them, of which something is left
pub record Parted (t : List ℕ) : Type 0 where
  pub lines : List TraceLine
  pub lawful : Every Lawful lines
  pub rest : List ℕ
  pub some_left : 0 < length rest
  pub text_is : t ≡ written_all lines ++ rest

-- the first line of a text that is at fault, from a new ledger with this list lent: its refusal k, its number n, and the ledger and list before it
pub record FirstFault (t lent : List ℕ) (k n : ℕ) (b : Book) : Type 0 where
  pub at : Parted t
  pub line : n ≡ count_of (length at.lines + 1)
  pub before : replayed (written_all at.lines) (fresh lent) ≡ (accepted, 0, b)
  -- 18 where the rest begins with no line, else 17 or 4 at the first command or stop of its stream that is at fault
  pub why : fault_of (room_in lent) n (front at.rest) (reverse (events 0 at.lines)) ≡ some k

-- a text is refused exactly so, and accepted exactly if no line of it is at fault. D1: ledger and list tell of the lines before that line
pub record Decided (text : Bor (List ℕ)) (list : MutBor (List ℕ)) (r : Replayed) (after : List ℕ) : Type 0 where
  pub refuses : (k : ℕ) → (told_replay r.answer ≡ refused k) ↔ FirstFault text.now list.now k (told_line r.answer) (book_of r.ledger after)
  pub accepts : (told_replay r.answer ≡ accepted) ↔ ((k n : ℕ) (b : Book) → FirstFault text.now list.now k n b → ⊥)
  pub tells : (k : ℕ) (f : FirstFault text.now list.now k (told_line r.answer) (book_of r.ledger after)) → Tells f.at.lines list.now r.ledger after

abbrev pub RefusesExactly : Type 0
RefusesExactly = (text : Bor (List ℕ)) (list : MutBor (List ℕ)) (r : Replayed) (after : List ℕ) → FromNew text list r after → Decided text list r after

-- two outcomes are the same: the ledgers, each with its list, are one to whoever asks
pub record Same (r : Replayed) (after : List ℕ) (s : Replayed) (after' : List ℕ) : Type 0 where
  pub answer : r.answer ≡ s.answer
  pub book : book_of r.ledger after ≡ book_of s.ledger after'

-- D1, from any ledger: lines, and then the one that is refused
pub record KeptLines (l : Ledger) (text : Bor (List ℕ)) (list : MutBor (List ℕ)) (r : Replayed) (after : List ℕ) (k : ℕ) : Type 0 where
  pub at : Parted text.now
  -- its number is the next
  pub line : told_line r.answer ≡ following r.ledger.lines
  -- the lines before it, replayed alone into the same, are accepted, and leave the same ledger and list
  pub before : (alone : Bor (List ℕ)) (lent : MutBor (List ℕ)) (s : Replayed) (after' : List ℕ) → alone.now ≡ written_all at.lines → lent.now ≡ list.now
      → Replays l alone lent s after' → (told_replay s.answer ≡ accepted) × (book_of r.ledger after ≡ book_of s.ledger after')
  -- what is left, replayed into these, is refused at once, with the same number, and leaves them as they are
  pub again : (left : Bor (List ℕ)) (lent : MutBor (List ℕ)) (s : Replayed) (after' : List ℕ) → left.now ≡ at.rest → lent.now ≡ after
      → Replays r.ledger left lent s after' → Same r after s after'
  pub why : taken (front at.rest) (book_of r.ledger after) ≡ refused k
  -- for its form, exactly if what is left begins with no lawful line
  pub form : (k ≡ 18) ↔ ((m : TraceLine) → BeginsWith at.rest m → ⊥)

abbrev pub RefusedLineKeeps : Type 0
RefusedLineKeeps =
    (l : Ledger) (text : Bor (List ℕ)) (list : MutBor (List ℕ)) (r : Replayed) (after : List ℕ) (k : ℕ) → Replays l text list r after
    → told_replay r.answer ≡ refused k → KeptLines l text list r after k

-- ---- the text's form

-- what is accepted, by any ledger, is the text of lawful lines, and a text is that of one list of lines only
pub record FormIs : Type 0 where
  pub accepted_is : (l : Ledger) (text : Bor (List ℕ)) (list : MutBor (List ℕ)) (r : Replayed) (after : List ℕ) → Replays l text list r after
      → told_replay r.answer ≡ accepted → TraceText text.now
  pub one : (ls ms : List TraceLine) → Every Lawful ls → Every Lawful ms → written_all ls ≡ written_all ms → ls ≡ ms

-- ---- line by line

-- a text that is accepted, and then another into what it left: two calls
pub record InTwo (l : Ledger) (text more : Bor (List ℕ)) (list : MutBor (List ℕ)) (r : Replayed) (after : List ℕ) : Type 0 where
  pub first : Replayed
  pub left : MutBor (List ℕ)
  pub one : Replays l text list first left.now
  pub whole : told_replay first.answer ≡ accepted
  pub two : Replays first.ledger more left r after

-- come to the same as one, of both texts joined: a capture can be replayed as it comes
abbrev pub FedAsItComes : Type 0
FedAsItComes =
    (l : Ledger) (text more joined : Bor (List ℕ)) (list lent : MutBor (List ℕ)) (r s : Replayed) (after after' : List ℕ) → InTwo l text more list r after
    → joined.now ≡ text.now ++ more.now → lent.now ≡ list.now → Replays l joined lent s after' → Same r after s after'

-- ledgers that are one as books, with their lists, are answered alike whatever is asked, and whatever is replayed into them comes to the same
pub record Alike (l m : Ledger) (list list' : List ℕ) : Type 0 where
  pub lists : list ≡ list'
  pub counts : (l.lines ≡ m.lines) × (l.listed ≡ m.listed)
  pub settings : (σ : Setting) (h g : Std.Option Parent) → Asks σ l h → Asks σ m g → h ≡ g
  pub on : (text : Bor (List ℕ)) (lent : MutBor (List ℕ)) (text' : Bor (List ℕ)) (lent' : MutBor (List ℕ)) (r s : Replayed) (after after' : List ℕ)
      → text.now ≡ text'.now → lent.now ≡ list → lent'.now ≡ list' → Replays l text lent r after → Replays m text' lent' s after'
      → Same r after s after'

abbrev pub BooksTell : Type 0
BooksTell = (l m : Ledger) (list list' : List ℕ) → book_of l list ≡ book_of m list' → Alike l m list list'

-- ---- nothing is guessed

-- the events of a line are the commands that every entry hands out of its stream (D3), each once and in order, and the stop that it tells: no command
-- is stepped over, and none is made up
pub record NothingGuessed (n : ℕ) (l : TraceLine) (stream : Bor (List ℕ)) : Type 0 where
  pub cmds : List Placed
  pub ending : Ending
  pub read : ReadAs (rules_for l) stream cmds ending
  pub events_are : events_of n l ≡ walk_events (rules_for l) n l.frame (record { cmds = cmds; ending = ending })

-- ---- examples: a text, and what it comes to from a new ledger, with nine numbers lent, which is room for two entries

pub record Example : Type 0 where
  pub text : String
  pub verdict : Consent
  pub line : ℕ
  pub shows : List (Setting × Option Shown)
  pub entries : List Note

abbrev pub lent_nine : List ℕ
lent_nine = 90 ∷ 91 ∷ 92 ∷ 93 ∷ 94 ∷ 95 ∷ 96 ∷ 97 ∷ 98 ∷ []

abbrev pub Answers : Ledger → Setting × Option Shown → Type 0
Answers l x = (h : Std.Option Parent) → Asks x.0 l h → told_parent h ≡ x.1

pub record ComesTo (e : Example) (r : Replayed) (after : List ℕ) : Type 0 where
  pub verdict : told_replay r.answer ≡ e.verdict
  pub line : told_line r.answer ≡ e.line
  pub shows : Every (Answers r.ledger) e.shows
  pub count : r.ledger.listed ≡ length e.entries
  pub entries : EntriesAre after e.entries
  pub numbers : after ≡ in_numbers e.entries ++ drop (length (in_numbers e.entries)) lent_nine

abbrev pub Holds : Example → Type 0
Holds e =
    (text : Bor (List ℕ)) (list : MutBor (List ℕ)) (r : Replayed) (after : List ℕ) → text.now ≡ ascii e.text → list.now ≡ lent_nine → FromNew text list r after
    → ComesTo e r after

-- a parent by its line, frame and offset, its value, and its mark
abbrev pub set : (line frame offset value : ℕ) → (unchanged : Bool) → Option Shown
set n f o v u = some (record { parent = place n f o; value = v; unchanged = u })

abbrev pub whole : String → List (Setting × Option Shown) → List Note → Example
whole t s ns = record { text = t; verdict = accepted; line = 0; shows = s; entries = ns }

abbrev pub halted : String → (k line : ℕ) → List (Setting × Option Shown) → List Note → Example
halted t k n s ns = record { text = t; verdict = refused k; line = n; shows = s; entries = ns }

abbrev pub examples : List Example
examples =
    -- two requests, one yes: the first is answered
    whole "70\tD\t04010402\n7\tU\t04\n" ((max_duty_cycle, set 1 70 0 1 false) ∷ (data_rate, none) ∷ []) [] ∷
    -- yes, and then no: the first stays the parent, of each setting that it writes
    whole "70\tD\t03510700010342070001\n7\tU\t03070306\n"
    ((data_rate, set 1 70 0 5 false) ∷ (tx_power, set 1 70 0 1 false) ∷ (channel_mask, set 1 70 0 7 false) ∷ (redundancy, set 1 70 0 1 false) ∷ []) [] ∷
    -- no, and then yes: a no answers too
    whole "70\tD\t03510700010342070001\n7\tU\t03060307\n" ((data_rate, set 1 70 5 4 false) ∷ []) [] ∷
    -- yes is the `ack` alone: a fourth bit in LinkADRAns makes it a no, six more in DlChannelAns do not; and an empty answer is yes
    whole "70\tD\t03510700010A02184F840803\n7\tU\t030F0AFF08\n"
    ((data_rate, none) ∷ (downlink_frequency 2, set 1 70 5 867_100_000 false) ∷ (delay, set 1 70 10 3 false) ∷ []) [] ∷
    -- a request that is sent up has its answer down, and is no stray
    whole "7\tU\t02\n70\tD\t020A03\n" [] [] ∷
    -- a stray, which is not matched to the request behind it
    whole "7\tU\t04\n70\tD\t0401\n" ((max_duty_cycle, none) ∷ []) (stray (place 1 7 0) ∷ []) ∷
    -- unchanged: of the duty cycle's byte the low half counts
    whole "70\tD\t04000410\n7\tU\t0404\n" ((max_duty_cycle, set 1 70 2 0 true) ∷ []) [] ∷
    -- a delay is shown in seconds, and by these it is marked: of the codes 1, 0 and 2 the first is 1 second, the second changes nothing, the third does
    whole "70\tD\t0801\n7\tU\t08\n" ((delay, set 1 70 0 1 false) ∷ []) [] ∷
    whole "70\tD\t08010800\n7\tU\t0808\n" ((delay, set 1 70 2 1 true) ∷ []) [] ∷
    whole "70\tD\t080108000802\n7\tU\t080808\n" ((delay, set 1 70 4 2 false) ∷ []) [] ∷
    -- nor does 1 after 0 change anything; and of the byte the low half counts
    whole "70\tD\t08000801\n7\tU\t0808\n" ((delay, set 1 70 2 1 true) ∷ []) [] ∷
    whole "70\tD\t080108F0\n7\tU\t0808\n" ((delay, set 1 70 2 1 true) ∷ []) [] ∷
    -- each setting for itself, and of the redundancy byte every bit
    whole "70\tD\t03510700010351070081\n7\tU\t03070307\n" ((data_rate, set 1 70 5 5 true) ∷ (redundancy, set 1 70 5 129 false) ∷ []) [] ∷
    -- by the parent before, not the request before, which was answered no
    whole "70\tD\t035107000103420700010353070001\n7\tU\t030703060307\n" ((data_rate, set 1 70 10 5 true) ∷ (tx_power, set 1 70 10 3 false) ∷ []) [] ∷
    -- frame numbers may repeat
    whole "7\tD\t0401\n7\tD\t0402\n7\tU\t0404\n" ((max_duty_cycle, set 2 7 0 2 false) ∷ []) [] ∷
    -- the other requests
    whole "70\tD\t0535184F840803092E0A02184F84\n7\tU\t050708090A03\n"
    ((rx1_dr_offset, set 1 70 0 3 false) ∷ (rx2_data_rate, set 1 70 0 5 false) ∷ (rx2_frequency, set 1 70 0 867_100_000 false) ∷
    (delay, set 1 70 5 3 false) ∷ (downlink_dwell_time, set 1 70 7 1 false) ∷ (uplink_dwell_time, set 1 70 7 0 false) ∷ (max_eirp, set 1 70 7 33 false) ∷
    (downlink_frequency 2, set 1 70 9 867_100_000 false) ∷ (downlink_frequency 3, none) ∷ []) [] ∷
    -- channel 15 is held
    whole "70\tD\t070F184F8450\n7\tU\t0703\n"
    ((channel_frequency 15, set 1 70 0 867_100_000 false) ∷ (channel_rates 15, set 1 70 0 0x50 false) ∷ (channel_frequency 14, none) ∷ []) [] ∷
    -- channel 16 is not: it is listed, at the request's place, when it is answered yes
    whole "70\tD\t0710184F8450\n7\tU\t0703\n" ((channel_frequency 16, none) ∷ (channel_frequency 0, none) ∷ []) (beyond (place 1 70 0) ∷ []) ∷
    whole "70\tD\t0710184F8450\n7\tU\t0702\n" ((channel_frequency 16, none) ∷ []) [] ∷
    -- a stream that stops gives its commands, and then its stop
    whole "70\tD\t0401FF\n7\tU\t04\n" ((max_duty_cycle, set 1 70 0 1 false) ∷ []) (stopped (place 1 70 2) ∷ []) ∷
    -- a ninth open request: its line is refused, and those behind it are not taken
    halted "70\tD\t04010402040304040405040604070408\n71\tD\t0409\n7\tU\t04\n" 17 2 ((max_duty_cycle, none) ∷ []) [] ∷
    -- a line that is refused half-way through, at its third stray: neither its yes is kept nor its strays
    halted "70\tD\t0401\n7\tU\t04040404\n" 4 2 ((max_duty_cycle, none) ∷ []) [] ∷
    -- the lines before it stay
    halted "7\tU\t04\n70\tD\t0401\n8\tU\t04\n9\tU\t0404\n" 4 4 ((max_duty_cycle, set 2 70 0 1 false) ∷ []) (stray (place 1 7 0) ∷ []) ∷
    -- in a line the first at fault decides: a third stray, before a ninth request
    halted "70\tD\t04010402040304040405040604070408\n71\tD\t020A03020A03020A030409\n" 4 2 ((max_duty_cycle, none) ∷ []) [] ∷
    -- and a ninth request, before a third entry
    halted "7\tU\t0404\n70\tD\t04010402040304040405040604070408\n71\tD\t0409FF\n" 17 3 ((max_duty_cycle, none) ∷ [])
    (stray (place 1 7 0) ∷ stray (place 1 7 1) ∷ []) ∷
    -- the form comes before all else: what would be a third stray stands in a line that has it not
    halted "7\tU\t0404\n7\tU\t04" 18 2 [] (stray (place 1 7 0) ∷ stray (place 1 7 1) ∷ []) ∷
    -- a frame's number has 32 bits
    whole "4294967295\tD\t0401\n7\tU\t04\n" ((max_duty_cycle, set 1 4_294_967_295 0 1 false) ∷ []) [] ∷
    -- lines without the form: a number too large, an empty stream without its sign, small letters, half a byte, an extra zero, no newline, nothing at
    -- all, a carriage return
    halted "4294967296\tD\t0401\n" 18 1 ((max_duty_cycle, none) ∷ []) [] ∷
    halted "70\tD\t\n" 18 1 ((max_duty_cycle, none) ∷ []) [] ∷
    halted "70\tD\t040a\n" 18 1 ((max_duty_cycle, none) ∷ []) [] ∷
    halted "70\tD\t040\n" 18 1 ((max_duty_cycle, none) ∷ []) [] ∷
    halted "\n" 18 1 ((max_duty_cycle, none) ∷ []) [] ∷
    halted "70\tD\t0401\r\n" 18 1 ((max_duty_cycle, none) ∷ []) [] ∷
    halted "70\tD\t0401\n07\tU\t04\n" 18 2 ((max_duty_cycle, none) ∷ []) [] ∷
    halted "70\tD\t0401\n7\tU\t04" 18 2 ((max_duty_cycle, none) ∷ []) [] ∷
    -- no line, and a line with no command
    whole "" ((max_duty_cycle, none) ∷ []) [] ∷
    whole "70\tD\t-\n" ((max_duty_cycle, none) ∷ []) [] ∷ []

-- ---- the claims

pub record LedgerTells : Type 0 where
  -- X9 to X12: of every text that is accepted, each setting names its parent exactly, and the list is exact
  pub whole_tells : WholeTells
  -- X13, X14: a text is refused exactly where its first line at fault is; and what a refusal leaves, of any ledger
  pub refuses_exactly : RefusesExactly
  pub refusals_keep : RefusedLineKeeps
  -- X14: what is told of an answer is what stands in it, the refusal's number and the line's
  pub says_which : (e : BadLine) → (told_replay (Err e) ≡ refused (number_of e.reason)) × (told_line (Err e) ≡ e.line)
  pub says_none : (told_replay (Ok tt) ≡ accepted) × (told_line (Ok tt) ≡ 0)
  -- X1 to X4: the form of what is accepted
  pub form_is : FormIs
  -- X15: a capture can be fed as it comes
  pub line_by_line : FedAsItComes
  pub books_tell : BooksTell
  -- X5 and X6: no command is stepped over
  pub nothing_guessed : (n : ℕ) (l : TraceLine) (stream : Bor (List ℕ)) → stream.now ≡ l.stream → NothingGuessed n l stream
  -- X6: whatever the table has is a request or an answer, and not both
  pub named_either : NamedEither
  -- X7: by the sentence and by computation an answer belongs to one request, and as many are open as are not answered
  pub matching : QueueIsMatching
  pub strays : StrayIsUnmatched
  pub open_ones : OpenAreUnanswered
  -- what is exact is one thing only; read in the order of the trace it is a request, and later its answer; higher channels are never in it
  pub exact_is_one : ExactIsOne
  pub listed_is_one : ListedIsOne
  pub in_order : EffectsInOrder
  pub higher_not_held : HigherNotHeld
  pub examples_hold : Every Holds examples

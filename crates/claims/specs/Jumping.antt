-- Jumping to a command by its number (RULES: J1 to J7, J9), of every outcome that the contracts admit: what the making of entries leaves, what is answered
-- with the entries that were made, and what with any others. The walk's list is the one that every function of D3 hands out (`defined`, Owning.antt);
-- that of a walk from an entry is the one along which steps from there lead (`steps_lead`).
use Rattle.std.specs.Prelude.{ℕ, zero, suc, ◌+◌, ◌*◌, ◌/◌, ◌%◌, ◌≤◌, ◌<◌, List, [], ◌∷◌, ◌≡◌, length, get_or, take, drop, Result}
use Rattle.std.specs.Borrow.{Bor, MutBor}
use Rattle.table.specs.Answers.{Answer, given, refused}
use Rattle.table.specs.Table.{length_of}
use Rattle.table.specs.declared.refusal.Refusal.{Refusal}
use Rattle.table.specs.declared.rules.Direction.{Direction}
use Rattle.table.specs.declared.rules.Direction.TheVariants.{Down, Up}
use Rattle.table.specs.declared.rules.Rules.{Rules}
use Rattle.walk.specs.Step.{command, heading}
use Rattle.walk.specs.Told.{told_step}
use Rattle.walk.specs.Walk.{Rule, Placed, walk_from, walk_of}
use Rattle.jumps.specs.Jump.{Spot, spot_of}
use Rattle.jumps.specs.Told.{told_entries, told_jump}
use Rattle.jumps.specs.declared.jump.Spot as Code
use Rattle.build.specs.declared.handed.Handed.{Handed}
use Rattle.walk.proofs.step.payload_at.Reads as payload_at
use Rattle.jumps.proofs.entries.make_entries.Reads as make_entries
use Rattle.jumps.proofs.jump.jump_to.Reads as jump_to
use Rattle.build.proofs.handed.record_at.Reads as record_at
use Rattle.claims.specs.Origins.{Says}
use Rattle.claims.specs.Outcomes.{Gives, GivesWith}

-- whatever the making may answer, and how it may leave the numbers
abbrev pub Makes : Rules → (stream : Bor (List ℕ)) (numbers : MutBor (List ℕ)) → Result ℕ Refusal → (after : List ℕ) → Type 0
Makes rules stream numbers r after = GivesWith (λ s. s.1.1.0.now) make_entries.Post (rules, (stream, (numbers, tt))) r after

-- whatever may be answered to who asks for command n
abbrev pub Asks : Rules → (stream entries : Bor (List ℕ)) → (n : ℕ) → Result Code.Spot Refusal → Type 0
Asks rules stream entries n r = Gives jump_to.Post (rules, (stream, (entries, (n, tt)))) r

-- there is an n-th of these commands, counted from 0, of which this is so
pub record Nth (ps : List Placed) (n : ℕ) (So : Placed → Type 0) : Type 0 where
  pub nth : Placed
  pub behind : List Placed
  pub there : drop n ps ≡ nth ∷ behind
  pub so : So nth

-- how many entries so many commands have: a sixteenth, rounded up
abbrev pub entries_for : ℕ → ℕ
entries_for n = (n + 15) / 16

-- ---- making

-- the entries of these commands in lent numbers: at place k stands the offset of command 16 k, and behind the entries all is as it was
pub record EntriesIn (cmds : List Placed) (before after : List ℕ) : Type 0 where
  pub each : (k : ℕ) → k < entries_for (length cmds) → Nth cmds (16 * k) (λ (p : Placed). get_or after k 0 ≡ p.at)
  pub others : drop (entries_for (length cmds)) after ≡ drop (entries_for (length cmds)) before
  pub size : length after ≡ length before

-- refusal 4 for too few numbers; then 5 for a stream of more than 4,294,967,295 bytes, wherever its commands end; else as many entries as a
-- sixteenth of the commands, rounded up, whether the walk ends or stops behind them. A refusal leaves the numbers as they were
pub record MakingTells (cmds : List Placed) (bytes : ℕ) (before : List ℕ) (a : Answer ℕ) (after : List ℕ) : Type 0 where
  pub short : length before < entries_for (length cmds) → a ≡ refused 4
  pub long : entries_for (length cmds) ≤ length before → 4_294_967_295 < bytes → a ≡ refused 5
  pub all : entries_for (length cmds) ≤ length before → bytes ≤ 4_294_967_295 → (a ≡ given (entries_for (length cmds))) × EntriesIn cmds before after
  pub keeps : (k : ℕ) → a ≡ refused k → after ≡ before

-- ---- asking

-- with the stream's own entries, all of them and nothing behind: each command of the walk by its number. Behind the last it is 19 while an entry covers
-- n, which is so below sixteen times the number of entries, and 4 from there on
pub record OwnTells (cmds : List Placed) (n : ℕ) (a : Answer Spot) : Type 0 where
  pub nth : n < length cmds → Nth cmds n (λ (p : Placed). a ≡ given (spot_of p))
  pub near : length cmds ≤ n → n < 16 * entries_for (length cmds) → a ≡ refused 19
  pub far : 16 * entries_for (length cmds) ≤ n → a ≡ refused 4

-- entries that a making of these bytes reported, and no others
pub record MadeOf (rules : Rules) (bytes entries : List ℕ) : Type 0 where
  pub stream : Bor (List ℕ)
  pub same : stream.now ≡ bytes
  pub numbers : MutBor (List ℕ)
  pub answer : Result ℕ Refusal
  pub after : List ℕ
  pub total : ℕ
  pub made : Makes rules stream numbers answer after
  pub reported : told_entries answer ≡ given total
  pub exactly : entries ≡ take total after

module _ (L : Rule) (s entries : List ℕ) (n : ℕ) where
  -- the entry that covers command n
  abbrev pub entry : ℕ
  entry = get_or entries (n / 16) 0

  -- the commands of the walk from there
  abbrev pub there : List Placed
  there = (walk_from L entry (drop entry s)).cmds

  -- with any entries: 4 where none covers n; 5 where the one that does is past the stream; else it is the walk from there, of which command n mod 16 is
  -- told, and 19 where it has no more than n mod 16 commands. (How many steps are made, no outcome tells: `jumped`, which the contract cites, has n mod 16
  -- of them before the command is read, so 15 at most.)
  pub record AnyTells (a : Answer Spot) : Type 0 where
    pub none : length entries ≤ n / 16 → a ≡ refused 4
    pub past : n / 16 < length entries → length s < entry → a ≡ refused 5
    pub nth : n / 16 < length entries → entry ≤ length s → n % 16 < length there → Nth there (n % 16) (λ (p : Placed). a ≡ given (spot_of p))
    pub ends : n / 16 < length entries → entry ≤ length s → length there ≤ n % 16 → a ≡ refused 19

-- what `record_at` gives in a frame at the offset that is told: its step is that command, of this CID and this length, and its record says so, with that
-- frame, that offset and the payload that `payload_at` shows there (W7)
pub record RecordIs (rules : Rules) (stream : Bor (List ℕ)) (x : Spot) (frame : ℕ) (r : Handed) : Type 0 where
  pub its_step : told_step r.step ≡ given (command (heading x.cid x.len) (x.at + (1 + x.len)))
  pub its_record : (p : Bor (List ℕ)) → Gives payload_at.Post (rules, (stream, (x.at, tt))) p → Says frame x.at (heading x.cid x.len) p.now r.«record»

-- ---- examples

-- a stream of a direction, lent numbers, the answer to the making, and the numbers then
pub record MakesAs (d : Direction) (bytes before : List ℕ) (a : Answer ℕ) (after : List ℕ) : Type 0 where
  pub so : (stream : Bor (List ℕ)) (numbers : MutBor (List ℕ)) → stream.now ≡ bytes → numbers.now ≡ before → (r : Result ℕ Refusal) (left : List ℕ)
      → Makes (record { direction = d }) stream numbers r left → (told_entries r ≡ a) × (left ≡ after)

-- a stream of a direction, entries, a command's number, and the answer
pub record JumpsAs (d : Direction) (bytes entries : List ℕ) (n : ℕ) (a : Answer Spot) : Type 0 where
  pub so : (stream lent : Bor (List ℕ)) → stream.now ≡ bytes → lent.now ≡ entries → (r : Result Code.Spot Refusal) → Asks (record { direction = d }) stream lent n r → told_jump r ≡ a

abbrev pub told_spot : (at cid len : ℕ) → Answer Spot
told_spot at cid len = given (record { at = at; cid = cid; len = len })

-- so many commands of this CID, which has no payload, and then these bytes
abbrev pub alike : (cid n : ℕ) → List ℕ → List ℕ
alike cid zero rest = rest
alike cid (suc n) rest = cid ∷ alike cid n rest

-- seventeen LinkCheckReq
abbrev pub seventeen : List ℕ
seventeen = alike 0x02 17 []

pub record SeventeenCommands : Type 0 where
  pub two_entries : MakesAs Up seventeen (7 ∷ 7 ∷ 7 ∷ []) (given 2) (0 ∷ 16 ∷ 7 ∷ [])
  pub no_room : MakesAs Up seventeen (7 ∷ []) (refused 4) (7 ∷ [])
  pub before_last : JumpsAs Up seventeen (0 ∷ 16 ∷ []) 15 (told_spot 15 0x02 0)
  pub last : JumpsAs Up seventeen (0 ∷ 16 ∷ []) 16 (told_spot 16 0x02 0)
  pub behind : JumpsAs Up seventeen (0 ∷ 16 ∷ []) 17 (refused 19)
  pub still_covered : JumpsAs Up seventeen (0 ∷ 16 ∷ []) 31 (refused 19)
  pub not_covered : JumpsAs Up seventeen (0 ∷ 16 ∷ []) 32 (refused 4)
  -- only the entry that covers n is looked at
  pub others_unread : JumpsAs Up seventeen (99 ∷ 16 ∷ 99 ∷ []) 16 (told_spot 16 0x02 0)

-- sixteen LinkCheckReq, and a byte that is no CID
abbrev pub sixteen_and_stop : List ℕ
sixteen_and_stop = alike 0x02 16 (0x80 ∷ [])

pub record StopAfterSixteen : Type 0 where
  pub one_entry : MakesAs Up sixteen_and_stop (7 ∷ 7 ∷ []) (given 1) (0 ∷ 7 ∷ [])
  pub last : JumpsAs Up sixteen_and_stop (0 ∷ []) 15 (told_spot 15 0x02 0)
  pub not_covered : JumpsAs Up sixteen_and_stop (0 ∷ []) 16 (refused 4)
  -- by an entry at the stop
  pub at_stop : JumpsAs Up sixteen_and_stop (0 ∷ 16 ∷ []) 16 (refused 19)

-- fifteen DevStatusReq, LinkADRReq `02 0A 03 06` at 15, and DevStatusReq at 20. From 16 on, inside the payload, stand LinkCheckAns `0A 03`, DevStatusReq at
-- 19, and DevStatusReq at 20
abbrev pub nested : List ℕ
nested = alike 0x06 15 (0x03 ∷ 0x02 ∷ 0x0A ∷ 0x03 ∷ 0x06 ∷ 0x06 ∷ [])

pub record EntriesOfAnother : Type 0 where
  -- those of seventeen DevStatusReq, and its own
  pub of_seventeen : MakesAs Down (alike 0x06 17 []) (7 ∷ 7 ∷ []) (given 2) (0 ∷ 16 ∷ [])
  pub own : MakesAs Down nested (7 ∷ 7 ∷ []) (given 2) (0 ∷ 20 ∷ [])
  pub by_own : JumpsAs Down nested (0 ∷ 20 ∷ []) 16 (told_spot 20 0x06 0)
  -- the other's is inside a payload there, and is walked from
  pub in-payload : JumpsAs Down nested (0 ∷ 16 ∷ []) 16 (told_spot 16 0x02 2)
  pub from_payload : JumpsAs Down nested (0 ∷ 16 ∷ []) 17 (told_spot 19 0x06 0)
  -- in a stream of sixteen bytes it is the length, which is no 5, and in one of fifteen it is past that
  pub at_length : JumpsAs Down (alike 0x06 16 []) (0 ∷ 16 ∷ []) 16 (refused 19)
  pub past_length : JumpsAs Down (alike 0x06 15 []) (0 ∷ 16 ∷ []) 16 (refused 5)

pub record EmptyStream : Type 0 where
  pub no_entries : MakesAs Up [] [] (given 0) []
  pub not_covered : JumpsAs Up [] [] 0 (refused 4)
  -- by an entry of another
  pub nothing_there : JumpsAs Up [] (0 ∷ []) 0 (refused 19)

-- ---- all of it

pub record JumpsTell : Type 0 where
  pub making : (rules : Rules) (stream : Bor (List ℕ)) (numbers : MutBor (List ℕ)) (r : Result ℕ Refusal) (after : List ℕ) → Makes rules stream numbers r after
      → MakingTells (walk_of (length_of rules) stream.now).cmds (length stream.now) numbers.now (told_entries r) after
  pub own : (rules : Rules) (stream entries : Bor (List ℕ)) → MadeOf rules stream.now entries.now → (n : ℕ) (r : Result Code.Spot Refusal) → Asks rules stream entries n r
      → OwnTells (walk_of (length_of rules) stream.now).cmds n (told_jump r)
  pub any : (rules : Rules) (stream entries : Bor (List ℕ)) (n : ℕ) (r : Result Code.Spot Refusal) → Asks rules stream entries n r
      → AnyTells (length_of rules) stream.now entries.now n (told_jump r)
  pub its_record : (rules : Rules) (stream entries : Bor (List ℕ)) (n : ℕ) (r : Result Code.Spot Refusal) (x : Spot) → Asks rules stream entries n r → told_jump r ≡ given x
      → (frame : ℕ) (q : Handed) → Gives record_at.Post (rules, (frame, (stream, (x.at, tt)))) q → RecordIs rules stream x frame q
  pub seventeen_commands : SeventeenCommands
  pub stop_after_sixteen : StopAfterSixteen
  pub of_another : EntriesOfAnother
  pub empty_stream : EmptyStream

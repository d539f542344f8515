-- Which request an answer answers: "the earliest unanswered request of its CID" (RULES: X7). A past is a list of events, the latest first: what
-- came before a moment of the exchange, read backwards from it.
use Rattle.std.specs.Prelude.{ℕ, ◌+◌, ◌<◌, cond, ◌⊎◌, ◌↔◌, ◌≡◌, eqb, length}
use mathlib.Core.List.{List, [], ◌∷◌, ◌++◌, head?, tail}
use Rattle.std.proofs.Math.Option.{Option, none, some}
use Rattle.ledger.specs.Events.{Request, Reply, Event, request, reply, stop_at}

-- ---- by computation

-- what an event makes of the unanswered requests of a CID: a request comes last, at an answer the first leaves
abbrev pub open_after : ℕ → Event → List Request → List Request
open_after c (request r) rs = cond (eqb r.cid c) (rs ++ (r ∷ [])) rs
open_after c (reply a) rs = cond (eqb a.cid c) (tail rs) rs
open_after c (stop_at p) rs = rs

-- the requests of a CID that are unanswered, the earliest first
abbrev pub unanswered : ℕ → List Event → List Request
unanswered c [] = []
unanswered c (e ∷ past) = open_after c e (unanswered c past)

-- the request that an answer answers; none: the answer is a stray
abbrev pub answered_by : Reply → List Event → Option Request
answered_by a past = head? (unanswered a.cid past)

-- ---- by the sentence

-- the requests of a CID, the earliest first
abbrev pub of_cid : ℕ → Event → List Request
of_cid c (request r) = cond (eqb r.cid c) (r ∷ []) []
of_cid c (reply a) = []
of_cid c (stop_at p) = []

abbrev pub requests : ℕ → List Event → List Request
requests c [] = []
requests c (e ∷ past) = requests c past ++ of_cid c e

-- the number k is the smallest of the n numbers from 0 that is not so
pub record Earliest (So : ℕ → Type 0) (n k : ℕ) : Type 0 where
  pub is_one : k < n
  pub is_not : So k → ⊥
  pub before : (i : ℕ) → i < k → So i

-- the request number k (from 0) of a CID is answered: each answer answers the earliest that is not
abbrev pub Answered : ℕ → List Event → ℕ → Type 0
Answered c [] k = ⊥
Answered c (request r ∷ past) k = Answered c past k
Answered c (reply a ∷ past) k = Answered c past k ⊎ ((a.cid ≡ c) × Earliest (Answered c past) (length (requests c past)) k)
Answered c (stop_at p ∷ past) k = Answered c past k

-- of the requests of a CID in this past, the one that has this past before it is the earliest unanswered one
abbrev pub EarliestOf : ℕ → (past before : List Event) → Type 0
EarliestOf c past before = Earliest (Answered c past) (length (requests c past)) (length (requests c before))

-- an answer after this past answers the request r of it: r is of its CID, and the earliest unanswered one
pub record Matched (past : List Event) (a : Reply) (r : Request) : Type 0 where
  pub between : List Event
  pub before : List Event
  pub past_is : past ≡ between ++ request r ∷ before
  pub cid_is : r.cid ≡ a.cid
  pub earliest : EarliestOf a.cid past before

-- ---- what is claimed of the two. proofs/Matches.antt proves it

-- they are one: the first unanswered request is the earliest, and an answer is a stray if there is none
abbrev pub QueueIsMatching : Type 0
QueueIsMatching = (past : List Event) (a : Reply) (r : Request) → (answered_by a past ≡ some r) ↔ Matched past a r

abbrev pub StrayIsUnmatched : Type 0
StrayIsUnmatched = (past : List Event) (a : Reply) → (answered_by a past ≡ none) ↔ ((r : Request) → Matched past a r → ⊥)

-- and as many requests of a CID are open as were asked and are not answered: the first ones are answered, and the open ones stand behind them
abbrev pub OpenAreUnanswered : Type 0
OpenAreUnanswered = (c : ℕ) (past : List Event) (k : ℕ) → Answered c past k ↔ (k + length (unanswered c past) < length (requests c past))

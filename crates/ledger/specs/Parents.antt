-- What a ledger shows after a past, said of the past alone (RULES: X8 to X12): no state is carried along.
use Rattle.std.specs.Prelude.{ℕ, Bool, false, cond, ◌&&◌, List, [], ◌∷◌, ◌++◌, eqb}
use Rattle.std.proofs.Math.Option.{Option, none, some}
use Rattle.ledger.specs.Events.{Place, Request, Reply, Event, request, reply, stop_at}
use Rattle.ledger.specs.Matching.{answered_by}
use Rattle.ledger.specs.Settings.{Setting, says, writes, is_beyond}

-- the request to which an event says yes
abbrev pub agreed : Event → List Event → Option Request
agreed (request r) past = none
agreed (reply a) past = cond a.agrees (answered_by a past) none
agreed (stop_at p) past = none

abbrev pub joining : Setting → Option Request → List Request → List Request
joining σ none rs = rs
joining σ (some r) rs = cond (writes r σ) (r ∷ rs) rs

-- the requests writing a setting that were answered yes, the one answered last first
abbrev pub parents : Setting → List Event → List Request
parents σ [] = []
parents σ (e ∷ past) = joining σ (agreed e past) (parents σ past)

-- ---- what is shown of a setting

pub record Shown : Type 0 where
  pub parent : Place
  pub value : ℕ
  pub unchanged : Bool

-- the last is the parent; it is marked if the one before it said the same
abbrev pub shown : Setting → List Request → Option Shown
shown σ [] = none
shown σ (r ∷ []) = some (record { parent = r.at; value = says σ r.body; unchanged = false })
shown σ (r ∷ q ∷ rs) = some (record { parent = r.at; value = says σ r.body; unchanged = eqb (says σ r.body) (says σ q.body) })

-- ---- what is listed

-- an entry of the list: its kind, and where it belongs
pub record Note : Type 0 where
  pub kind : ℕ
  pub at : Place

-- a request for a channel over 15 that was answered yes, at its own place; an answer without a request; a stop
abbrev pub beyond : Place → Note
beyond p = record { kind = 1; at = p }

abbrev pub stray : Place → Note
stray p = record { kind = 2; at = p }

abbrev pub stopped : Place → Note
stopped p = record { kind = 3; at = p }

-- what an answer brings that answers this request
abbrev pub brought_by : Reply → Option Request → List Note
brought_by a none = stray a.at ∷ []
brought_by a (some r) = cond (a.agrees && is_beyond r) (beyond r.at ∷ []) []

-- what an event brings into the list
abbrev pub due : Event → List Event → List Note
due (request r) past = []
due (reply a) past = brought_by a (answered_by a past)
due (stop_at p) past = stopped p ∷ []

-- in the order of events
abbrev pub notes : List Event → List Note
notes [] = []
notes (e ∷ past) = notes past ++ due e past

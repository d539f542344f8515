-- A recorded exchange as events (RULES: X4 to X6, X8): each command and each stop of each line's walk, in order.
use Rattle.std.specs.Prelude.{ℕ, ◌+◌, ◌-◌, Bool, true, false, cond, ◌&&◌, ◌||◌, List, [], ◌∷◌, ◌++◌, map, ◌≡◌, eqb, ltb, length, drop}
use Prim.Native.String.{String}
use Rattle.std.proofs.Math.Option.{Option, none, some}
use Rattle.table.specs.Table.{length_of, name_of, named}
use Rattle.table.specs.declared.rules.Rules.{Rules}
use Rattle.payloads.specs.Acceptance.{link_adr_ans_accepts, rx_param_setup_ans_accepts, new_channel_ans_accepts, dl_channel_ans_accepts}
use Rattle.payloads.specs.Commands.{in_five}
use Rattle.text.specs.Characters.{ascii}
use Rattle.walk.specs.Walk.{Placed, Ending, end, stop, Walk, walk_of}
use Rattle.ledger.specs.Trace.{TraceLine, begins}

-- where a command or a stop stands: the number of its line, the frame, the offset in the stream
pub record Place : Type 0 where
  pub line : ℕ
  pub frame : ℕ
  pub offset : ℕ

-- a command named Req: its payload at the front of five bytes
pub record Request : Type 0 where
  pub at : Place
  pub cid : ℕ
  pub body : List ℕ

-- a command named Ans, and whether it says yes
pub record Reply : Type 0 where
  pub at : Place
  pub cid : ℕ
  pub agrees : Bool

pub data Event : Type 0 where
  request : Request → Event
  reply : Reply → Event
  stop_at : Place → Event

-- ---- the events of a line

abbrev pub ends_in : String → List ℕ → Bool
ends_in word s = begins (ascii word) (drop (length s - length (ascii word)) s)

-- the command that a CID is in this direction is named Req
abbrev pub is_request : Rules → ℕ → Bool
is_request rules c = ends_in "Req" (ascii (name_of rules c))

-- or Ans
abbrev pub is_answer : Rules → ℕ → Bool
is_answer rules c = ends_in "Ans" (ascii (name_of rules c))

-- what an answer with this CID says: yes or no by its `ack`, and yes where it has none
abbrev pub agrees_with : ℕ → List ℕ → Bool
agrees_with c payload =
    cond (eqb c (named "LinkADRAns").cid) (link_adr_ans_accepts payload)
    (cond (eqb c (named "RXParamSetupAns").cid) (rx_param_setup_ans_accepts payload)
    (cond (eqb c (named "NewChannelAns").cid) (new_channel_ans_accepts payload)
    (cond (eqb c (named "DlChannelAns").cid) (dl_channel_ans_accepts payload) true)))

abbrev pub place : (line frame offset : ℕ) → Place
place n f o = record { line = n; frame = f; offset = o }

module _ (rules : Rules) (n f : ℕ) where
  -- of a command of line n, in frame f: a request, or else an answer, since every name in the table is one or the other (`NamedEither`)
  abbrev pub event_of : Placed → Event
  event_of p = cond (is_request rules p.cmd.cid)
      (request (record { at = place n f p.at; cid = p.cmd.cid; body = (in_five p.cmd.body).1 }))
      (reply (record { at = place n f p.at; cid = p.cmd.cid; agrees = agrees_with p.cmd.cid p.cmd.body }))

  -- an end is no event
  abbrev pub end_events : Ending → List Event
  end_events (end o) = []
  end_events (stop k o) = stop_at (place n f o) ∷ []

  -- the commands in order, and then the stop
  abbrev pub walk_events : Walk → List Event
  walk_events w = map event_of w.cmds ++ end_events w.ending

-- a byte has a command in a direction exactly if that is named Req or Ans, and none is named both. proofs/Walking.antt proves it
abbrev pub is_known : Option ℕ → Bool
is_known none = false
is_known (some n) = true

pub record NamedEither : Type 0 where
  pub either : (rules : Rules) (c : ℕ) → (is_request rules c || is_answer rules c) ≡ is_known (length_of rules c)
  pub not_both : (rules : Rules) (c : ℕ) → (is_request rules c && is_answer rules c) ≡ false

-- of the line with the number n, by the table's rules for its direction
abbrev pub rules_for : TraceLine → Rules
rules_for l = record { direction = l.direction }

unfoldable pub events_of : (n : ℕ) → TraceLine → List Event
events_of n l = walk_events (rules_for l) n l.frame (walk_of (length_of (rules_for l)) l.stream)

-- X4: lines count from 1. The number has 64 bits, and stands still at the largest
abbrev pub following : ℕ → ℕ
following n = cond (ltb n 18_446_744_073_709_551_615) (n + 1) n

-- the events of a trace, n lines standing before it
unfoldable pub events : (n : ℕ) → List TraceLine → List Event
events n [] = []
events n (l ∷ ls) = events_of (following n) l ++ events (following n) ls

-- What a ledger's memory means.
use Rattle.std.specs.Prelude.{ℕ, ◌+◌, ◌*◌, ◌/◌, ◌%◌, cond, List, [], ◌∷◌, map, ltb, length, get_or, take, replicate, Option as Maybe, None, Some}
use Rattle.ledger.specs.Book.{Book}
use Rattle.ledger.specs.Events.{Request, place}
use Rattle.ledger.specs.Parents.{Note}
use Rattle.ledger.specs.Settings.{
  Setting,
  data_rate,
  tx_power,
  channel_mask,
  redundancy,
  max_duty_cycle,
  rx1_dr_offset,
  rx2_data_rate,
  rx2_frequency,
  delay,
  downlink_dwell_time,
  uplink_dwell_time,
  max_eirp,
  channel_frequency,
  channel_rates,
  downlink_frequency,
  writer,
}
use Rattle.ledger.specs.declared.Ledger.{Ledger}
use Rattle.ledger.specs.declared.memory.Asked.{Asked}
use Rattle.ledger.specs.declared.memory.Queue.{Queue}
use Rattle.ledger.specs.declared.memory.Parents.{Parents}

-- the five low bytes of a number, the lowest first
abbrev pub five_of : ℕ → List ℕ
five_of n = n % 256 ∷ n / 256 % 256 ∷ n / 65_536 % 256 ∷ n / 16_777_216 % 256 ∷ n / 4_294_967_296 % 256 ∷ []

-- a request with this CID, whose payload is kept as one number, the low byte first
abbrev pub request_of : (cid : ℕ) → Asked → Request
request_of c r = record { at = place r.at.line r.at.frame r.at.offset; cid = c; body = five_of r.payload }

abbrev pub at_most : ℕ → ℕ → ℕ
at_most m n = cond (ltb n m) n m

-- ---- the open requests of a CID, the earliest first: there is room for eight

abbrev pub open_in : Queue → List Asked
open_in q = take (at_most 8 q.count) q.requests

abbrev pub open_requests : (cid : ℕ) → Queue → List Request
open_requests c q = map (request_of c) (open_in q)

abbrev pub no_request : Asked
no_request = record { at = record { line = 0; frame = 0; offset = 0 }; payload = 0 }

abbrev pub fresh_queue : Queue
fresh_queue = record { requests = replicate 8 no_request; count = 0 }

-- where no CID has a queue
abbrev pub no_queue : Queue
no_queue = record { requests = []; count = 0 }

abbrev pub pending_in : List Queue → ℕ → List Request
pending_in w c = open_requests c (get_or w c no_queue)

-- ---- the last two parents of a row, the last first

abbrev pub kept : (last before : Maybe Asked) → List Asked
kept None q = []
kept (Some r) None = r ∷ []
kept (Some r) (Some q) = r ∷ q ∷ []

abbrev pub parents_in : Parents → List Asked
parents_in p = kept p.last p.before

abbrev pub no_parents : Parents
no_parents = record { last = None; before = None }

-- a setting's row; settings that one request writes share one, and there are 37
abbrev pub channel_row : ℕ → ℕ → ℕ
channel_row first i = cond (ltb i 16) (first + i) 37

abbrev pub row_of : Setting → ℕ
row_of data_rate = 0
row_of tx_power = 0
row_of channel_mask = 0
row_of redundancy = 0
row_of max_duty_cycle = 1
row_of rx1_dr_offset = 2
row_of rx2_data_rate = 2
row_of rx2_frequency = 2
row_of delay = 3
row_of downlink_dwell_time = 4
row_of uplink_dwell_time = 4
row_of max_eirp = 4
row_of (channel_frequency i) = channel_row 5 i
row_of (channel_rates i) = channel_row 5 i
row_of (downlink_frequency i) = channel_row 21 i

abbrev pub row_in : List Parents → (cid row : ℕ) → List Request
row_in w c p = map (request_of c) (parents_in (get_or w p no_parents))

abbrev pub held_in : List Parents → Setting → List Request
held_in w σ = row_in w (writer σ).cid (row_of σ)

-- a ledger and the list that is lent with it
abbrev pub book_of : Ledger → List ℕ → Book
book_of l list = record { lines = l.lines; listed = l.listed; pending = pending_in l.pending; held = held_in l.held; list = list }

-- four numbers of a list, from number 4 k on, read as an entry, and zeros past the list's end. (How many entries there are, the ledger knows)
abbrev pub note_at : List ℕ → ℕ → Note
note_at list k =
    cond (ltb k (length list / 4))
    (record { kind = get_or list (4 * k) 0; at = record { line = get_or list (4 * k + 1) 0; frame = get_or list (4 * k + 2) 0; offset = get_or list (4 * k + 3) 0 } })
    (record { kind = 0; at = record { line = 0; frame = 0; offset = 0 } })

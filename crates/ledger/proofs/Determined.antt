-- Any two outcomes that a public function's contract admits are equal. Assumes nothing.
use Prim.Native.Nat.{ℕ}
use mathlib.Core.Path.{◌≡◌, refl, sym, ap, ap₂, ◌∙◌}
use Rattle.bits.proofs.Fixed.{Fixed, by_inverse}
use Rattle.std.specs.Prelude.{Result, Ok, Err}
use Rattle.table.proofs.Told.{numbered, numbered_number}
use Rattle.table.specs.Answers.{Consent, given, refused}
use Rattle.table.specs.declared.refusal.Refusal.{Refusal}
use Rattle.ledger.specs.Asked.{note_of}
use Rattle.ledger.specs.Book.{Book}
use Rattle.ledger.specs.Memory.{book_of}
use Rattle.ledger.specs.Parents.{Note}
use Rattle.ledger.specs.Told.{told_replay, told_line}
use Rattle.ledger.specs.declared.entries.Entry.{Entry}
use Rattle.ledger.specs.declared.exchange.BadLine.{BadLine}
use Rattle.ledger.proofs.Ledger.new.Reads as new
use Rattle.ledger.proofs.Ledger.data_rate.Reads as data_rate
use Rattle.ledger.proofs.Ledger.tx_power.Reads as tx_power
use Rattle.ledger.proofs.Ledger.channel_mask.Reads as channel_mask
use Rattle.ledger.proofs.Ledger.redundancy.Reads as redundancy
use Rattle.ledger.proofs.Ledger.max_duty_cycle.Reads as max_duty_cycle
use Rattle.ledger.proofs.Ledger.rx1_dr_offset.Reads as rx1_dr_offset
use Rattle.ledger.proofs.Ledger.rx2_data_rate.Reads as rx2_data_rate
use Rattle.ledger.proofs.Ledger.rx2_frequency.Reads as rx2_frequency
use Rattle.ledger.proofs.Ledger.delay.Reads as delay
use Rattle.ledger.proofs.Ledger.downlink_dwell_time.Reads as downlink_dwell_time
use Rattle.ledger.proofs.Ledger.uplink_dwell_time.Reads as uplink_dwell_time
use Rattle.ledger.proofs.Ledger.max_eirp.Reads as max_eirp
use Rattle.ledger.proofs.Ledger.channel_frequency.Reads as channel_frequency
use Rattle.ledger.proofs.Ledger.channel_rates.Reads as channel_rates
use Rattle.ledger.proofs.Ledger.downlink_frequency.Reads as downlink_frequency
use Rattle.ledger.proofs.entries.entry_at.Reads as entry_at
use Rattle.ledger.proofs.exchange.replay_trace.Reads as replay_trace

-- an entry is known from its note
entry_of : Note → Entry
entry_of n = record { kind = n.kind; line = n.at.line; frame = n.at.frame; offset = n.at.offset }

entry_tells : {a b : Entry} → note_of a ≡ note_of b → a ≡ b
unfolding entry_of
entry_tells p = by_inverse note_of entry_of (λ e. refl) p

-- a replay's answer is known from what it tells
bad_line : ℕ → ℕ → BadLine
bad_line k n = record { reason = numbered k; line = n }

replay_of : Consent → ℕ → Result Unit BadLine
replay_of (given _) n = Ok tt
replay_of (refused k) n = Err (bad_line k n)

replay_back : (r : Result Unit BadLine) → replay_of (told_replay r) (told_line r) ≡ r
unfolding replay_of bad_line
replay_back (Ok x) = refl
replay_back (Err e) = ap (λ (r : Refusal). Err (record { reason = r; line = e.line })) (numbered_number e.reason)

replay_tells : (r s : Result Unit BadLine) → told_replay r ≡ told_replay s → told_line r ≡ told_line s → r ≡ s
replay_tells r s p q = sym (replay_back r) ∙ ap₂ replay_of p q ∙ replay_back s

new_one : Fixed new.Post
new_one _ _ _ _ _ _ p q = p ∙ sym q

data_rate_one : Fixed data_rate.Post
data_rate_one _ _ _ _ _ _ p q = p ∙ sym q

tx_power_one : Fixed tx_power.Post
tx_power_one _ _ _ _ _ _ p q = p ∙ sym q

channel_mask_one : Fixed channel_mask.Post
channel_mask_one _ _ _ _ _ _ p q = p ∙ sym q

redundancy_one : Fixed redundancy.Post
redundancy_one _ _ _ _ _ _ p q = p ∙ sym q

max_duty_cycle_one : Fixed max_duty_cycle.Post
max_duty_cycle_one _ _ _ _ _ _ p q = p ∙ sym q

rx1_dr_offset_one : Fixed rx1_dr_offset.Post
rx1_dr_offset_one _ _ _ _ _ _ p q = p ∙ sym q

rx2_data_rate_one : Fixed rx2_data_rate.Post
rx2_data_rate_one _ _ _ _ _ _ p q = p ∙ sym q

rx2_frequency_one : Fixed rx2_frequency.Post
rx2_frequency_one _ _ _ _ _ _ p q = p ∙ sym q

delay_one : Fixed delay.Post
delay_one _ _ _ _ _ _ p q = p ∙ sym q

downlink_dwell_time_one : Fixed downlink_dwell_time.Post
downlink_dwell_time_one _ _ _ _ _ _ p q = p ∙ sym q

uplink_dwell_time_one : Fixed uplink_dwell_time.Post
uplink_dwell_time_one _ _ _ _ _ _ p q = p ∙ sym q

max_eirp_one : Fixed max_eirp.Post
max_eirp_one _ _ _ _ _ _ p q = p ∙ sym q

channel_frequency_one : Fixed channel_frequency.Post
channel_frequency_one _ _ _ _ _ _ p q = p ∙ sym q

channel_rates_one : Fixed channel_rates.Post
channel_rates_one _ _ _ _ _ _ p q = p ∙ sym q

downlink_frequency_one : Fixed downlink_frequency.Post
downlink_frequency_one _ _ _ _ _ _ p q = p ∙ sym q

entry_at_one : Fixed entry_at.Post
entry_at_one _ _ _ _ _ _ p q = entry_tells (p ∙ sym q)

-- what is seen of an outcome is fixed
abbrev FixedAs : {K A R S W : Type 0} → (R → S → W) → (K → A → R → S → Type 0) → Type 0
FixedAs {K = K} {A = A} {R = R} {S = S} seen Post =
    (κs : K) (args : A) (x y : R) (exit exit' : S) → Post κs args x exit → Post κs args y exit' → seen x exit ≡ seen y exit'

-- of a replay that is the verdict, the line, the list, and of the ledger its book, by which all is answered that can be asked of it
replay_trace_one : FixedAs {W = Result Unit BadLine × Book} (λ r s. (r, book_of s.0.now s.1.1.0.now)) replay_trace.Post
replay_trace_one _ _ x y _ _ p q =
    λ i. (replay_tells x y (ap (λ z. z.0) (p ∙ sym q)) (ap (λ z. z.1) (p ∙ sym q)) i, ap (λ z. z.2) (p ∙ sym q) i)

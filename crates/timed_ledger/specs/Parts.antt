-- What there is to tell of a replay, in numbers: each setting has one to be asked by, and each part of the answer one to be told by.
use Rattle.std.specs.Prelude.{ℕ, false, List, [], ◌∷◌, map, get_or, Option as Maybe, None, is_some, unwrap_or}
use Rattle.std.proofs.Math.Option.{Option, none, some}
use Rattle.bits.specs.Bits.{bit_of}
use Rattle.table.specs.Answers.{Consent, given, refused}
use Rattle.ledger.specs.Asked.{in_hand}
use Rattle.ledger.specs.Book.{Book}
use Rattle.ledger.specs.Events.{Request}
use Rattle.ledger.specs.Parents.{shown}
use Rattle.ledger.specs.Settings.{
  Setting,
  data_rate,
  tx_power,
  channel_mask,
  redundancy,
  max_duty_cycle,
  rx1_dr_offset,
  rx2_data_rate,
  rx2_frequency,
  delay,
  downlink_dwell_time,
  uplink_dwell_time,
  max_eirp,
  channel_frequency,
  channel_rates,
  downlink_frequency,
}
use Rattle.ledger.specs.declared.settings.Parent.{Parent}

-- the settings in their order, from 0 on; the last three are a channel's
abbrev pub settings : (channel : ℕ) → List Setting
settings channel =
    data_rate ∷
    tx_power ∷
    channel_mask ∷
    redundancy ∷
    max_duty_cycle ∷
    rx1_dr_offset ∷
    rx2_data_rate ∷
    rx2_frequency ∷
    delay ∷
    downlink_dwell_time ∷
    uplink_dwell_time ∷
    max_eirp ∷
    channel_frequency channel ∷
    channel_rates channel ∷
    downlink_frequency channel ∷ []

abbrev pub setting_by : (number channel : ℕ) → Option Setting
setting_by number channel = get_or (map some (settings channel)) number none

-- what is held of it; nothing where there is no such setting
abbrev pub asked_of : Option Setting → (Setting → List Request) → Maybe Parent
asked_of none held = None
asked_of (some σ) held = in_hand (shown σ (held σ))

-- zeros where there is no parent
abbrev pub shown_of : Maybe Parent → Parent
shown_of h = unwrap_or h (record { line = 0; frame = 0; offset = 0; value = 0; unchanged = false })

-- 0 for a text that is accepted
abbrev pub verdict_number : Consent → ℕ
verdict_number (given _) = 0
verdict_number (refused k) = k

-- the parts in their order, from 0 on
abbrev pub parts : (verdict line lines listed : ℕ) → Maybe Parent → List ℕ
parts verdict line lines listed h =
    verdict ∷
    line ∷
    lines ∷
    listed ∷
    bit_of (is_some h) ∷
    (shown_of h).line ∷
    (shown_of h).frame ∷
    (shown_of h).offset ∷
    (shown_of h).value ∷
    bit_of (shown_of h).unchanged ∷ []

-- the part with this number, and 0 for any other
abbrev pub part_of : (part verdict line lines listed : ℕ) → Maybe Parent → ℕ
part_of part verdict line lines listed h = get_or (parts verdict line lines listed h) part 0

-- one part of what a replay came to, a setting being asked, and the lent numbers
abbrev pub told_of : (part : ℕ) → Option Setting → Consent × ℕ × Book → ℕ × List ℕ
told_of part σ r =
    (part_of part (verdict_number r.0) r.1 r.2.lines r.2.listed (asked_of σ r.2.held), r.2.list)

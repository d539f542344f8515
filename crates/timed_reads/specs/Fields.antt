-- What the readers of the commands that a device is sent say of a stream: every field of every command once, and their sum.
use Rattle.std.specs.Prelude.{ℕ, ◌+◌, ◌%◌, cond, List, [], ◌∷◌, eqb}
use Rattle.std.specs.Float.{binary32}
use Rattle.std.specs.Float.Ieee.{to_bits}
use Rattle.bits.specs.Bits.{bit_of}
use Rattle.table.specs.Table.{Command, length_of, named}
use Rattle.fields.specs.Frequency.{hertz}
use Rattle.fields.specs.Places.{
  number_at,
  yes_at,
  bytes_at,
  link_check_ans_margin,
  link_check_ans_gateway_count,
  link_adr_req_data_rate,
  link_adr_req_tx_power,
  link_adr_req_channel_mask,
  link_adr_req_redundancy,
  duty_cycle_req_max_duty_cycle,
  rx_param_setup_req_dl_settings,
  rx_param_setup_req_frequency,
  new_channel_req_channel_index,
  new_channel_req_frequency,
  new_channel_req_data_rate_range,
  tx_param_setup_req_downlink_dwell_time,
  tx_param_setup_req_uplink_dwell_time,
  dl_channel_req_channel_index,
  dl_channel_req_frequency,
}
use Rattle.fields.specs.Settings.{rx1_dr_offset, rx2_data_rate, channel_mask_control, number_of_transmissions, max_data_rate, min_data_rate}
use Rattle.payloads.specs.Commands.{sent_down}
use Rattle.payloads.specs.Meanings.{max_duty_cycle_of, delay_of, max_eirp_of, seconds_of, nano_seconds_of}
use Rattle.walk.specs.Walk.{Cmd, Placed, walk_of}

-- ---- what each command's readers say of its payload. A mask says its banks, a flag 1 or 0, a frequency its Hz

abbrev pub link_check_ans_says : List ℕ → List ℕ
link_check_ans_says p = number_at link_check_ans_margin p ∷ number_at link_check_ans_gateway_count p ∷ []

abbrev pub link_adr_req_says : List ℕ → List ℕ
link_adr_req_says p =
    number_at link_adr_req_data_rate p ∷
    number_at link_adr_req_tx_power p ∷
    channel_mask_control (number_at link_adr_req_redundancy p) ∷
    number_of_transmissions (number_at link_adr_req_redundancy p) ∷
    bytes_at link_adr_req_channel_mask p

-- the limit by its number, and as a part of the time, by that float's 32 bits
abbrev pub duty_cycle_req_says : List ℕ → List ℕ
duty_cycle_req_says p = number_at duty_cycle_req_max_duty_cycle p ∷ to_bits binary32 (max_duty_cycle_of p) ∷ []

abbrev pub rx_param_setup_req_says : List ℕ → List ℕ
rx_param_setup_req_says p =
    rx1_dr_offset (number_at rx_param_setup_req_dl_settings p) ∷
    rx2_data_rate (number_at rx_param_setup_req_dl_settings p) ∷
    hertz (bytes_at rx_param_setup_req_frequency p) ∷ []

abbrev pub new_channel_req_says : List ℕ → List ℕ
new_channel_req_says p =
    number_at new_channel_req_channel_index p ∷
    hertz (bytes_at new_channel_req_frequency p) ∷
    max_data_rate (number_at new_channel_req_data_rate_range p) ∷
    min_data_rate (number_at new_channel_req_data_rate_range p) ∷ []

abbrev pub rx_timing_setup_req_says : List ℕ → List ℕ
rx_timing_setup_req_says p = delay_of p ∷ []

abbrev pub tx_param_setup_req_says : List ℕ → List ℕ
tx_param_setup_req_says p =
    bit_of (yes_at tx_param_setup_req_downlink_dwell_time p) ∷
    bit_of (yes_at tx_param_setup_req_uplink_dwell_time p) ∷
    max_eirp_of p ∷ []

abbrev pub dl_channel_req_says : List ℕ → List ℕ
dl_channel_req_says p = number_at dl_channel_req_channel_index p ∷ hertz (bytes_at dl_channel_req_frequency p) ∷ []

abbrev pub device_time_ans_says : List ℕ → List ℕ
device_time_ans_says p = seconds_of p ∷ nano_seconds_of p ∷ []

-- ---- of a command of the table. DevStatusReq has no field

pub record Reads : Type 0 where
  pub command : Command
  pub says : List ℕ → List ℕ

abbrev pub reads : Command → (List ℕ → List ℕ) → Reads
reads command says = record { command = command; says = says }

abbrev pub readers : List Reads
readers =
    reads (named "LinkCheckAns") link_check_ans_says ∷
    reads (named "LinkADRReq") link_adr_req_says ∷
    reads (named "DutyCycleReq") duty_cycle_req_says ∷
    reads (named "RXParamSetupReq") rx_param_setup_req_says ∷
    reads (named "NewChannelReq") new_channel_req_says ∷
    reads (named "RXTimingSetupReq") rx_timing_setup_req_says ∷
    reads (named "TXParamSetupReq") tx_param_setup_req_says ∷
    reads (named "DlChannelReq") dl_channel_req_says ∷
    reads (named "DeviceTimeAns") device_time_ans_says ∷ []

abbrev pub said_in : List Reads → Cmd → List ℕ
said_in [] c = []
said_in (r ∷ rs) c = cond (eqb c.cid r.command.cid) (r.says c.body) (said_in rs c)

-- ---- their sum

abbrev pub sum : List ℕ → ℕ
sum [] = 0
sum (n ∷ ns) = n + sum ns

-- over a command's fields
unfoldable pub worth : Cmd → ℕ
worth c = sum (said_in readers c)

-- and over commands
unfoldable pub worths : List Placed → ℕ
worths [] = 0
worths (p ∷ ps) = worth p.cmd + worths ps

-- and over the commands that the walk of a stream hands out, modulo 2 ^ 32
abbrev pub fields_of : List ℕ → ℕ
fields_of s = worths (walk_of (length_of sent_down) s).cmds % 4_294_967_296

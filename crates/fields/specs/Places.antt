-- Where each field of each command stands in its payload (RULES: Y3; the standard, 5.1 to 5.9). Byte 0 is the first after the CID, bit 0
-- the lowest of its byte. The reader of a field, its setter and their laws cite its place. `ack` of three answers is of the whole byte instead
-- (crate payloads, Acceptance.antt), and the bits within a byte of settings are in Settings.antt.
use Rattle.std.specs.Prelude.{ℕ, Bool, List, eqb, get_or, take, drop}
use Rattle.bits.specs.Bits.{field}

-- some bits of one byte
pub record Place : Type 0 where
  pub byte : ℕ
  pub lo : ℕ
  pub width : ℕ

-- whole bytes, one after another
pub record Run : Type 0 where
  pub byte : ℕ
  pub count : ℕ

-- ---- what stands there

abbrev pub number_at : Place → List ℕ → ℕ
number_at p payload = field p.lo p.width (get_or payload p.byte 0)

-- of a place of one bit
abbrev pub yes_at : Place → List ℕ → Bool
yes_at p payload = eqb (number_at p payload) 1

abbrev pub bytes_at : Run → List ℕ → List ℕ
bytes_at r payload = take r.count (drop r.byte payload)

-- ---- the places

abbrev pub bits_at : ℕ → ℕ → ℕ → Place
bits_at byte lo width = record { byte = byte; lo = lo; width = width }

abbrev pub bit : ℕ → ℕ → Place
bit byte lo = bits_at byte lo 1

abbrev pub octet : ℕ → Place
octet byte = bits_at byte 0 8

abbrev pub run : ℕ → ℕ → Run
run byte count = record { byte = byte; count = count }

abbrev pub link_check_ans_margin : Place
link_check_ans_margin = octet 0

abbrev pub link_check_ans_gateway_count : Place
link_check_ans_gateway_count = octet 1

abbrev pub link_adr_req_data_rate : Place
link_adr_req_data_rate = bits_at 0 4 4

abbrev pub link_adr_req_tx_power : Place
link_adr_req_tx_power = bits_at 0 0 4

abbrev pub link_adr_req_channel_mask : Run
link_adr_req_channel_mask = run 1 2

abbrev pub link_adr_req_redundancy : Place
link_adr_req_redundancy = octet 3

abbrev pub link_adr_ans_channel_mask_ack : Place
link_adr_ans_channel_mask_ack = bit 0 0

abbrev pub link_adr_ans_data_rate_ack : Place
link_adr_ans_data_rate_ack = bit 0 1

abbrev pub link_adr_ans_power_ack : Place
link_adr_ans_power_ack = bit 0 2

-- the field is the low nibble; the Rust's setter writes the whole byte
abbrev pub duty_cycle_req_max_duty_cycle : Place
duty_cycle_req_max_duty_cycle = bits_at 0 0 4

abbrev pub duty_cycle_req_whole : Place
duty_cycle_req_whole = octet 0

abbrev pub rx_param_setup_req_dl_settings : Place
rx_param_setup_req_dl_settings = octet 0

abbrev pub rx_param_setup_req_frequency : Run
rx_param_setup_req_frequency = run 1 3

abbrev pub rx_param_setup_ans_channel_ack : Place
rx_param_setup_ans_channel_ack = bit 0 0

abbrev pub rx_param_setup_ans_rx2_data_rate_ack : Place
rx_param_setup_ans_rx2_data_rate_ack = bit 0 1

abbrev pub rx_param_setup_ans_rx1_dr_offset_ack : Place
rx_param_setup_ans_rx1_dr_offset_ack = bit 0 2

abbrev pub dev_status_ans_battery : Place
dev_status_ans_battery = octet 0

-- the field is the low six bits; the Rust's setter writes the whole byte, the two bits above them 0
abbrev pub dev_status_ans_margin : Place
dev_status_ans_margin = bits_at 1 0 6

abbrev pub dev_status_ans_whole : Place
dev_status_ans_whole = octet 1

abbrev pub new_channel_req_channel_index : Place
new_channel_req_channel_index = octet 0

abbrev pub new_channel_req_frequency : Run
new_channel_req_frequency = run 1 3

abbrev pub new_channel_req_data_rate_range : Place
new_channel_req_data_rate_range = octet 4

abbrev pub new_channel_ans_channel_freq_ack : Place
new_channel_ans_channel_freq_ack = bit 0 0

abbrev pub new_channel_ans_data_rate_range_ack : Place
new_channel_ans_data_rate_range_ack = bit 0 1

abbrev pub rx_timing_setup_req_delay : Place
rx_timing_setup_req_delay = bits_at 0 0 4

abbrev pub tx_param_setup_req_downlink_dwell_time : Place
tx_param_setup_req_downlink_dwell_time = bit 0 5

abbrev pub tx_param_setup_req_uplink_dwell_time : Place
tx_param_setup_req_uplink_dwell_time = bit 0 4

abbrev pub tx_param_setup_req_max_eirp : Place
tx_param_setup_req_max_eirp = bits_at 0 0 4

-- the lowest bit of max_eirp, which the Rust's dwell setters clear
abbrev pub tx_param_setup_req_bit_zero : Place
tx_param_setup_req_bit_zero = bit 0 0

abbrev pub dl_channel_req_channel_index : Place
dl_channel_req_channel_index = octet 0

abbrev pub dl_channel_req_frequency : Run
dl_channel_req_frequency = run 1 3

abbrev pub dl_channel_ans_channel_freq_ack : Place
dl_channel_ans_channel_freq_ack = bit 0 0

abbrev pub dl_channel_ans_uplink_freq_ack : Place
dl_channel_ans_uplink_freq_ack = bit 0 1

abbrev pub device_time_ans_seconds : Run
device_time_ans_seconds = run 0 4

-- steps of 1/256 second
abbrev pub device_time_ans_fraction : Place
device_time_ans_fraction = octet 4

-- Whether an answer says that the device accepted the request (RULES: Y4). Three rules for four answers: LinkADRAns and RXParamSetupAns share
-- one, and no one serves them all.
use Rattle.std.specs.Prelude.{Bool, ◌&&◌, List, ℕ, eqb, get_or}
use Rattle.fields.specs.Places.{yes_at, dl_channel_ans_channel_freq_ack, dl_channel_ans_uplink_freq_ack}

-- the byte equals 07
abbrev pub link_adr_ans_accepts : List ℕ → Bool
link_adr_ans_accepts payload = eqb (get_or payload 0 0) 0x07

-- the byte equals 07
abbrev pub rx_param_setup_ans_accepts : List ℕ → Bool
rx_param_setup_ans_accepts payload = eqb (get_or payload 0 0) 0x07

-- the byte equals 03
abbrev pub new_channel_ans_accepts : List ℕ → Bool
new_channel_ans_accepts payload = eqb (get_or payload 0 0) 0x03

-- both low bits say yes; the bits above them don't count
abbrev pub dl_channel_ans_accepts : List ℕ → Bool
dl_channel_ans_accepts payload = yes_at dl_channel_ans_channel_freq_ack payload && yes_at dl_channel_ans_uplink_freq_ack payload

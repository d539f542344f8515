-- What the command types say by `uplink`: crates/claims/specs/Flags.antt. Assumes nothing.
use mathlib.Core.Path.{sym, ◌∙◌}
use Rattle.payloads.proofs.Commands.{downlink_flag, uplink_flag}
use Rattle.claims.specs.Flags.{FlagsTell}

pub flags_tell : FlagsTell
flags_tell = record {
  link_check = record { down = λ r g. g.1.1; up = λ r g. g.1.1 };
  link_adr = record { down = λ r g. g.1.1; up = λ r g. g.1.1 };
  duty_cycle = record { down = λ r g. g.1.1; up = λ r g. g.1.1 };
  rx_param_setup = record { down = λ r g. g.1.1; up = λ r g. g.1.1 };
  dev_status = record { down = λ r g. g.1.1; up = λ r g. g.1.1 };
  new_channel = record { down = λ r g. g.1.1; up = λ r g. g.1.1 };
  rx_timing_setup = record { down = λ r g. g.1.1; up = λ r g. g.1.1 };
  tx_param_setup = record { down = λ r g. g.1.1; up = λ r g. g.1.1 };
  dl_channel = record { down = λ r g. g.1.1; up = λ r g. g.1.1 };
  device_time = record { down = λ r g. g.1.1; up = λ r g. g.1.1 };
  command = λ d u. record { down = λ r g. g.1.1 ∙ sym (downlink_flag d); up = λ r g. g.1.1 ∙ sym (uplink_flag u) };
}

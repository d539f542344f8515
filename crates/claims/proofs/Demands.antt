-- The demands hold. Assumes nothing.
use Rattle.claims.specs.Demands.{Demands}
use Rattle.claims.proofs.Building.{builds}
use Rattle.claims.proofs.ByHand.{by_hand}
use Rattle.claims.proofs.Choosing.{chooser}
use Rattle.claims.proofs.Delay.{delay_tells}
use Rattle.claims.proofs.DutyCycle.{duty_cycle_tells}
use Rattle.claims.proofs.Examples.{examples_hold}
use Rattle.claims.proofs.Flags.{flags_tell}
use Rattle.claims.proofs.Jumping.{jumps_tell}
use Rattle.claims.proofs.Keeping.{refusals_keep, masks_tell}
use Rattle.claims.proofs.Ledger.{ledger_tells}
use Rattle.claims.proofs.LedgerExamples.{examples_held}
use Rattle.claims.proofs.Listing.{listings_tell}
use Rattle.claims.proofs.Origins.{origins_tell}
use Rattle.claims.proofs.Owning.{one_owner, next_is_step}
use Rattle.claims.proofs.Time.{time_tells}

pub demands : Demands
demands = record {
  refusals_keep = refusals_keep;
  masks_tell = masks_tell;
  flags_tell = flags_tell;
  time_tells = time_tells;
  duty_cycle_tells = duty_cycle_tells;
  delay_tells = delay_tells;
  examples = examples_hold;
  one_owner = one_owner;
  next_is_step = next_is_step;
  origins_tell = origins_tell;
  builds = builds;
  by_hand = by_hand;
  chooser = chooser;
  jumps_tell = jumps_tell;
  listings_tell = listings_tell;
  ledger_tells = ledger_tells examples_held;
}

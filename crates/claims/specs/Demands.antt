-- The demands (RULES: D1 to D3), each as one statement, and what holds of masks, command types, the seconds, the duty cycle, the delay, where a command
-- came from, the chooser, jumps, the listing and the ledger. They speak of functions: each holds of every outcome that the contracts of the public
-- functions admit, so a body that is changed together with its contract can't pass unless the sentence still holds of it.
use Rattle.std.specs.Prelude.{ℕ, List}
use Rattle.std.specs.Borrow.{Bor}
use Rattle.table.specs.declared.rules.Rules.{Rules}
use Rattle.claims.specs.Building.{Builds}
use Rattle.claims.specs.ByHand.{ByHand}
use Rattle.claims.specs.Choosing.{Chooser}
use Rattle.claims.specs.Delay.{DelayTells}
use Rattle.claims.specs.DutyCycle.{DutyCycleTells}
use Rattle.claims.specs.Examples.{ExamplesHold}
use Rattle.claims.specs.Flags.{FlagsTell}
use Rattle.claims.specs.Jumping.{JumpsTell}
use Rattle.claims.specs.Keeping.{RefusalsKeep, MasksTell}
use Rattle.claims.specs.Ledger.{LedgerTells}
use Rattle.claims.specs.Listing.{ListingsTell}
use Rattle.claims.specs.Origins.{OriginsTell}
use Rattle.claims.specs.Owning.{OneOwner, NextIsStep}
use Rattle.claims.specs.Time.{TimeTells}

pub record Demands : Type 2 where
  -- D1: a refusal leaves things as they were. (That every entry takes every input, and ends, is what a proved function with no `requires` is.)
  pub refusals_keep : RefusalsKeep
  -- what a mask tells
  pub masks_tell : MasksTell
  -- T2 and T3: what a command type tells of its direction
  pub flags_tell : FlagsTell
  -- Y9 and K8: the seconds as they are read and as they are set
  pub time_tells : TimeTells
  -- Y3, Y5 and P18: the part of the time in which a device may send, by its value and by its bits
  pub duty_cycle_tells : DutyCycleTells
  -- Y7, K10 and P19: the delay in seconds, as it is read, and set and read again; X9 and X11: as the ledger holds it; and its byte as it was sent
  pub delay_tells : DelayTells
  -- D2: the examples hold. (That the answers equal the Rust's, but for A6, is shown by runs, docs/ORACLE.md.)
  pub examples : ExamplesHold
  -- D3a to D3c: each byte of each stream has one owner; and W8: where steps lead
  pub one_owner : (rules : Rules) (stream : Bor (List ℕ)) → OneOwner rules stream
  pub next_is_step : NextIsStep
  -- W7 and B5: where a command came from
  pub origins_tell : OriginsTell
  -- D3d to D3f: what is built reads back as it was
  pub builds : Builds
  -- lent's contracts admit exactly what their definitions say, as they are written and read plainly: so the claims that speak of them speak of
  -- something, and both readings admit the same
  pub by_hand : ByHand
  -- C1 to C4: where in a frame the commands are
  pub chooser : Chooser
  -- J1 to J7 and J9: a command by its number
  pub jumps_tell : JumpsTell
  -- L1 to L9, L11 and L13: the listing says what is read
  pub listings_tell : ListingsTell
  -- X1 to X17: the ledger names each setting's parent, none is missing and none invented; and D1 as it reads there
  pub ledger_tells : LedgerTells

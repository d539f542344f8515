-- The float is 1 / 2 ^ n, and no NaN.
use Rattle.std.proofs.Common.{sym, subst}
use mathlib.Core.Bool.{not}
use lib.Dec.{T}
use lib.Ieee.{Float, is_nan}
use Rattle.replay.proofs.payload_types.max_duty_cycle_bits.Goals as goal

pub float_to_bits-result : goal.float_to_bits-result
unfolding is_nan
float_to_bits-result c = subst (λ (x : Float). T (not (is_nan x))) (sym c.max_duty_cycle.ensures) tt

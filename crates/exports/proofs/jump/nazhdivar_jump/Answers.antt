-- `nazhdivar_jump` meets its contract. Nothing overflows: each entry has 32 bits, and from there the command is not far. Assumes nothing.
use Prim.Native.Nat.{◌+◌, ◌*◌, ◌/◌, ◌<◌}
use mathlib.Core.Path.{ap}
use native.Mathlib.Omega.{arith}
use Rattle.jumps.specs.Told.{told_jump}
use Rattle.exports.proofs.Jumping.{spot_fits}
use Rattle.exports.proofs.jump.nazhdivar_jump.Goals as goal
use Rattle.exports.proofs.jump.nazhdivar_jump.Goals.{In-Ok}

-- the number of the command that is found fits
below : (c : In-Ok)
    → c.in-Ok.spot.at * 65_536 + c.in-Ok.spot.cid * 256 + c.in-Ok.spot.len < 18_446_744_073_709_551_616
below c =
    let a = c.args in
    spot_fits a.stream.now a.entries.now a.n (c.type_inv.entries (a.n / 16)).fits
    c.jump_to.ensures (ap told_jump c.in-Ok.is)

pub overflow_mul-high : goal.overflow_mul-high
overflow_mul-high c = record { fits = omega (arith, below (goal.at.overflow_mul-high c).In-Ok) }

pub overflow_add-result : goal.overflow_add-result
overflow_add-result c = record { fits = omega (arith, below (goal.at.overflow_add-result c).In-Ok) }

pub overflow_add-result-in-Ok : goal.overflow_add-result-in-Ok
overflow_add-result-in-Ok c = record { fits = omega (arith, below (goal.at.overflow_add-result-in-Ok c).In-Ok) }

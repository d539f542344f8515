-- `nazhdivar_build` meets its contract. Assumes nothing.
use Prim.Native.Nat.{ℕ}
use mathlib.Core.List.{List}
use mathlib.Core.Path.{sym, ap, ◌∙◌}
use Rattle.std.specs.Prelude.{Err}
use Rattle.build.specs.Build.{Built}
use Rattle.build.specs.Records.{slots_of}
use Rattle.build.specs.Told.{told_build}
use Rattle.exports.proofs.Faults.{fault_below}
use native.Mathlib.Omega.{arith}
use Rattle.exports.proofs.records.nazhdivar_build.Goals as goal

pub overflow_add-result : goal.overflow_add-result
overflow_add-result c =
    let told = sym (ap (λ (a : Built × List ℕ). a.0) c.build_mac_commands.ensures) ∙ ap told_build c.in-Err-At.is ∙ ap (λ e. told_build (Err e)) c.in-Err-At.field-0-is in
    let a = c.args in
    let below = fault_below (slots_of a.records.now) a.out.now told in
    omega arith

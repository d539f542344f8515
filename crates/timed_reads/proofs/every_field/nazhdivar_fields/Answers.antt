-- `nazhdivar_fields` meets its contract. The loop's invariant: the sum over the whole walk is the total and the sum from `at` on, modulo
-- 2 ^ 32. The measure is what is left of the stream. Assumes nothing.
use mathlib.Core.Path.{sym, ap, ◌∙◌}
use native.Mathlib.Omega.{arith}
use Rattle.walk.specs.Told.{told_downlink_step}
use Rattle.timed_reads.proofs.Sums.{left, left_goes, left_stays, no_command, onwards}
use Rattle.timed_reads.proofs.every_field.nazhdivar_fields.Goals as goal

pub loop-command-init : goal.loop-command-init
unfolding left
loop-command-init c = (omega arith, omega arith)

pub loop-command-smaller : goal.loop-command-smaller
loop-command-smaller c =
    let m = onwards _ _ _ (sym c.downlink_at.ensures ∙ ap told_downlink_step c.in-Command.is) in
    omega arith

pub loop-command-preserved : goal.loop-command-preserved
loop-command-preserved c =
    let m = left_goes _ _ _ (sym c.downlink_at.ensures ∙ ap told_downlink_step c.in-Command.is) in
    (omega arith, omega (arith, c.loop-command.invariant.1, c.command_worth.ensures))

pub returns : goal.returns
returns c =
    let m = left_stays _ _ _ _ (sym c.downlink_at.ensures) (no_command _ c.in_default.not-Command) in
    omega (arith, c.loop-command.invariant.1)

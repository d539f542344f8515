-- `nazhdivar_resend` meets its contract. Assumes nothing.
use mathlib.Core.Path.{sym, ap, ◌∙◌}
use Rattle.walk.specs.Told.{told_downlink_step}
use Rattle.walk.proofs.Steps.{found_command}
use native.Mathlib.Omega.{arith}
use Rattle.timed_builds.proofs.lists.nazhdivar_resend.Goals as goal

pub loop-command-smaller : goal.loop-command-smaller
loop-command-smaller c = let g = found_command _ _ (sym c.downlink_at.ensures ∙ ap told_downlink_step c.in-Command.is) in omega (arith, g.behind, g.fits)

pub loop-command-preserved : goal.loop-command-preserved
loop-command-preserved c =
    let g = found_command _ _ (sym c.downlink_at.ensures ∙ ap told_downlink_step c.in-Command.is) in
    (omega (arith, g.behind, g.fits), omega (arith, g.behind, g.fits), omega arith)

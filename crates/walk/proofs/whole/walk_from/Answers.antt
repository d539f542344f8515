-- The count of `walk_from` fits: the loop's invariant has it below the offset, and no offset lies past the stream. Assumes nothing.
use mathlib.Core.Path.{sym, ap, ◌∙◌}
use native.Mathlib.Omega.{arith}
use Rattle.walk.specs.Told.{told_step}
use Rattle.walk.proofs.Steps.{step_on}
use Rattle.walk.proofs.whole.walk_from.Goals as goal

pub overflow_add-count : goal.overflow_add-count
overflow_add-count c = let m = step_on _ _ _ (sym c.step_at.ensures ∙ ap told_step c.in-Command.is) in omega arith

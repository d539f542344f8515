-- What the loop keeps true.
use mathlib.Core.Path.{◌≡◌}
use Rattle.table.specs.Table.{length_of}
use Rattle.walk.specs.Stepping.{after_steps}
use Rattle.walk.proofs.step.after_steps.Given as goal

abbrev pub invariant-loop-made : goal.invariant-loop-made
invariant-loop-made l = l.at ≡ after_steps (length_of l.rules) l.stream l.from l._made

-- `record_at` meets its contract. Assumes nothing.
use mathlib.Core.Path.{◌≡◌, sym, ap, ap₂, ◌∙◌}
use native.Mathlib.Omega.{arith}
use Rattle.table.specs.Answers.{given}
use Rattle.table.specs.Table.{length_of}
use Rattle.walk.specs.Step.{command, heading, step_at}
use Rattle.walk.specs.Told.{told_step}
use Rattle.walk.proofs.Steps.{step_on}
use Rattle.build.proofs.AsRecords.{command_record}
use Rattle.build.proofs.handed.record_at.Goals as goal
use Rattle.build.proofs.handed.record_at.Goals.{In-Command}

told : (c : In-Command)
    → step_at (length_of c.args.rules) c.args.stream.now c.args.at
    ≡ given (command (heading c.in-Command.cid c.in-Command.len) c.in-Command.next)
told c = sym c.step_at-step.ensures ∙ ap told_step c.in-Command.is

pub from_frame-requires : goal.from_frame-requires
from_frame-requires c = let m = step_on _ _ _ (told (goal.at.from_frame-requires c).In-Command) in omega arith

pub returns-in-Command : goal.returns-in-Command
returns-in-Command c =
    let a = c.args in
    ap₂ (λ x r. (x, r)) (sym (told (goal.at.returns-in-Command c).In-Command))
    (c.from_frame.ensures ∙ command_record (length_of a.rules) a.stream.now a.frame a.at (told (goal.at.returns-in-Command c).In-Command))

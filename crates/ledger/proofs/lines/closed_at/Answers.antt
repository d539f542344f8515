-- `closed_at` meets its contract. Assumes nothing.
use mathlib.Core.Path.{sym}
use native.Mathlib.Omega.{arith}
use Rattle.ledger.proofs.TracingSteps.{closed_end, closed_other, closed_newline}
use Rattle.ledger.proofs.lines.closed_at.Goals as goal

pub returns-then-text-end-clause-result_value : goal.returns-then-text-end-clause-result_value
returns-then-text-end-clause-result_value c = let a = c.args in sym (closed_end a.text.now a.end a.len c.if-text-end.true)

pub returns-then-last-ne10-clause-result_value : goal.returns-then-last-ne10-clause-result_value
returns-then-last-ne10-clause-result_value c = let a = c.args in
    sym (closed_other a.text.now a.end a.len c.if-text-end.false c.if-last-ne10.true)

pub returns-clause-result_value : goal.returns-clause-result_value
returns-clause-result_value c = let a = c.args in
    sym (closed_newline a.text.now a.end a.len c.if-text-end.false (omega arith))

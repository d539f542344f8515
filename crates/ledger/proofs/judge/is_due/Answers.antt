-- `is_due` meets its contract. Assumes nothing.
use mathlib.Core.Path.{sym, ap, ◌∙◌}
use Rattle.bits.specs.Bits.{bit_of}
use Rattle.ledger.specs.Events.{agrees_with}
use Rattle.ledger.proofs.Judging.{due_stray, due_far, due_near}
use Rattle.ledger.proofs.judge.is_due.Goals as goal

pub returns-in_default : goal.returns-in_default
returns-in_default c =
    let a = c.args in
    due_stray a.queue.now a.command.cid a.before (agrees_with a.command.cid a.command.payload.now) (sym c.in_default.ensures)

pub returns : goal.returns
returns c =
    let a = c.args in
    ap bit_of c.says_yes.ensures
    ∙ due_far a.queue.now a.command.cid a.before (agrees_with a.command.cid a.command.payload.now) c.in-Some.request (sym c.in-Some.ensures)
    (sym c.is_beyond.ensures ∙ c.if-not-is_beyond.false)

pub returns-then-not-is_beyond : goal.returns-then-not-is_beyond
returns-then-not-is_beyond c =
    let a = c.args in
    due_near a.queue.now a.command.cid a.before (agrees_with a.command.cid a.command.payload.now) c.in-Some.request (sym c.in-Some.ensures)
    (sym c.is_beyond.ensures ∙ c.if-not-is_beyond.true)

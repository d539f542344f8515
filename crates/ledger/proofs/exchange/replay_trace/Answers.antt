-- `replay_trace` meets its contract. Assumes nothing.
use Prim.Native.Nat.{ℕ}
use mathlib.Core.Path.{ap, ◌∙◌}
use borrow.Author.Rules.{rules}
use native.Mathlib.Omega.{arith}
use Rattle.table.specs.Answers.{refused}
use Rattle.table.specs.Refusals.{number_of}
use Rattle.ledger.specs.Memory.{book_of}
use Rattle.ledger.proofs.Following.{at_text_end, line_on, line_stops}
use Rattle.ledger.proofs.exchange.replay_trace.Goals as goal

pub returns-in-Err : goal.returns-in-Err
returns-in-Err c =
    let l = c.loop-at in
    let k = number_of c.in-Err.reason in
    let after = book_of c.take_line.new.self c.take_line.new.list in
    ap (λ (n : ℕ). (refused k, n, after)) c.number_after-line.ensures
    ∙ line_stops c.args.text.now _ l.invariant k after (search rules) c.in-Err.ensures

pub loop-at-smaller : goal.loop-at-smaller
loop-at-smaller c =
    let o = line_on c.args.text.now _ c.loop-at.invariant c.in-Ok.next _ c.in-Ok.ensures in
    omega (arith, o.on, o.followed.within)

pub loop-at-preserved : goal.loop-at-preserved
loop-at-preserved c = (line_on c.args.text.now _ c.loop-at.invariant c.in-Ok.next _ c.in-Ok.ensures).followed

pub returns : goal.returns
returns c = at_text_end c.args.text.now _ c.loop-at.invariant (search rules)

-- `field_at` meets its contract. Assumes nothing.
use Prim.Native.Nat.{◌*◌, ◌-◌, ◌≤◌}
use mathlib.Core.Path.{sym, ◌∙◌}
use borrow.Author.Rules.{rules}
use native.Mathlib.Omega.{arith}
use lib.ListN.{length, drop, length-drop}
use Rattle.ledger.proofs.TracingSteps.{pairs_fit, pairs_few, field_end, field_dash, field_nothing, field_bytes}
use Rattle.ledger.proofs.lines.field_at.Goals as goal
use Rattle.ledger.proofs.lines.field_at.Goals.{After-pairs-n}

-- the pairs have room in the text
module _ (c : After-pairs-n) where
  few : c.pairs-n.result ≤ 255
  few = omega (arith, c.pairs-n.ensures.value, pairs_few 255 (drop c.args.at c.args.text.now))

  fit : 2 * c.pairs-n.result ≤ length c.args.text.now - c.args.at
  fit = omega (
    arith,
    c.pairs-n.ensures.value,
    pairs_fit 255 (drop c.args.at c.args.text.now),
    length-drop c.args.at c.args.text.now,
  )

pub returns-then-text-at-clause-stream_after : goal.returns-then-text-at-clause-stream_after
returns-then-text-at-clause-stream_after c = sym (field_end c.args.text.now c.args.at c.if-text-at.true)

pub returns-then-first-eq45-clause-stream_after : goal.returns-then-first-eq45-clause-stream_after
returns-then-first-eq45-clause-stream_after c = let r = c.closed_at in
    field_dash c.args.text.now c.args.at c.if-text-at.false c.if-first-eq45.true r.result c.args.stream.now r.ensures.result_value

pub returns-then-n-eq0-clause-stream_after : goal.returns-then-n-eq0-clause-stream_after
returns-then-n-eq0-clause-stream_after c =
    sym (field_nothing c.args.text.now c.args.at c.if-text-at.false c.if-first-eq45.false (sym c.pairs-n.ensures.value ∙ c.if-n-eq0.true))

pub closed_at-requires-2 : goal.closed_at-requires-2
closed_at-requires-2 c = let l = fit (goal.at.closed_at-requires-2 c).After-pairs-n in let h = c.requires in search rules

pub returns-clause-stream_after : goal.returns-clause-stream_after
returns-clause-stream_after c = let a = c.args in
    let r = c.closed_at-2 in
    let m = few (goal.at.returns-clause-stream_after c).After-pairs-n in
    field_bytes a.text.now a.at c.if-text-at.false c.if-first-eq45.false c.pairs-n.new.stream
    c.pairs-n.ensures.value c.pairs-n.ensures.stream_after (λ e. omega arith) r.result r.ensures.result_value

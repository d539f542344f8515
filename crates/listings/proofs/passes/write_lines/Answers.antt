-- `write_lines` meets its contract. The loop's invariant: the lines of the commands before `at` are written, and `to` is behind them. The measure is
-- what is left of the stream. Assumes nothing.
use mathlib.Core.Path.{sym, ap, ◌∙◌}
use native.Mathlib.Omega.{arith}
use Rattle.bits.specs.Memory.{written_at}
use Rattle.walk.specs.Told.{told_step}
use Rattle.walk.specs.declared.step.Step.{Step}
use Rattle.walk.proofs.Steps.{step_on}
use Rattle.listings.proofs.Walking.{listed_room, listed_last, listed_next, step_text, rest_none}
use Rattle.listings.proofs.passes.write_lines.Goals as goal

pub put_line-to-requires-clause-found_in_bounds : goal.put_line-to-requires-clause-found_in_bounds
put_line-to-requires-clause-found_in_bounds c = listed_room _ _ _ _ c.loop-next.invariant c.step_at-found.ensures

pub loop-next-smaller : goal.loop-next-smaller
loop-next-smaller c =
    let m = step_on _ _ _ (sym c.step_at-found.ensures ∙ ap told_step c.in-Command.is) in
    omega arith

pub loop-next-preserved : goal.loop-next-preserved
loop-next-preserved c =
    let l = c.loop-next in
    let e = sym (ap told_step c.in-Command.is) ∙ c.step_at-found.ensures in
    listed_next _ _ _ _ l.invariant e (step_on _ _ _ (sym e)).1
    (c.put_line-to.ensures ∙ ap (λ (f : Step). written_at l.out l.to (step_text c.args.rules c.args.frame c.args.stream.now l.at (told_step f))) c.in-Command.is)

pub returns : goal.returns
returns c = listed_last _ _ _ _ c.loop-next.invariant c.step_at-found.ensures (rest_none _ _ _ _ c.in_default.not-Command) c.put_line-to.ensures

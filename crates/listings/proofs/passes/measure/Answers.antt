-- `measure` meets its contract. The loop's invariant: the lines of the commands before `at` have `sum` bytes. The measure is what is left of the
-- stream. Assumes nothing.
use Prim.Native.Nat.{ℕ, ◌+◌}
use mathlib.Core.Path.{◌≡◌, sym, ap, ap₂, ◌∙◌}
use native.Mathlib.Omega.{arith}
use lib.ListN.{length}
use Rattle.walk.specs.Told.{told_step}
use Rattle.walk.specs.declared.step.Step.{Step}
use Rattle.walk.proofs.Steps.{step_on}
use Rattle.listings.specs.Passes.{step_line}
use Rattle.listings.proofs.Lining.{frame_long}
use Rattle.listings.proofs.Walking.{summed_over, summed_last, summed_next, step_text, rest_none}
use Rattle.listings.proofs.passes.measure.Goals as goal
use Rattle.listings.proofs.passes.measure.Goals.{After-line_len}

-- the length of a step's line
line_long : (c : After-line_len) → c.stamp_len-stamp.result + c.line_len.result
    ≡ length (step_text c.args.rules c.args.frame c.args.stream.now c.loop-sum.at (told_step c.step_at-found.result))
line_long c =
    ap₂ (λ (a b : ℕ). a + b) c.stamp_len-stamp.ensures c.line_len.ensures.value
    ∙ sym (frame_long c.args.frame (step_line c.args.rules c.args.stream.now c.loop-sum.at (told_step c.step_at-found.result)))

pub loop-sum-smaller : goal.loop-sum-smaller
loop-sum-smaller c =
    let m = step_on _ _ _ (sym c.step_at-found.ensures ∙ ap told_step c.in-Command.is) in
    omega arith

pub loop-sum-preserved : goal.loop-sum-preserved
loop-sum-preserved c =
    let e = sym (ap told_step c.in-Command.is) ∙ c.step_at-found.ensures in
    let m = step_on _ _ _ (sym e) in
    summed_next c.args.rules c.args.frame c.args.stream.now c.args.room c.loop-sum.invariant e
    (line_long (goal.at.loop-sum-preserved c).After-line_len ∙ ap (λ (f : Step). length (step_text c.args.rules c.args.frame c.args.stream.now c.loop-sum.at (told_step f))) c.in-Command.is)
    c.if-room-sum.false
    m.1

pub returns-then-room-sum : goal.returns-then-room-sum
returns-then-room-sum c =
    summed_over _ _ _ _ c.loop-sum.invariant c.step_at-found.ensures (line_long (goal.at.returns-then-room-sum c).After-line_len) c.if-room-sum.true

pub returns-in_default : goal.returns-in_default
returns-in_default c =
    summed_last _ _ _ _ c.loop-sum.invariant c.step_at-found.ensures (line_long (goal.at.returns-in_default c).After-line_len)
    (rest_none _ _ _ _ c.in_default.not-Command) c.if-room-sum.false

-- `digits_at` meets its contract. The loop's invariant: the digits before the character at hand are read, and mean `value`. Assumes nothing.
use Prim.Native.Nat.{ℕ, ◌+◌, ◌-◌, ◌*◌, ◌<◌}
use mathlib.Core.List.{List}
use mathlib.Core.Path.{◌≡◌, sym, ap, subst, ◌∙◌}
use native.Mathlib.Omega.{arith}
use lib.ListN.{length, get_or, take, drop, length-drop}
use lib.Seq.{get_or-drop, take-length}
use Rattle.ledger.specs.Lines.{digit_in}
use Rattle.ledger.proofs.TracingSteps.{Counted, counted_more, counted_end, counted_other, counted_large, number_zero}
use Rattle.ledger.proofs.lines.digits_at.Goals as goal
use Rattle.ledger.proofs.lines.digits_at.Goals.{In-loop-n}

-- the text from an offset on
behind_is : (t : List ℕ) (at : ℕ) → take (length t - at) (drop at t) ≡ drop at t
behind_is t at = ap (λ (n : ℕ). take n (drop at t)) (sym (length-drop at t)) ∙ take-length (drop at t)

length_behind : (t : List ℕ) (at : ℕ) → length (take (length t - at) (drop at t)) ≡ length t - at
length_behind t at = ap length (behind_is t at) ∙ length-drop at t

-- the character at hand is in the text
module _ (c : In-loop-n) where
  inside : c.args.at + c.loop-n.n < length c.args.text.now
  inside = omega (arith, length_behind c.args.text.now c.args.at)

  digit_is : digit_in (get_or (take (length c.args.text.now - c.args.at) (drop c.args.at c.args.text.now)) c.loop-n.n 0)
      ≡ digit_in (get_or c.args.text.now (c.args.at + c.loop-n.n) 0)
  digit_is =
      ap digit_in
      (ap (λ (t : List ℕ). get_or t c.loop-n.n 0) (behind_is c.args.text.now c.args.at) ∙ get_or-drop c.args.at c.args.text.now c.loop-n.n 0)

pub returns-then-zero-eq48-clause-value_value : goal.returns-then-zero-eq48-clause-value_value
returns-then-zero-eq48-clause-value_value c = (number_zero c.args.text.now c.args.at c.requires c.if-zero-eq48.true).means

pub returns-then-zero-eq48-clause-next_value : goal.returns-then-zero-eq48-clause-next_value
returns-then-zero-eq48-clause-next_value c = (number_zero c.args.text.now c.args.at c.requires c.if-zero-eq48.true).there

pub loop-n-preserved : goal.loop-n-preserved
loop-n-preserved c =
    let t = c.args.text.now in
    let bound = c.in-Some.ensures.bound in
    let p = (goal.at.loop-n-preserved c).In-loop-n in
    let next : c.args.at + c.loop-n.n + 1 ≡ c.args.at + (c.loop-n.n + 1) = omega arith in
    subst (λ (i : ℕ). Counted t c.args.at (c.loop-n.value * 10 + c.in-Some.d) i) next
    (counted_more t c.args.at c.loop-n.invariant (inside p) (c.in-Some.ensures.value ∙ digit_is p) (omega arith) c.if-value-gt429496729.false)

pub returns-in_default-clause-value_value : goal.returns-in_default-clause-value_value
returns-in_default-clause-value_value c =
    let p = (goal.at.returns-in_default-clause-value_value c).In-loop-n in
    (counted_other c.args.text.now c.args.at c.loop-n.invariant c.requires (λ e. omega arith) (inside p)
    (c.in_default.ensures.value ∙ digit_is p) (omega arith)).means

pub returns-in_default-clause-next_value : goal.returns-in_default-clause-next_value
returns-in_default-clause-next_value c =
    let p = (goal.at.returns-in_default-clause-next_value c).In-loop-n in
    (counted_other c.args.text.now c.args.at c.loop-n.invariant c.requires (λ e. omega arith) (inside p)
    (c.in_default.ensures.value ∙ digit_is p) (omega arith)).there

pub returns-then-value-gt429496729-clause-value_value : goal.returns-then-value-gt429496729-clause-value_value
returns-then-value-gt429496729-clause-value_value c =
    (counted_large c.args.text.now c.args.at c.loop-n.invariant c.requires (λ e. omega arith) c.if-value-gt429496729.true).means

pub returns-then-value-gt429496729-clause-next_value : goal.returns-then-value-gt429496729-clause-next_value
returns-then-value-gt429496729-clause-next_value c =
    (counted_large c.args.text.now c.args.at c.loop-n.invariant c.requires (λ e. omega arith) c.if-value-gt429496729.true).there

pub returns-clause-value_value : goal.returns-clause-value_value
returns-clause-value_value c =
    (counted_end c.args.text.now c.args.at c.loop-n.invariant c.requires (λ e. omega arith) (omega (arith, length_behind c.args.text.now c.args.at))).means

pub returns-clause-next_value : goal.returns-clause-next_value
returns-clause-next_value c =
    let l = c.loop-n in
    let n = counted_end c.args.text.now c.args.at l.invariant c.requires (λ e. omega arith) (omega (arith, length_behind c.args.text.now c.args.at)) in
    omega (arith, n.there, l.invariant.within, length_behind c.args.text.now c.args.at)

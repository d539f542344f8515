-- Each turn is one step of the iterator. More calls than the stream has bytes change nothing.
use Prim.Native.Nat.{ℕ, min, ◌+◌}
use mathlib.Core.List.{List}
use mathlib.Core.Path.{◌≡◌, ap, ◌∙◌}
use native.Mathlib.Omega.{arith}
use lib.ListN.{length}
use Rattle.table.specs.Table.{length_of}
use Rattle.table.specs.declared.rules.Rules.{Rules}
use Rattle.walk.specs.Step.{step_at}
use Rattle.walk.specs.Stepping.{moved_to, after_steps}
use Rattle.walk.proofs.Stepping.{none_made, one_more}
use Rattle.lent.specs.Iterator.{nth_answer}
use Rattle.lent.specs.declared.iterator.MacCommandIterator.{MacCommandIterator}
use Rattle.lent.proofs.Iteration.{no_more_calls}
use Rattle.lent.proofs.iterator.nth_step.Goals as goal

-- a step from where i steps led
stepped : (r r' : Rules) (s s' : List ℕ) (k i : ℕ) → r ≡ r' → s ≡ s' → k ≡ after_steps (length_of r') s' 0 i
    → moved_to (step_at (length_of r) s k) k ≡ after_steps (length_of r') s' 0 (i + 1)
stepped r r' s s' k i p q e = rw (p, q, e) (one_more (length_of r') s' 0 i)

answered : (r r' : Rules) (s s' : List ℕ) (k i : ℕ) → r ≡ r' → s ≡ s' → k ≡ after_steps (length_of r') s' 0 i
    → step_at (length_of r) s k ≡ nth_answer (length_of r') s' i
answered r r' s s' k i p q e = rw (p, q, e)

pub loop-call-init : goal.loop-call-init
loop-call-init c =
    let e = c.new-iterator.ensures in
    record {
      same_stream = ap (λ (it : MacCommandIterator). it.«data».now) e;
      same_rules = ap (λ (it : MacCommandIterator). it.rules) e;
      stands = ap (λ (it : MacCommandIterator). it.index) e ∙ none_made (length_of c.args.rules) c.args.stream.now 0;
    }

pub loop-call-preserved : goal.loop-call-preserved
loop-call-preserved c =
    let it = c.loop-call.iterator' in
    let v = c.loop-call.invariant in
    let e = ap (λ x. x.1) c.next.ensures in
    record {
      same_stream = ap (λ (i : MacCommandIterator). i.«data».now) e ∙ v.same_stream;
      same_rules = ap (λ (i : MacCommandIterator). i.rules) e ∙ v.same_rules;
      stands = ap (λ (i : MacCommandIterator). i.index) e ∙ stepped it.rules c.args.rules it.«data».now c.args.stream.now it.index c.loop-call._call v.same_rules v.same_stream v.stands;
    }

pub returns : goal.returns
returns c =
    let it = c.loop-call.iterator' in
    let v = c.loop-call.invariant in
    let L = length_of c.args.rules in
    let s = c.args.stream.now in
    let all : c.loop-call._call ≡ min c.args.n (length s) = omega arith in
    ap (λ x. x.0) c.next-2.ensures
    ∙ answered it.rules c.args.rules it.«data».now s it.index c.loop-call._call v.same_rules v.same_stream v.stands
    ∙ ap (nth_answer L s) all
    ∙ no_more_calls L s c.args.n

-- The claims of specs/Iteration.antt, proved: the steps of an iterator are the walk's. Assumes nothing.
use Prim.Native.Nat.{ℕ, zero, suc, min, ◌<◌, ◌≤◌}
use mathlib.Core.List.{List, []}
use mathlib.Core.Path.{◌≡◌, sym, ap, ◌∙◌}
use native.Mathlib.Decide.{dec_lt}
use native.Mathlib.Numerals.{add-one}
use native.Mathlib.Omega.{arith}
use denote.Ref.{Bor}
use lib.ListN.{length, drop_of_length-le}
use Rattle.table.specs.Answers.{given}
use Rattle.table.specs.Table.{length_of}
use Rattle.table.specs.declared.rules.Rules.{Rules}
use Rattle.walk.specs.Walk.{Rule, Placed, walk_of}
use Rattle.walk.specs.Step.{first_of, in_numbers}
use Rattle.walk.specs.Stepping.{after_steps}
use Rattle.walk.proofs.Ownership.{count_fits}
use Rattle.walk.proofs.Stepping.{none_made, one_more, steps_reach}
use Rattle.lent.specs.Iterator.{fresh, at_index, nexted, nth_answer}
use Rattle.lent.specs.Iteration.{called, HandsOutTheWalk}
use Rattle.lent.specs.declared.iterator.MacCommandIterator.{MacCommandIterator}

module _ (s : Bor (List ℕ)) (rules : Rules) where
  -- a call of `next` is a step
  calls_are_steps : (n : ℕ) → called s rules n ≡ at_index (fresh s rules) (after_steps (length_of rules) s.now 0 n)
  calls_are_steps zero = ap (at_index (fresh s rules)) (none_made (length_of rules) s.now 0)
  calls_are_steps (suc n) =
      ap (λ (it : MacCommandIterator). (nexted it).1) (calls_are_steps n)
      ∙ ap (at_index (fresh s rules)) (one_more (length_of rules) s.now 0 n ∙ ap (after_steps (length_of rules) s.now 0) (add-one n))

  pub hands_out_the_walk : HandsOutTheWalk s rules
  hands_out_the_walk n =
      let reach = steps_reach (length_of rules) s.now 0 n (omega arith) in
      record {
        stands = ap (λ (it : MacCommandIterator). it.index) (calls_are_steps n) ∙ reach.stands;
        answers = ap (λ (it : MacCommandIterator). (nexted it).0) (calls_are_steps n) ∙ ap in_numbers reach.finds;
      }

module _ (L : Rule) (s : List ℕ) where
  -- as many calls as the stream has bytes reach the ending, so that more change nothing
  ending_after : (n : ℕ) → length s ≤ n → nth_answer L s n ≡ in_numbers (given (first_of [] (walk_of L s).ending))
  ending_after n h =
      let few = count_fits L s in
      ap in_numbers ((steps_reach L s 0 n (omega arith)).finds
      ∙ ap (λ (ps : List Placed). given (first_of ps (walk_of L s).ending)) (drop_of_length-le (walk_of L s).cmds {i = n} (omega arith)))

  pub no_more_calls : (n : ℕ) → nth_answer L s (min n (length s)) ≡ nth_answer L s n
  no_more_calls n = by (dec_lt n (length s))
    where
      by : Dec (n < length s) → nth_answer L s (min n (length s)) ≡ nth_answer L s n
      by (yes h) = let m : min n (length s) ≡ n = omega arith in ap (nth_answer L s) m
      by (no h) =
          let m : min n (length s) ≡ length s = omega arith in
          ap (nth_answer L s) m ∙ ending_after (length s) (omega arith) ∙ sym (ending_after n (omega arith))

-- What is claimed of an iterator (RULES: H1), for any rules and any stream. proofs/Iteration.antt proves it.
use Rattle.std.specs.Prelude.{ℕ, zero, suc, List, ◌≡◌, drop}
use Rattle.std.specs.Borrow.{Bor}
use Rattle.table.specs.Answers.{given}
use Rattle.table.specs.Table.{length_of}
use Rattle.table.specs.declared.rules.Rules.{Rules}
use Rattle.walk.specs.Ownership.{offset_of}
use Rattle.walk.specs.Step.{first_of, in_numbers}
use Rattle.walk.specs.Walk.{Walk, walk_of}
use Rattle.lent.specs.Iterator.{fresh, nexted}
use Rattle.lent.specs.declared.iterator.MacCommandIterator.{MacCommandIterator}

module _ (s : Bor (List ℕ)) (rules : Rules) where
  -- a fresh iterator after n calls of `next`
  abbrev pub called : ℕ → MacCommandIterator
  called zero = fresh s rules
  called (suc n) = (nexted (called n)).1

  abbrev w : Walk
  w = walk_of (length_of rules) s.now

  -- it stands at the first of the walk's commands that are left, and the next call answers that command. Where none is left it stands at the walk's
  -- ending, and answers it
  pub record Hands (n : ℕ) : Type 0 where
    pub stands : (called n).index ≡ offset_of (drop n w.cmds) w.ending
    pub answers : (nexted (called n)).0 ≡ in_numbers (given (first_of (drop n w.cmds) w.ending))

  -- calling `next` again and again on a fresh iterator hands out exactly the walk's list, and then its ending for ever
  abbrev pub HandsOutTheWalk : Type 0
  HandsOutTheWalk = (n : ℕ) → Hands n

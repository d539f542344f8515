-- After so many calls the iterator is over the same stream, at the offset that as many steps lead to.
use Rattle.std.proofs.Common.{◌≡◌}
use Rattle.table.specs.Table.{length_of}
use Rattle.walk.specs.Stepping.{after_steps}
use Rattle.lent.proofs.iterator.nth_step.Given as goal

abbrev pub invariant-loop-call : goal.invariant-loop-call
invariant-loop-call l = record {
  same_stream : l.iterator'.«data».now ≡ l.stream;
  same_rules : l.iterator'.rules ≡ l.fn.rules;
  stands : l.iterator'.index ≡ after_steps (length_of l.fn.rules) l.stream 0 l._call;
}

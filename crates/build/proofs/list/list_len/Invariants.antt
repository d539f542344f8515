-- What the loop keeps true: the records before this place are taken.
use Rattle.table.specs.Table.{length_of}
use Rattle.build.specs.Records.{recs_held}
use Rattle.build.proofs.Listed.{Counted}
use Rattle.build.proofs.list.list_len.Given as goal

abbrev pub invariant-loop-place : goal.invariant-loop-place
invariant-loop-place g l = Counted (length_of l.rules) (recs_held g.T.Holds.held l.records) l.cut_off l.place l.sum

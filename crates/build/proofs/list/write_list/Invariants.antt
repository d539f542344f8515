-- What the loop keeps true: the commands of the records before this one are written from the front on, up to `at`.
use Rattle.build.specs.Records.{recs_held}
use Rattle.build.proofs.Laying.{Laid}
use Rattle.build.proofs.list.write_list.Given as goal

abbrev pub invariant-loop-record : goal.invariant-loop-record
invariant-loop-record g l = Laid (recs_held g.T.Holds.held l.records) l.initial.out l.record-index l.at l.out

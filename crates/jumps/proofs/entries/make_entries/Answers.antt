-- `make_entries` meets its contract. Assumes nothing.
use mathlib.Core.Path.{◌≡◌, ◌∙◌}
use native.Mathlib.Omega.{arith}
use lib.ListN.{length}
use lib.Seq.{length-take-le}
use Rattle.table.specs.Table.{length_of}
use Rattle.jumps.specs.Entries.{entries_of}
use Rattle.jumps.proofs.Making.{total_is, made_short, made_long, made_all, made_front}
use Rattle.jumps.proofs.entries.make_entries.Goals as goal
use Rattle.jumps.proofs.entries.make_entries.Goals.{After-div_ceil-total}

total : (c : After-div_ceil-total) → c.div_ceil-total.result ≡ length (entries_of (length_of c.args.rules) c.args.stream.now)
total c = total_is _ _ c.walk-end.result c.walk-end.ensures c.div_ceil-total.ensures

pub returns-then-numbers-total : goal.returns-then-numbers-total
returns-then-numbers-total c = made_short _ _ _ (total (goal.at.returns-then-numbers-total c).After-div_ceil-total) (omega arith)

pub returns-then-stream-gt-LARGEST : goal.returns-then-stream-gt-LARGEST
returns-then-stream-gt-LARGEST c = made_long _ _ _ (total (goal.at.returns-then-stream-gt-LARGEST c).After-div_ceil-total) (omega arith) (omega arith)

pub write_entries-requires-clause-total_value : goal.write_entries-requires-clause-total_value
write_entries-requires-clause-total_value c = let t = total (goal.at.write_entries-requires-clause-total_value c).After-div_ceil-total in
    length-take-le _ _ (omega arith) ∙ t

pub returns : goal.returns
returns c =
    let t = total (goal.at.returns c).After-div_ceil-total in
    made_all _ _ _ t (omega arith) (omega arith) (made_front _ _ _ t c.write_entries.ensures)

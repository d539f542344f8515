-- `write_entries` meets its contract. Assumes nothing.
use Prim.Native.Nat.{◌≤◌}
use native.Mathlib.Omega.{arith}
use lib.ListN.{length}
use Rattle.table.specs.Table.{length_of}
use Rattle.jumps.specs.Entries.{entries_of}
use Rattle.jumps.proofs.Making.{written_none, written_in, written_more, written_all}
use Rattle.jumps.proofs.entries.write_entries.Goals as goal
use Rattle.jumps.proofs.entries.write_entries.Goals.{Start}

room : (c : Start) → length (entries_of (length_of c.args.rules) c.args.stream.now) ≤ length c.args.numbers.now
room c = omega (arith, c.requires.total_value)

pub loop-number-init : goal.loop-number-init
loop-number-init c = written_none _ _ _ (room (goal.at.loop-number-init c).Start)

pub overflow_cast-number : goal.overflow_cast-number
overflow_cast-number c =
    record { fits = omega (arith, written_in _ _ _ (room (goal.at.overflow_cast-number c).Start) c.loop-number.invariant) }

pub loop-number-preserved : goal.loop-number-preserved
loop-number-preserved c =
    written_more _ _ _ (room (goal.at.loop-number-preserved c).Start) (omega (arith, c.requires.total_value)) c.loop-number.invariant c.after_steps-at.ensures

pub returns : goal.returns
returns c =
    written_all _ _ c.args.numbers.now (room (goal.at.returns c).Start) (omega (arith, c.requires.total_value)) c.requires.total_value c.loop-number.invariant

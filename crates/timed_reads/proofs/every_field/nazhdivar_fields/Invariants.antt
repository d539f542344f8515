-- What the loop keeps true.
use Prim.Native.Nat.{◌+◌, ◌-◌, ◌%◌, ◌<◌}
use mathlib.Core.Path.{◌≡◌}
use lib.ListN.{length}
use Rattle.table.specs.Table.{length_of}
use Rattle.payloads.specs.Commands.{sent_down}
use Rattle.timed_reads.specs.Fields.{fields_of}
use Rattle.timed_reads.proofs.Sums.{left}
use Rattle.timed_reads.proofs.every_field.nazhdivar_fields.Given as goal

abbrev pub invariant-loop-command : goal.invariant-loop-command
invariant-loop-command l = (l.total < 4_294_967_296) × (fields_of l.stream ≡ (l.total + left (length_of sent_down) l.stream l.at) % 4_294_967_296)

abbrev pub decreases-loop-command : goal.decreases-loop-command
decreases-loop-command l = length l.stream - l.at

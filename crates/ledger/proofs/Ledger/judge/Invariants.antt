-- What the loop keeps true.
use Prim.Native.Nat.{◌-◌}
use lib.ListN.{length}
use Rattle.ledger.proofs.Judging.{Judged}
use Rattle.ledger.proofs.Ledger.judge.Given as goal

abbrev pub invariant-commands : goal.invariant-commands
invariant-commands l = Judged l.rules l.stream l.self.pending l.self.listed l.room l.at l.seen l.left

abbrev pub decreases-commands : goal.decreases-commands
decreases-commands l = length l.stream - l.at

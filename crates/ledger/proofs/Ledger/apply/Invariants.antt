-- What the loop keeps true: the events from `at` on, from the ledger in hand, come to what all of them come to from the first.
use Prim.Native.Nat.{◌-◌}
use lib.ListN.{length}
use Rattle.ledger.specs.Memory.{book_of}
use Rattle.ledger.proofs.Applying.{Along}
use Rattle.ledger.proofs.Ledger.apply.Given as goal

abbrev pub invariant-commands : goal.invariant-commands
invariant-commands l = Along l.rules l.line l.frame l.stream (book_of l.initial.self l.initial.list) l.at (book_of l.self l.list)

-- what is left of the stream
abbrev pub decreases-commands : goal.decreases-commands
decreases-commands l = length l.stream - l.at

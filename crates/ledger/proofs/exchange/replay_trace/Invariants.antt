-- What the loop keeps true: the lines from `at` on, from the ledger in hand, come to what all of them come to from the first.
use Prim.Native.Nat.{◌-◌}
use lib.ListN.{length}
use Rattle.ledger.specs.Memory.{book_of}
use Rattle.ledger.proofs.Following.{Followed}
use Rattle.ledger.proofs.exchange.replay_trace.Given as goal

abbrev pub invariant-loop-at : goal.invariant-loop-at
invariant-loop-at l = Followed l.text (book_of l.initial.ledger l.initial.list) l.at (book_of l.ledger l.list)

-- what is left of the text
abbrev pub decreases-loop-at : goal.decreases-loop-at
decreases-loop-at l = length l.text - l.at

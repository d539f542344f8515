-- What the loop of `pop` keeps. Assumes nothing.
use Rattle.std.proofs.Common.{◌≡◌, ℕ, ◌+◌, ◌<◌, ◌≤◌, length, get_or}
use Rattle.ledger.specs.declared.memory.Asked.{Asked}
use Rattle.ledger.proofs.memory.Queue.pop.Given as goal

abbrev pub invariant-loop-n : goal.invariant-loop-n
invariant-loop-n l = record {
  room : length l.self.requests ≡ 8;
  moved : (k : ℕ) (d : Asked) → k + 1 < l.n → get_or l.self.requests k d ≡ get_or l.fn.self.requests (k + 1) d;
  behind : (k : ℕ) (d : Asked) → l.n ≤ k → get_or l.self.requests k d ≡ get_or l.fn.self.requests k d;
}

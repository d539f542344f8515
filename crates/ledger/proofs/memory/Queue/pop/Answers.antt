-- `pop` meets its contract. Assumes nothing.
use mathlib.Core.Path.{◌∙◌}
use Rattle.std.proofs.Common.{arith, ◌≡◌, ◌-◌, ◌≤◌}
use Rattle.std.proofs.lemmas.Bool.Decides.{nat_tests}
use Rattle.std.proofs.lemmas.List.{length-take-le}
use Rattle.ledger.specs.Memory.{at_most}
use Rattle.ledger.proofs.MemoryQueues.{moved_up}
use Rattle.ledger.proofs.memory.Queue.pop.Goals as goal

pub returns-clause-rest : goal.returns-clause-rest
returns-clause-rest c =
    let q = c.args.self.now in
    let n = c.open-open.result in
    let low : at_most 8 q.count ≤ 8 = grind (arith, nat_tests) in
    let counted : n ≡ at_most 8 q.count = c.open-open.ensures.value ∙ length-take-le (at_most 8 q.count) q.requests (omega arith) in
    let fewer : at_most 8 (n - 1) ≡ n - 1 = grind (arith, nat_tests) in
    rw (fewer, ← counted)
    (moved_up q.requests c.loop-n.self.requests n (omega arith) (omega arith) (omega arith) (λ k d h. c.loop-n.invariant.moved k d (omega arith)))

-- `Rules::payload_len` meets its contract: at each of the sixteen lowest bytes by its four bits, at any other by every row. Assumes nothing.
use Prim.Native.Nat.{ℕ, ◌*◌, ◌/◌, ◌%◌, ◌^◌}
use mathlib.Core.Path.{ap}
use native.Mathlib.Omega.{arith}
use Rattle.table.proofs.Packed.{a_cid}
use Rattle.table.proofs.rules.Rules.payload_len.Goals as goal

pub returns-else-four-eq15 : goal.returns-else-four-eq15
returns-else-four-eq15 c =
    let a = c.args in
    a_cid a.self a.cid _ (ap (λ (n : ℕ). n / 2 ^ (4 * a.cid) % 16) c.lengths.ensures) (omega arith) c.if-four-eq15.false

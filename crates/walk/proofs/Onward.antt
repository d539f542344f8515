-- The offset behind a command, where there is room for any. Assumes nothing.
use Prim.Native.Nat.{ℕ, ◌+◌, ◌≤◌}
use mathlib.Core.List.{List}
use mathlib.Core.Option.{some}
use mathlib.Core.Path.{◌≡◌}
use native.Mathlib.Omega.{arith}
use lib.ListN.{length, get_or}
use Rattle.table.specs.declared.rules.Rules.{Rules}
use Rattle.table.specs.Table.{length_of}
use Rattle.table.proofs.Lengths.{at_most_five}
use Rattle.walk.specs.Lanes.{Leads}
use Rattle.walk.proofs.Steps.{step_command, leads_behind}

-- no command is longer than six bytes
pub any : (rules : Rules) (s : List ℕ) (at : ℕ) {n : ℕ} → at + 6 ≤ length s → length_of rules (get_or s at 0) ≡ some n
    → Leads (length_of rules) s at 1 (at + 1 + n) × (at + 1 + n ≤ length s)
any rules s at {n} h e =
    let few = at_most_five rules (get_or s at 0) n e in
    (leads_behind _ _ at (step_command _ _ n (omega arith) e (omega arith)), omega arith)

-- `len` meets its contract. Assumes nothing.
use Prim.Native.Nat.{◌+◌, ◌≤◌}
use mathlib.Core.Path.{sym, ◌∙◌}
use native.Mathlib.Omega.{arith}
use lib.ListN.{length}
use Rattle.table.proofs.Lengths.{at_most_five}
use Rattle.listings.specs.Passes.{is_counted}
use Rattle.text.proofs.Hexes.{field_long}
use Rattle.listings.proofs.Lining.{behind_few, command_long, digits_few, name_few, payload_few}
use Rattle.listings.proofs.command.Command.len.Goals as goal
use Rattle.listings.proofs.command.Command.len.Goals.{After-behind_len-rest}

few : (c : After-behind_len-rest)
    → c.decimal_len-offset.result + c.name_len-name.result + c.field_len-payload.result + c.behind_len-rest.result ≤ 50
few c =
    let a = c.args.self in
    let p = c.decimal_len-offset.ensures in
    let q = c.name_len-name.ensures in
    let r = c.field_len-payload.ensures in
    let t = c.behind_len-rest.ensures in
    omega (arith, digits_few a.at (let f = c.ranges in omega arith), name_few a.rules a.cid, payload_few (length a.payload.now) (at_most_five a.rules a.cid (length a.payload.now) a.known), behind_few (is_counted a.rules a.cid) a.payload.now)

pub overflow_add-result : goal.overflow_add-result
overflow_add-result c = omega (arith, few (goal.at.overflow_add-result c).After-behind_len-rest)

pub overflow_add-result-2 : goal.overflow_add-result-2
overflow_add-result-2 c = omega (arith, few (goal.at.overflow_add-result-2 c).After-behind_len-rest)

pub overflow_add-result-3 : goal.overflow_add-result-3
overflow_add-result-3 c = omega (arith, few (goal.at.overflow_add-result-3 c).After-behind_len-rest)

pub overflow_add-result-4 : goal.overflow_add-result-4
overflow_add-result-4 c = omega (arith, few (goal.at.overflow_add-result-4 c).After-behind_len-rest)

pub returns-clause-value : goal.returns-clause-value
returns-clause-value c =
    let a = c.args.self in
    let p = c.decimal_len-offset.ensures in
    let q = c.name_len-name.ensures in
    let r = c.field_len-payload.ensures ∙ sym (field_long a.payload.now) in
    let t = c.behind_len-rest.ensures in
    omega (arith, command_long a.rules a.at a.cid a.payload.now)

pub returns-clause-upper_bound : goal.returns-clause-upper_bound
returns-clause-upper_bound c = omega (arith, few (goal.at.returns-clause-upper_bound c).After-behind_len-rest)

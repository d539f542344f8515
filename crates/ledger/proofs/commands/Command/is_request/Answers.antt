-- `is_request` meets its contract. Assumes nothing.
use mathlib.Core.Bool.{Bool, true, false, cond}
use mathlib.Core.Path.{sym, ap, ◌∙◌}
use borrow.Author.Tests.{lt-ltb, le-ltb, eq-eqb, ne_eqb}
use lib.Dec.{eqb, ltb}
use Rattle.table.specs.declared.rules.Direction.{Direction}
use Rattle.ledger.proofs.Walking.{request_in, request_is}
use Rattle.ledger.proofs.commands.Command.is_request.Goals as goal

pub returns-then-cid-lt3 : goal.returns-then-cid-lt3
returns-then-cid-lt3 c =
    let a = c.args in
    sym (request_is a.rules a.self.cid ∙ ap (λ (d : Direction). request_in d a.self.cid) c.in-Down.is
    ∙ ap (λ (b : Bool). cond b false (ltb a.self.cid 11)) (lt-ltb a.self.cid 3 c.if-cid-lt3.true))

pub returns-else-cid-lt3 : goal.returns-else-cid-lt3
returns-else-cid-lt3 c =
    let a = c.args in
    sym (request_is a.rules a.self.cid ∙ ap (λ (d : Direction). request_in d a.self.cid) c.in-Down.is
    ∙ ap (λ (b : Bool). cond b false (ltb a.self.cid 11)) (le-ltb a.self.cid 3 c.if-cid-lt3.false))

pub returns-then-cid-eq2 : goal.returns-then-cid-eq2
returns-then-cid-eq2 c =
    let a = c.args in
    sym (request_is a.rules a.self.cid ∙ ap (λ (d : Direction). request_in d a.self.cid) c.in-Up.is
    ∙ ap (λ (b : Bool). cond b true (eqb a.self.cid 13)) (eq-eqb a.self.cid 2 c.if-cid-eq2.true))

pub returns-else-cid-eq2 : goal.returns-else-cid-eq2
returns-else-cid-eq2 c =
    let a = c.args in
    sym (request_is a.rules a.self.cid ∙ ap (λ (d : Direction). request_in d a.self.cid) c.in-Up.is
    ∙ ap (λ (b : Bool). cond b true (eqb a.self.cid 13)) (ne_eqb a.self.cid 2 c.if-cid-eq2.false))

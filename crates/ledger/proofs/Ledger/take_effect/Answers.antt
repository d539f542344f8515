-- `take_effect` meets its contract. Assumes nothing.
use borrow.Author.Rules.{rules}
use Rattle.ledger.proofs.MemoryAnswers.{holds_it}
use Rattle.ledger.proofs.Ledger.take_effect.Goals as goal

pub returns-in-Row : goal.returns-in-Row
returns-in-Row c =
    let a = c.args in
    let l = a.self.now in
    let low = c.in-Row.ensures.bound in
    holds_it a.cid a.request c.in-Row.row c.in-Row.ensures.told l.lines l.listed l.pending l.held a.list.now c.hold.new.self (search rules) low c.hold.ensures

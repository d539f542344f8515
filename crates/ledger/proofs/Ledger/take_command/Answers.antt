-- `take_command` meets its contract. Assumes nothing.
use Prim.Native.Nat.{ℕ}
use mathlib.Core.List.{List}
use mathlib.Core.Path.{sym, ap, ◌∙◌}
use borrow.Author.Rules.{rules}
use Rattle.ledger.specs.Events.{place}
use Rattle.ledger.specs.Memory.{book_of}
use Rattle.ledger.proofs.Applying.{request_taken}
use Rattle.ledger.proofs.MemoryAnswers.{asked_in}
use Rattle.ledger.proofs.Ledger.take_command.Goals as goal

pub returns-then-is_request : goal.returns-then-is_request
returns-then-is_request c =
    let a = c.args in
    let l = a.self.now in
    request_taken a.rules a.at.line a.at.frame a.at.offset a.command.cid a.command.payload.now (book_of l a.list.now) _ _
    (sym c.is_request.ensures ∙ c.if-is_request.true)
    (ap (λ (x : List ℕ). record { at = place a.at.line a.at.frame a.at.offset; cid = a.command.cid; body = x }) c.payload_number-payload.ensures)
    c.requires
    (asked_in a.command.cid (record { at = a.at; payload = c.payload_number-payload.result }) l.lines l.listed l.pending l.held a.list.now c.push.new.self (search rules) c.push.ensures)

-- `answer` meets its contract. Assumes nothing.
use Prim.Native.Nat.{◌<◌}
use mathlib.Core.Path.{sym, ◌∙◌}
use borrow.Author.Rules.{rules}
use lib.ListN.{length}
use Rattle.ledger.specs.Events.{Reply}
use Rattle.ledger.specs.Working.{reply_of}
use Rattle.ledger.proofs.MemoryAnswers.{is_stray, answers_yes}
use Rattle.ledger.proofs.Ledger.answer.Goals as goal
use Rattle.ledger.proofs.Ledger.answer.Goals.{After-pop}

module _ (c : After-pop) where
  abbrev it : Reply
  it = reply_of c.args.cid c.args.agrees c.args.at.line c.args.at.frame c.args.at.offset

  there : c.args.cid < length c.args.self.now.pending
  there = search rules

pub returns-in_default : goal.returns-in_default
returns-in_default c =
    let a = c.args in
    let l = a.self.now in
    let p = (goal.at.returns-in_default c).After-pop in
    c.note.ensures
    ∙ is_stray (it p) l.lines l.listed l.pending l.held a.list.now c.pop.new.self (there p) c.pop.ensures.rest (sym c.in_default.ensures.first)

pub returns-then-agrees : goal.returns-then-agrees
returns-then-agrees c =
    let a = c.args in
    let l = a.self.now in
    let p = (goal.at.returns-then-agrees c).After-pop in
    answers_yes (it p) l.lines l.listed l.pending l.held a.list.now c.in-Some.request (sym c.in-Some.ensures.first)
    c.pop.new.self (there p) c.pop.ensures.rest c.if-agrees.true _ c.take_effect.ensures

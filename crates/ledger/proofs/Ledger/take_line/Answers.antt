-- `take_line` meets its contract. Assumes nothing.
use Prim.Native.Nat.{ℕ}
use mathlib.Core.Option.{some}
use mathlib.Core.Path.{◌≡◌, refl, sym, ap, ◌∙◌}
use native.Mathlib.Omega.{arith}
use lib.ListN.{take}
use Rattle.std.specs.Prelude.{Some}
use Rattle.std.proofs.lemmas.Result.{err_from_is_err_and}
use Rattle.ledger.specs.Book.{steps}
use Rattle.ledger.specs.Events.{following}
use Rattle.ledger.specs.Trace.{TraceLine}
use Rattle.ledger.specs.Working.{book_in, events_from, front_at}
use Rattle.ledger.proofs.Following.{line_refused, line_taken}
use Rattle.ledger.proofs.Ledger.take_line.Goals as goal
use Rattle.ledger.proofs.Ledger.take_line.Goals.{In_ok-found}

module _ (c : In_ok-found) where
  abbrev line : TraceLine
  line = record { frame = c.in_ok-found.found.frame; direction = c.in_ok-found.found.direction; stream = take c.in_ok-found.found.len c.line_at.new.stream }

  found : front_at c.args.text.now c.args.at ≡ some (line, c.in_ok-found.found.next)
  found =
      let is : c.line_at.result ≡ Some c.in_ok-found.found = grind arith in
      sym (rw is at c.line_at.ensures.stream_after)

pub returns-in_err-judge : goal.returns-in_err-judge
returns-in_err-judge c =
    let a = c.args in
    let l = a.self.now in
    let f = c.in_ok-found.found in
    let buffer = c.line_at.new.stream in
    let p = err_from_is_err_and c.from_residual-in_err-judge.result c.from_residual-in_err-judge.ensures.1 in
    rw (p.1, p.2)
    (line_refused a.text.now a.at l.lines l.listed _ l.pending l.held a.list.now (line (goal.at.returns-in_err-judge c).In_ok-found) f.next
    c.new-rules.result (found (goal.at.returns-in_err-judge c).In_ok-found) c.new-rules.ensures
    (c.in_err-judge.ensures (following l.lines) f.frame (following l.lines) l.held a.list.now refl))

pub returns : goal.returns
returns c =
    let a = c.args in
    let l = a.self.now in
    let f = c.in_ok-found.found in
    let buffer = c.line_at.new.stream in
    let x = line (goal.at.returns c).In_ok-found in
    line_taken a.text.now a.at l.lines l.listed l.pending l.held a.list.now x f.next c.new-rules.result
    (found (goal.at.returns c).In_ok-found) c.new-rules.ensures
    (c.apply.ensures
    ∙ ap (λ (k : ℕ). steps (events_from c.new-rules.result k x.frame x.stream 0) (book_in k l.listed l.pending l.held a.list.now)) c.number_after-self.ensures)

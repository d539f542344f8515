-- `judge` meets its contract. The loop's invariant: nothing before `at` is refused, `seen` commands of each CID stand there, and `left` entries have
-- room behind them. The measure is what is left of the stream. Assumes nothing.
use Prim.Native.Nat.{ℕ, ◌+◌, ◌-◌, ◌<◌}
use mathlib.Core.Path.{◌≡◌, sym, ap, subst, ◌∙◌}
use native.Mathlib.Omega.{arith}
use lib.ListN.{get_or, take, drop}
use Rattle.table.specs.Answers.{Answer, given}
use Rattle.table.specs.Table.{length_of}
use Rattle.walk.specs.Step.{command, heading, step_at}
use Rattle.walk.specs.Told.{told_step}
use Rattle.ledger.proofs.Judging.{judged_none, judged_end, judged_never, judged_stop, judged_fault, judged_next}
use Rattle.ledger.proofs.Walking.{Stands, stands}
use Rattle.std.specs.Prelude.{Err}
use Rattle.std.proofs.lemmas.Result.{err_from_is_err_and}
use Rattle.table.specs.Told.{told_verdict}
use Rattle.ledger.specs.Events.{is_request, agrees_with}
use Rattle.ledger.specs.Memory.{pending_in}
use Rattle.ledger.specs.Working.{left_behind, Judges}
use Rattle.ledger.proofs.Ledger.judge.Goals as goal
use Rattle.ledger.proofs.Ledger.judge.Goals.{In-Command}

-- the command at hand
module _ (c : In-Command) where
  abbrev cid : ℕ
  cid = c.in-Command.cid

  abbrev len : ℕ
  len = c.in-Command.len

  abbrev next : ℕ
  next = c.in-Command.next

  abbrev at : ℕ
  at = c.commands.at

  step_is : step_at (length_of c.args.rules) c.args.stream.now at ≡ given (command (heading cid len) next)
  step_is = sym c.step_at.ensures ∙ ap told_step c.in-Command.is

  stands_here : Stands c.args.rules c.args.stream.now at cid len next
  stands_here = stands c.args.rules c.args.stream.now step_is

  -- its payload is what is between it and the next
  long : next - (at + 1) ≡ len
  long = omega (arith, stands_here.behind)

  abbrev behind : ℕ → Answer ℕ
  behind n =
      left_behind (pending_in c.args.self.now.pending cid) (is_request c.args.rules cid) (get_or c.commands.seen cid 0) cid
      (agrees_with cid (take n (drop (at + 1) c.args.stream.now))) c.commands.left

  low : cid < 16
  low = stands_here.low

pub commands-init : goal.commands-init
commands-init c =
    let a = c.args in
    judged_none a.rules a.stream.now a.self.now.pending a.self.now.listed a.room c.saturating_sub-left.ensures

pub bounds-seen-row : goal.bounds-seen-row
bounds-seen-row c =
    (stands c.args.rules c.args.stream.now (sym c.step_at.ensures ∙ ap told_step c.in-Command.is)).low

pub bounds-seen-row-in-Command : goal.bounds-seen-row-in-Command
bounds-seen-row-in-Command c = low c

pub slice_bounds-payload-count : goal.slice_bounds-payload-count
slice_bounds-payload-count c = let w = stands_here (goal.at.slice_bounds-payload-count c).In-Command in omega (arith, w.behind, w.fits)

pub slice_bounds-payload-start : goal.slice_bounds-payload-start
slice_bounds-payload-start c = let w = stands_here (goal.at.slice_bounds-payload-start c).In-Command in omega (arith, w.behind, w.fits)

pub slice_bounds-payload-end : goal.slice_bounds-payload-end
slice_bounds-payload-end c = let w = stands_here (goal.at.slice_bounds-payload-end c).In-Command in omega (arith, w.behind, w.fits)

pub bounds-self-row : goal.bounds-self-row
bounds-self-row c = low (goal.at.bounds-self-row c).In-Command

pub commands-smaller : goal.commands-smaller
commands-smaller c =
    omega (arith, (stands_here (goal.at.commands-smaller c).In-Command).behind, (stands_here (goal.at.commands-smaller c).In-Command).fits)

pub commands-preserved : goal.commands-preserved
commands-preserved c =
    let a = c.args in
    judged_next a.rules a.stream.now a.self.now.pending a.self.now.listed a.room c.commands.invariant (step_is (goal.at.commands-preserved c).In-Command)
    (c.in_ok-left-in-Command.ensures ∙ ap (behind (goal.at.commands-preserved c).In-Command) (long (goal.at.commands-preserved c).In-Command))

pub returns-in_err-left-in-Command : goal.returns-in_err-left-in-Command
returns-in_err-left-in-Command c =
    let a = c.args in
    let p = err_from_is_err_and c.from_residual.result c.from_residual.ensures.1 in
    subst (Judges a.rules a.stream.now a.self.now.pending a.self.now.listed a.room) (ap told_verdict (sym (p.1 ∙ ap Err p.2)))
    (judged_fault a.rules a.stream.now a.self.now.pending a.self.now.listed a.room c.commands.invariant (step_is (goal.at.returns-in_err-left-in-Command c).In-Command)
    (c.in_err-left-in-Command.ensures ∙ ap (behind (goal.at.returns-in_err-left-in-Command c).In-Command) (long (goal.at.returns-in_err-left-in-Command c).In-Command)))

pub returns-in-End : goal.returns-in-End
returns-in-End c =
    let a = c.args in
    judged_end a.rules a.stream.now a.self.now.pending a.self.now.listed a.room c.commands.invariant
    (sym c.step_at.ensures ∙ ap told_step c.in-End.is)

pub returns-in_err-room_after-in-Stop : goal.returns-in_err-room_after-in-Stop
returns-in_err-room_after-in-Stop c =
    let a = c.args in
    let p = err_from_is_err_and c.from_residual-in_err-room_after-in-Stop.result c.from_residual-in_err-room_after-in-Stop.ensures.1 in
    subst (Judges a.rules a.stream.now a.self.now.pending a.self.now.listed a.room) (ap told_verdict (sym (p.1 ∙ ap Err p.2)))
    (judged_stop a.rules a.stream.now a.self.now.pending a.self.now.listed a.room c.commands.invariant
    (sym c.step_at.ensures ∙ ap told_step c.in-Stop.is)
    c.in_err-room_after-in-Stop.ensures)

pub returns-in-Stop : goal.returns-in-Stop
returns-in-Stop c =
    let a = c.args in
    judged_stop a.rules a.stream.now a.self.now.pending a.self.now.listed a.room c.commands.invariant
    (sym c.step_at.ensures ∙ ap told_step c.in-Stop.is)
    c.in_ok-room_after-in-Stop.ensures

pub returns-in-Refused : goal.returns-in-Refused
returns-in-Refused c =
    let a = c.args in
    judged_never a.rules a.stream.now a.self.now.pending a.self.now.listed a.room c.commands.invariant
    (sym c.step_at.ensures ∙ ap told_step c.in-Refused.is)

pub invariant_of-command : goal.invariant_of-command
invariant_of-command c = record { low = low (goal.at.invariant_of-command c).In-Command }

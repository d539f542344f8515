-- `apply` meets its contract. Assumes nothing.
use Prim.Native.Nat.{ℕ, ◌+◌, ◌-◌}
use mathlib.Core.Path.{◌≡◌, sym, ap, ◌∙◌}
use native.Mathlib.Omega.{arith}
use lib.ListN.{take, drop}
use Rattle.table.specs.Answers.{Answer, given}
use Rattle.table.specs.Table.{length_of}
use Rattle.walk.specs.Step.{command, heading, step_at}
use Rattle.walk.specs.Told.{told_step}
use Rattle.walk.specs.Walk.{placed}
use Rattle.ledger.specs.Book.{Book, step}
use Rattle.ledger.specs.Events.{place, event_of}
use Rattle.ledger.specs.Memory.{book_of}
use Rattle.ledger.specs.Parents.{stopped}
use Rattle.ledger.specs.Working.{fault_in}
use Rattle.ledger.proofs.Applying.{command_faultless, command_taken, at_end, stop_faultless, at_stop}
use Rattle.ledger.proofs.MemoryAnswers.{room_for}
use Rattle.ledger.proofs.Walking.{Stands, stands, never_refused}
use Rattle.ledger.proofs.Ledger.apply.Goals as goal
use Rattle.ledger.proofs.Ledger.apply.Goals.{In-Command}

-- the command at hand
module _ (c : In-Command) where
  abbrev at : ℕ
  at = c.commands.at

  abbrev here : step_at (length_of c.args.rules) c.args.stream.now at ≡ given (command (heading c.in-Command.cid c.in-Command.len) c.in-Command.next)
  here = sym c.step_at.ensures ∙ ap told_step c.in-Command.is

  abbrev standing : Stands c.args.rules c.args.stream.now at c.in-Command.cid c.in-Command.len c.in-Command.next
  standing = stands c.args.rules c.args.stream.now here

  -- its payload is what is between it and the next
  long : c.in-Command.next - (at + 1) ≡ c.in-Command.len
  long = omega (arith, standing.behind)

pub slice_bounds-payload-count : goal.slice_bounds-payload-count
slice_bounds-payload-count c = let w = standing (goal.at.slice_bounds-payload-count c).In-Command in omega (arith, w.behind, w.fits)

pub slice_bounds-payload-start : goal.slice_bounds-payload-start
slice_bounds-payload-start c = let w = standing (goal.at.slice_bounds-payload-start c).In-Command in omega (arith, w.behind, w.fits)

pub slice_bounds-payload-end : goal.slice_bounds-payload-end
slice_bounds-payload-end c = let w = standing (goal.at.slice_bounds-payload-end c).In-Command in omega (arith, w.behind, w.fits)

pub invariant_of-take_command : goal.invariant_of-take_command
invariant_of-take_command c = record { low = (standing (goal.at.invariant_of-take_command c).In-Command).low }

-- what it comes to, its payload being so long
module _ (c : In-Command) where
  abbrev comes : ℕ → Answer Book
  comes n =
      step (event_of c.args.rules c.args.self.now.lines c.args.frame (placed c.commands.at c.in-Command.cid (take n (drop (c.commands.at + 1) c.args.stream.now))))
      (book_of c.commands.self c.commands.list)

pub take_command-requires : goal.take_command-requires
take_command-requires c =
    let a = c.args in
    let p = (goal.at.take_command-requires c).In-Command in
    ap (λ (n : ℕ). fault_in (comes p n)) (long p) ∙ command_faultless a.rules a.self.now.lines a.frame a.stream.now _ c.commands.invariant (here p)

pub commands-smaller : goal.commands-smaller
commands-smaller c = let w = standing (goal.at.commands-smaller c).In-Command in omega (arith, w.behind, w.fits)

pub commands-preserved : goal.commands-preserved
commands-preserved c =
    let a = c.args in
    let i = c.commands.invariant in
    let p = (goal.at.commands-preserved c).In-Command in
    record {
      within = (standing p).fits;
      same = command_taken a.rules a.self.now.lines a.frame a.stream.now _ i (here p) (c.take_command.ensures ∙ ap (comes p) (long p));
      faultless = i.faultless;
    }

pub note-requires : goal.note-requires
note-requires c =
    let a = c.args in
    room_for (book_of c.commands.self c.commands.list) (stopped (place a.self.now.lines a.frame c.commands.at))
    (stop_faultless a.rules a.self.now.lines a.frame a.stream.now _ c.commands.invariant (sym c.step_at.ensures ∙ ap told_step c.in-Stop.is))

pub returns-in-End : goal.returns-in-End
returns-in-End c =
    let a = c.args in
    at_end a.rules a.self.now.lines a.frame a.stream.now _ c.commands.invariant (sym c.step_at.ensures ∙ ap told_step c.in-End.is)

pub returns-in-Stop : goal.returns-in-Stop
returns-in-Stop c =
    let a = c.args in
    at_stop a.rules a.self.now.lines a.frame a.stream.now _ c.commands.invariant (sym c.step_at.ensures ∙ ap told_step c.in-Stop.is) c.note.ensures

pub returns-in-Refused : goal.returns-in-Refused
returns-in-Refused c =
    let a = c.args in
    absurd (never_refused a.rules a.stream.now c.commands.at c.commands.invariant.within (sym c.step_at.ensures ∙ ap told_step c.in-Refused.is))

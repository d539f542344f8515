-- `line_at` meets its contract. Assumes nothing.
use Prim.Native.Nat.{◌+◌, ◌≤◌}
use mathlib.Core.Path.{sym}
use native.Mathlib.Omega.{arith}
use lib.ListN.{length, drop}
use Rattle.ledger.specs.Lines.{number_in}
use Rattle.ledger.proofs.TracingFront.{number_fits, line_no_number, line_large, line_no_heading, line_no_field, line_with_field}
use Rattle.ledger.proofs.TracingSteps.{Numbered, is_numbered, not_numbered, heading_room}
use Rattle.ledger.proofs.lines.line_at.Goals as goal
use Rattle.ledger.proofs.lines.line_at.Goals.{In_ok-number, In_ok-direction}

pub returns-in_err-number-clause-stream_after : goal.returns-in_err-number-clause-stream_after
returns-in_err-number-clause-stream_after c =
    let a = c.args in
    rw c.from_residual.ensures (sym (line_no_number a.text.now a.at (not_numbered a.at (number_in (drop a.at a.text.now)) c.in_err-number.ensures)))

-- the number is there
module _ (c : In_ok-number) where
  abbrev found : Numbered c.in_ok-number.number.value c.in_ok-number.number.next c.args.at (number_in (drop c.args.at c.args.text.now))
  found = is_numbered c.in_ok-number.number.value c.in_ok-number.number.next c.args.at (number_in (drop c.args.at c.args.text.now)) c.in_ok-number.ensures

pub returns-then-value-gt4294967295-clause-stream_after : goal.returns-then-value-gt4294967295-clause-stream_after
returns-then-value-gt4294967295-clause-stream_after c =
    let n = found (goal.at.returns-then-value-gt4294967295-clause-stream_after c).In_ok-number in
    sym (line_large c.args.text.now c.args.at n.means n.there c.if-value-gt4294967295.true)

pub heading_at-requires : goal.heading_at-requires
heading_at-requires c =
    let h = c.requires in
    let n = found (goal.at.heading_at-requires c).In_ok-number in
    omega (arith, n.there, number_fits c.args.text.now c.args.at (omega arith))

pub returns-in_err-direction-clause-stream_after : goal.returns-in_err-direction-clause-stream_after
returns-in_err-direction-clause-stream_after c =
    let n = found (goal.at.returns-in_err-direction-clause-stream_after c).In_ok-number in
    rw c.from_residual-in_err-direction.ensures (sym (line_no_heading c.args.text.now c.args.at n.means n.there (sym c.in_err-direction.ensures)))

-- and the heading behind it
module _ (c : In_ok-direction) where
  room : c.in_ok-number.number.next + 3 ≤ length c.args.text.now
  room = heading_room c.args.text.now c.in_ok-number.number.next (sym c.in_ok-direction.ensures)

pub field_at-requires : goal.field_at-requires
field_at-requires c = room (goal.at.field_at-requires c).In_ok-direction

pub returns-in_err-field-clause-stream_after : goal.returns-in_err-field-clause-stream_after
returns-in_err-field-clause-stream_after c =
    let n = found (goal.at.returns-in_err-field-clause-stream_after c).In_ok-number in
    rw c.from_residual-in_err-field.ensures
    (line_no_field c.args.text.now c.args.at n.means n.there n.some c.if-value-gt4294967295.false (sym c.in_ok-direction.ensures) c.in_err-field.ensures.stream_after)

pub returns-clause-stream_after : goal.returns-clause-stream_after
returns-clause-stream_after c =
    let n = found (goal.at.returns-clause-stream_after c).In_ok-number in
    line_with_field c.args.text.now c.args.at n.means n.there n.some c.if-value-gt4294967295.false (sym c.in_ok-direction.ensures)
    c.in_ok-field.field c.field_at.new.stream c.in_ok-field.ensures.stream_after

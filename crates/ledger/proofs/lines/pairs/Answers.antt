-- `pairs` meets its contract. The loop's invariant: `n` pairs are read, and their bytes are in front in the memory. Assumes nothing.
use Prim.Native.Nat.{ℕ, ◌+◌, ◌*◌}
use mathlib.Core.Path.{◌≡◌, subst}
use native.Mathlib.Omega.{arith}
use lib.ListN.{set}
use Rattle.ledger.proofs.TracingSteps.{Paired, AllPairs, Room, paired_room, paired_more, paired_end, paired_no_high, paired_no_low}
use Rattle.ledger.proofs.lines.pairs.Goals as goal
use Rattle.ledger.proofs.lines.pairs.Goals.{In-loop-n, In_default, In_default-hex_value, After-loop-n}

module _ (c : In-loop-n) where
  room : Room c.args.text.now c.loop-n.n (c.args.at + 2 * c.loop-n.n)
  room = paired_room c.args.text.now c.args.at c.loop-n.invariant c.room_in-most.ensures c.loop-n-test.true

pub loop-n-preserved : goal.loop-n-preserved
loop-n-preserved c =
    let a = c.args in
    let l = c.loop-n in
    let high = c.in-Some.ensures.bound in
    let low = c.in-Some-hex_value.ensures.bound in
    let next : a.at + 2 * l.n + 2 ≡ a.at + 2 * (l.n + 1) = omega arith in
    subst (λ (i : ℕ). Paired a.text.now a.at (set l.stream l.n c.byte_of.result) (l.n + 1) i) next
    (paired_more a.text.now a.at l.invariant (room (goal.at.loop-n-preserved c).In-loop-n) c.in-Some.ensures.value (omega arith)
    c.in-Some-hex_value.ensures.value (omega arith) c.byte_of.ensures)

-- where the pairs end
module _ (c : In_default) where
  no_high : (room : Room c.args.text.now c.loop-n.n (c.args.at + 2 * c.loop-n.n)) → AllPairs c.args.text.now c.args.at c.loop-n.stream c.loop-n.n
  no_high r = paired_no_high c.args.text.now c.args.at c.loop-n.invariant r c.in_default.ensures.value (omega arith)

module _ (c : In_default-hex_value) where
  no_low : (room : Room c.args.text.now c.loop-n.n (c.args.at + 2 * c.loop-n.n)) → AllPairs c.args.text.now c.args.at c.loop-n.stream c.loop-n.n
  no_low r = paired_no_low c.args.text.now c.args.at c.loop-n.invariant r c.in_default-hex_value.ensures.value (omega arith)

module _ (c : After-loop-n) where
  all : AllPairs c.args.text.now c.args.at c.loop-n.stream c.room_in-most.result
  all =
      let done : c.loop-n.n ≡ c.room_in-most.result = omega arith in
      subst (AllPairs c.args.text.now c.args.at c.loop-n.stream) done
      (paired_end c.args.text.now c.args.at c.loop-n.invariant c.room_in-most.ensures c.loop-n-test.false)

pub returns-in_default-clause-value : goal.returns-in_default-clause-value
returns-in_default-clause-value c = (no_high c (room (goal.at.returns-in_default-clause-value c).In-loop-n)).count

pub returns-in_default-clause-stream_after : goal.returns-in_default-clause-stream_after
returns-in_default-clause-stream_after c = (no_high c (room (goal.at.returns-in_default-clause-stream_after c).In-loop-n)).bytes

pub returns-in_default-hex_value-clause-value : goal.returns-in_default-hex_value-clause-value
returns-in_default-hex_value-clause-value c = (no_low c (room (goal.at.returns-in_default-hex_value-clause-value c).In-loop-n)).count

pub returns-in_default-hex_value-clause-stream_after : goal.returns-in_default-hex_value-clause-stream_after
returns-in_default-hex_value-clause-stream_after c = (no_low c (room (goal.at.returns-in_default-hex_value-clause-stream_after c).In-loop-n)).bytes

pub returns-clause-value : goal.returns-clause-value
returns-clause-value c = (all c).count

pub returns-clause-stream_after : goal.returns-clause-stream_after
returns-clause-stream_after c = (all c).bytes

-- `put_decimal` meets its contract. Assumes nothing.
use Prim.Native.Nat.{ℕ, ◌+◌}
use mathlib.Core.Path.{ap, ◌∙◌}
use lib.ListN.{set}
use native.Mathlib.Omega.{arith}
use Rattle.text.proofs.Writing.{spelt_more, spelt_all, spelt_small}
use Rattle.text.proofs.decimal.put_decimal.Goals as goal

pub loop-i-preserved : goal.loop-i-preserved
loop-i-preserved c = let d = c.decimal_len-k.ensures in spelt_more _ _ _ c.loop-i.invariant (omega arith) c.loop-i-test.true c.digit.ensures

pub digit-requires-2 : goal.digit-requires-2
digit-requires-2 c = spelt_small _ _ _ c.loop-i.invariant c.loop-i-test.false

pub returns : goal.returns
returns c =
    let d = c.decimal_len-k.ensures in
    let a = c.args in
    ap (λ (k : ℕ). (a.at + k, set c.loop-i.out a.at c.digit-2.result)) d
    ∙ spelt_all _ _ _ c.loop-i.invariant (omega arith) c.loop-i-test.false c.digit-2.ensures

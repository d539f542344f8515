-- `put_hexes` meets its contract. Assumes nothing.
use native.Mathlib.Omega.{arith}
use Rattle.text.proofs.Writing.{wrote_none, wrote_more, wrote_all}
use Rattle.text.proofs.hex.put_hexes.Goals as goal

pub loop-byte-init : goal.loop-byte-init
loop-byte-init c = wrote_none _ _ _ (omega arith)

pub loop-byte-preserved : goal.loop-byte-preserved
loop-byte-preserved c = wrote_more _ _ _ c.loop-byte.invariant c.loop-byte-test.true c.digits.ensures

pub returns : goal.returns
returns c = wrote_all _ _ _ c.loop-byte.invariant c.loop-byte-test.false

-- A field past the byte reads 0, and one wider than the byte reads all that is left of it.
use Rattle.std.proofs.Common.{◌≡◌, ℕ, ◌<◌, ◌^◌, ◌/◌, ◌%◌, sym, ap, ◌∙◌, arith}
use native.Mathlib.Nat.{mod-eq_of_lt, div-le_self, div-eq_of_lt, lt_of_le_of_lt, lt_of_lt_of_le, zero-mod}
use lib.Pow.{pow_mono}
use Rattle.bits.specs.Bits.{field}
use Rattle.bits.proofs.get.Goals as goal

-- a field past the byte
past : (lo w b : ℕ) → b < 2 ^ 8 → 8 < lo → 0 ≡ field lo w b
past lo w b h l =
    let e : b / 2 ^ lo ≡ 0 = div-eq_of_lt (lt_of_lt_of_le h (pow_mono {i = 8} (omega arith))) in
    sym (ap (λ (n : ℕ). n % 2 ^ w) e ∙ zero-mod (2 ^ w))

-- a field of more bits than a byte has
wide : (lo w b : ℕ) → b < 2 ^ 8 → 8 < w → b / 2 ^ lo ≡ field lo w b
wide lo w b h l =
    sym (mod-eq_of_lt (lt_of_le_of_lt (div-le_self b (2 ^ lo)) (lt_of_lt_of_le h (pow_mono {i = 8} (omega arith)))))

pub returns-then-lo-gt8 : goal.returns-then-lo-gt8
returns-then-lo-gt8 c = past c.args.lo c.args.width c.args.b (omega arith) c.if-lo-gt8.true

pub returns-then-width-gt8 : goal.returns-then-width-gt8
returns-then-width-gt8 c =
    ap (λ (n : ℕ). c.args.b / n) c.pow2.ensures ∙ (wide c.args.lo c.args.width c.args.b (omega arith) c.if-width-gt8.true)

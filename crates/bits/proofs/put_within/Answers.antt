-- The sum that the code makes is the byte with its field replaced, which is a byte.
use Rattle.std.proofs.Common.{◌≡◌, ℕ, ◌+◌, ◌*◌, ◌/◌, ◌%◌, ◌^◌, arith}
use Rattle.bits.specs.Bits.{set_field}
use Rattle.bits.proofs.Laws.{put_stays}
use Rattle.bits.proofs.put_within.Goals as goal

-- at the powers that the code was handed
sum : (lo w b v l h : ℕ) → l ≡ 2 ^ lo → h ≡ 2 ^ (w + lo) → b / h * h + (v * l + b % l) ≡ set_field lo w b v
sum lo w b v l h p q = rw (p, q)

pub overflow_cast-result-2 : goal.overflow_cast-result-2
overflow_cast-result-2 c =
    let a = c.args in
    record {
      fits = rw (sum a.lo a.width a.b a.v _ _ c.pow2-l.ensures c.pow2-h.ensures)
          (put_stays a.lo a.width a.b a.v c.requires.v_bound 8 c.requires.lo_bound (omega arith));
    }

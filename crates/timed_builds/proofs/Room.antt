-- A build writes no more than there is room for. Assumes nothing.
use Prim.Native.Nat.{ℕ, ◌≤◌}
use mathlib.Core.Bool.{Bool, true, false, cond}
use mathlib.Core.List.{List}
use mathlib.Core.Path.{◌≡◌, refl}
use native.Mathlib.Omega.{arith}
use lib.Dec.{leb}
use lib.ListN.{length}
use borrow.Author.Tests.{leb-true}
use Rattle.bits.specs.Memory.{over}
use Rattle.walk.specs.Walk.{Rule}
use Rattle.build.specs.Build.{Built, total, refused_at, refused, total_of, fill, build_of}
use Rattle.build.specs.Records.{Item}
use Rattle.timed_builds.specs.Written.{written}

pub has_room : (L : Rule) (xs : List Item) (out : List ℕ) → written (build_of L xs out).0 ≤ length out
has_room L xs out = of_fill (total_of L xs) _
  where
    of_fill : (b : Built) (bytes : List ℕ) → written (fill b bytes out).0 ≤ length out
    of_fill (total n) bytes = by (leb n (length out)) refl
      where
        by : (room : Bool) → leb n (length out) ≡ room → written (cond {A = Built × List ℕ} room (total n, over out 0 bytes) (refused 4, out)).0 ≤ length out
        by true e = leb-true n (length out) e
        by false e = omega arith
    of_fill (refused_at k place) bytes = omega arith
    of_fill (refused k) bytes = omega arith

-- The parts that `&s[a..e]` and `&s[..0]` show. Assumes nothing.
use Prim.Native.Nat.{ℕ, ◌+◌, ◌-◌}
use mathlib.Core.List.{List}
use mathlib.Core.Path.{◌≡◌, sym, ap}
use native.Mathlib.Nat.{zero-add}
use native.Mathlib.Omega.{arith}
use lib.ListN.{take}
use denote.Ref.{Bor}
use Rattle.walk.specs.Part.{part_of, empty_front}

pub part_is : (s : Bor (List ℕ)) (a n e : ℕ) → e ≡ a + n → part_of s a (e - a) ≡ part_of s a n
part_is s a n e h = let k : e - a ≡ n = omega arith in ap (part_of s a) k

pub front_is : (s : Bor (List ℕ)) → record { place = s.ref_ptr; bytes = take 0 s.now } ≡ empty_front s
front_is s = ap (λ (o : ℕ). record { place = (s.ref_ptr.0, o); bytes = take 0 s.now }) (sym (zero-add s.ref_ptr.1))

-- A contract fixes the slice that its function hands back, in its place and its bytes: that is all of it but the name by which the logic
-- tracks it, which no program sees. Beside `Fixed` of Rattle.bits.proofs.Fixed. Assumes nothing.
use mathlib.Core.Path.{◌≡◌}
use mathlib.Core.List.{List}
use Prim.Native.Nat.{ℕ}
use denote.Ref.{Bor}
use Rattle.walk.specs.Part.{shown}

-- the part handed back is fixed
abbrev pub FixedPart : {K A S : Type 0} → (K → A → Bor (List ℕ) → S → Type 0) → Type 0
FixedPart {K = K} {A = A} {S = S} Post =
    (κs : K) (args : A) (x y : Bor (List ℕ)) (exit exit' : S) → Post κs args x exit → Post κs args y exit' → shown x ≡ shown y

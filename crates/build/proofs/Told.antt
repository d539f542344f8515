-- An answer of this crate is known from what it tells: each `told` has an inverse. Assumes nothing.
use Prim.Native.Nat.{ℕ}
use mathlib.Core.Path.{◌≡◌, refl, ap, ap₂}
use Rattle.bits.proofs.Fixed.{by_inverse}
use Rattle.std.specs.Prelude.{Result, Ok, Err}
use Rattle.table.specs.declared.refusal.Refusal.{Refusal}
use Rattle.table.proofs.Told.{numbered, numbered_number, tells}
use Rattle.walk.specs.declared.step.Step.{Step}
use Rattle.walk.proofs.Told.{step_tells}
use Rattle.build.specs.declared.handed.Handed.{Handed}
use Rattle.build.specs.declared.record.Record.{Record}
use Rattle.build.specs.declared.list.BuildError.{BuildError}
use Rattle.build.specs.Build.{Built, total, refused_at, refused}
use Rattle.build.specs.Told.{told_judged, told_build, told_handed}

pub judged_tells : {a b : Result ℕ Refusal} → told_judged a ≡ told_judged b → a ≡ b
judged_tells p = tells (λ n. n) (λ n. n) (λ _. refl) p

pub build_told : Built → Result ℕ BuildError
build_told (total n) = Ok n
build_told (refused_at k place) = Err (BuildError.At (numbered k) place)
build_told (refused k) = Err (BuildError.Whole (numbered k))

pub build_back : (b : Result ℕ BuildError) → build_told (told_build b) ≡ b
unfolding build_told
build_back (Ok n) = refl
build_back (Err (BuildError.At r place)) = ap (λ (x : Refusal). Err (BuildError.At x place)) (numbered_number r)
build_back (Err (BuildError.Whole r)) = ap (λ (x : Refusal). Err (BuildError.Whole x)) (numbered_number r)

pub build_tells : {a b : Result ℕ BuildError} → told_build a ≡ told_build b → a ≡ b
build_tells p = by_inverse told_build build_told build_back p

pub handed_tells : {a b : Handed} → told_handed a ≡ told_handed b → a ≡ b
handed_tells p = ap₂ (λ (s : Step) (r : Record). record { step = s; «record» = r }) (step_tells (ap (λ x. x.0) p)) (ap (λ x. x.1) p)

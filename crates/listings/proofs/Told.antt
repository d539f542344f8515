-- An answer of this crate is known from what it tells. Assumes nothing.
use Prim.Native.Nat.{ℕ}
use mathlib.Core.Path.{◌≡◌, refl}
use Rattle.std.specs.Prelude.{Result}
use Rattle.table.specs.declared.refusal.Refusal.{Refusal}
use Rattle.table.proofs.Told.{tells}
use Rattle.listings.specs.Told.{told_listing}

pub listing_tells : {a b : Result ℕ Refusal} → told_listing a ≡ told_listing b → a ≡ b
listing_tells p = tells (λ n. n) (λ n. n) (λ n. refl) p

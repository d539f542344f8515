-- An answer of this crate is known from what it tells. Assumes nothing.
use Prim.Native.Nat.{ℕ}
use mathlib.Core.Path.{◌≡◌, refl}
use Rattle.std.specs.Prelude.{Result}
use Rattle.table.specs.declared.refusal.Refusal.{Refusal}
use Rattle.table.proofs.Told.{tells}
use Rattle.jumps.specs.declared.jump.Spot as Code
use Rattle.jumps.specs.Jump.{Spot}
use Rattle.jumps.specs.Told.{told_entries, told_spot, told_jump}

pub entries_tells : {a b : Result ℕ Refusal} → told_entries a ≡ told_entries b → a ≡ b
entries_tells p = tells (λ n. n) (λ n. n) (λ _. refl) p

spot_told : Spot → Code.Spot
spot_told s = record { at = s.at; cid = s.cid; len = s.len }

spot_back : (s : Code.Spot) → spot_told (told_spot s) ≡ s
unfolding spot_told
spot_back s = refl

pub jump_tells : {a b : Result Code.Spot Refusal} → told_jump a ≡ told_jump b → a ≡ b
jump_tells p = tells told_spot spot_told spot_back p

-- What a listing tells (RULES: L11), in either direction. proofs/Telling.antt proves it.
use Rattle.std.specs.Prelude.{ℕ, ◌≡◌}
use Rattle.table.specs.declared.rules.Rules.{Rules}
use Rattle.walk.specs.Walk.{Walk}
use Rattle.listings.specs.Listing.{printed}

-- the text fixes the frame and the walk: offsets, commands and ending
abbrev pub TextFixesWalk : Type 0
TextFixesWalk = (rules : Rules) (f g : ℕ) (v w : Walk) → printed rules f v ≡ printed rules g w → (f ≡ g) × (v ≡ w)

-- A frequency is known from its bytes. Assumes nothing.
use mathlib.Core.Path.{◌≡◌, ap}
use mathlib.Core.List.{List}
use Prim.Native.Nat.{ℕ}
use Rattle.fields.specs.declared.frequency.Frequency.{Frequency}
use Rattle.fields.specs.Frequency.{bytes_of}

pub frequency_tells : {f g : Frequency} → bytes_of f ≡ bytes_of g → f ≡ g
frequency_tells p = ap (λ (s : List ℕ). record { 0 = s }) p

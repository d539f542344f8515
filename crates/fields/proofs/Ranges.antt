-- The code's test of a data rate range is the definition's. Assumes nothing.
use Prim.Native.Nat.{ℕ, ◌/◌, ◌%◌, ◌^◌, ◌<◌}
use mathlib.Core.Path.{◌≡◌}
use mathlib.Core.Bool.{true}
use native.Mathlib.Omega.{arith}
use borrow.Author.Tests.{lt-ltb}
use Rattle.fields.specs.Settings.{upside_down}

pub upside-down : (b : ℕ) → b < 2 ^ 8 → b / 16 < b % 16 → upside_down b ≡ true
upside-down b h l = lt-ltb (b / 16 % 16) (b / 1 % 16) (omega arith)

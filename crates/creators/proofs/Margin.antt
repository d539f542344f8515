-- A margin in six bits: it fits them, and is read back. Assumes nothing.
use Prim.Native.Nat.{ℕ, suc, ◌-◌, ◌%◌, ◌^◌, ◌<◌, ◌≤◌}
use mathlib.Core.Path.{◌≡◌, refl, ◌∙◌, ap}
use mathlib.Core.Bool.{Bool, true, false, cond}
use lib.Dec.{leb}
use lib.IntN.{ℤ, pos, negsuc, ◌+ℤ◌, nat_abs}
use mir.Syntax.{w8}
use mir.Val.{of_z}
use native.Mathlib.Omega.{arith}
use borrow.Author.Tests.{lt-ltb, le-ltb, leb-true}
use Rattle.payloads.specs.Meanings.{signed}
use Rattle.creators.specs.Setters.{is_margin, six_bits}

low_enough : (n : ℕ) → is_margin (negsuc n) ≡ true → n ≤ 31
unfolding is_margin
low_enough n h = go (leb n 31) h (leb-true n 31)
  where
    go : (b : Bool) → cond b true false ≡ true → (b ≡ true → n ≤ 31) → n ≤ 31
    go true h k = k refl
    go false h k = k h

up : (n : ℕ) → n ≤ 31 → negsuc n +ℤ pos 64 ≡ pos (63 - n)
up n k = let e : 64 - suc n ≡ 63 - n = omega arith in simp (le-ltb 64 (suc n) (omega arith), e)

pub six_bits_fit : (m : ℤ) → is_margin m ≡ true → six_bits m < 2 ^ 6
unfolding is_margin six_bits
six_bits_fit (pos n) h = let k : n ≤ 31 = leb-true n 31 h in omega arith
six_bits_fit (negsuc n) h =
    let k : n ≤ 31 = low_enough n h in
    let e : negsuc n +ℤ pos 64 ≡ pos (63 - n) = up n k in
    rw e (omega arith)

-- six bits as a signed number are the margin that they were made of
pub signed_six : (m : ℤ) → is_margin m ≡ true → signed 6 (six_bits m) ≡ m
unfolding is_margin six_bits
signed_six (pos n) h = let k : n ≤ 31 = leb-true n 31 h in simp (lt-ltb n 32 (omega arith))
signed_six (negsuc n) h =
    let k : n ≤ 31 = low_enough n h in
    let e : 64 - suc (63 - n) ≡ n = omega arith in
    ap (λ (z : ℤ). signed 6 (nat_abs z)) (up n k)
    ∙ simp (le-ltb (63 - n) 32 (omega arith), lt-ltb (63 - n) 64 (omega arith), e)

-- the code's six bits
pub low_six : (m : ℤ) → is_margin m ≡ true → of_z w8 m % 64 ≡ six_bits m
unfolding is_margin six_bits
low_six (pos n) h = let k : n ≤ 31 = leb-true n 31 h in omega arith
low_six (negsuc n) h =
    let k : n ≤ 31 = low_enough n h in
    let e : negsuc n +ℤ pos 64 ≡ pos (63 - n) = up n k in
    rw e (omega arith)

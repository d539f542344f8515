-- What stands at an offset of a stream, as a record. Assumes nothing.
use Prim.Native.Nat.{ℕ, ◌+◌, ◌≤◌}
use mathlib.Core.Bool.{Bool, true, false}
use mathlib.Core.List.{List, [], ◌∷◌, ◌++◌}
use mathlib.Core.Path.{◌≡◌, refl, sym, ap, ◌∙◌}
use native.Mathlib.Omega.{arith}
use lib.ListN.{length, get_or, take, drop, replicate}
use Rattle.table.specs.Answers.{Answer, given, refused}
use Rattle.walk.specs.Step.{Found, ended, command, stopped, Heading, heading, found_at, in_numbers, step_at}
use Rattle.walk.specs.Walk.{Rule, Cmd, placed}
use Rattle.walk.proofs.Steps.{command_told, found_command, goes_body}
use Rattle.build.specs.Handed.{from_frame, record_found}
use Rattle.build.specs.Records.{no_record}

-- five bytes, one by one: those of a payload, and 0 behind it
abbrev pub five : List ℕ → List ℕ
five b = get_or b 0 0 ∷ get_or b 1 0 ∷ get_or b 2 0 ∷ get_or b 3 0 ∷ get_or b 4 0 ∷ []

pub five_is : (b : List ℕ) → five b ≡ take 5 (b ++ replicate 5 0)
five_is [] = refl
five_is (a ∷ []) = refl
five_is (a ∷ b ∷ []) = refl
five_is (a ∷ b ∷ c ∷ []) = refl
five_is (a ∷ b ∷ c ∷ d ∷ []) = refl
five_is (a ∷ b ∷ c ∷ d ∷ e ∷ rest) = refl

-- they are all that a list of five has
pub five_whole : (b : List ℕ) → length b ≡ 5 → five b ≡ b
five_whole (a ∷ b ∷ c ∷ d ∷ e ∷ []) h = refl
five_whole (a ∷ b ∷ c ∷ d ∷ e ∷ f ∷ rest) h = absurd (omega arith)
five_whole [] h = absurd (omega arith)
five_whole (a ∷ []) h = absurd (omega arith)
five_whole (a ∷ b ∷ []) h = absurd (omega arith)
five_whole (a ∷ b ∷ c ∷ []) h = absurd (omega arith)
five_whole (a ∷ b ∷ c ∷ d ∷ []) h = absurd (omega arith)

-- a payload of at most five bytes is the front of them
pub five_front : (b : List ℕ) → length b ≤ 5 → take (length b) (take 5 (b ++ replicate 5 0)) ≡ b
five_front [] h = refl
five_front (a ∷ []) h = refl
five_front (a ∷ b ∷ []) h = refl
five_front (a ∷ b ∷ c ∷ []) h = refl
five_front (a ∷ b ∷ c ∷ d ∷ []) h = refl
five_front (a ∷ b ∷ c ∷ d ∷ e ∷ []) h = refl
five_front (a ∷ b ∷ c ∷ d ∷ e ∷ f ∷ rest) h = absurd (omega arith)

abbrev pub is_command : Answer (Found Heading) → Bool
is_command (given (command h next)) = true
is_command (given ended) = false
is_command (given (stopped n o)) = false
is_command (refused n) = false

module _ (L : Rule) (s : List ℕ) (frame : ℕ) where
  -- a command that the step tells in numbers
  pub command_record : (at : ℕ) {cid len next : ℕ} → step_at L s at ≡ given (command (heading cid len) next)
      → from_frame frame (placed at cid (take len (drop (at + 1) s))) ≡ record_found frame at (found_at L s at)
  command_record at p =
      let t = command_told L s (found_at L s at) p in
      ap (λ (h : Heading). from_frame frame (placed at h.cid (take h.len (drop (at + 1) s)))) (sym t.2)
      ∙ ap (λ (b : List ℕ). from_frame frame (placed at t.0.cid b)) (goes_body L s (found_command L s t.1))
      ∙ ap (record_found frame at) (sym t.1)

  -- a step that is no command
  pub no_record_is : (at : ℕ) (y : Answer (Found Heading)) → step_at L s at ≡ y → is_command y ≡ false → no_record ≡ record_found frame at (found_at L s at)
  no_record_is at y p n = by (found_at L s at) (ap is_command p ∙ n)
    where
      by : (x : Answer (Found Cmd)) → is_command (in_numbers x) ≡ false → no_record ≡ record_found frame at x
      by (given (command c next)) e = let z : ◌≡◌ {A = ℕ} 0 1 = cc in absurd (omega arith)
      by (given ended) e = refl
      by (given (stopped n o)) e = refl
      by (refused n) e = refl

-- What a build down can answer: bounded totals, refusals at a place, refusals without one; so one number tells them apart. Assumes
-- nothing.
use Prim.Native.Nat.{ℕ, suc, ◌+◌, ◌*◌, ◌≤◌, ◌<◌}
use mathlib.Core.Bool.{Bool, true, false, cond}
use mathlib.Core.List.{List, [], ◌∷◌}
use mathlib.Core.Option.{Option, none, some}
use mathlib.Core.Path.{◌≡◌, refl, ap, ap₂, subst}
use native.Mathlib.Decide.{dec_le}
use native.Mathlib.Omega.{arith}
use lib.Dec.{leb, eqb}
use lib.ListN.{length}
use Rattle.bits.specs.Memory.{over}
use Rattle.table.specs.declared.rules.Rules.{Rules}
use Rattle.table.specs.Answers.{Answer, given}
use Rattle.table.specs.Answers as Answers
use Rattle.table.specs.Table.{length_of}
use Rattle.payloads.specs.Commands.{sent_down}
use Rattle.walk.specs.Walk.{Rule}
use Rattle.build.specs.Build.{Built, total, refused_at, refused, next, sum_from, total_of, fill, build_of}
use Rattle.build.specs.Records.{Item, whole, part, measured, judged_item, slots_of}
use Rattle.build.proofs.Judging.{at_most_six}
use Rattle.build.proofs.Sums.{too_many, not_too_many}
use Rattle.exports.specs.Answer.{in_one, TellsApart}

-- a record that is judged takes at most six bytes, or is refused with 1 or 3
abbrev Small : Answer ℕ → Type 0
Small (given n) = n ≤ 6
Small (Answers.refused k) = (1 ≤ k) × (k ≤ 3)

module _ (rules : Rules) where
  abbrev L : Rule
  L = length_of rules

  small_measured : (x : Option ℕ) (len : ℕ) → ((n : ℕ) → measured x len ≡ given n → n ≤ 6) → Small (measured x len)
  small_measured none len h = (omega arith, omega arith)
  small_measured (some n) len h = by (eqb len n) h
    where
      by : (same : Bool) → ((m : ℕ) → cond same (given (1 + len)) (Answers.refused 3) ≡ given m → m ≤ 6) → Small (cond same (given (1 + len)) (Answers.refused 3))
      by true k = k (1 + len) refl
      by false k = (omega arith, omega arith)

  small : (x : Item) → Small (judged_item L x)
  small (whole r) = small_measured (L r.cid) r.len (at_most_six rules r)
  small part = (omega arith, omega arith)

  -- of so many records from a place on, with a sum before them
  abbrev Bounded : (place sum count : ℕ) → Built → Type 0
  Bounded place sum count (total n) = n ≤ sum + 6 * count
  Bounded place sum count (refused_at k p) = (1 ≤ k) × (k ≤ 3) × (p < place + count)
  Bounded place sum count (refused k) = ⊥

  later : (place sum count n : ℕ) → n ≤ 6 → (b : Built) → Bounded (place + 1) (sum + n) count b → Bounded place sum (suc count) b
  later place sum count n h (total m) t = omega arith
  later place sum count n h (refused_at k p) t = (t.0, t.1, omega (arith, t.2))
  later place sum count n h (refused k) t = t

  bounded : (place sum : ℕ) (xs : List Item) → Bounded place sum (length xs) (sum_from L place sum xs)
  unfolding sum_from
  bounded place sum [] = omega arith
  bounded place sum (x ∷ xs) = by (judged_item L x) (small x) (λ n. bounded (place + 1) (sum + n) xs)
    where
      by : (a : Answer ℕ) → Small a → ((n : ℕ) → Bounded (place + 1) (sum + n) (length xs) (sum_from L (place + 1) (sum + n) xs))
          → Bounded place sum (length (x ∷ xs)) (next a place (λ n. sum_from L (place + 1) (sum + n) xs))
      by (given n) h rest = later place sum (length xs) n h (sum_from L (place + 1) (sum + n) xs) (rest n)
      by (Answers.refused k) h rest = (h.0, h.1, omega arith)

-- of a build: totals and places are far below 2 ^ 32, and a refusal without a place has another number than one with it
abbrev pub Told : Built → Type 0
Told (total n) = n < 4_294_967_296
Told (refused_at k p) = (1 ≤ k) × (k ≤ 3) × (p < 4096)
Told (refused k) = 4 ≤ k

module _ (rules : Rules) (xs : List Item) where
  of_sum : length xs ≤ 4096 → (b : Built) → Bounded rules 0 0 (length xs) b → Told b
  of_sum h (total n) t = omega arith
  of_sum h (refused_at k p) t = (t.0, t.1, omega (arith, t.2))
  of_sum h (refused k) t = absurd t

  of_total : Told (total_of (length_of rules) xs)
  of_total = by (dec_le (length xs) 4096)
    where
      by : Dec (length xs ≤ 4096) → Told (total_of (length_of rules) xs)
      by (yes h) = subst Told (not_too_many (length_of rules) xs h) (of_sum h (sum_from (length_of rules) 0 0 xs) (bounded rules 0 0 xs))
      by (no h) = subst Told (too_many (length_of rules) xs (omega arith)) (omega arith)

  of_fill : (b : Built) (bytes out : List ℕ) → Told b → Told (fill b bytes out).0
  of_fill (total n) bytes out t = by (leb n (length out))
    where
      by : (room : Bool) → Told (cond {A = Built × List ℕ} room (total n, over out 0 bytes) (refused 4, out)).0
      by true = t
      by false = omega arith
  of_fill (refused_at k p) bytes out t = t
  of_fill (refused k) bytes out t = t

  pub told : (out : List ℕ) → Told (build_of (length_of rules) xs out).0
  told out = of_fill (total_of (length_of rules) xs) _ out of_total

pub fault_below : (xs : List Item) (out : List ℕ) {k p : ℕ} → (build_of (length_of sent_down) xs out).0 ≡ refused_at k p → p < 4096
fault_below xs out e = (subst Told e (told sent_down xs out)).2

apart : (a b : Built) → Told a → Told b → in_one a ≡ in_one b → a ≡ b
apart (total m) (total n) s t e = ap total e
apart (total m) (refused_at k p) s t e = absurd (omega (arith, t.0))
apart (total m) (refused k) s t e = absurd (omega arith)
apart (refused_at k p) (total n) s t e = absurd (omega (arith, s.0))
apart (refused_at k p) (refused_at j q) s t e = ap₂ refused_at (omega (arith, s.2, t.2)) (omega (arith, s.2, t.2))
apart (refused_at k p) (refused j) s t e = absurd (omega (arith, s.1, s.2))
apart (refused k) (total n) s t e = absurd (omega arith)
apart (refused k) (refused_at j q) s t e = absurd (omega (arith, t.1, t.2))
apart (refused k) (refused j) s t e = ap refused (omega arith)

pub tells_apart : TellsApart
tells_apart r s o p e = apart _ _ (told sent_down (slots_of r) o) (told sent_down (slots_of s) p) e

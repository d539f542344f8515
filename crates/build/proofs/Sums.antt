-- The sum over a list of records, record by record, and what an accepted list is. Assumes nothing.
use Prim.Native.Nat.{ℕ, suc, ◌+◌, ◌<◌, ◌≤◌}
use mathlib.Core.Path.{◌≡◌, sym, ap, ◌∙◌}
use mathlib.Core.Bool.{Bool, cond}
use mathlib.Core.List.{List, [], ◌∷◌}
use native.Mathlib.Numerals.{add-one}
use lib.ListN.{length, drop}
use borrow.Author.Tests.{le-leb, lt-leb}
use Rattle.table.specs.Answers.{Answer, given}
use Rattle.table.specs.Answers as Answers
use Rattle.walk.specs.Walk.{Rule}
use Rattle.build.specs.Records.{Item, judged_item}
use Rattle.build.specs.Build.{total, refused_at, refused, next, sum_from, total_of}

module _ (L : Rule) (xs : List Item) (i sum : ℕ) where
  -- the record at i takes n bytes
  pub sum_more : (x : Item) (n : ℕ) → drop i xs ≡ x ∷ drop (suc i) xs → judged_item L x ≡ given n
      → sum_from L i sum (drop i xs) ≡ sum_from L (i + 1) (sum + n) (drop (i + 1) xs)
  unfolding sum_from
  sum_more x n e j =
      ap (sum_from L i sum) e
      ∙ ap (λ (a : Answer ℕ). next a i (λ m. sum_from L (i + 1) (sum + m) (drop (suc i) xs))) j
      ∙ ap (λ (k : ℕ). sum_from L (i + 1) (sum + n) (drop k xs)) (sym (add-one i))

  -- it is refused
  pub sum_refused : (x : Item) (k : ℕ) → drop i xs ≡ x ∷ drop (suc i) xs → judged_item L x ≡ Answers.refused k
      → sum_from L i sum (drop i xs) ≡ refused_at k i
  unfolding sum_from
  sum_refused x k e j =
      ap (sum_from L i sum) e
      ∙ ap (λ (a : Answer ℕ). next a i (λ m. sum_from L (i + 1) (sum + m) (drop (suc i) xs))) j

  -- there is none
  pub sum_end : drop i xs ≡ [] → sum_from L i sum (drop i xs) ≡ total sum
  unfolding sum_from
  sum_end e = ap (sum_from L i sum) e

module _ (L : Rule) (xs : List Item) where
  pub too_many : 4096 < length xs → refused 16 ≡ total_of L xs
  too_many h = sym (ap (λ (b : Bool). cond b (sum_from L 0 0 xs) (refused 16)) (lt-leb (length xs) 4096 h))

  pub not_too_many : length xs ≤ 4096 → sum_from L 0 0 xs ≡ total_of L xs
  not_too_many h = sym (ap (λ (b : Bool). cond b (sum_from L 0 0 xs) (refused 16)) (le-leb (length xs) 4096 h))

-- The claims of specs/ThereAndBack.antt, proved. Assumes nothing.
use Prim.Native.Nat.{ℕ, ◌+◌, ◌<◌, ◌≤◌}
use mathlib.Core.Path.{◌≡◌, refl, sym, ap, ◌∙◌, subst}
use mathlib.Core.Bool.{Bool, cond}
use mathlib.Core.List.{List, [], ◌∷◌, ◌++◌, map}
use mathlib.Core.Option.{some}
use native.Mathlib.Nat.{add-zero, zero-add}
use native.Mathlib.Decide.{dec_le}
use native.Mathlib.Omega.{arith}
use lib.ListN.{length, take, drop, length-append}
use lib.Seq.{length-take-le, take-append_seam, drop-append_seam}
use borrow.Author.Tests.{le-leb, lt-leb}
use Rattle.std.specs.Prelude.{Err}
use Rattle.bits.specs.Memory.{over}
use Rattle.table.specs.Answers.{Answer, given}
use Rattle.table.specs.Answers as Answers
use Rattle.walk.specs.Walk.{Rule, Cmd, Walk, WellFormed, end, walk_of, encode, place, bare}
use Rattle.walk.proofs.Ownership as Ownership
use Rattle.build.specs.Records.{Item, whole, part, recs_in, cmds_of, judged}
use Rattle.build.specs.Build.{Built, total, refused_at, refused, next, sum_from, total_of, fill, build_of}
use Rattle.build.specs.Equal.{EqualLists, as_rec}
use Rattle.build.specs.Told.{told_build}
use Rattle.build.specs.declared.list.BuildError.{BuildError}
use Rattle.build.specs.ThereAndBack.{Commands, Full, BuildThenWalk, Accepts, LengthIsWritten, EqualBytesEqualLists}
use Rattle.build.proofs.Equal.{commands_equal, its_commands}
use Rattle.build.proofs.Judging.{judged_given, judged_known}
use Rattle.build.proofs.Sums.{too_many, not_too_many}

module _ (L : Rule) where
  pub well_formed : (xs : List Item) → Commands L xs → WellFormed L (cmds_of xs)
  well_formed [] c = tt
  well_formed (whole r ∷ xs) c = (c.0 ∙ ap some (sym (length-take-le r.len r.bytes c.1)), well_formed xs c.2)
  well_formed (part ∷ xs) c = absurd c

  -- the sum of a list of well-formed commands is the length of their bytes
  pub sum_of : (xs : List Item) → Commands L xs → (i sum : ℕ) → sum_from L i sum xs ≡ total (sum + length (encode (cmds_of xs)))
  unfolding sum_from
  sum_of [] c i sum = ap total (sym (add-zero sum))
  sum_of (whole r ∷ xs) c i sum =
      let l : length (take r.len r.bytes) ≡ r.len = length-take-le r.len r.bytes c.1 in
      let a : length (take r.len r.bytes ++ encode (cmds_of xs)) ≡ length (take r.len r.bytes) + length (encode (cmds_of xs)) =
      length-append (take r.len r.bytes) (encode (cmds_of xs)) in
      ap (λ (x : Answer ℕ). next x i (λ m. sum_from L (i + 1) (sum + m) xs)) (judged_known L r 0 c.0)
      ∙ sum_of xs c.2 (i + 1) (sum + (1 + r.len))
      ∙ ap total (omega arith)
  sum_of (part ∷ xs) c i sum = absurd c

  -- a part behind them is refused with 3, at its place
  pub part_behind : (xs : List Item) → Commands L xs → (i sum : ℕ) → sum_from L i sum (xs ++ (part ∷ [])) ≡ refused_at 3 (i + length xs)
  unfolding sum_from
  part_behind [] c i sum = ap (refused_at 3) (sym (add-zero i))
  part_behind (whole r ∷ xs) c i sum =
      ap (λ (x : Answer ℕ). next x i (λ m. sum_from L (i + 1) (sum + m) (xs ++ (part ∷ [])))) (judged_known L r 0 c.0)
      ∙ part_behind xs c.2 (i + 1) (sum + (1 + r.len))
      ∙ ap (refused_at 3) (omega arith)
  part_behind (part ∷ xs) c i sum = absurd c

  -- and only such a list has a sum
  pub has_sum : (xs : List Item) → Full L xs → (i sum n : ℕ) → sum_from L i sum xs ≡ total n → Commands L xs
  unfolding sum_from
  has_sum [] f i sum n e = tt
  has_sum (whole r ∷ xs) f i sum n e = by (judged L r) refl e (λ m. has_sum xs f.1 (i + 1) (sum + m) n)
    where
      by : (x : Answer ℕ) → judged L r ≡ x → next x i (λ m. sum_from L (i + 1) (sum + m) xs) ≡ total n
          → ((m : ℕ) → sum_from L (i + 1) (sum + m) xs ≡ total n → Commands L xs) → Commands L (whole r ∷ xs)
      by (given m) q e ih = let k = (judged_given L r m q).0 in (k, f.0 k, ih m e)
      by (Answers.refused k) q e ih = let z : ◌≡◌ {A = ℕ} 0 1 = cc in absurd (omega arith)
  has_sum (part ∷ xs) f i sum n e = let z : ◌≡◌ {A = ℕ} 0 1 = cc in absurd (omega arith)

module _ (L : Rule) (xs : List Item) where
  total-of : length xs ≤ 4096 → Commands L xs → total_of L xs ≡ total (length (encode (cmds_of xs)))
  total-of h c = sym (not_too_many L xs h) ∙ sum_of L xs c 0 0 ∙ ap total (zero-add (length (encode (cmds_of xs))))

  has_total : Full L xs → (n : ℕ) → total_of L xs ≡ total n → (length xs ≤ 4096) × Commands L xs
  has_total f n e = by (dec_le (length xs) 4096)
    where
      by : Dec (length xs ≤ 4096) → (length xs ≤ 4096) × Commands L xs
      by (yes h) = (h, has_sum L xs f 0 0 n (not_too_many L xs h ∙ e))
      by (no h) =
          let q : refused 16 ≡ total n = too_many L xs (omega arith) ∙ e in
          let z : ◌≡◌ {A = ℕ} 0 1 = cc in
          absurd (omega arith)

  pub length_is_written : LengthIsWritten L xs
  length_is_written n f e =
      let t = has_total f n e in
      let q : total n ≡ total (length (encode (cmds_of xs))) = sym e ∙ total-of t.0 t.1 in
      cc

  -- memory after an accepted build
  module _ (out : List ℕ) where
    pub filled : (n : ℕ) → total_of L xs ≡ total n → n ≤ length out → build_of L xs out ≡ (total n, over out 0 (encode (cmds_of xs)))
    filled n e h =
        ap (λ (b : Built). fill b (encode (cmds_of xs)) out) e
        ∙ ap (λ (b : Bool). cond b (total n, over out 0 (encode (cmds_of xs))) (refused 4, out)) (le-leb n (length out) h)

    pub not_filled : (n : ℕ) → total_of L xs ≡ total n → length out < n → build_of L xs out ≡ (refused 4, out)
    not_filled n e h =
        ap (λ (b : Built). fill b (encode (cmds_of xs)) out) e
        ∙ ap (λ (b : Bool). cond b (total n, over out 0 (encode (cmds_of xs))) (refused 4, out)) (lt-leb n (length out) h)

    -- and after a refusal of the list: as it was
    pub kept : (e : BuildError) → told_build (Err e) ≡ total_of L xs → (told_build (Err e), out) ≡ build_of L xs out
    kept (BuildError.At r place) t = ap (λ (b : Built). fill b (encode (cmds_of xs)) out) t
    kept (BuildError.Whole r) t = ap (λ (b : Built). fill b (encode (cmds_of xs)) out) t

    pub built : length xs ≤ 4096 → Commands L xs → length (encode (cmds_of xs)) ≤ length out
        → build_of L xs out ≡ (total (length (encode (cmds_of xs))), over out 0 (encode (cmds_of xs)))
    built h c k = filled (length (encode (cmds_of xs))) (total-of h c) k

    fill_total : (b : Built) (bytes : List ℕ) (n : ℕ) → (fill b bytes out).0 ≡ total n → (b ≡ total n) × (n ≤ length out)
    fill_total (total m) bytes n e = by (dec_le m (length out))
      where
        by : Dec (m ≤ length out) → (total m ≡ total n) × (n ≤ length out)
        by (yes h) =
            let q : total m ≡ total n =
            sym (ap (λ (b : Bool). (cond {A = Built × List ℕ} b (total m, over out 0 bytes) (refused 4, out)).0) (le-leb m (length out) h)) ∙ e in
            let m_is : m ≡ n = cc in
            (q, omega arith)
        by (no h) =
            let q : refused 4 ≡ total n =
            sym (ap (λ (b : Bool). (cond {A = Built × List ℕ} b (total m, over out 0 bytes) (refused 4, out)).0) (lt-leb m (length out) (omega arith))) ∙ e in
            let z : ◌≡◌ {A = ℕ} 0 1 = cc in
            absurd (omega arith)
    fill_total (refused_at k place) bytes n e = let z : ◌≡◌ {A = ℕ} 0 1 = cc in absurd (omega arith)
    fill_total (refused k) bytes n e = let z : ◌≡◌ {A = ℕ} 0 1 = cc in absurd (omega arith)

    pub over_front : over out 0 (encode (cmds_of xs)) ≡ encode (cmds_of xs) ++ drop (length (encode (cmds_of xs))) out
    over_front = ap (λ (k : ℕ). encode (cmds_of xs) ++ drop k out) (zero-add (length (encode (cmds_of xs))))

  pub build_then_walk : BuildThenWalk L xs
  build_then_walk out h c k =
      let b : List ℕ = encode (cmds_of xs) in
      let memory : (build_of L xs out).1 ≡ encode (cmds_of xs) ++ drop (length (encode (cmds_of xs))) out =
      ap (λ x. x.1) (built out h c k) ∙ over_front out in
      let back : walk_of L (take (length (encode (cmds_of xs))) (build_of L xs out).1)
      ≡ record { cmds = place 0 (cmds_of xs); ending = end (length (encode (cmds_of xs))) } =
      ap (walk_of L)
      (ap (take (length (encode (cmds_of xs)))) memory ∙ take-append_seam (encode (cmds_of xs)) (drop (length (encode (cmds_of xs))) out))
      ∙ Ownership.encoded_walks_back L (cmds_of xs) (well_formed L xs c) in
      record {
        size = ap (λ x. x.0) (built out h c k);
        walk = back;
        list = subst (λ (w : Walk). EqualLists (map as_rec (bare w.cmds)) (recs_in xs)) (sym back)
            (subst (λ (cs : List Cmd). EqualLists (map as_rec cs) (recs_in xs)) (sym (Ownership.bare_place 0 (cmds_of xs))) (its_commands L xs c));
        later = ap (drop (length (encode (cmds_of xs)))) memory
            ∙ drop-append_seam (encode (cmds_of xs)) (drop (length (encode (cmds_of xs))) out);
      }

  pub accepts : Accepts L xs
  accepts out f = (
    λ (a : (n : ℕ) × ((build_of L xs out).0 ≡ total n)).
        let t = fill_total out (total_of L xs) (encode (cmds_of xs)) a.0 a.1 in
        let s = has_total f a.0 t.0 in
        let n_is = length_is_written a.0 f t.0 in
        (s.0, s.1, omega (arith, t.1)),
    λ (a : (length xs ≤ 4096) × Commands L xs × (length (encode (cmds_of xs)) ≤ length out)).
        (length (encode (cmds_of xs)), ap (λ x. x.0) (built out a.0 a.1 a.2)),
  )

pub equal_bytes_equal_lists : (L : Rule) → EqualBytesEqualLists L
equal_bytes_equal_lists L xs ys c d e =
    commands_equal L xs ys c d (Ownership.same_bytes_same_commands L (cmds_of xs) (cmds_of ys) (well_formed L xs c) (well_formed L ys d) e)

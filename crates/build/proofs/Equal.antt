-- Equal lists of records: what they share, and when lists are equal. Assumes nothing.
use Prim.Native.Nat.{ℕ, suc, ◌+◌}
use mathlib.Core.Bool.{cond}
use mathlib.Core.List.{List, [], ◌∷◌, map}
use mathlib.Core.Option.{some}
use mathlib.Core.Path.{◌≡◌, refl, sym, ap, ap₂, ◌∙◌}
use native.Mathlib.Omega.{arith}
use lib.Dec.{leb}
use lib.ListN.{length, take}
use lib.Seq.{length-take-le, take-length}
use Rattle.table.specs.Answers.{Answer}
use Rattle.table.specs.Answers as Answers
use Rattle.walk.specs.Walk.{Rule, Cmd, encode}
use Rattle.build.specs.Build.{Built, next, sum_from, total_of, fill, refused}
use Rattle.build.specs.Equal.{Equal, EqualLists, as_rec}
use Rattle.build.specs.Records.{Rec, Item, whole, part, recs_in, cmd_of, cmds_of, measured, judged}
use Rattle.build.specs.ThereAndBack.{Commands, EqualListsBuiltAlike}

pub equal_self : (rs : List Rec) → EqualLists rs rs
equal_self [] = tt
equal_self (r ∷ rs) = (record { cid = refl; len = refl; payload = refl }, equal_self rs)

-- the same commands, if they are well formed: a CID fixes the length
module _ (L : Rule) where
  pub commands_equal : (xs ys : List Item) → Commands L xs → Commands L ys → cmds_of xs ≡ cmds_of ys → EqualLists (recs_in xs) (recs_in ys)
  commands_equal [] [] c d e = tt
  commands_equal (whole r ∷ xs) (whole q ∷ ys) c d e =
      let head : cmd_of r ≡ cmd_of q = cc in
      let tail : cmds_of xs ≡ cmds_of ys = cc in
      let cid_is : r.cid ≡ q.cid = ap (λ (x : Cmd). x.cid) head in
      let lens : some r.len ≡ some q.len = sym c.0 ∙ ap L cid_is ∙ d.0 in (
        record { cid = cid_is; len = cc; payload = ap (λ (x : Cmd). x.body) head },
        commands_equal xs ys c.2 d.2 tail,
      )
  commands_equal [] (whole q ∷ ys) c d e = let z : ◌≡◌ {A = ℕ} 0 1 = cc in absurd (omega arith)
  commands_equal (whole r ∷ xs) [] c d e = let z : ◌≡◌ {A = ℕ} 0 1 = cc in absurd (omega arith)
  commands_equal (part ∷ xs) ys c d e = absurd c
  commands_equal [] (part ∷ ys) c d e = absurd d
  commands_equal (whole r ∷ xs) (part ∷ ys) c d e = absurd d

  -- the commands of a list, to be compared with it
  pub its_commands : (xs : List Item) → Commands L xs → EqualLists (map as_rec (cmds_of xs)) (recs_in xs)
  its_commands [] c = tt
  its_commands (whole r ∷ xs) c =
      let l : length (take r.len r.bytes) ≡ r.len = length-take-le r.len r.bytes c.1 in
      (record { cid = refl; len = l; payload = take-length (take r.len r.bytes) }, its_commands xs c.2)
  its_commands (part ∷ xs) c = absurd c

-- a list that is equal to commands has these
pub its_commands_are : (xs : List Item) (cs : List Cmd) → EqualLists (recs_in xs) (map as_rec cs) → cmds_of xs ≡ cs
its_commands_are [] [] e = refl
its_commands_are (whole r ∷ xs) (c ∷ cs) e =
    ap₂ (λ (k : ℕ) (b : List ℕ). record { cid = k; body = b } ∷ cmds_of xs) e.0.cid (e.0.payload ∙ take-length c.body)
    ∙ ap (λ (l : List Cmd). c ∷ l) (its_commands_are xs cs e.1)
its_commands_are (part ∷ xs) cs e = its_commands_are xs cs e
its_commands_are [] (c ∷ cs) e = absurd e
its_commands_are (whole r ∷ xs) [] e = absurd e

-- equal lists have the same commands
pub same_commands : (rs qs : List Rec) → EqualLists rs qs → cmds_of (map whole rs) ≡ cmds_of (map whole qs)
same_commands [] [] e = refl
same_commands (r ∷ rs) (q ∷ qs) e =
    ap₂ (λ (c : ℕ) (b : List ℕ). record { cid = c; body = b } ∷ cmds_of (map whole rs)) e.0.cid e.0.payload
    ∙ ap (λ (l : List Cmd). cmd_of q ∷ l) (same_commands rs qs e.1)
same_commands [] (q ∷ qs) e = absurd e
same_commands (r ∷ rs) [] e = absurd e

as_many : (rs qs : List Rec) → EqualLists rs qs → length (map whole rs) ≡ length (map whole qs)
as_many [] [] e = refl
as_many (r ∷ rs) (q ∷ qs) e = ap suc (as_many rs qs e.1)
as_many [] (q ∷ qs) e = absurd e
as_many (r ∷ rs) [] e = absurd e

module _ (L : Rule) where
  judged_alike : (r q : Rec) → Equal r q → judged L r ≡ judged L q
  judged_alike r q e = ap₂ (λ (c n : ℕ). measured (L c) n) e.cid e.len

  sum_alike : (rs qs : List Rec) → EqualLists rs qs → (i sum : ℕ) → sum_from L i sum (map whole rs) ≡ sum_from L i sum (map whole qs)
  unfolding sum_from
  sum_alike [] [] e i sum = refl
  sum_alike (r ∷ rs) (q ∷ qs) e i sum =
      ap (λ (x : Answer ℕ). next x i (λ n. sum_from L (i + 1) (sum + n) (map whole rs))) (judged_alike r q e.0)
      ∙ by (judged L q) (λ n. sum_alike rs qs e.1 (i + 1) (sum + n))
    where
      by : (x : Answer ℕ) → ((n : ℕ) → sum_from L (i + 1) (sum + n) (map whole rs) ≡ sum_from L (i + 1) (sum + n) (map whole qs))
          → next x i (λ n. sum_from L (i + 1) (sum + n) (map whole rs)) ≡ next x i (λ n. sum_from L (i + 1) (sum + n) (map whole qs))
      by (Answers.given n) more = more n
      by (Answers.refused k) more = refl
  sum_alike [] (q ∷ qs) e i sum = absurd e
  sum_alike (r ∷ rs) [] e i sum = absurd e

  total_alike : (rs qs : List Rec) → EqualLists rs qs → total_of L (map whole rs) ≡ total_of L (map whole qs)
  total_alike rs qs e =
      ap₂ (λ (n : ℕ) (b : Built). cond (leb n 4096) b (refused 16)) (as_many rs qs e) (sum_alike rs qs e 0 0)

  pub equal_lists_built_alike : EqualListsBuiltAlike L
  equal_lists_built_alike rs qs e = record {
    len = total_alike rs qs e;
    build = λ out. ap₂ (λ (b : Built) (cs : List Cmd). fill b (encode cs) out) (total_alike rs qs e) (same_commands rs qs e);
  }

-- The records of a list judged one by one, whatever holds them. Assumes nothing.
use Prim.Native.Nat.{ℕ, suc, ◌+◌, ◌-◌, ◌*◌, ◌<◌, ◌≤◌}
use mathlib.Core.Bool.{Bool, true, false, cond}
use mathlib.Core.List.{List, [], ◌∷◌, ◌++◌, map, append-nil}
use mathlib.Core.Path.{◌≡◌, refl, sym, ap, ap₂, ◌∙◌, subst}
use native.Mathlib.Nat.{zero-add}
use native.Mathlib.Numerals.{add-one}
use native.Mathlib.Omega.{arith}
use lib.ListN.{length, get_or, take, drop, length-append, length-map, get_or-map, drop_of_length-le}
use lib.Seq.{length-take-le, take-length}
use Rattle.std.specs.Int.{from_bool}
use Rattle.bits.specs.Memory.{over}
use Rattle.table.specs.Answers.{given}
use Rattle.table.specs.Answers as Answers
use Rattle.walk.specs.Walk.{Rule, Cmd, encode}
use Rattle.build.specs.Records.{Rec, Item, whole, part, cmd_of, cmds_of, judged, held_by, recs_held, listed}
use Rattle.build.specs.declared.record.Record.{Record}
use Rattle.build.specs.Build.{total, refused_at, refused, sum_from, total_of, build_of}
use Rattle.build.proofs.Judging.{judged_given}
use Rattle.build.proofs.Laying.{front, all, front_more}
use Rattle.build.proofs.Slots.{record_at, behind_records, cmds_of_whole}
use Rattle.build.proofs.Sums.{sum_more, sum_refused, sum_end, too_many, not_too_many}
use Rattle.build.proofs.ThereAndBack.{filled}

module _ {X : Type 0} (held : X → Record) (xs : List X) where
  pub length_held : length (recs_held held xs) ≡ length xs
  length_held = length-map xs (λ x. held_by (held x))

  -- what holds the i-th record is at place i of what holds the records
  pub held_in : (i : ℕ) (x : X) (r : Record) → x ≡ get_or xs i x → r ≡ held x → get_or (recs_held held xs) i (held_by r) ≡ held_by r
  held_in i x r e f =
      ap (λ (d : Record). get_or (recs_held held xs) i (held_by d)) f ∙ get_or-map (λ x. held_by (held x)) xs i x ∙ ap (λ (y : X). held_by (held y)) (sym e) ∙ sym (ap held_by f)

-- the commands of a list are those of its whole records
pub cmds_of_listed : (rs : List Rec) (cut_off : Bool) → cmds_of (listed rs cut_off) ≡ map cmd_of rs
cmds_of_listed rs cut_off = cmds_of_whole rs _ ∙ ap (λ (l : List Cmd). map cmd_of rs ++ l) (tail_none cut_off) ∙ append-nil (map cmd_of rs)
  where
    tail_none : (b : Bool) → cmds_of (cond {A = List Item} b (part ∷ []) []) ≡ []
    tail_none true = refl
    tail_none false = refl

module _ (L : Rule) (rs : List Rec) (cut_off : Bool) where
  length_listed : length (listed rs cut_off) ≡ length rs + from_bool cut_off
  length_listed =
      length-append (map whole rs) (cond cut_off (part ∷ []) []) ∙ ap (λ (n : ℕ). n + length (cond {A = List Item} cut_off (part ∷ []) [])) (length-map rs whole)
      ∙ ap (λ (n : ℕ). length rs + n) (tail cut_off)
    where
      tail : (b : Bool) → length (cond {A = List Item} b (part ∷ []) []) ≡ from_bool b
      tail true = refl
      tail false = refl

  -- the most whole records, where with one that is cut off there are 4,096 at most
  abbrev pub most : ℕ
  most = 4096 - from_bool cut_off

  one : (b : Bool) → from_bool b ≤ 1
  one true = omega arith
  one false = omega arith

  within : length rs ≤ most → length (listed rs cut_off) ≤ 4096
  within h = omega (arith, length_listed, one cut_off)

  pub over_most : most < length rs → refused 16 ≡ total_of L (listed rs cut_off)
  over_most h = too_many L (listed rs cut_off) (omega (arith, length_listed, one cut_off))

  -- the first i records are taken, and their commands have so many bytes
  pub record Counted (i sum : ℕ) : Type 0 where
    pub small : sum ≤ 6 * i
    pub written : sum ≡ length (front rs i)
    pub goes_on : sum_from L i sum (drop i (listed rs cut_off)) ≡ sum_from L 0 0 (listed rs cut_off)

  pub counted_none : Counted 0 0
  counted_none = record { small = omega arith; written = refl; goes_on = refl }

  module _ {i sum : ℕ} (r : Rec) (h : i < length rs) (here : get_or rs i r ≡ r) (c : Counted i sum) where
    item : drop i (listed rs cut_off) ≡ whole r ∷ drop (suc i) (listed rs cut_off)
    item = record_at rs _ i r h ∙ ap (λ (x : Rec). whole x ∷ drop (suc i) (listed rs cut_off)) here

    pub counted_more : {n : ℕ} → judged L r ≡ given n → r.len ≤ 5 → 5 ≤ length r.bytes → Counted (i + 1) (sum + n)
    counted_more {n} j five bytes =
        let taken = judged_given L r n j in
        let t : length (take r.len r.bytes) ≡ r.len = length-take-le r.len r.bytes (omega arith) in
        let more : front rs (suc i) ≡ front rs i ++ (r.cid ∷ take r.len r.bytes) =
        front_more rs i r h ∙ ap (λ (x : Rec). front rs i ++ (x.cid ∷ take x.len x.bytes)) here in
        let e = length-append (front rs i) (r.cid ∷ take r.len r.bytes) in
        record {
          small = omega (arith, c.small, taken.1);
          written = omega (arith, c.written, taken.1, ap length more) ∙ ap (λ (k : ℕ). length (front rs k)) (sym (add-one i));
          goes_on = sym (sum_more L (listed rs cut_off) i sum (whole r) n item j) ∙ c.goes_on;
        }

    pub counted_refused : {k : ℕ} → length rs ≤ most → judged L r ≡ Answers.refused k → refused_at k i ≡ total_of L (listed rs cut_off)
    counted_refused {k} f j =
        sym (sum_refused L (listed rs cut_off) i sum (whole r) k item j) ∙ c.goes_on ∙ not_too_many L (listed rs cut_off) (within f)

  module _ {i sum : ℕ} (f : length rs ≤ most) (e : i ≡ length rs) (c : Counted i sum) where
    ended : Counted (length rs) sum
    ended = subst (λ (k : ℕ). Counted k sum) e c

    behind : {xs : List Item} → cond {A = List Item} cut_off (part ∷ []) [] ≡ xs → drop (length rs) (listed rs cut_off) ≡ xs
    behind t = behind_records rs _ (length rs) refl ∙ t

    pub counted_cut : cut_off ≡ true → refused_at 3 (length rs) ≡ total_of L (listed rs cut_off)
    counted_cut t =
        let k = length_listed in
        let n : from_bool cut_off ≡ 1 = ap from_bool t in
        let none : drop (suc (length rs)) (listed rs cut_off) ≡ [] = drop_of_length-le (listed rs cut_off) {i = suc (length rs)} (omega arith) in
        sym (sum_refused L (listed rs cut_off) (length rs) sum part 3 (behind (ap (λ (b : Bool). cond {A = List Item} b (part ∷ []) []) t) ∙ ap (λ (l : List Item). part ∷ l) (sym none)) refl)
        ∙ ended.goes_on ∙ not_too_many L (listed rs cut_off) (within f)

    pub counted_all : cut_off ≡ false → total sum ≡ total_of L (listed rs cut_off)
    counted_all t =
        sym (sum_end L (listed rs cut_off) (length rs) sum (behind (ap (λ (b : Bool). cond {A = List Item} b (part ∷ []) []) t)))
        ∙ ended.goes_on ∙ not_too_many L (listed rs cut_off) (within f)

    pub all_written : sum ≡ length (all rs)
    all_written = ended.written ∙ ap (λ (l : List Rec). length (encode (map cmd_of l))) (take-length rs)

  -- memory after an accepted list: its commands at the front, and what stood behind them
  pub list_built : (out : List ℕ) {n : ℕ} {front : List ℕ} → total n ≡ total_of L (listed rs cut_off) → n ≡ length (all rs) → n ≤ length out → front ≡ all rs
      → (total n, front ++ drop n out) ≡ build_of L (listed rs cut_off) out
  list_built out {n} e w h f =
      ap₂ (λ (o : List ℕ) (k : ℕ). (total n, o ++ drop k out)) f (w ∙ sym (zero-add (length (all rs))))
      ∙ ap (λ (cs : List Cmd). (total n, over out 0 (encode cs))) (sym (cmds_of_listed rs cut_off))
      ∙ sym (filled L (listed rs cut_off) out n (sym e) h)

-- The claims of specs/Packing.antt, proved. Assumes nothing.
use Prim.Native.Nat.{ℕ, suc, ◌+◌, ◌*◌, ◌-◌, ◌/◌, ◌%◌, ◌<◌, ◌≤◌}
use mathlib.Core.Bool.{Bool, true, false, cond}
use mathlib.Core.List.{List, [], ◌∷◌, ◌++◌, map, append-nil}
use mathlib.Core.Option.{Option, none, some}
use mathlib.Core.Path.{◌≡◌, refl, sym, ap, ◌∙◌, subst}
use native.Mathlib.Decide.{dec_lt}
use native.Mathlib.Omega.{arith}
use lib.Dec.{leb}
use lib.ListN.{length, get_or, take, drop, length-map, get_or-append}
use lib.Seq.{get_or-append-add, get_or-take, get_or-drop, length-take-le}
use borrow.Author.Tests.{lt-ltb, le-ltb, eq-eqb, ne_eqb}
use Rattle.bits.specs.Memory.{over}
use Rattle.table.specs.Answers.{Answer, given}
use Rattle.table.specs.Answers as Answers
use Rattle.table.specs.Table.{length_of}
use Rattle.table.specs.declared.rules.Rules.{Rules}
use Rattle.table.proofs.Lengths.{at_most_five}
use Rattle.fields.specs.Lists.{tabulate}
use Rattle.walk.specs.Walk.{Rule, encode}
use Rattle.build.specs.Records.{Rec, Item, whole, part, measured, judged, held_by, no_record, cmds_of, len_byte, slot_at, slots_of, whole_slots}
use Rattle.build.specs.Build.{Built, total, refused_at, refused, next, sum_from, total_of, fill, build_of}
use Rattle.build.specs.declared.record.Record.{Record}
use Rattle.build.proofs.AsRecords.{five_whole}
use Rattle.build.proofs.Judging.{judged_given}
pub use Rattle.build.proofs.Slots.{slot_same}
use Rattle.build.proofs.Writes.{packed_in}
use Rattle.lent.specs.Records.{recs_of}
use Rattle.lent.specs.Packing.{in_slot, Packed, AnswersAsPacked, PackMakesSlots}

-- a length that has room in a slot stays
pub short_stays : (r : Rec) → r.len < 256 → in_slot r ≡ r
short_stays r h = ap (λ (b : Bool). record { cid = r.cid; len = cond b r.len 255; bytes = r.bytes }) (lt-ltb r.len 256 h)

-- and one that has none is as wrong there
measured_same : (o : Option ℕ) → ((n : ℕ) → o ≡ some n → n ≤ 5) → (len : ℕ) → measured o (len_byte len) ≡ measured o len
measured_same none five len = refl
measured_same (some n) five len = by (dec_lt len 256)
  where
    by : Dec (len < 256) → measured (some n) (len_byte len) ≡ measured (some n) len
    by (yes h) = ap (λ (b : Bool). measured (some n) (cond b len 255)) (lt-ltb len 256 h)
    by (no h) =
        let m = five n refl in
        ap (λ (b : Bool). measured (some n) (cond b len 255)) (le-ltb len 256 (omega arith))
        ∙ ap (λ (b : Bool). cond b (given (1 + 255)) (Answers.refused 3)) (ne_eqb 255 n (λ e. omega arith))
        ∙ sym (ap (λ (b : Bool). cond b (given (1 + len)) (Answers.refused 3)) (ne_eqb len n (λ e. omega arith)))

module _ (rules : Rules) where
  abbrev L : Rule
  L = length_of rules

  judged_same : (r : Rec) → judged L (in_slot r) ≡ judged L r
  judged_same r = measured_same (L r.cid) (at_most_five rules r.cid) r.len

  sum_same : (rs : List Rec) (i sum : ℕ) → sum_from L i sum (map whole rs) ≡ sum_from L i sum (map whole (map in_slot rs))
  unfolding sum_from
  sum_same [] i sum = refl
  sum_same (r ∷ rs) i sum =
      by (judged L r) (λ n. sum_same rs (i + 1) (sum + n))
      ∙ ap (λ (a : Answer ℕ). next a i (λ m. sum_from L (i + 1) (sum + m) (map whole (map in_slot rs)))) (sym (judged_same r))
    where
      by : (a : Answer ℕ) → ((n : ℕ) → sum_from L (i + 1) (sum + n) (map whole rs) ≡ sum_from L (i + 1) (sum + n) (map whole (map in_slot rs)))
          → next a i (λ m. sum_from L (i + 1) (sum + m) (map whole rs)) ≡ next a i (λ m. sum_from L (i + 1) (sum + m) (map whole (map in_slot rs)))
      by (given n) ih = ih n
      by (Answers.refused k) ih = refl

  -- records that have a sum have lengths of the table, which stay
  taken_stay : (rs : List Rec) (i sum n : ℕ) → sum_from L i sum (map whole rs) ≡ total n → map in_slot rs ≡ rs
  unfolding sum_from
  taken_stay [] i sum n e = refl
  taken_stay (r ∷ rs) i sum n e = by (judged L r) refl e (λ m. taken_stay rs (i + 1) (sum + m) n)
    where
      by : (a : Answer ℕ) → judged L r ≡ a → next a i (λ m. sum_from L (i + 1) (sum + m) (map whole rs)) ≡ total n
          → ((m : ℕ) → sum_from L (i + 1) (sum + m) (map whole rs) ≡ total n → map in_slot rs ≡ rs) → map in_slot (r ∷ rs) ≡ r ∷ rs
      by (given m) q e ih =
          let five = at_most_five rules r.cid r.len (judged_given L r m q).0 in
          ap (λ (x : Rec). x ∷ map in_slot rs) (short_stays r (omega arith)) ∙ ap (λ (xs : List Rec). r ∷ xs) (ih m e)
      by (Answers.refused k) q e ih = let z : ◌≡◌ {A = ℕ} 0 1 = cc in absurd (omega arith)

  total_same : (rs : List Rec) → total_of L (map whole rs) ≡ total_of L (map whole (map in_slot rs))
  total_same rs =
      let n : length (map whole rs) ≡ length (map whole (map in_slot rs)) =
      length-map rs whole ∙ sym (length-map (map in_slot rs) whole ∙ length-map rs in_slot) in
      ap (λ (k : ℕ). cond (leb k 4096) (sum_from L 0 0 (map whole rs)) (refused 16)) n
      ∙ ap (λ (b : Built). cond (leb (length (map whole (map in_slot rs))) 4096) b (refused 16)) (sum_same rs 0 0)

  -- a total is a sum
  sum_of_total : (xs : List Item) (n : ℕ) → total_of L xs ≡ total n → sum_from L 0 0 xs ≡ total n
  sum_of_total xs n e = by (leb (length xs) 4096) e
    where
      by : (b : Bool) → cond b (sum_from L 0 0 xs) (refused 16) ≡ total n → sum_from L 0 0 xs ≡ total n
      by true e = e
      by false e = let z : ◌≡◌ {A = ℕ} 0 1 = cc in absurd (omega arith)

  build_same : (rs : List Rec) (out : List ℕ) → build_of L (map whole rs) out ≡ build_of L (map whole (map in_slot rs)) out
  build_same rs out =
      by (total_of L (map whole rs)) refl
      ∙ ap (λ (b : Built). fill b (encode (cmds_of (map whole (map in_slot rs)))) out) (total_same rs)
    where
      by : (b : Built) → total_of L (map whole rs) ≡ b
          → fill (total_of L (map whole rs)) (encode (cmds_of (map whole rs))) out ≡ fill (total_of L (map whole rs)) (encode (cmds_of (map whole (map in_slot rs)))) out
      by (total n) e =
          ap (λ (xs : List Rec). fill (total_of L (map whole rs)) (encode (cmds_of (map whole xs))) out) (sym (taken_stay rs 0 0 n (sum_of_total (map whole rs) n e)))
      by (refused_at k p) e =
          ap (λ (b : Built). fill b (encode (cmds_of (map whole rs))) out) e ∙ sym (ap (λ (b : Built). fill b (encode (cmds_of (map whole (map in_slot rs)))) out) e)
      by (refused k) e =
          ap (λ (b : Built). fill b (encode (cmds_of (map whole rs))) out) e ∙ sym (ap (λ (b : Built). fill b (encode (cmds_of (map whole (map in_slot rs)))) out) e)

-- ---- the slots of packed records

tabulated : (ys : List Record) (f : ℕ → Rec) → ((i : ℕ) → i < length ys → f i ≡ in_slot (held_by (get_or ys i no_record))) → tabulate (length ys) f ≡ map in_slot (recs_of ys)
unfolding tabulate
tabulated [] f h = refl
tabulated (y ∷ ys) f h =
    ap (λ (r : Rec). r ∷ tabulate (length ys) (λ (k : ℕ). f (suc k))) (h 0 (omega arith))
    ∙ ap (λ (rs : List Rec). in_slot (held_by y) ∷ rs) (tabulated ys (λ (k : ℕ). f (suc k)) (λ i l. h (suc i) (omega arith)))

pub slots_are : (ys : List Record) (s : List ℕ) → Packed s ys → slots_of s ≡ map whole (map in_slot (recs_of ys))
slots_are ys s p =
    let c = p.count in
    let no_rest : length s % 8 ≡ 0 = omega arith in
    let many : length s / 8 ≡ length ys = omega arith in
    ap (λ (b : Bool). map whole (whole_slots s) ++ cond b [] (part ∷ [])) (eq-eqb (length s % 8) 0 no_rest)
    ∙ append-nil (map whole (whole_slots s))
    ∙ ap (λ (n : ℕ). map whole (tabulate n (slot_at s))) many
    ∙ ap (map whole) (tabulated ys (slot_at s) p.each)

pub answers_as_packed : AnswersAsPacked
answers_as_packed rules ys s p = record {
  len = total_same rules (recs_of ys) ∙ ap (total_of (length_of rules)) (sym (slots_are ys s p));
  build = λ out. build_same rules (recs_of ys) out ∙ ap (λ (xs : List Item). build_of (length_of rules) xs out) (sym (slots_are ys s p));
}

-- ---- packing one record

-- memory with bytes put over a part that it has: there they are, and before and behind it is as it was
module _ (s bs : List ℕ) (a : ℕ) (h : a + length bs ≤ length s) where
  front : length (take a s) ≡ a
  front = length-take-le a s (omega arith)

  over_in : (j k : ℕ) → j ≡ a + k → k < length bs → get_or (over s a bs) j 0 ≡ get_or bs k 0
  over_in j k e l =
      ap (λ (m : ℕ). get_or (over s a bs) m 0) (e ∙ ap (λ (m : ℕ). m + k) (sym front))
      ∙ get_or-append-add (take a s) (bs ++ drop (a + length bs) s) k 0
      ∙ get_or-append bs (drop (a + length bs) s) 0 k l

  over_before : (j : ℕ) → j < a → get_or (over s a bs) j 0 ≡ get_or s j 0
  over_before j l =
      get_or-append (take a s) (bs ++ drop (a + length bs) s) 0 j (subst (λ (m : ℕ). j < m) (sym front) l) ∙ get_or-take a s j 0 l

  over_behind : (j : ℕ) → a + length bs ≤ j → get_or (over s a bs) j 0 ≡ get_or s j 0
  over_behind j l =
      ap (λ (k : ℕ). get_or (over s a bs) k 0) (subst (λ (x : ℕ). j ≡ x + (length bs + (j - (a + length bs)))) (sym front) (omega arith))
      ∙ get_or-append-add (take a s) (bs ++ drop (a + length bs) s) (length bs + (j - (a + length bs))) 0
      ∙ get_or-append-add bs (drop (a + length bs) s) (j - (a + length bs)) 0
      ∙ get_or-drop (a + length bs) s (j - (a + length bs)) 0
      ∙ ap (λ (k : ℕ). get_or s k 0) (omega arith)

-- the bytes of a slot that count
abbrev seven : Rec → List ℕ
seven r = r.cid ∷ len_byte r.len ∷ r.bytes

pub pack_makes_slots : PackMakesSlots
pack_makes_slots s i r h five =
    let fits : 8 * i + length (seven r) ≤ length s = omega arith in
    record {
      made = ap (λ (p : List ℕ). slot_at p i) (sym (packed_in s i r h))
          ∙ slot_same (over s (8 * i) (seven r)) (seven r) i 0
          (λ k l. let e : k ≡ 8 * 0 + k = omega arith in
          over_in s (seven r) (8 * i) fits (8 * i + k) k refl (omega arith) ∙ ap (λ (j : ℕ). get_or (seven r) j 0) e)
          ∙ ap (λ (b : List ℕ). record { cid = r.cid; len = len_byte r.len; bytes = b }) (five_whole r.bytes five);
      others = λ j ne. ap (λ (p : List ℕ). slot_at p j) (sym (packed_in s i r h))
          ∙ slot_same (over s (8 * i) (seven r)) s j j (λ k l. apart j ne k l fits (dec_lt j i));
    }
  where
    apart : (j : ℕ) → (j ≡ i → ⊥) → (k : ℕ) → k < 7 → 8 * i + length (seven r) ≤ length s → Dec (j < i)
        → get_or (over s (8 * i) (seven r)) (8 * j + k) 0 ≡ get_or s (8 * j + k) 0
    apart j ne k l fits (yes b) = over_before s (seven r) (8 * i) fits (8 * j + k) (omega arith)
    apart j ne k l fits (no b) =
        let more : i < j = by_cases (dec_lt i j) in
        over_behind s (seven r) (8 * i) fits (8 * j + k) (omega arith)
      where
        by_cases : Dec (i < j) → i < j
        by_cases (yes m) = m
        by_cases (no m) = absurd (ne (omega arith))

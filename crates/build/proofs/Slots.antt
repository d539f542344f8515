-- The slots of packed records, one by one. Assumes nothing.
use Prim.Native.Nat.{ℕ, zero, suc, ◌+◌, ◌*◌, ◌/◌, ◌%◌, ◌<◌}
use mathlib.Core.Path.{◌≡◌, refl, sym, ap, ap₂, ◌∙◌}
use mathlib.Core.Bool.{Bool, true, false, cond, not}
use mathlib.Core.List.{List, [], ◌∷◌, ◌++◌, map}
use native.Mathlib.Nat.{add-zero}
use native.Mathlib.Omega.{arith}
use lib.Dec.{eqb}
use lib.ListN.{length, get_or, take, drop, length-append, length-map, get_or-append, get_or-map}
use lib.Seq.{drop-cons, drop_at, get_or-take, get_or-drop}
use Rattle.std.specs.Simd.{first_chunks}
use Rattle.table.specs.declared.rules.Rules.{Rules}
use Rattle.table.specs.Table.{length_of}
use Rattle.table.proofs.Lengths.{at_most_five}
use Rattle.fields.specs.Lists.{tabulate}
use Rattle.walk.specs.Walk.{Cmd}
use Rattle.build.specs.ThereAndBack.{Full}
use Rattle.build.specs.Records.{Rec, Item, whole, part, cmd_of, cmds_of, slot_at, slots_of, listed}

-- whole records, and what stands behind them
pub record_at : (rs : List Rec) (tail : List Item) (i : ℕ) (d : Rec) → i < length rs
    → drop i (map whole rs ++ tail) ≡ whole (get_or rs i d) ∷ drop (suc i) (map whole rs ++ tail)
record_at rs tail i d h =
    let m : length (map whole rs) ≡ length rs = length-map rs whole in
    let l : length (map whole rs ++ tail) ≡ length (map whole rs) + length tail = length-append (map whole rs) tail in
    drop-cons (map whole rs ++ tail) i (whole d) (omega arith)
    ∙ ap (λ (x : Item). x ∷ drop (suc i) (map whole rs ++ tail))
    (get_or-append (map whole rs) tail (whole d) i (omega arith) ∙ get_or-map whole rs i d)

pub behind_records : (rs : List Rec) (tail : List Item) (i : ℕ) → i ≡ length rs → drop i (map whole rs ++ tail) ≡ tail
behind_records rs tail i e = drop_at (map whole rs) tail i (length-map rs whole ∙ sym e)

-- what a slot has is known from its seven bytes
pub slot_same : (s t : List ℕ) (i j : ℕ) → ((k : ℕ) → k < 7 → get_or s (8 * i + k) 0 ≡ get_or t (8 * j + k) 0) → slot_at s i ≡ slot_at t j
slot_same s t i j h =
    let z : get_or s (8 * i) 0 ≡ get_or t (8 * j) 0 =
    ap (λ (k : ℕ). get_or s k 0) (sym (add-zero (8 * i))) ∙ h 0 (omega arith) ∙ ap (λ (k : ℕ). get_or t k 0) (add-zero (8 * j)) in
    simp (z, h 1 (omega arith), h 2 (omega arith), h 3 (omega arith), h 4 (omega arith), h 5 (omega arith), h 6 (omega arith))

-- eight bytes at a time are the slots
pub slots_chunked : (n : ℕ) (s : List ℕ) → map (λ (c : List ℕ). slot_at c 0) (first_chunks 8 n s) ≡ tabulate n (slot_at s)
unfolding tabulate
slots_chunked zero s = refl
slots_chunked (suc n) s =
    ap₂ (λ (r : Rec) (rs : List Rec). r ∷ rs)
    (slot_same (take 8 s) s 0 0 (λ k l. get_or-take 8 s (8 * 0 + k) 0 (omega arith)))
    (slots_chunked n (drop 8 s) ∙ ap (tabulate n) (λ i k. behind k i))
  where
    behind : (k : ℕ) → slot_at (drop 8 s) k ≡ slot_at s (suc k)
    behind k = slot_same (drop 8 s) s k (suc k) (λ j l. get_or-drop 8 s (8 * k + j) 0 ∙ ap (λ (m : ℕ). get_or s m 0) (omega arith))

-- so a list of them, with what is left behind them, is the list of slots
pub slots_listed : (s rest : List ℕ) (chunks : List (List ℕ)) → chunks ≡ first_chunks 8 (length s / 8) s → length rest ≡ length s % 8
    → listed (map (λ (c : List ℕ). slot_at c 0) chunks) (not (eqb (length rest) 0)) ≡ slots_of s
slots_listed s rest chunks e n =
    ap₂ (λ (cs : List (List ℕ)) (k : ℕ). listed (map (λ (c : List ℕ). slot_at c 0) cs) (not (eqb k 0))) e n
    ∙ ap₂ (λ (rs : List Rec) (xs : List Item). map whole rs ++ xs) (slots_chunked (length s / 8) s) (flipped (eqb (length s % 8) 0))
  where
    flipped : (b : Bool) → cond {A = List Item} (not b) (part ∷ []) [] ≡ cond b [] (part ∷ [])
    flipped true = refl
    flipped false = refl

-- the commands of whole records
pub cmds_of_whole : (rs : List Rec) (tail : List Item) → cmds_of (map whole rs ++ tail) ≡ map cmd_of rs ++ cmds_of tail
cmds_of_whole [] tail = refl
cmds_of_whole (r ∷ rs) tail = ap (λ (l : List Cmd). cmd_of r ∷ l) (cmds_of_whole rs tail)

-- a slot's record has five bytes, and no payload of the table is longer
slot_full : (rules : Rules) (n : ℕ) (f : ℕ → Rec) → ((i : ℕ) → length (f i).bytes ≡ 5) → (tail : List Item) → Full (length_of rules) tail
    → Full (length_of rules) (map whole (tabulate n f) ++ tail)
unfolding tabulate
slot_full rules zero f five tail t = t
slot_full rules (suc n) f five tail t = (
  λ e. let m = at_most_five rules (f zero).cid (f zero).len e in let k = five zero in omega arith,
  slot_full rules n (λ (i : ℕ). f (suc i)) (λ i. five (suc i)) tail t,
)

pub slots_full : (rules : Rules) (s : List ℕ) → Full (length_of rules) (slots_of s)
slots_full rules s = slot_full rules (length s / 8) (slot_at s) (λ i. refl) _ (tail (eqb (length s % 8) 0))
  where
    tail : (b : Bool) → Full (length_of rules) (cond b [] (part ∷ []))
    tail true = tt
    tail false = tt

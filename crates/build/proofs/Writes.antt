-- A record's bytes written over lent memory. Assumes nothing.
use Prim.Native.Nat.{ℕ, suc, ◌+◌, ◌-◌, ◌*◌, ◌/◌, ◌<◌, ◌≤◌}
use mathlib.Core.Path.{◌≡◌, sym, ap, ◌∙◌, subst}
use mathlib.Core.List.{List, [], ◌∷◌, ◌++◌, append_assoc, append-nil}
use native.Mathlib.Numerals.{add-one}
use native.Mathlib.Omega.{arith}
use lib.ListN.{length, get_or, take, drop, set, take-append-drop, length-append}
use lib.Seq.{take-suc-set, drop-set-lt, take-append_seam, length-take-le, paste, paste-suc}
use borrow.Author.Tests.{lt-ltb}
use Rattle.bits.specs.Memory.{over, written_at}
use Rattle.bits.proofs.Memory.{room}
use Rattle.build.specs.Records.{Rec, command_bytes, len_byte, packed_at}
use Rattle.build.specs.Laying.{LaidAt}

-- as many of a list's elements as are in its front, are its front
pub take_counted : (k : ℕ) (p : List ℕ) → take (length (take k p)) p ≡ take k p
take_counted k p =
    ap (take (length (take k p))) (sym (take-append-drop k p)) ∙ take-append_seam (take k p) (drop k p)

pub counted_le : (k : ℕ) (p : List ℕ) → length (take k p) ≤ length p
counted_le k p =
    let e : length (take k p) + length (drop k p) ≡ length p = sym (length-append (take k p) (drop k p)) ∙ ap length (take-append-drop k p) in
    omega arith

-- one byte stored, and n pasted behind it
pub stored_pasted : (out : List ℕ) (at c : ℕ) (p : List ℕ) (n : ℕ) → at + 1 + n ≤ length out → n ≤ length p
    → paste (set out at c) (at + 1) p n ≡ over out at (c ∷ take n p)
stored_pasted out at c p n h l =
    let front : take (at + 1) (set out at c) ≡ take at out ++ (c ∷ []) =
    ap (λ (k : ℕ). take k (set out at c)) (add-one at) ∙ take-suc-set out at c (omega arith) in
    let behind : drop (at + 1 + n) (set out at c) ≡ drop (at + suc (length (take n p))) out =
    drop-set-lt (at + 1 + n) out at c (omega arith)
    ∙ ap (λ (k : ℕ). drop k out) (subst (λ (m : ℕ). at + 1 + n ≡ at + suc m) (sym (length-take-le n p l)) (omega arith)) in
    ap (λ (x : List ℕ). x ++ take n p ++ drop (at + 1 + n) (set out at c)) front
    ∙ ap (λ (x : List ℕ). take at out ++ (c ∷ []) ++ take n p ++ x) behind
    ∙ append_assoc (take at out ++ (c ∷ [])) (take n p) (drop (at + suc (length (take n p))) out)
    ∙ append_assoc (take at out) (c ∷ []) (take n p ++ drop (at + suc (length (take n p))) out)

-- the front of a list written byte by byte, where n bytes count: of the first i those are i - (i - n), the lesser of i and n
module _ (d s : List ℕ) (at n i : ℕ) (o : List ℕ) where
  pub one_counts : i < n → at + n ≤ length d → n ≤ length s → o ≡ paste d at s (i - (i - n)) → set o (at + i) (get_or s i 0) ≡ paste d at s (i + 1 - (i + 1 - n))
  one_counts h room some e =
      let all : i - (i - n) ≡ i = omega arith in
      let next : suc i ≡ i + 1 - (i + 1 - n) = omega arith in
      ap (λ (p : List ℕ). set p (at + i) (get_or s i 0)) (e ∙ ap (paste d at s) all)
      ∙ paste-suc d at s i 0 (omega arith) (omega arith)
      ∙ ap (paste d at s) next

  pub none_counts : n ≤ i → o ≡ paste d at s (i - (i - n)) → o ≡ paste d at s (i + 1 - (i + 1 - n))
  none_counts h e =
      let same : i - (i - n) ≡ i + 1 - (i + 1 - n) = omega arith in
      e ∙ ap (paste d at s) same

module _ (out : List ℕ) (at : ℕ) (r : Rec) where
  -- the CID stored, and the payload pasted behind it
  pub stored_all : (n : ℕ) (o : List ℕ) → n ≡ length (take r.len r.bytes) → at + 1 + n ≤ length out
      → o ≡ paste (set out at r.cid) (at + 1) r.bytes n → (at + 1 + n, o) ≡ written_at out at (command_bytes r)
  stored_all n o e h q =
      let l : n ≤ length r.bytes = subst (λ (k : ℕ). k ≤ length r.bytes) (sym e) (counted_le r.len r.bytes) in
      let body : take n r.bytes ≡ take r.len r.bytes = ap (λ (k : ℕ). take k r.bytes) e ∙ take_counted r.len r.bytes in
      let behind : at + 1 + n ≡ at + length (command_bytes r) = omega arith in
      ap (λ (x : List ℕ). (at + 1 + n, x)) (q ∙ stored_pasted out at r.cid r.bytes n h l ∙ ap (λ (x : List ℕ). over out at (r.cid ∷ x)) body)
      ∙ ap (λ (k : ℕ). (k, over out at (command_bytes r))) behind
      ∙ room out at (command_bytes r) (omega arith)

  -- with no surplus
  pub exactly_laid : (end next : ℕ) (o : List ℕ) → at + length (command_bytes r) ≤ end → end ≤ length out
      → ◌≡◌ {A = ℕ × List ℕ} (next, o) (written_at out at (command_bytes r)) → LaidAt out at end r next o
  exactly_laid end next o h k e =
      let p : ◌≡◌ {A = ℕ × List ℕ} (next, o) (at + length (command_bytes r), over out at (command_bytes r)) = e ∙ sym (room out at (command_bytes r) (omega arith)) in
      let n : command_bytes r ++ [] ≡ command_bytes r = append-nil (command_bytes r) in
      record {
        surplus = [];
        behind = ap (λ x. x.0) p;
        memory = ap (λ x. x.1) p ∙ ap (over out at) (sym n);
        within = omega (arith, ap length n);
      }

  -- with the payload bytes that don't count
  pub widely_laid : (end n : ℕ) (o : List ℕ) → length r.bytes ≡ 5 → at + 6 ≤ end → n ≡ length (take r.len r.bytes)
      → o ≡ over out at (r.cid ∷ r.bytes) → LaidAt out at end r (at + 1 + n) o
  widely_laid end n o five h e q =
      let all : take r.len r.bytes ++ drop r.len r.bytes ≡ r.bytes = take-append-drop r.len r.bytes in
      record {
        surplus = drop r.len r.bytes;
        behind = omega arith;
        memory = q ∙ ap (λ (l : List ℕ). over out at (r.cid ∷ l)) (sym all);
        within = omega (arith, ap length all);
      }

module _ (s : List ℕ) (i : ℕ) (r : Rec) where
  pub packed_in : i < length s / 8 → over s (8 * i) (r.cid ∷ len_byte r.len ∷ r.bytes) ≡ packed_at s i r
  unfolding packed_at
  packed_in h = simp (lt-ltb i (length s / 8) h)

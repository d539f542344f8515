-- What the loops of the writers keep. Digits go to their places from the right; bytes go from the left. Assumes nothing.
use Prim.Native.Nat.{ℕ, ◌+◌, ◌-◌, ◌*◌, ◌/◌, ◌%◌, ◌<◌, ◌≤◌}
use mathlib.Core.Path.{◌≡◌, refl, sym, ap, ap₂, ◌∙◌, subst}
use borrow.Rule.Slice.PartMut.{put_mid}
use mathlib.Core.List.{List, [], ◌∷◌, ◌++◌, append-nil}
use native.Mathlib.Numerals.{add-one}
use native.Mathlib.Omega.{arith}
use native.Mathlib.Decide.{dec_lt}
use lib.ListN.{length, get_or, set, take, drop, length-append, length-set}
use lib.Seq.{take-suc, take_all, append_snoc, drop-drop}
use Rattle.bits.specs.Memory.{over, written_at}
use Rattle.bits.proofs.Memory.{Left, Puts, no_room, room, over_none, over_before, written_of, puts_then, puts_none, puts_one, puts_length}
use Rattle.text.specs.Decimal.{decimal}
use Rattle.text.specs.Hex.{hex_byte, hex_of}
use Rattle.text.proofs.Decimals.{decimal_one, decimal_rest, decimal_long, decimal_some}
use Rattle.text.proofs.Hexes.{hex_none, hex_behind, hex_long}

-- bytes copied, where they have room
pub copied : (out : List ℕ) (at n : ℕ) (bytes : List ℕ) → n ≡ at + length bytes → n ≤ length out → written_at out at bytes ≡ (n, put_mid at (n - at) out bytes)
copied out at n bytes e h =
    sym (room out at bytes (omega arith))
    ∙ ap₂ (λ (k l : ℕ). (k, take at out ++ (bytes ++ drop l out))) (sym e) (omega arith)
    ∙ ap (λ (r : List ℕ). (n, take at out ++ (bytes ++ r))) (sym (drop-drop (n - at) at out))

module _ (out : List ℕ) (at n : ℕ) where
  -- the right-hand digits stand from offset i on, and those that are missing are the digits of `rest`
  pub record Spelt (i rest : ℕ) (o : List ℕ) : Type 0 where
    pub tail : List ℕ
    pub whole : decimal n ≡ decimal rest ++ tail
    pub place : i ≡ at + length (decimal rest)
    pub memory : o ≡ over out i tail

  pub spelt_none : (k : ℕ) → k ≡ length (decimal n) → Spelt (at + k) n out
  spelt_none k e = record {
    tail = [];
    whole = sym (append-nil (decimal n));
    place = ap (λ (x : ℕ). at + x) e;
    memory = sym (over_none out (at + k));
  }

  module _ {i rest : ℕ} {o : List ℕ} (w : Spelt i rest o) where
    -- where one place is left, one digit is
    pub spelt_small : i ≤ at + 1 → rest < 10
    spelt_small h = by (dec_lt rest 10)
      where
        by : Dec (rest < 10) → rest < 10
        by (yes l) = l
        by (no g) = let p = w.place in let ten : 10 ≤ rest = omega arith in absurd (omega (arith, decimal_long rest ten, decimal_some (rest / 10)))

    module _ (fits : at + length (decimal n) ≤ length out) where
      place : (at + 1 ≤ i) × (i + length w.tail ≤ length out)
      place = let p = w.place in (omega (arith, decimal_some rest), omega (arith, ap length w.whole, length-append (decimal rest) w.tail))

      -- one digit more, to the left of them
      before : (j c : ℕ) → i ≡ j + 1 → set o j c ≡ over out j (c ∷ w.tail)
      before j c e =
          ap (λ (x : List ℕ). set x j c) (w.memory ∙ ap (λ (k : ℕ). over out k w.tail) e)
          ∙ over_before out j c w.tail (let p = place in omega arith)

      pub spelt_more : at + 1 < i → {c : ℕ} → c ≡ 48 + rest % 10 → Spelt (i - 1) (rest / 10) (set o (i - 1) c)
      spelt_more h {c} e =
          let q = w.place in
          let ten : 10 ≤ rest = large (dec_lt rest 10) in
          let last : c ≡ 48 + rest % 10 = e in
          record {
            tail = c ∷ w.tail;
            whole = w.whole ∙ ap (λ (s : List ℕ). s ++ w.tail) (decimal_rest rest ten) ∙ append_snoc (decimal (rest / 10)) (48 + rest % 10) w.tail ∙ ap (λ (x : ℕ). decimal (rest / 10) ++ (x ∷ w.tail)) (sym e);
            place = omega (arith, decimal_long rest ten);
            memory = before (i - 1) c (omega arith);
          }
        where
          large : Dec (rest < 10) → 10 ≤ rest
          large (yes l) = let q = w.place in absurd (omega (arith, ap length (decimal_one rest l)))
          large (no g) = omega arith

      pub spelt_all : i ≤ at + 1 → {c : ℕ} → c ≡ 48 + rest → (at + length (decimal n), set o at c) ≡ written_at out at (decimal n)
      spelt_all h {c} e =
          let one : decimal rest ≡ c ∷ [] = decimal_one rest (spelt_small h) ∙ ap (λ (x : ℕ). x ∷ []) (sym e) in
          let all : decimal n ≡ c ∷ w.tail = w.whole ∙ ap (λ (s : List ℕ). s ++ w.tail) one in
          let q = w.place in
          written_of (record {
            fits = fits;
            behind = refl;
            memory = before at c (omega (arith, ap length one)) ∙ ap (over out at) (sym all);
          })

module _ (out : List ℕ) (at : ℕ) (bytes : List ℕ) where
  -- i of the bytes are written in hex, and all have room
  pub record Wrote (i next : ℕ) (o : List ℕ) : Type 0 where
    pub place : next ≡ at + 2 * i
    pub puts : Puts out at (hex_of (take i bytes)) next o
    pub room : at + 2 * length bytes ≤ length out

  pub wrote_none : at + 2 * length bytes ≤ length out → Wrote 0 at out
  wrote_none h = record { place = omega arith; puts = subst (λ (s : List ℕ). Puts out at s at out) (sym hex_none) (puts_none out at (omega arith)); room = h }

  module _ {i next : ℕ} {o : List ℕ} (w : Wrote i next o) where
    pub wrote_more : {p : List ℕ} → i < length bytes → p ≡ hex_byte (get_or bytes i 0)
        → Wrote (i + 1) (next + 2) (set (set o next (get_or p 0 0)) (next + 1) (get_or p 1 0))
    wrote_more {p} h e =
        let q = w.place in
        let r = w.room in
        let l = puts_length w.puts in
        let b = get_or bytes i 0 in
        let one = puts_one o next (get_or p 0 0) (omega arith) in
        let two = puts_one (set o next (get_or p 0 0)) (next + 1) (get_or p 1 0) (omega (arith, length-set o next (get_or p 0 0))) in
        let pair : (get_or p 0 0 ∷ get_or p 1 0 ∷ []) ≡ hex_byte b = ap (λ (x : List ℕ). get_or x 0 0 ∷ get_or x 1 0 ∷ []) e in
        let more : hex_of (take i bytes) ++ (get_or p 0 0 ∷ get_or p 1 0 ∷ []) ≡ hex_of (take (i + 1) bytes) =
        ap (λ (x : List ℕ). hex_of (take i bytes) ++ x) pair ∙ sym (hex_behind (take i bytes) b) ∙ sym (ap hex_of (take-suc bytes i 0 h)) ∙ ap (λ (k : ℕ). hex_of (take k bytes)) (sym (add-one i)) in
        let n : next + 1 + 1 ≡ next + 2 = omega arith in
        record {
          place = omega arith;
          puts = subst (λ (s : List ℕ). Puts out at s (next + 2) (set (set o next (get_or p 0 0)) (next + 1) (get_or p 1 0))) more
              (puts_then w.puts (subst (λ (k : ℕ). Puts o next (get_or p 0 0 ∷ get_or p 1 0 ∷ []) k (set (set o next (get_or p 0 0)) (next + 1) (get_or p 1 0))) n (puts_then one two)));
          room = r;
        }

    pub wrote_all : length bytes ≤ i → Left next o out at (hex_of bytes)
    wrote_all h = written_of (subst (λ (s : List ℕ). Puts out at (hex_of s) next o) (take_all i bytes h) w.puts)

  -- no room for all of the bytes
  pub wrote_not : length out < at + 2 * length bytes → (at, out) ≡ written_at out at (hex_of bytes)
  wrote_not h = no_room out at (hex_of bytes) (omega (arith, hex_long bytes))

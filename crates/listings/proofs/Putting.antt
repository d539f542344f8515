-- A line written piece by piece. Assumes nothing.
use Prim.Native.Nat.{ℕ, ◌+◌, ◌≤◌}
use mathlib.Core.Bool.{Bool, true}
use mathlib.Core.List.{List, [], ◌∷◌, ◌++◌, append_assoc}
use mathlib.Core.Path.{◌≡◌, sym, ap, ◌∙◌, subst}
use native.Mathlib.Omega.{arith}
use lib.ListN.{length, length-append}
use Rattle.bits.specs.Memory.{written_at}
use Rattle.bits.proofs.Memory.{Left, Puts, puts_of, puts_more, puts_length, written_of}
use Rattle.table.specs.declared.rules.Rules.{Rules}
use Rattle.table.specs.Table.{name_of}
use Rattle.text.specs.Characters.{ascii, letter_of}
use Rattle.text.specs.Decimal.{decimal}
use Rattle.text.specs.Hex.{hex_byte, hex_field}
use Rattle.text.specs.Lines.{Line, joined, line}
use Rattle.walk.specs.Walk.{placed, end, stop}
use Rattle.listings.specs.Listing.{channels, command_line, last_line, in_frame}
use Rattle.listings.specs.Passes.{stamp, before, behind, is_counted}
use Rattle.listings.proofs.Lining.{before_long, command_long, command_parts, counted_long, end_long, frame_long, frame_parts, letter_long, stamp_long, stop_long}

module _ (frame : ℕ) (out : List ℕ) (to : ℕ) where
  pub stamp_put : to + length (stamp frame) ≤ length out → {n1 n2 : ℕ} {o1 o2 : List ℕ}
      → Left n1 o1 out to (decimal frame) → Left n2 o2 o1 n1 (9 ∷ []) → Left n2 o2 out to (stamp frame)
  stamp_put h e1 e2 =
      let l = stamp_long frame in
      let p1 = puts_of (omega arith) e1 in
      written_of (puts_more (9 ∷ []) p1 (omega arith) e2)

  -- any line behind the stamp
  module _ (l : Line) (h : to + length (line (in_frame frame l)) ≤ length out) where
    pub stamp_room : to + length (stamp frame) ≤ length out
    stamp_room = omega (arith, frame_long frame l)

    module _ {n1 : ℕ} {o1 : List ℕ} (e1 : Left n1 o1 out to (stamp frame)) where
      stamped : Puts out to (stamp frame) n1 o1
      stamped = puts_of stamp_room e1

      pub line_room : (to ≤ n1) × (n1 + length (line l) ≤ length o1)
      line_room = let b = stamped.behind in (omega arith, omega (arith, puts_length stamped, frame_long frame l))

      pub line_put : {n2 : ℕ} {o2 : List ℕ} → Left n2 o2 o1 n1 (line l) → Left n2 o2 out to (line (in_frame frame l))
      line_put {n2} {o2} e2 =
          let second = puts_more (line l) stamped (omega (arith, frame_long frame l)) e2 in
          written_of (subst (λ (t : List ℕ). Puts out to t n2 o2) (sym (frame_parts frame l)) second)

module _ (rules : Rules) (at cid : ℕ) (out : List ℕ) (to : ℕ) where
  pub before_put : {c : ℕ} {n1 n2 n3 n4 n5 n6 : ℕ} {o1 o2 o3 o4 o5 o6 : List ℕ} → to + length (before rules at cid) ≤ length out
      → Left n1 o1 out to (decimal at)
      → c ∷ [] ≡ ascii (letter_of rules.direction)
      → Left n2 o2 o1 n1 (9 ∷ c ∷ 9 ∷ [])
      → Left n3 o3 o2 n2 (hex_byte cid)
      → Left n4 o4 o3 n3 (9 ∷ [])
      → Left n5 o5 o4 n4 (ascii (name_of rules cid))
      → Left n6 o6 o5 n5 (9 ∷ [])
      → Left n6 o6 out to (before rules at cid)
  before_put {n1 = n1} {n2 = n2} {o1 = o1} {o2 = o2} h e1 c e2 e3 e4 e5 e6 =
      let l = before_long rules at cid in
      let x = letter_long rules.direction in
      let d : List ℕ = decimal at in
      let side : List ℕ = ascii (letter_of rules.direction) in
      let apart : d ++ (9 ∷ side ++ (9 ∷ [])) ≡ d ++ (9 ∷ []) ++ side ++ (9 ∷ []) =
      sym (append_assoc (d ++ (9 ∷ [])) side (9 ∷ []) ∙ append_assoc d (9 ∷ []) (side ++ (9 ∷ []))) in
      let p1 = puts_of (omega arith) e1 in
      let p2 = puts_more (9 ∷ side ++ (9 ∷ [])) p1 (simp length-append (omega arith)) (e2 ∙ ap (λ (l : List ℕ). written_at o1 n1 (9 ∷ l ++ (9 ∷ []))) c) in
      let p3 = puts_more (hex_byte cid) (subst (λ (l : List ℕ). Puts out to l n2 o2) apart p2) (simp length-append (omega arith)) e3 in
      let p4 = puts_more (9 ∷ []) p3 (simp length-append (omega arith)) e4 in
      let p5 = puts_more (ascii (name_of rules cid)) p4 (simp length-append (omega arith)) e5 in
      let p6 = puts_more (9 ∷ []) p5 (simp length-append (omega arith)) e6 in
      written_of p6

  pub before_room : (body : List ℕ) → to + length (line (command_line rules (placed at cid body))) ≤ length out → to + length (before rules at cid) ≤ length out
  before_room body h = omega (arith, before_long rules at cid, command_long rules at cid body)

  module _ (body : List ℕ) (h : to + length (line (command_line rules (placed at cid body))) ≤ length out) {n1 : ℕ} {o1 : List ℕ} (e1 : Left n1 o1 out to (before rules at cid)) where
    first : Puts out to (before rules at cid) n1 o1
    first = puts_of (before_room body h) e1

    module _ {n2 : ℕ} {o2 : List ℕ} (e2 : Left n2 o2 o1 n1 (hex_field body)) where
      second : Puts out to (before rules at cid ++ hex_field body) n2 o2
      second = puts_more (hex_field body) first (omega (arith, before_long rules at cid, command_long rules at cid body)) e2

      pub behind_room : n2 + length (behind (is_counted rules cid) (channels body)) ≤ length o2
      behind_room =
          let b = second.behind in
          omega (arith, puts_length second, length-append (before rules at cid) (hex_field body), before_long rules at cid, command_long rules at cid body)

      pub command_put : {n3 : ℕ} {o3 : List ℕ} → Left n3 o3 o2 n2 (behind (is_counted rules cid) (channels body)) → Left n3 o3 out to (line (command_line rules (placed at cid body)))
      command_put {n3} {o3} e3 =
          let b = second.behind in
          let third = puts_more (behind (is_counted rules cid) (channels body)) second (omega (arith, puts_length second, behind_room)) e3 in
          written_of (subst (λ (t : List ℕ). Puts out to t n3 o3) (sym (command_parts rules at cid body)) third)

module _ (out : List ℕ) (to : ℕ) where
  -- behind a payload that is counted
  pub counted_put : {b : Bool} (n : ℕ) → b ≡ true → to + length (behind b n) ≤ length out → {m n1 n2 n3 : ℕ} {o1 o2 o3 : List ℕ}
      → m ≡ n → Left n1 o1 out to (9 ∷ []) → Left n2 o2 o1 n1 (decimal m) → Left n3 o3 o2 n2 (10 ∷ []) → Left n3 o3 out to (behind b n)
  counted_put {b} n t h {n1 = n1} {n3 = n3} {o1 = o1} {o3 = o3} same e1 e2 e3 =
      let l = counted_long n t in
      let p1 = puts_of (omega arith) e1 in
      let p2 = puts_more (decimal n) p1 (omega arith) (e2 ∙ ap (λ (k : ℕ). written_at o1 n1 (decimal k)) same) in
      let p3 = puts_more (10 ∷ []) p2 (simp length-append (omega arith)) e3 in
      written_of (subst (λ (x : Bool). Puts out to (behind x n) n3 o3) (sym t) p3)

  pub end_put : (at : ℕ) → to + length (line (last_line (end at))) ≤ length out → {n1 n2 : ℕ} {o1 o2 : List ℕ}
      → Left n1 o1 out to (decimal at) → Left n2 o2 o1 n1 (9 ∷ ascii "end" ++ (10 ∷ [])) → Left n2 o2 out to (line (last_line (end at)))
  unfolding joined ascii
  end_put at h e1 e2 =
      let l = end_long at in
      let p1 = puts_of (omega arith) e1 in
      written_of (puts_more (9 ∷ ascii "end" ++ (10 ∷ [])) p1 (omega arith) e2)

  pub stop_put : (number at : ℕ) → to + length (line (last_line (stop number at))) ≤ length out → {n1 n2 n3 n4 : ℕ} {o1 o2 o3 o4 : List ℕ}
      → Left n1 o1 out to (decimal at) → Left n2 o2 o1 n1 (9 ∷ ascii "stop" ++ (9 ∷ [])) → Left n3 o3 o2 n2 (decimal number) → Left n4 o4 o3 n3 (10 ∷ [])
      → Left n4 o4 out to (line (last_line (stop number at)))
  unfolding joined ascii
  stop_put number at h {n4 = n4} {o4 = o4} e1 e2 e3 e4 =
      let l = stop_long number at in
      let p1 = puts_of (omega arith) e1 in
      let p2 = puts_more (9 ∷ ascii "stop" ++ (9 ∷ [])) p1 (omega arith) e2 in
      let p3 = puts_more (decimal number) p2 (simp length-append (omega arith)) e3 in
      let p4 = puts_more (10 ∷ []) p3 (simp length-append (omega arith)) e4 in
      let whole : decimal at ++ (9 ∷ ascii "stop" ++ (9 ∷ [])) ++ decimal number ++ (10 ∷ []) ≡ line (last_line (stop number at)) = simp append_assoc in
      written_of (subst (λ (t : List ℕ). Puts out to t n4 o4) whole p4)

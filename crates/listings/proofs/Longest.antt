-- The longest text: specs/Longest.antt. Assumes nothing.
use Prim.Native.Nat.{ℕ, zero, suc, ◌+◌, ◌-◌, ◌*◌, ◌≤◌}
use mathlib.Core.Bool.{Bool, true, false}
use mathlib.Core.List.{List, [], ◌∷◌, ◌++◌, append-nil}
use mathlib.Core.Option.{some}
use mathlib.Core.Path.{◌≡◌, refl, sym, ap, ap₂, ◌∙◌, subst}
use native.Mathlib.Nat.{zero-add, add-zero}
use native.Mathlib.Omega.{arith}
use lib.ListN.{length, replicate, length-append}
use Rattle.table.specs.declared.rules.Rules.{Rules}
use Rattle.table.specs.Table.{length_of}
use Rattle.payloads.specs.Commands.{sent_up}
use Rattle.text.specs.Characters.{ascii}
use Rattle.text.specs.Decimal.{digits, decimal}
use Rattle.text.specs.Hex.{hex_field}
use Rattle.text.specs.Lines.{line, text}
use Rattle.text.proofs.Decimals.{decimal_one, decimal_some}
use Rattle.text.proofs.Hexes.{hex_long}
use Rattle.walk.specs.Ownership.{Ends, nothing_left, no_cid, cut_short}
use Rattle.walk.specs.Walk.{Placed, placed, Ending, end, Walk, finish, after, walk_from}
use Rattle.walk.proofs.Laws.{View, ends, goes, view, walk_nil, walk_command, walk_ends}
use Rattle.listings.specs.Listing.{channels, command_line, last_line, lines_of, in_frame, printed, listing_of}
use Rattle.listings.specs.Longest.{LongestText, TextOf1024}
use Rattle.listings.specs.Passes.{stamp, behind, is_counted}
use Rattle.listings.proofs.Lining.{counted_four, command_long, end_long, frame_long, stamp_long, stop_long, name_few, behind_few, stamp_few}

-- the text's length from an offset on, where every line begins with so many characters, so many bytes are left, and each is RXTimingSetupAns,
-- whose name is the longest
unfoldable most : (stamp at left : ℕ) → ℕ
most k at zero = k + (length (decimal at) + 5)
most k at (suc left) = k + (length (decimal at) + 25) + most k (at + 1) left

-- longer beginnings make it no shorter
most_wider : (j k at left : ℕ) → j ≤ k → most j at left ≤ most k at left
unfolding most
most_wider j k at zero h = omega arith
most_wider j k at (suc left) h = let rest = most_wider j k (at + 1) left h in omega arith

module _ (k : ℕ) where
  -- each byte in front has a line of its own, of 26 characters or more
  most_ahead : (at n left : ℕ) → 26 * n + most k (at + n) left ≤ most k at (n + left)
  unfolding most
  most_ahead at zero left = simp (zero-add, add-zero) (omega arith)
  most_ahead at (suc n) left =
      let rest = most_ahead (at + 1) n left in
      let there : at + 1 + n ≡ at + suc n = omega arith in
      let many : suc n + left ≡ suc (n + left) = omega arith in
      rw many (omega (arith, decimal_some at, ap (λ (x : ℕ). most k x left) there))

  most_more : (at left n : ℕ) → most k at left ≤ most k at (left + n)
  unfolding most
  most_more at zero zero = omega arith
  most_more at zero (suc n) = rw zero-add (omega arith)
  most_more at (suc left) n =
      let rest = most_more (at + 1) left n in
      let many : suc left + n ≡ suc (left + n) = omega arith in
      rw many (omega arith)

payload_small : (body : List ℕ) → length (hex_field body) ≤ 1 + 2 * length body
unfolding ascii
payload_small [] = omega arith
payload_small (b ∷ bs) = omega (arith, hex_long (b ∷ bs))

-- a command's line, but for its beginning, is no longer than the lines that its bytes would have by themselves
command_small : (rules : Rules) (at c : ℕ) (body : List ℕ) → length_of rules c ≡ some (length body)
    → length (line (command_line rules (placed at c body))) ≤ length (decimal at) + 25 + 26 * length body
command_small rules at c body known = by (is_counted rules c) refl
  where
    by : (b : Bool) → is_counted rules c ≡ b → length (line (command_line rules (placed at c body))) ≤ length (decimal at) + 25 + 26 * length body
    by true e =
        omega (arith, command_long rules at c body, name_few rules c, payload_small body, behind_few (is_counted rules c) body, counted_four rules c (length body) e known)
    by false e =
        omega (arith, command_long rules at c body, name_few rules c, payload_small body, ap (λ (x : Bool). length (behind x (channels body))) e)

module _ (rules : Rules) (frame : ℕ) where
  finish_long : (e : Ending) → length (printed rules frame (finish e)) ≡ length (stamp frame) + length (line (last_line e))
  unfolding text lines_of
  finish_long e = ap length (append-nil (line (in_frame frame (last_line e)))) ∙ frame_long frame (last_line e)

  after_long : (p : Placed) (w : Walk)
      → length (printed rules frame (after p w)) ≡ length (stamp frame) + length (line (command_line rules p)) + length (printed rules frame w)
  unfolding text lines_of
  after_long p w =
      length-append (line (in_frame frame (command_line rules p))) (printed rules frame w)
      ∙ ap (λ (n : ℕ). n + length (printed rules frame w)) (frame_long frame (command_line rules p))

  ending_small : {at : ℕ} {s : List ℕ} {e : Ending} → Ends (length_of rules) at s e
      → length (stamp frame) + length (line (last_line e)) ≤ most (length (stamp frame)) at (length s)
  unfolding most
  ending_small {at} nothing_left = omega (arith, end_long at)
  ending_small {at} (no_cid c s h) = omega (arith, stop_long 1 at, ap length (decimal_one 1 (omega arith)))
  ending_small {at} (cut_short c n s h l) = omega (arith, stop_long 2 at, ap length (decimal_one 2 (omega arith)))

  text_small : {at : ℕ} {s : List ℕ} → View (length_of rules) at s
      → length (printed rules frame (walk_from (length_of rules) at s)) ≤ most (length (stamp frame)) at (length s)
  unfolding most
  text_small (ends {e = e} x) = rw (walk_ends (length_of rules) x) (omega (arith, finish_long e, ending_small x))
  text_small {at} (goes c p r known v) =
      let rest = text_small v in
      let next : at + 1 + length p ≡ at + (1 + length p) = omega arith in
      subst (λ (w : Walk). length (printed rules frame w) ≤ most (length (stamp frame)) at (suc (length (p ++ r)))) (sym (walk_command (length_of rules) at c p r known))
      (rw (length-append p r)
      (omega (
        arith,
        after_long (placed at c p) (walk_from (length_of rules) (at + (1 + length p)) r),
        command_small rules at c p known,
        most_ahead (length (stamp frame)) (at + 1) (length p) (length r),
        ap (λ (x : ℕ). most (length (stamp frame)) x (length r)) next,
      )))

-- RXTimingSetupAns at every byte has just that
text_most : (frame at n : ℕ) → length (printed sent_up frame (walk_from (length_of sent_up) at (replicate n 8))) ≡ most (length (stamp frame)) at n
unfolding most ascii
text_most frame at zero =
    ap (λ (w : Walk). length (printed sent_up frame w)) (walk_nil (length_of sent_up) at)
    ∙ finish_long sent_up frame (end at)
    ∙ ap (λ (k : ℕ). length (stamp frame) + k) (end_long at)
text_most frame at (suc n) =
    ap (λ (w : Walk). length (printed sent_up frame w)) (walk_command (length_of sent_up) at 8 [] (replicate n 8) refl)
    ∙ after_long sent_up frame (placed at 8 []) (walk_from (length_of sent_up) (at + 1) (replicate n 8))
    ∙ ap₂ (λ (a b : ℕ). length (stamp frame) + a + b) (command_long sent_up at 8 [] ∙ omega arith) (text_most frame (at + 1) n)

pub longest_text : LongestText
longest_text rules frame s = omega (arith, text_small rules frame (view (length_of rules) 0 s), text_most frame 0 (length s))

most_of_1024 : (rules : Rules) (frame k : ℕ) (s : List ℕ) → length (stamp frame) ≤ k → length s ≤ 1024 → length (listing_of rules frame s) ≤ most k 0 1024
most_of_1024 rules frame k s begins h =
    let all : length s + (1024 - length s) ≡ 1024 = omega arith in
    omega (
      arith,
      text_small rules frame (view (length_of rules) 0 s),
      most_more (length (stamp frame)) 0 (length s) (1024 - length s),
      ap (most (length (stamp frame)) 0) all,
      most_wider (length (stamp frame)) k 0 1024 begins,
    )

pub text_of_1024 : TextOf1024
unfolding most decimal digits
text_of_1024 = record {
  in-frame-0 = λ rules s h. most_of_1024 rules 0 2 s (omega (arith, stamp_long 0, ap length (decimal_one 0 (omega arith)))) h;
  in-any = λ rules frame s small h. most_of_1024 rules frame 11 s (stamp_few frame small) h;
}

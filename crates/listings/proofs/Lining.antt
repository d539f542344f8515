-- A line's parts, and their lengths. Assumes nothing.
use Prim.Native.Nat.{ℕ, ◌+◌, ◌*◌, ◌^◌, ◌<◌, ◌≤◌}
use Prim.Native.String.{String}
use mathlib.Core.Bool.{Bool, true, false, cond}
use mathlib.Core.List.{List, [], ◌∷◌, ◌++◌, append_assoc}
use mathlib.Core.Option.{Option, some}
use mathlib.Core.Path.{◌≡◌, refl, sym, ap, ◌∙◌}
use native.Mathlib.Omega.{arith}
use lib.Dec.{eqb, leb}
use lib.ListN.{length, get_or, length-append, drop, length-take, length-drop}
use lib.Seq.{length-take-le}
use lib.Text.{eqt}
use Rattle.std.proofs.lemmas.Bool.Decides.{nat_tests}
use borrow.Author.Tests.{eqb-true, leb-true}
use Rattle.table.specs.declared.rules.Direction.{Direction}
use Rattle.table.specs.declared.rules.Direction.TheVariants.{Down, Up}
use Rattle.table.specs.declared.rules.Rules.{Rules}
use Rattle.table.specs.Table.{Row, rows, side_of, length_in, length_of, name_in, name_of}
use Rattle.fields.specs.Mask.{channel_on, channels_on, how_many, statuses_of}
use Rattle.fields.specs.Places.{bytes_at, link_adr_req_channel_mask}
use Rattle.fields.proofs.Lists.{length_tabulate}
use Rattle.text.specs.Characters.{ascii, letter_of}
use Rattle.text.specs.Decimal.{decimal}
use Rattle.text.specs.Hex.{hex_byte, hex_field}
use Rattle.text.specs.Lines.{Line, joined, line}
use Rattle.text.proofs.Decimals.{decimal_at_most}
use Rattle.text.proofs.Naming.{names_pass, every_name}
use Rattle.walk.specs.Walk.{placed, end, stop}
use Rattle.listings.specs.Listing.{channels, command_line, last_line, in_frame}
use Rattle.listings.specs.Passes.{body_at, stamp, before, behind, is_counted}

-- ---- which command has a count

-- whether a byte's name is this one, by the rows
unfoldable among : String → List Row → Direction → ℕ → Bool
among n [] d c = eqt "" n
among n (r ∷ rs) d c = cond (eqb c r.cid) (eqt (side_of d r.down r.up) n) (among n rs d c)

name_among : (n : String) (rs : List Row) (d : Direction) (c : ℕ) → eqt (name_in rs d c) n ≡ among n rs d c
unfolding among
name_among n [] d c = refl
name_among n (r ∷ rs) d c = by (eqb c r.cid) (name_among n rs d c)
  where
    by : (b : Bool) → eqt (name_in rs d c) n ≡ among n rs d c
        → eqt (cond b (side_of d r.down r.up) (name_in rs d c)) n ≡ cond b (eqt (side_of d r.down r.up) n) (among n rs d c)
    by true rest = refl
    by false rest = rest

never : (b : Bool) → cond b false false ≡ false
never true = refl
never false = refl

counted_up : (c : ℕ) → is_counted (record { direction = Up }) c ≡ false
unfolding among
counted_up c = name_among "LinkADRReq" rows Up c ∙ simp never

counted_down : (c : ℕ) → is_counted (record { direction = Down }) c ≡ eqb c 3
unfolding among
counted_down c = name_among "LinkADRReq" rows Down c ∙ simp never (by (eqb c 3) refl)
  where
    by : (b : Bool) → eqb c 3 ≡ b → cond (eqb c 2) false (cond b true false) ≡ b
    by true e = ap (λ (k : ℕ). cond (eqb k 2) false true) (eqb-true c 3 e)
    by false e = never (eqb c 2)

-- the CID 03, sent down, and no other
abbrev pub counted_in : Direction → ℕ → Bool
counted_in Down c = eqb c 3
counted_in Up c = false

pub counted_is : (d : Direction) (c : ℕ) → is_counted (record { direction = d }) c ≡ counted_in d c
counted_is Down c = counted_down c
counted_is Up c = counted_up c

-- its payload has four bytes
four_of : (d : Direction) (c n : ℕ) → counted_in d c ≡ true → length_in rows d c ≡ some n → n ≡ 4
four_of Down c n e l = let c_is : c ≡ 3 = eqb-true c 3 e in let m : ◌≡◌ {A = Option ℕ} (some 4) (some n) = sym (ap (length_in rows Down) c_is) ∙ l in cc
four_of Up c n e l = let no_way : ◌≡◌ {A = Bool} false true = e in cc

pub counted_four : (rules : Rules) (c n : ℕ) → is_counted rules c ≡ true → length_of rules c ≡ some n → n ≡ 4
counted_four rules c n e l = four_of rules.direction c n (sym (counted_is rules.direction c) ∙ e) l

-- ---- the parts of a line

pub frame_parts : (frame : ℕ) (l : Line) → line (in_frame frame l) ≡ stamp frame ++ line l
unfolding joined
frame_parts frame l = sym (append_assoc (decimal frame) (9 ∷ []) (line l))

module _ (rules : Rules) (at cid : ℕ) (body : List ℕ) where
  pub command_parts : line (command_line rules (placed at cid body)) ≡ before rules at cid ++ hex_field body ++ behind (is_counted rules cid) (channels body)
  unfolding joined
  command_parts = by (is_counted rules cid)
    where
      by : (b : Bool)
          → joined (decimal at) (ascii (letter_of rules.direction) ∷ hex_byte cid ∷ ascii (name_of rules cid) ∷ hex_field body ∷ cond b (decimal (channels body) ∷ []) [])
          ≡ before rules at cid ++ hex_field body ++ behind b (channels body)
      by true = simp append_assoc
      by false = simp append_assoc

-- ---- lengths

pub stamp_long : (frame : ℕ) → length (stamp frame) ≡ length (decimal frame) + 1
stamp_long frame = length-append (decimal frame) (9 ∷ [])

pub frame_long : (frame : ℕ) (l : Line) → length (line (in_frame frame l)) ≡ length (stamp frame) + length (line l)
frame_long frame l = ap length (frame_parts frame l) ∙ length-append (stamp frame) (line l)

pub letter_down : ascii "D" ≡ 68 ∷ []
unfolding ascii
letter_down = refl

pub letter_up : ascii "U" ≡ 85 ∷ []
unfolding ascii
letter_up = refl

pub letter_long : (d : Direction) → length (ascii (letter_of d)) ≡ 1
unfolding ascii
letter_long Down = refl
letter_long Up = refl

pub before_long : (rules : Rules) (at cid : ℕ) → length (before rules at cid) ≡ length (decimal at) + 7 + length (ascii (name_of rules cid))
before_long rules at cid = simp length-append (omega (arith, letter_long rules.direction))

pub body_long : (s : List ℕ) (at len : ℕ) → at + 1 + len ≤ length s → length (body_at s at len) ≡ len
body_long s at len h = length-take-le len (drop (at + 1) s) (simp length-drop (omega arith))

pub command_long : (rules : Rules) (at cid : ℕ) (body : List ℕ) → length (line (command_line rules (placed at cid body)))
    ≡ length (decimal at) + 7 + length (ascii (name_of rules cid)) + length (hex_field body) + length (behind (is_counted rules cid) (channels body))
command_long rules at cid body = ap length (command_parts rules at cid body) ∙ simp length-append (omega (arith, letter_long rules.direction))

pub end_long : (at : ℕ) → length (line (last_line (end at))) ≡ length (decimal at) + 5
unfolding joined ascii
end_long at = length-append (decimal at) (9 ∷ joined (ascii "end") [])

pub stop_long : (number at : ℕ) → length (line (last_line (stop number at))) ≡ length (decimal at) + 7 + length (decimal number)
unfolding joined ascii
stop_long number at =
    length-append (decimal at) (9 ∷ joined (ascii "stop") (decimal number ∷ []))
    ∙ simp length-append (omega arith)

-- ---- bounds: a number of 64 bits has 20 digits at most, one of 32 bits 10, and a name 16 letters

pub digits_few : (n : ℕ) → n < 2 ^ 64 → length (decimal n) ≤ 20
digits_few n h = decimal_at_most 19 n (omega arith)

pub stamp_few : (frame : ℕ) → frame < 2 ^ 32 → length (stamp frame) ≤ 11
stamp_few frame h = omega (arith, stamp_long frame, decimal_at_most 9 frame (omega arith))

short_by : (d : Direction) → names_pass (λ (n : String). leb (length (ascii n)) 16) d rows ≡ true
unfolding ascii names_pass
short_by Down = refl
short_by Up = refl

pub name_few : (rules : Rules) (c : ℕ) → length (ascii (name_of rules c)) ≤ 16
unfolding ascii
name_few rules c =
    every_name (λ (n : String). length (ascii n) ≤ 16) (λ (n : String). leb (length (ascii n)) 16) (λ n e. leb-true (length (ascii n)) 16 e) (omega arith)
    rules.direction rows c (short_by rules.direction)

-- ---- what stands behind a payload

pub counted_long : {b : Bool} (n : ℕ) → b ≡ true → length (behind b n) ≡ 2 + length (decimal n)
counted_long n e = ap (λ (x : Bool). length (behind x n)) e ∙ simp length-append (omega arith)

-- the bytes of a payload of four, one by one
pub four_listed : (s : List ℕ) → length s ≡ 4 → get_or s 0 0 ∷ get_or s 1 0 ∷ get_or s 2 0 ∷ get_or s 3 0 ∷ [] ≡ s
four_listed (a ∷ b ∷ c ∷ d ∷ []) h = refl
four_listed [] h = absurd (omega arith)
four_listed (a ∷ []) h = absurd (omega arith)
four_listed (a ∷ b ∷ []) h = absurd (omega arith)
four_listed (a ∷ b ∷ c ∷ []) h = absurd (omega arith)
four_listed (a ∷ b ∷ c ∷ d ∷ e ∷ s) h = absurd (omega arith)

-- no more are on than there are
on_few : (bs : List Bool) → how_many bs ≤ length bs
on_few [] = omega arith
on_few (true ∷ bs) = let h = on_few bs in omega arith
on_few (false ∷ bs) = let h = on_few bs in omega arith

channels_few : (body : List ℕ) → channels body ≤ 16
channels_few body = by (bytes_at link_adr_req_channel_mask body) (simp length-take (omega arith))
  where
    by : (m : List ℕ) → length m ≤ 2 → channels_on m ≤ 16
    by m h = omega (arith, on_few (statuses_of (8 * length m) m), length_tabulate (8 * length m) (channel_on m))

pub behind_few : (b : Bool) (body : List ℕ) → length (behind b (channels body)) ≤ 4
behind_few true body = omega (arith, counted_long (channels body) refl, decimal_at_most 1 (channels body) (let h = channels_few body in omega arith))
behind_few false body = omega arith

pub payload_few : (len : ℕ) → len ≤ 5 → cond (eqb len 0) 1 (2 * len) ≤ 10
payload_few len h = grind (arith, nat_tests)

-- ---- a payload's field, by whether there are bytes

pub dash_is : (s : List ℕ) → length s ≡ 0 → hex_field s ≡ 45 ∷ []
unfolding ascii
dash_is [] h = refl
dash_is (b ∷ s) h = absurd (omega arith)

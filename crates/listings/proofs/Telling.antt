-- The text of a walk fixes its frame and the walk: specs/Telling.antt. Assumes nothing.
use Prim.Native.Nat.{ℕ}
use Prim.Native.String.{String}
use mathlib.Core.Bool.{Bool, true, false, cond}
use mathlib.Core.List.{List, [], ◌∷◌, map}
use mathlib.Core.Path.{◌≡◌, refl, sym, ap, ap₂, ◌∙◌}
use native.Mathlib.Omega.{arith}
use lib.ListN.{length, get_or}
use Rattle.bits.specs.Every.{Every}
use Rattle.table.specs.declared.rules.Direction.{Direction}
use Rattle.table.specs.declared.rules.Direction.TheVariants.{Down, Up}
use Rattle.table.specs.declared.rules.Rules.{Rules}
use Rattle.table.specs.Table.{rows, name_of}
use Rattle.text.specs.Characters.{ascii, letter_of}
use Rattle.text.specs.Decimal.{decimal}
use Rattle.text.specs.Hex.{hex_byte, hex_of}
use Rattle.text.specs.Lines.{Line, Plain, PlainLine, PlainText}
use Rattle.text.proofs.Decimals.{decimal_injective, decimal_plain}
use Rattle.text.proofs.Hexes.{hex_injective, hex_plain, field_injective, field_plain}
use Rattle.text.proofs.Lines.{head_is, tail_is, text_apart, visible, visible_plain}
use Rattle.text.proofs.Naming.{names_pass, every_name}
use Rattle.walk.specs.Walk.{Cmd, Placed, Ending, end, stop, Walk, finish, after}
use Rattle.listings.specs.Listing.{channels, command_line, last_line, in_frame, lines_of}
use Rattle.listings.specs.Passes.{is_counted}
use Rattle.listings.specs.Telling.{TextFixesWalk}

-- ---- every line is plain

visible_by : (d : Direction) → names_pass (λ (n : String). visible (ascii n)) d rows ≡ true
unfolding ascii visible names_pass
visible_by Down = refl
visible_by Up = refl

name_plain : (rules : Rules) (c : ℕ) → Plain (ascii (name_of rules c))
unfolding ascii
name_plain rules c =
    every_name (λ (n : String). Plain (ascii n)) (λ (n : String). visible (ascii n)) (λ n e. visible_plain (ascii n) e) tt
    rules.direction rows c (visible_by rules.direction)

letter_plain : (d : Direction) → Plain (ascii (letter_of d))
unfolding ascii visible
letter_plain Down = visible_plain (ascii (letter_of Down)) refl
letter_plain Up = visible_plain (ascii (letter_of Up)) refl

byte_plain : (b : ℕ) → Plain (hex_byte b)
unfolding hex_of
byte_plain b = hex_plain (b ∷ [])

last_plain : (e : Ending) → PlainLine (last_line e)
unfolding ascii visible
last_plain (end at) = (decimal_plain at, (visible_plain (ascii "end") refl, tt))
last_plain (stop number at) = (decimal_plain at, (visible_plain (ascii "stop") refl, (decimal_plain number, tt)))

module _ (rules : Rules) where
  command_plain : (p : Placed) → PlainLine (command_line rules p)
  command_plain p =
      (decimal_plain p.at, (letter_plain rules.direction, (byte_plain p.cmd.cid, (name_plain rules p.cmd.cid, (field_plain p.cmd.body, count_plain (is_counted rules p.cmd.cid))))))
    where
      count_plain : (b : Bool) → Every Plain (cond b (decimal (channels p.cmd.body) ∷ []) [])
      count_plain true = (decimal_plain (channels p.cmd.body), tt)
      count_plain false = tt

  pub lines_plain : (ps : List Placed) (e : Ending) → PlainText (lines_of rules ps e)
  unfolding lines_of
  lines_plain [] e = (last_plain e, tt)
  lines_plain (p ∷ ps) e = (command_plain p, lines_plain ps e)

framed_plain : (f : ℕ) (ls : List Line) → PlainText ls → PlainText (map (in_frame f) ls)
framed_plain f [] p = tt
framed_plain f (l ∷ ls) p = ((decimal_plain f, p.0), framed_plain f ls p.1)

-- ---- a line fixes what it is of

byte_fixed : (a b : ℕ) → hex_byte a ≡ hex_byte b → a ≡ b
unfolding hex_of
byte_fixed a b e = head_is (hex_injective (a ∷ []) (b ∷ []) e)

-- a line's fields behind its first: one of them, and how many there are
abbrev field : ℕ → Line → List ℕ
field i l = get_or l.more i []

abbrev fields : Line → ℕ
fields l = length l.more

last_fixed : (d e : Ending) → last_line d ≡ last_line e → d ≡ e
last_fixed (end a) (end b) h = ap end (decimal_injective a b (ap (λ (l : Line). l.first) h))
last_fixed (end a) (stop n b) h = absurd (omega (arith, ap fields h))
last_fixed (stop n a) (end b) h = absurd (omega (arith, ap fields h))
last_fixed (stop n a) (stop k b) h =
    ap₂ stop (decimal_injective n k (ap (field 1) h)) (decimal_injective a b (ap (λ (l : Line). l.first) h))

module _ (rules : Rules) where
  command_fixed : (p q : Placed) → command_line rules p ≡ command_line rules q → p ≡ q
  command_fixed p q e =
      ap₂ (λ (at : ℕ) (c : Cmd). record { at = at; cmd = c }) (decimal_injective p.at q.at (ap (λ (l : Line). l.first) e))
      (ap₂ (λ (cid : ℕ) (body : List ℕ). record { cid = cid; body = body })
      (byte_fixed p.cmd.cid q.cmd.cid (ap (field 1) e))
      (field_injective p.cmd.body q.cmd.body (ap (field 3) e)))

  -- a command's line has more fields than a last line
  no_last : (p : Placed) (e : Ending) → command_line rules p ≡ last_line e → ⊥
  no_last p (end a) h = omega (arith, ap fields h)
  no_last p (stop n a) h = omega (arith, ap fields h)

  lines_fixed : (ps qs : List Placed) (d e : Ending) → lines_of rules ps d ≡ lines_of rules qs e
      → ◌≡◌ {A = Walk} (record { cmds = ps; ending = d }) (record { cmds = qs; ending = e })
  unfolding lines_of
  lines_fixed [] [] d e h = ap finish (last_fixed d e (head_is h))
  lines_fixed [] (q ∷ qs) d e h = absurd (no_last q d (sym (head_is h)))
  lines_fixed (p ∷ ps) [] d e h = absurd (no_last p e (head_is h))
  lines_fixed (p ∷ ps) (q ∷ qs) d e h =
      ap₂ after (command_fixed p q (head_is h)) (lines_fixed ps qs d e (tail_is h))

-- ---- lines in a frame fix it, and the lines

unframed : (f g : ℕ) (l m : Line) → in_frame f l ≡ in_frame g m → l ≡ m
unframed f g l m e =
    let fields : l.first ∷ l.more ≡ m.first ∷ m.more = ap (λ (l : Line). l.more) e in
    ap₂ (λ (x : List ℕ) (xs : List (List ℕ)). record { first = x; more = xs }) (head_is fields) (tail_is fields)

all_unframed : (f g : ℕ) (ls ms : List Line) → map (in_frame f) ls ≡ map (in_frame g) ms → ls ≡ ms
all_unframed f g [] [] e = refl
all_unframed f g [] (m ∷ ms) e = absurd (omega (arith, ap length e))
all_unframed f g (l ∷ ls) [] e = absurd (omega (arith, ap length e))
all_unframed f g (l ∷ ls) (m ∷ ms) e = ap₂ (λ (x : Line) (xs : List Line). x ∷ xs) (unframed f g l m (head_is e)) (all_unframed f g ls ms (tail_is e))

-- the first field of all
abbrev opening : List Line → List ℕ
opening [] = []
opening (l ∷ ls) = l.first

opens : (rules : Rules) (f : ℕ) (ps : List Placed) (e : Ending) → opening (map (in_frame f) (lines_of rules ps e)) ≡ decimal f
unfolding lines_of
opens rules f [] e = refl
opens rules f (p ∷ ps) e = refl

pub text_fixes_walk : TextFixesWalk
text_fixes_walk rules f g v w e =
    let ls : List Line = lines_of rules v.cmds v.ending in
    let ms : List Line = lines_of rules w.cmds w.ending in
    let same : map (in_frame f) ls ≡ map (in_frame g) ms =
    text_apart (map (in_frame f) ls) (map (in_frame g) ms)
    (framed_plain f ls (lines_plain rules v.cmds v.ending)) (framed_plain g ms (lines_plain rules w.cmds w.ending)) e in (
      decimal_injective f g (sym (opens rules f v.cmds v.ending) ∙ ap opening same ∙ opens rules g w.cmds w.ending),
      lines_fixed rules v.cmds w.cmds v.ending w.ending (all_unframed f g ls ms same),
    )

-- A trace's lines (RULES: X1 to X3): each is defined by how it is written, and reading is the inverse of that.
use Rattle.std.specs.Prelude.{ℕ, zero, suc, ◌<◌, Bool, true, false, cond, ◌&&◌, List, [], ◌∷◌, ◌++◌, map, ◌≡◌, eqb, ltb, length, drop}
use Rattle.std.proofs.Math.Option.{Option, none, some}
use Rattle.bits.specs.Bits.{Byte}
use Rattle.bits.specs.Every.{Every}
use Rattle.table.specs.declared.rules.Direction.{Direction}
use Rattle.table.specs.declared.rules.Direction.TheVariants.{Down, Up}
use Rattle.text.specs.Characters.{ascii, letter_of}
use Rattle.text.specs.Decimal.{decimal, value_of}
use Rattle.text.specs.Hex.{hex_field, bytes_of}
use Rattle.text.specs.Lines.{Line, line}

-- what a line says: in this frame this stream was sent in this direction
pub record TraceLine : Type 0 where
  pub frame : ℕ
  pub direction : Direction
  pub stream : List ℕ

-- a frame's number has 32 bits, and its stream at most 255 bytes
pub record Lawful (l : TraceLine) : Type 0 where
  pub frame : l.frame < 4_294_967_296
  pub size : length l.stream < 256
  pub bytes : Every Byte l.stream

-- X1: the frame's number, the direction's letter, the stream
abbrev pub fields_of : TraceLine → Line
fields_of l = record { first = decimal l.frame; more = ascii (letter_of l.direction) ∷ hex_field l.stream ∷ [] }

unfoldable pub written : TraceLine → List ℕ
written l = line (fields_of l)

-- the lines of a trace, one behind the other
unfoldable pub written_all : List TraceLine → List ℕ
written_all [] = []
written_all (l ∷ ls) = written l ++ written_all ls

-- ---- reading

-- what stands before the first c, and what stands behind it
unfoldable pub up_to : ℕ → List ℕ → List ℕ
up_to c [] = []
up_to c (d ∷ s) = cond (eqb d c) [] (d ∷ up_to c s)

unfoldable pub behind : ℕ → List ℕ → List ℕ
behind c [] = []
behind c (d ∷ s) = cond (eqb d c) s (behind c s)

-- the text begins so
unfoldable pub begins : List ℕ → List ℕ → Bool
begins [] t = true
begins (c ∷ s) [] = false
begins (c ∷ s) (d ∷ t) = eqb c d && begins s t

abbrev pub direction_of : List ℕ → Direction
direction_of letter = cond (begins (ascii (letter_of Down)) letter) Down Up

-- the line that could stand in front of a text: its first three fields, read as if they had the form
abbrev pub likely : List ℕ → TraceLine
likely t = record {
  frame = value_of (up_to 9 t);
  direction = direction_of (up_to 9 (behind 9 t));
  stream = bytes_of (up_to 10 (behind 9 (behind 9 t)));
}

unfoldable pub all_bytes : List ℕ → Bool
all_bytes [] = true
all_bytes (b ∷ s) = ltb b 256 && all_bytes s

abbrev pub is_lawful : TraceLine → Bool
is_lawful l = ltb l.frame 4_294_967_296 && (ltb (length l.stream) 256 && all_bytes l.stream)

-- X2: it does, if the text begins as that line is written. Else the text begins with no line
unfoldable pub front : List ℕ → Option TraceLine
front t = cond (is_lawful (likely t) && begins (written (likely t)) t) (some (likely t)) none

-- the line in front, and then the lines behind it; where no line is in front, one that has not the form, and nothing more
abbrev pub parted : Option TraceLine → List ℕ → (List ℕ → List (Option TraceLine)) → List (Option TraceLine)
parted none t rest = none ∷ []
parted (some l) t rest = some l ∷ rest (drop (length (written l)) t)

abbrev pub parted_at : List ℕ → (List ℕ → List (Option TraceLine)) → List (Option TraceLine)
parted_at [] rest = []
parted_at (c ∷ s) rest = parted (front (c ∷ s)) (c ∷ s) rest

-- in at most so many lines, which only bounds the recursion
unfoldable pub lines_within : (most : ℕ) → List ℕ → List (Option TraceLine)
lines_within zero t = []
lines_within (suc k) t = parted_at t (lines_within k)

-- X3: the lines of a text, up to the first that has not the form
unfoldable pub lines_of : List ℕ → List (Option TraceLine)
lines_of t = lines_within (length t) t

-- ---- what is claimed of it. proofs/Tracing.antt proves each claim

-- a text begins with a line exactly if it is that line's text and something behind it, and then with one line only
pub record BeginsWith (t : List ℕ) (l : TraceLine) : Type 0 where
  pub lawful : Lawful l
  pub rest : List ℕ
  pub text : t ≡ written l ++ rest

pub record ReadIsInverse : Type 0 where
  pub read : (t : List ℕ) (l : TraceLine) → front t ≡ some l → BeginsWith t l
  pub back : (t : List ℕ) (l : TraceLine) → BeginsWith t l → front t ≡ some l
  pub one : (t : List ℕ) (l m : TraceLine) (p : BeginsWith t l) (q : BeginsWith t m) → (l ≡ m) × (p.rest ≡ q.rest)

-- a trace is read back as it was written, and what is behind its lines is read behind them
pub record TraceReadBack : Type 0 where
  pub joined : (ls : List TraceLine) (t : List ℕ) → Every Lawful ls → lines_of (written_all ls ++ t) ≡ map some ls ++ lines_of t
  pub all : (ls : List TraceLine) → Every Lawful ls → lines_of (written_all ls) ≡ map some ls
  pub only : (t : List ℕ) (ls : List TraceLine) → lines_of t ≡ map some ls → Every Lawful ls × (t ≡ written_all ls)

-- What a reader of such a text can rely on (RULES: L12). proofs/Telling.antt proves each claim.
use Rattle.std.specs.Prelude.{ℕ, List, ◌++◌, ◌≡◌}
use Rattle.bits.specs.Bits.{Byte}
use Rattle.bits.specs.Every.{Every}
use Rattle.text.specs.Decimal.{decimal, value_of, Numeral}
use Rattle.text.specs.Hex.{hex_of, bytes_of, Pairs}
use Rattle.text.specs.Lines.{Line, line, text, PlainLine, PlainText, Ended}

-- a number has one spelling: it is a numeral, it gives the number back, and every numeral is the spelling of what it means
pub record OneSpelling : Type 0 where
  pub numeral : (n : ℕ) → Numeral (decimal n)
  pub back : (n : ℕ) → value_of (decimal n) ≡ n
  pub only : (s : List ℕ) → Numeral s → decimal (value_of s) ≡ s

-- so have bytes: they are pairs of digits, which give them back, and all pairs mean bytes and are their spelling
pub record BytesBack : Type 0 where
  pub pairs : (s : List ℕ) → Every Byte s → Pairs (hex_of s)
  pub back : (s : List ℕ) → bytes_of (hex_of s) ≡ s
  pub bytes : (s : List ℕ) → Pairs s → Every Byte (bytes_of s)
  pub only : (s : List ℕ) → Pairs s → hex_of (bytes_of s) ≡ s

-- a line's fields can be told apart again, whatever stands behind the line, and so can a text's lines; and the texts of lines are those that end in
-- a newline
pub record ToldApart : Type 0 where
  pub lines : (l m : Line) (x y : List ℕ) → PlainLine l → PlainLine m → line l ++ x ≡ line m ++ y → (l ≡ m) × (x ≡ y)
  pub texts : (ls ms : List Line) → PlainText ls → PlainText ms → text ls ≡ text ms → ls ≡ ms
  pub ended : (ls : List Line) → Ended (text ls)
  pub parted : (t : List ℕ) → Ended t → (ls : List Line) × (PlainText ls × (text ls ≡ t))

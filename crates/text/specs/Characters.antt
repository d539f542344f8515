-- Words in ASCII.
use Prim.Native.Char.{code}
use Rattle.std.specs.Prelude.{ℕ, List, [], ◌∷◌, get_or}
use Prim.Native.String.{String, [] as none, ◌∷◌ as ◌then◌}
use Rattle.table.specs.declared.rules.Direction.{Direction}
use Rattle.table.specs.declared.rules.Direction.TheVariants.{Down, Up}

-- the characters' codes, one after another
unfoldable pub ascii : String → List ℕ
ascii none = []
ascii (c then s) = code c ∷ ascii s

-- the first of them
abbrev pub character_of : String → ℕ
character_of s = get_or (ascii s) 0 0

-- the letter of each direction
abbrev pub letter_of : Direction → String
letter_of Down = "D"
letter_of Up = "U"

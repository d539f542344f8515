-- The entries of a stream (RULES: J1 to J3): where every sixteenth of its commands is.
use Rattle.std.specs.Prelude.{ℕ, zero, suc, cond, List, [], ◌∷◌, ltb, length}
use Rattle.bits.specs.Memory.{over}
use Rattle.table.specs.Answers.{Answer, given, refused}
use Rattle.walk.specs.Walk.{Rule, Placed, walk_of}

-- the offset of the first of these commands behind `pass` others, and of every sixteenth from there on
abbrev pub sixteenths : (pass : ℕ) → List Placed → List ℕ
sixteenths pass [] = []
sixteenths zero (p ∷ ps) = p.at ∷ sixteenths 15 ps
sixteenths (suc pass) (p ∷ ps) = sixteenths pass ps

-- the offsets of the walk's commands 0, 16, 32 and so on. Where the walk stops, they end there
abbrev pub entries_of : Rule → List ℕ → List ℕ
entries_of L s = sixteenths 0 (walk_of L s).cmds

-- the entries at the front of lent numbers, and how many they are. Refusal 4, BufferTooShort, where the numbers are fewer; then 5, InvalidIndex, where the
-- stream has more bytes than a number of 32 bits can tell, even if each offset would be such a number
unfoldable pub made : Rule → (s numbers : List ℕ) → Answer ℕ × List ℕ
made L s numbers =
    cond (ltb (length numbers) (length (entries_of L s))) (refused 4, numbers) (cond (ltb 4_294_967_295 (length s)) (refused 5, numbers)
    (given (length (entries_of L s)), over numbers 0 (entries_of L s)))

-- The build (RULES: B1 to B4, F5), for any rule and any list of records.
use Rattle.std.specs.Prelude.{ℕ, ◌+◌, cond, List, [], ◌∷◌, leb, length}
use Rattle.bits.specs.Memory.{over}
use Rattle.table.specs.Answers.{Answer, given}
use Rattle.table.specs.Answers as Answers
use Rattle.walk.specs.Walk.{Rule, encode}
use Rattle.build.specs.Records.{Item, cmds_of, judged_item}

-- what is answered: the total, or a refusal's number, with the place of the record that is at fault, counted from 0, where one is
pub data Built : Type 0 where
  total : ℕ → Built
  refused_at : (number place : ℕ) → Built
  refused : ℕ → Built

-- a record that takes n bytes goes into the total; one that is refused ends it
abbrev pub next : Answer ℕ → (place : ℕ) → (ℕ → Built) → Built
next (given n) place more = more n
next (Answers.refused k) place more = refused_at k place

-- records in order, from the one at `place` on, with `sum` bytes before it
unfoldable pub sum_from : Rule → (place sum : ℕ) → List Item → Built
sum_from L place sum [] = total sum
sum_from L place sum (x ∷ xs) = next (judged_item L x) place (λ n. sum_from L (place + 1) (sum + n) xs)

-- refusal 16, ListTooLong, then the records in order
abbrev pub total_of : Rule → List Item → Built
total_of L xs = cond (leb (length xs) 4096) (sum_from L 0 0 xs) (refused 16)

-- the bytes at the front of lent memory, if they are n and there is room: else refusal 4, BufferTooShort. A refusal leaves it as it was
abbrev pub fill : Built → List ℕ → List ℕ → Built × List ℕ
fill (total n) bytes out = cond (leb n (length out)) (total n, over out 0 bytes) (refused 4, out)
fill (refused_at k place) bytes out = (refused_at k place, out)
fill (refused k) bytes out = (refused k, out)

-- the bytes of the commands, one behind the other; memory behind them is as it was (RULES: B2)
abbrev pub build_of : Rule → List Item → List ℕ → Built × List ℕ
build_of L xs out = fill (total_of L xs) (encode (cmds_of xs)) out

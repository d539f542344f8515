-- A text into lent memory (RULES: L7 to L9).
use Rattle.std.specs.Prelude.{ℕ, cond, List, leb, length}
use Rattle.bits.specs.Memory.{over}
use Rattle.table.specs.Answers.{Answer, given, refused}

-- the most bytes that memory can have, which is the largest length that is told
abbrev pub largest : ℕ
largest = 18_446_744_073_709_551_615

-- its length, where there is so much room: else refusal 4, BufferTooShort
unfoldable pub length_within : (room : ℕ) → List ℕ → Answer ℕ
length_within room text = cond (leb (length text) room) (given (length text)) (refused 4)

-- written at the front, and its length: else refusal 4, and memory is as it was
unfoldable pub into : List ℕ → List ℕ → Answer ℕ × List ℕ
into text out = cond (leb (length text) (length out)) (given (length text), over out 0 text) (refused 4, out)

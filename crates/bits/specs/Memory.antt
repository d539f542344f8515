-- What it is to write bytes over lent memory.
use Rattle.std.specs.Prelude.{ℕ, ◌+◌, cond, List, ◌++◌, leb, length, take, drop}

-- memory with these bytes at an offset, in the place of those that stood there
abbrev pub over : List ℕ → ℕ → List ℕ → List ℕ
over out at bytes = take at out ++ (bytes ++ drop (at + length bytes) out)

-- bytes written at an offset, and the offset behind them. Where there is no room for all of them, nothing is written, and the offset stays
unfoldable pub written_at : List ℕ → ℕ → List ℕ → ℕ × List ℕ
written_at out at bytes = cond (leb (at + length bytes) (length out)) (at + length bytes, over out at bytes) (at, out)

-- Frequency (RULES: S5; the standard, 5.4 and 5.6): three bytes, the low one first, in steps of 100 Hz.
use Rattle.std.specs.Prelude.{ℕ, ◌*◌, List}
use Rattle.fields.specs.declared.frequency.Frequency.{Frequency}
use Rattle.fields.specs.Lists.{low_first}

abbrev pub bytes_of : Frequency → List ℕ
bytes_of f = f.0

abbrev pub hertz : List ℕ → ℕ
hertz bytes = low_first bytes * 100

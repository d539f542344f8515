-- What the build answers, as one number.
use Rattle.std.specs.Prelude.{ℕ, ◌+◌, ◌*◌, List, ◌≡◌}
use Rattle.table.specs.Table.{length_of}
use Rattle.payloads.specs.Commands.{sent_down}
use Rattle.build.specs.Build.{Built, total, refused_at, refused, build_of}
use Rattle.build.specs.Records.{slots_of}

-- below 2 ^ 32 it is the length written: 4,096 records of at most six bytes stay far below it. Else it is a refusal's number times
-- 2 ^ 32, and the place of the record at fault. Refusals 1 and 3 have such a record, and 4 and 16 have none, so nothing is told twice
abbrev pub in_one : Built → ℕ
in_one (total n) = n
in_one (refused_at k place) = k * 4_294_967_296 + place
in_one (refused k) = k * 4_294_967_296

-- that number, and the lent memory
abbrev pub with_one : Built × List ℕ → ℕ × List ℕ
with_one a = (in_one a.0, a.1)

-- two builds down with the same number have the same answer
abbrev pub TellsApart : Type 0
TellsApart =
    (r s o p : List ℕ) → in_one (build_of (length_of sent_down) (slots_of r) o).0 ≡ in_one (build_of (length_of sent_down) (slots_of s) p).0
    → (build_of (length_of sent_down) (slots_of r) o).0 ≡ (build_of (length_of sent_down) (slots_of s) p).0

-- A part of lent memory, told by its place as well as its bytes: two slices may hold the same bytes.
use Rattle.std.specs.Prelude.{ℕ, ◌+◌, List, take, drop}
use Rattle.std.specs.Borrow.{Bor}
use Rattle.table.specs.Answers.{Answer, given, refused}
use Rattle.walk.specs.Step.{Found, ended, command, stopped, Heading}

-- where it begins, as a block of memory and an offset there, and the bytes from there on
pub record Part : Type 0 where
  pub place : ℕ × ℕ
  pub bytes : List ℕ

-- a slice is the part that it shows
abbrev pub shown : Bor (List ℕ) → Part
shown s = record { place = s.ref_ptr; bytes = s.now }

-- the n bytes of a slice from offset a on
abbrev pub part_of : Bor (List ℕ) → (a n : ℕ) → Part
part_of s a n = record { place = (s.ref_ptr.0, a + s.ref_ptr.1); bytes = take n (drop a s.now) }

abbrev pub empty_front : Bor (List ℕ) → Part
empty_front s = part_of s 0 0

-- the payload that a step at an offset shows (RULES: W2): what stands behind the CID, and of a step without a command the stream's front, with
-- no bytes
abbrev pub payload_part : Bor (List ℕ) → ℕ → Answer (Found Heading) → Part
payload_part s at (given (command h next)) = part_of s (at + 1) h.len
payload_part s at (given ended) = empty_front s
payload_part s at (given (stopped n o)) = empty_front s
payload_part s at (refused n) = empty_front s

-- What the making of entries and the jump by them answer, each as one number.
use Rattle.std.specs.Prelude.{ℕ, ◌+◌, ◌*◌, ◌≤◌, ◌<◌, List, ◌≡◌}
use Rattle.table.specs.Answers.{Answer, given, refused}
use Rattle.table.specs.Table.{length_of}
use Rattle.payloads.specs.Commands.{sent_down}
use Rattle.jumps.specs.Entries.{made}
use Rattle.jumps.specs.Jump.{Spot, jumped}

-- below 2 ^ 32 it is how many entries were made: a stream of which they are made has fewer bytes than that. Else it is a refusal's number times 2 ^ 32
abbrev pub entries_in_one : Answer ℕ → ℕ
entries_in_one (given n) = n
entries_in_one (refused k) = k * 4_294_967_296

-- that number, and the lent numbers
abbrev pub with_entries : Answer ℕ × List ℕ → ℕ × List ℕ
with_entries a = (entries_in_one a.0, a.1)

-- the offset, and below it the CID and the length, a byte for each. No CID is below 2, so a number below 512 is a refusal's
abbrev pub spot_in_one : Answer Spot → ℕ
spot_in_one (given s) = s.at * 65_536 + s.cid * 256 + s.len
spot_in_one (refused k) = k

-- how each number is read: a count is below 2 ^ 32, and a refusal of the making is not; a command's CID and length are bytes, and its number is 512
-- or more, which that of a refusal is not. So two makings down with the same number have the same answer, and so have two jumps down, whatever the
-- streams, the lent numbers and the entries are
pub record JumpsTellApart : Type 0 where
  pub count : (s o : List ℕ) (n : ℕ) → (made (length_of sent_down) s o).0 ≡ given n → n < 4_294_967_296
  pub no_count : (s o : List ℕ) (k : ℕ) → (made (length_of sent_down) s o).0 ≡ refused k → 4_294_967_296 ≤ entries_in_one (refused k)
  pub spot : (s e : List ℕ) (n : ℕ) (x : Spot) → jumped (length_of sent_down) s e n ≡ given x → (x.cid < 256) × (x.len < 256) × (512 ≤ spot_in_one (given x))
  pub no_spot : (s e : List ℕ) (n k : ℕ) → jumped (length_of sent_down) s e n ≡ refused k → k < 512
  pub makings : (s t o p : List ℕ) → entries_in_one (made (length_of sent_down) s o).0 ≡ entries_in_one (made (length_of sent_down) t p).0
      → (made (length_of sent_down) s o).0 ≡ (made (length_of sent_down) t p).0
  pub jumps : (s t e f : List ℕ) (m n : ℕ) → spot_in_one (jumped (length_of sent_down) s e m) ≡ spot_in_one (jumped (length_of sent_down) t f n)
      → jumped (length_of sent_down) s e m ≡ jumped (length_of sent_down) t f n

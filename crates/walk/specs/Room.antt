-- Not for the auditor: only private functions cite this. What a typed step tests and reads behind a command's CID.
use Rattle.std.specs.Prelude.{ℕ, ◌≤◌, cond, List, leb, ltb, length, take}
use Rattle.std.proofs.Math.Option.{Option, none, some}
use Rattle.table.specs.Answers.{Answer, Consent, given, refused, accepted}
use Rattle.walk.specs.Walk.{Cmd}

-- whether a payload is all there, where so many bytes are left from its CID on: refusal 1, UnknownMacCommand, where the CID has no length,
-- and 2, TruncatedPayload, where the CID and the payload are more bytes than are left
abbrev pub room_for : Option ℕ → ℕ → Consent
room_for none left = refused 1
room_for (some n) left = cond (ltb n left) accepted (refused 2)

-- the payload is all there, in the bytes behind the CID
abbrev pub HasPayload : Option ℕ → List ℕ → Type 0
HasPayload none s = ⊥
HasPayload (some n) s = n ≤ length s

-- the command with this CID, of the bytes behind it
abbrev pub read_by : Option ℕ → (cid : ℕ) → List ℕ → Answer Cmd
read_by none cid s = refused 1
read_by (some n) cid s = cond (leb n (length s)) (given (record { cid = cid; body = take n s })) (refused 2)

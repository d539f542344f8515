-- A creator's image (RULES: K1): the command's CID, then its payload, so byte i of the payload is byte 1 + i of the image.
use Rattle.std.specs.Prelude.{ℕ, ◌+◌, ◌^◌, Bool, cond, List, ◌∷◌, ltb, get_or, set, replicate}
use Rattle.std.proofs.Math.Seq.{paste}
use Rattle.bits.specs.Bits.{set_field}
use Rattle.table.specs.Answers.{Consent, refused, accepted}
use Rattle.table.specs.Table.{Command}
use Rattle.fields.specs.Places.{Place, Run}

-- ---- a fresh image of a command

-- `new`: the CID, and zeros
abbrev pub new_of : Command → List ℕ
new_of c = c.cid ∷ replicate c.size 0

-- `default`, of a command with a payload: zeros, the first byte too
abbrev pub default_of : Command → List ℕ
default_of c = replicate (1 + c.size) 0

-- the length of either
abbrev pub image_length : Command → ℕ
image_length c = 1 + c.size

-- ---- what a setter writes

-- the image with v in that place of its payload
unfoldable pub put_at : Place → List ℕ → ℕ → List ℕ
put_at p image v = set image (1 + p.byte) (set_field p.lo p.width (get_or image (1 + p.byte) 0) v)

-- the image with these bytes in that run of its payload
unfoldable pub put_bytes : Run → List ℕ → List ℕ → List ℕ
put_bytes r image bytes = paste image (1 + r.byte) bytes r.count

-- what a setter answers that may refuse: where it accepts, the image as written; where not, refusal n and the image as it was
abbrev pub only_if : Bool → ℕ → List ℕ → List ℕ → Consent × List ℕ
only_if ok n image written = cond ok (accepted, written) (refused n, image)

-- a place takes the numbers that its bits can hold
unfoldable pub checked_at : Place → ℕ → List ℕ → ℕ → Consent × List ℕ
checked_at p n image v = only_if (ltb v (2 ^ p.width)) n image (put_at p image v)

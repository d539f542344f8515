-- The chooser (RULES: C1 to C4): which of the two places in a frame, FOpts or the payload, holds its MAC commands.
use Rattle.std.specs.Prelude.{ℕ, Bool, true, false, cond, ◌&&◌, List, eqb, ltb, length}
use Rattle.std.proofs.Math.Option.{Option, none, some}
use Rattle.std.specs.Borrow.{Bor}
use Rattle.table.specs.Answers.{Consent, given, refused, accepted}
use Rattle.walk.specs.Part.{Part, shown, empty_front}

abbrev pub non_empty : List ℕ → Bool
non_empty s = ltb 0 (length s)

abbrev pub is_none : Option ℕ → Bool
is_none none = true
is_none (some n) = false

abbrev pub is_zero : Option ℕ → Bool
is_zero none = false
is_zero (some n) = eqb n 0

-- R15: a payload, and no port
abbrev pub without_port : Option ℕ → List ℕ → Bool
without_port port payload = is_none port && non_empty payload

-- R14: more than 15 bytes of FOpts
abbrev pub too_long : List ℕ → Bool
too_long fopts = ltb 15 (length fopts)

-- C2: the commands are in the payload
abbrev pub in_payload : Option ℕ → List ℕ → Bool
in_payload port payload = is_zero port && non_empty payload

-- R13: commands in both places
abbrev pub in_both : Option ℕ → List ℕ → List ℕ → Bool
in_both port fopts payload = in_payload port payload && non_empty fopts

-- F4: in this order
abbrev pub verdict_of : Option ℕ → List ℕ → List ℕ → Consent
verdict_of port fopts payload =
    cond (without_port port payload) (refused 15) (cond (too_long fopts) (refused 14) (cond (in_both port fopts payload) (refused 13) accepted))

-- C4: the part that a verdict leaves: the payload or FOpts, and of a refusal the front of FOpts, with no bytes
abbrev pub by_verdict : Consent → Bool → Bor (List ℕ) → Bor (List ℕ) → Part
by_verdict (given _) in_payload fopts payload = cond in_payload (shown payload) (shown fopts)
by_verdict (refused n) in_payload fopts payload = empty_front fopts

abbrev pub chosen : Option ℕ → Bor (List ℕ) → Bor (List ℕ) → Part
chosen port fopts payload =
    by_verdict (verdict_of port fopts.now payload.now) (in_payload port payload.now) fopts payload

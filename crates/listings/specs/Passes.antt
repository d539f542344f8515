-- Not for the auditor: only private functions cite this. The line that a step at an offset is listed by.
use Rattle.std.specs.Prelude.{ℕ, ◌+◌, ◌≤◌, Bool, cond, List, [], ◌∷◌, ◌++◌, ◌≡◌, length, take, drop}
use Rattle.std.proofs.Math.Option.{some}
use lib.Text.{eqt}
use Rattle.table.specs.Answers.{Answer, given, refused}
use Rattle.table.specs.declared.rules.Rules.{Rules}
use Rattle.table.specs.Table.{length_of, name_of, named}
use Rattle.walk.specs.Step.{Found, ended, command, stopped, Heading}
use Rattle.walk.specs.Walk.{placed, end, stop}
use Rattle.text.specs.Characters.{ascii, letter_of}
use Rattle.text.specs.Decimal.{decimal}
use Rattle.text.specs.Hex.{hex_byte}
use Rattle.text.specs.Lines.{Line}
use Rattle.listings.specs.Listing.{command_line, last_line}

-- the payload of a command at an offset
abbrev pub body_at : List ℕ → (at len : ℕ) → List ℕ
body_at s at len = take len (drop (at + 1) s)

-- a step within the stream is not refused; for one that is, the line of the end stands here
abbrev pub step_line : Rules → List ℕ → ℕ → Answer (Found Heading) → Line
step_line rules s at (given (command h next)) = command_line rules (placed at h.cid (body_at s at h.len))
step_line rules s at (given ended) = last_line (end at)
step_line rules s at (given (stopped number o)) = last_line (stop number at)
step_line rules s at (refused n) = last_line (end at)

-- what every line begins with
abbrev pub stamp : (frame : ℕ) → List ℕ
stamp frame = decimal frame ++ (9 ∷ [])

-- what a command's line has before the payload, and what behind it
abbrev pub before : Rules → (at cid : ℕ) → List ℕ
before rules at cid =
    decimal at ++ (9 ∷ []) ++ ascii (letter_of rules.direction) ++ (9 ∷ []) ++ hex_byte cid ++ (9 ∷ []) ++ ascii (name_of rules cid) ++ (9 ∷ [])

abbrev pub behind : Bool → ℕ → List ℕ
behind counted n = cond counted ((9 ∷ []) ++ decimal n ++ (10 ∷ [])) (10 ∷ [])

abbrev pub is_counted : Rules → ℕ → Bool
is_counted rules cid = eqt (name_of rules cid) (named "LinkADRReq").name

-- a command stands at an offset, with its whole payload
pub record Stands (rules : Rules) (s : List ℕ) (at cid len : ℕ) : Type 0 where
  pub known : length_of rules cid ≡ some len
  pub fits : at + 1 + len ≤ length s

-- What the answers of this crate tell, in the numbers and values of docs/RULES.md (M11).
use Rattle.std.specs.Prelude.{ℕ, Result, Ok, Err}
use Rattle.table.specs.Answers.{refused, Consent, accepted}
use Rattle.table.specs.Refusals.{number_of}
use Rattle.ledger.specs.declared.exchange.BadLine.{BadLine}

-- a replay's verdict
abbrev pub told_replay : Result Unit BadLine → Consent
told_replay (Ok x) = accepted
told_replay (Err e) = refused (number_of e.reason)

-- the number of the line that is refused, and 0 for none
abbrev pub told_line : Result Unit BadLine → ℕ
told_line (Ok x) = 0
told_line (Err e) = e.line

-- What the answers of this crate tell, in the numbers and values of docs/RULES.md (M11).
use Rattle.std.specs.Prelude.{ℕ, Result, Ok, Err, Some, None}
use Rattle.std.specs.Prelude as Std
use Rattle.std.proofs.Math.Option.{Option, none, some}
use Rattle.table.specs.declared.refusal.Refusal.{Refusal}
use Rattle.table.specs.Answers.{Answer, Consent, given, refused}
use Rattle.table.specs.Refusals.{number_of}

-- an answer of the code, its value told in the numbers of the rules
abbrev pub told : {A B : Type 0} → (A → B) → Result A Refusal → Answer B
told f (Ok x) = given (f x)
told f (Err r) = refused (number_of r)

-- the answer of a call that gives no value
abbrev pub told_verdict : Result Unit Refusal → Consent
told_verdict v = told (λ _. tt) v

abbrev pub told_length : Std.Option ℕ → Option ℕ
told_length None = none
told_length (Some n) = some n

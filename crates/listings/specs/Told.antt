-- What the answers of this crate tell, in the numbers and values of docs/RULES.md (M11).
use Rattle.std.specs.Prelude.{ℕ, Result}
use Rattle.table.specs.Answers.{Answer}
use Rattle.table.specs.Told.{told}
use Rattle.table.specs.declared.refusal.Refusal.{Refusal}

abbrev pub told_listing : Result ℕ Refusal → Answer ℕ
told_listing r = told (λ n. n) r

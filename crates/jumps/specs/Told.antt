-- What the answers of this crate tell, in the numbers and values of docs/RULES.md (M11).
use Rattle.std.specs.Prelude.{ℕ, Result}
use Rattle.table.specs.Answers.{Answer}
use Rattle.table.specs.Told.{told}
use Rattle.table.specs.declared.refusal.Refusal.{Refusal}
use Rattle.jumps.specs.declared.jump.Spot as Code
use Rattle.jumps.specs.Jump.{Spot}

abbrev pub told_entries : Result ℕ Refusal → Answer ℕ
told_entries r = told (λ n. n) r

abbrev pub told_spot : Code.Spot → Spot
told_spot s = record { at = s.at; cid = s.cid; len = s.len }

abbrev pub told_jump : Result Code.Spot Refusal → Answer Spot
told_jump r = told told_spot r

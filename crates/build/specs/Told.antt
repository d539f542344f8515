-- What the answers of this crate tell, in the numbers and values of docs/RULES.md (M11).
use Rattle.std.specs.Prelude.{ℕ, Result, Ok, Err}
use Rattle.table.specs.Answers.{Answer}
use Rattle.table.specs.Refusals.{number_of}
use Rattle.table.specs.Told.{told}
use Rattle.table.specs.declared.refusal.Refusal.{Refusal}
use Rattle.walk.specs.Step.{Found, Heading}
use Rattle.walk.specs.Told.{told_step}
use Rattle.build.specs.declared.handed.Handed.{Handed}
use Rattle.build.specs.declared.record.Record.{Record}
use Rattle.build.specs.declared.list.BuildError.{BuildError}
use Rattle.build.specs.Build.{Built, total, refused_at, refused}

abbrev pub told_judged : Result ℕ Refusal → Answer ℕ
told_judged r = told (λ n. n) r

abbrev pub told_build : Result ℕ BuildError → Built
told_build (Ok n) = total n
told_build (Err (BuildError.At r place)) = refused_at (number_of r) place
told_build (Err (BuildError.Whole r)) = refused (number_of r)

abbrev pub told_handed : Handed → Answer (Found Heading) × Record
told_handed h = (told_step h.step, h.«record»)

-- What a public function answers (RULES: F1, M11): a value, or the number of a refusal.
use Rattle.std.specs.Prelude.{ℕ}

pub data Answer (A : Type 0) : Type 0 where
  given : A → Answer A
  refused : ℕ → Answer A

-- the answer of a call that gives no value
abbrev pub Consent : Type 0
Consent = Answer Unit

abbrev pub accepted : Consent
accepted = given tt

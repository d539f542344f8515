-- The chooser's rules (RULES: C1 to C4), of every verdict and every part that its contracts admit.
use Rattle.std.specs.Prelude.{ℕ, ◌<◌, ◌≤◌, List, ◌≡◌, length, Result, Option}
use Rattle.std.proofs.Math.Option.{none, some}
use Rattle.std.specs.Borrow.{Bor}
use Rattle.table.specs.Answers.{refused, accepted}
use Rattle.table.specs.Told.{told_verdict}
use Rattle.table.specs.declared.refusal.Refusal.{Refusal}
use Rattle.walk.specs.Part.{shown, empty_front}
use Rattle.walk.specs.Told.{told_port}
use Rattle.walk.proofs.chooser.choose.Reads as choose
use Rattle.walk.proofs.chooser.choose_verdict.Reads as choose_verdict
use Rattle.claims.specs.Outcomes.{Gives}

-- no port, and a payload
pub record WithoutPort (payload : Bor (List ℕ)) (port : Option ℕ) : Type 0 where
  pub no_port : told_port port ≡ none
  pub some_payload : 0 < length payload.now

-- port 0, and a payload
pub record InPayload (payload : Bor (List ℕ)) (port : Option ℕ) : Type 0 where
  pub port_zero : told_port port ≡ some 0
  pub some_payload : 0 < length payload.now

module _ (fopts payload : Bor (List ℕ)) (port : Option ℕ) where
  -- the verdict: refusal 15 before 14 before 13
  pub record RightVerdict (v : Result Unit Refusal) : Type 0 where
    pub without_port : WithoutPort payload port → told_verdict v ≡ refused 15
    pub too_long : (WithoutPort payload port → ⊥) → 15 < length fopts.now → told_verdict v ≡ refused 14
    pub in_both : InPayload payload port → 0 < length fopts.now → length fopts.now ≤ 15 → told_verdict v ≡ refused 13
    pub accepts : (WithoutPort payload port → ⊥) → length fopts.now ≤ 15 → (InPayload payload port → length fopts.now ≡ 0) → told_verdict v ≡ accepted

  -- the part: all of the payload or all of FOpts, where it lies in memory; where the verdict refuses, FOpts' front, with no bytes
  pub record Chosen (v : Result Unit Refusal) (r : Bor (List ℕ)) : Type 0 where
    pub from_payload : told_verdict v ≡ accepted → InPayload payload port → shown r ≡ shown payload
    pub from_fopts : told_verdict v ≡ accepted → (InPayload payload port → ⊥) → shown r ≡ shown fopts
    pub nothing : (n : ℕ) → told_verdict v ≡ refused n → shown r ≡ empty_front fopts

pub record Chooser : Type 0 where
  pub verdict : (fopts payload : Bor (List ℕ)) (port : Option ℕ) (v : Result Unit Refusal) → Gives choose_verdict.Post (fopts, (payload, (port, tt))) v → RightVerdict fopts payload port v
  pub part : (fopts payload : Bor (List ℕ)) (port : Option ℕ) (v : Result Unit Refusal) (r : Bor (List ℕ))
      → Gives choose_verdict.Post (fopts, (payload, (port, tt))) v → Gives choose.Post (fopts, (payload, (port, tt))) r → Chosen fopts payload port v r

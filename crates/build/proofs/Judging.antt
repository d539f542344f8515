-- A record held against what the rule says of its CID, case by case. Assumes nothing.
use Prim.Native.Nat.{ℕ, ◌+◌, ◌≤◌}
use mathlib.Core.Path.{◌≡◌, refl, sym, ap, ◌∙◌}
use mathlib.Core.Bool.{Bool, true, false, cond}
use mathlib.Core.Option.{Option, none, some}
use native.Mathlib.Omega.{arith}
use lib.Dec.{eqb}
use borrow.Author.Tests.{eq-eqb, ne_eqb, eqb-true}
use Rattle.table.specs.Answers.{given, refused}
use Rattle.table.specs.declared.rules.Rules.{Rules}
use Rattle.table.specs.Table.{length_of}
use Rattle.table.proofs.Lengths.{at_most_five}
use Rattle.walk.specs.Walk.{Rule}
use Rattle.build.specs.Records.{Rec, measured, judged}

module _ (o : Option ℕ) (len : ℕ) where
  pub unknown_cid : o ≡ none → refused 1 ≡ measured o len
  unknown_cid e = sym (ap (λ (x : Option ℕ). measured x len) e)

  pub right_length : (n : ℕ) → o ≡ some n → len ≡ n → given (1 + n) ≡ measured o len
  right_length n e l =
      ap (λ (k : ℕ). given (1 + k)) (sym l)
      ∙ sym (ap (λ (x : Option ℕ). measured x len) e ∙ ap (λ (b : Bool). cond b (given (1 + len)) (refused 3)) (eq-eqb len n l))

  pub wrong_length : (n : ℕ) → o ≡ some n → (len ≡ n → ⊥) → refused 3 ≡ measured o len
  wrong_length n e l =
      sym (ap (λ (x : Option ℕ). measured x len) e ∙ ap (λ (b : Bool). cond b (given (1 + len)) (refused 3)) (ne_eqb len n l))

-- what an accepted record is: its length is what the rule gives its CID
module _ (L : Rule) (r : Rec) (n : ℕ) where
  pub judged_given : judged L r ≡ given n → (L r.cid ≡ some r.len) × (n ≡ 1 + r.len)
  judged_given e = by (L r.cid) refl e
    where
      here : (m : ℕ) (b : Bool) → (b ≡ true → r.len ≡ m) → cond b (given (1 + r.len)) (refused 3) ≡ given n → (some m ≡ some r.len) × (n ≡ 1 + r.len)
      here m true h e = (ap some (sym (h refl)), cc)
      here m false h e = let z : ◌≡◌ {A = ℕ} 0 1 = cc in absurd (omega arith)

      by : (o : Option ℕ) → L r.cid ≡ o → measured o r.len ≡ given n → (L r.cid ≡ some r.len) × (n ≡ 1 + r.len)
      by none q e = let z : ◌≡◌ {A = ℕ} 0 1 = cc in absurd (omega arith)
      by (some m) q e = let t = here m (eqb r.len m) (eqb-true r.len m) e in (q ∙ t.0, t.1)

  -- and so is every record whose length is that
  pub judged_known : L r.cid ≡ some r.len → judged L r ≡ given (1 + r.len)
  judged_known e = sym (right_length (L r.cid) r.len r.len e refl)

-- a command of the table takes at most six bytes
pub at_most_six : (rules : Rules) (r : Rec) (n : ℕ) → judged (length_of rules) r ≡ given n → n ≤ 6
at_most_six rules r n e =
    let t = judged_given (length_of rules) r n e in
    let m = at_most_five rules r.cid r.len t.0 in
    omega arith

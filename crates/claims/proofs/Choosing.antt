-- The chooser's rules: crates/claims/specs/Choosing.antt. Assumes nothing.
use Prim.Native.Nat.{ℕ}
use mathlib.Core.Bool.{Bool, true, false, cond, ◌&&◌}
use mathlib.Core.List.{List}
use mathlib.Core.Option.{Option, none, some}
use mathlib.Core.Path.{◌≡◌, refl, sym, ap, ◌∙◌}
use native.Mathlib.Omega.{arith}
use lib.Dec.{ltb, eqb}
use lib.ListN.{length}
use borrow.Author.Tests.{lt-ltb, le-ltb, ltb-true, eqb-true}
use denote.Ref.{Bor}
use Rattle.std.specs.Prelude.{Result}
use Rattle.std.specs.Prelude as Std
use Rattle.table.specs.Answers.{Consent, refused, accepted}
use Rattle.table.specs.Told.{told_verdict}
use Rattle.table.specs.declared.refusal.Refusal.{Refusal}
use Rattle.walk.specs.Chooser.{non_empty, is_none, is_zero, without_port, too_long, in_payload, in_both, verdict_of, by_verdict}
use Rattle.walk.specs.Part.{shown}
use Rattle.walk.specs.Told.{told_port}
use Rattle.walk.proofs.chooser.choose.Reads as choose
use Rattle.walk.proofs.chooser.choose_verdict.Reads as choose_verdict
use Rattle.claims.specs.Choosing.{WithoutPort, InPayload, RightVerdict, Chosen, Chooser}
use Rattle.claims.specs.Outcomes.{Gives}

module _ (fopts payload : Bor (List ℕ)) (port : Std.Option ℕ) where
  -- ---- the tests of the definition, by what they say

  without : WithoutPort payload port → without_port (told_port port) payload.now ≡ true
  without w = ap (λ (p : Option ℕ). is_none p && non_empty payload.now) w.no_port ∙ lt-ltb 0 (length payload.now) w.some_payload

  with_port : (WithoutPort payload port → ⊥) → without_port (told_port port) payload.now ≡ false
  with_port h = by (told_port port) refl (ltb 0 (length payload.now)) refl
    where
      by : (p : Option ℕ) → told_port port ≡ p → (b : Bool) → ltb 0 (length payload.now) ≡ b → is_none p && b ≡ false
      by none e true q = absurd (h (record { no_port = e; some_payload = ltb-true 0 (length payload.now) q }))
      by none e false q = refl
      by (some n) e b q = refl

  there : InPayload payload port → in_payload (told_port port) payload.now ≡ true
  there w = ap (λ (p : Option ℕ). is_zero p && non_empty payload.now) w.port_zero ∙ lt-ltb 0 (length payload.now) w.some_payload

  elsewhere : (InPayload payload port → ⊥) → in_payload (told_port port) payload.now ≡ false
  elsewhere h = by (told_port port) refl (ltb 0 (length payload.now)) refl
    where
      zero : (n : ℕ) → told_port port ≡ some n → (z : Bool) → eqb n 0 ≡ z → (b : Bool) → ltb 0 (length payload.now) ≡ b → z && b ≡ false
      zero n e true z true q = absurd (h (record { port_zero = e ∙ ap some (eqb-true n 0 z); some_payload = ltb-true 0 (length payload.now) q }))
      zero n e true z false q = refl
      zero n e false z b q = refl

      by : (p : Option ℕ) → told_port port ≡ p → (b : Bool) → ltb 0 (length payload.now) ≡ b → is_zero p && b ≡ false
      by none e b q = refl
      by (some n) e b q = zero n e (eqb n 0) refl b q

  -- port 0 is a port
  has_port : InPayload payload port → WithoutPort payload port → ⊥
  has_port i w = let e : ◌≡◌ {A = Option ℕ} none (some 0) = sym w.no_port ∙ i.port_zero in cc

  -- the verdict, by the three tests
  abbrev by_tests : Bool → Bool → Bool → Consent
  by_tests w l b = cond w (refused 15) (cond l (refused 14) (cond b (refused 13) accepted))

  tests : (w l b : Bool) → without_port (told_port port) payload.now ≡ w → too_long fopts.now ≡ l → in_both (told_port port) fopts.now payload.now ≡ b
      → verdict_of (told_port port) fopts.now payload.now ≡ by_tests w l b
  tests w l b e f g =
      ap (λ (x : Bool). by_tests x (too_long fopts.now) (in_both (told_port port) fopts.now payload.now)) e
      ∙ ap (λ (x : Bool). by_tests w x (in_both (told_port port) fopts.now payload.now)) f
      ∙ ap (by_tests w l) g

  both : (i n : Bool) → in_payload (told_port port) payload.now ≡ i → non_empty fopts.now ≡ n → in_both (told_port port) fopts.now payload.now ≡ i && n
  both i n e f = ap (λ (x : Bool). x && non_empty fopts.now) e ∙ ap (λ (x : Bool). i && x) f

  -- not both: elsewhere, or FOpts is empty
  not_both : (InPayload payload port → length fopts.now ≡ 0) → in_both (told_port port) fopts.now payload.now ≡ false
  not_both h = by (in_payload (told_port port) payload.now) refl (non_empty fopts.now) refl
    where
      held : in_payload (told_port port) payload.now ≡ true → (InPayload payload port → ⊥) → ⊥
      held e n = let q : true ≡ false = sym e ∙ elsewhere n in cc

      by : (i : Bool) → in_payload (told_port port) payload.now ≡ i → (n : Bool) → non_empty fopts.now ≡ n → in_both (told_port port) fopts.now payload.now ≡ false
      by true e true f = absurd (held e (λ i. let z = h i in let l = ltb-true 0 (length fopts.now) f in omega arith))
      by true e false f = both true false e f
      by false e n f = both false n e f

  judged : (v : Result Unit Refusal) → Gives choose_verdict.Post (fopts, (payload, (port, tt))) v → RightVerdict fopts payload port v
  judged v g = record {
    without_port = λ w. g.1.1 ∙ tests true (too_long fopts.now) (in_both (told_port port) fopts.now payload.now) (without w) refl refl;
    too_long = λ w l. g.1.1 ∙ tests false true (in_both (told_port port) fopts.now payload.now) (with_port w) (lt-ltb 15 (length fopts.now) l) refl;
    in_both = λ i s l. g.1.1
        ∙ tests false false true (with_port (has_port i)) (le-ltb 15 (length fopts.now) l) (both true true (there i) (lt-ltb 0 (length fopts.now) s));
    accepts = λ w l i. g.1.1 ∙ tests false false false (with_port w) (le-ltb 15 (length fopts.now) l) (not_both i);
  }

  part : (v : Result Unit Refusal) (r : Bor (List ℕ)) → Gives choose_verdict.Post (fopts, (payload, (port, tt))) v → Gives choose.Post (fopts, (payload, (port, tt))) r
      → Chosen fopts payload port v r
  part v r g q = record {
    from_payload = λ a i. at accepted a ∙ ap (λ (b : Bool). cond b (shown payload) (shown fopts)) (there i);
    from_fopts = λ a n. at accepted a ∙ ap (λ (b : Bool). cond b (shown payload) (shown fopts)) (elsewhere n);
    nothing = λ n a. at (refused n) a;
  }
    where
      at : (c : Consent) → told_verdict v ≡ c → shown r ≡ by_verdict c (in_payload (told_port port) payload.now) fopts payload
      at c e = q.1.1 ∙ ap (λ (x : Consent). by_verdict x (in_payload (told_port port) payload.now) fopts payload) (sym g.1.1 ∙ e)

pub chooser : Chooser
chooser = record { verdict = judged; part = part }

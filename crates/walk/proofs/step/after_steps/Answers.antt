-- `after_steps` meets its contract. The loop's invariant: `_made` steps led to `at`. Assumes nothing.
use Prim.Native.Nat.{ℕ}
use mathlib.Core.Path.{◌≡◌, refl, sym}
use native.Mathlib.Omega.{arith}
use Rattle.walk.specs.declared.step.Step.{Step}
use Rattle.walk.specs.Stepping.{moved_to}
use Rattle.walk.specs.Told.{told_step}
use Rattle.walk.proofs.Stepping.{rest_made}
use Rattle.walk.proofs.step.after_steps.Goals as goal

-- no other step leads on
by : (x : Step) {at : ℕ} → ((cid len next : ℕ) → x ≡ Step.Command cid len next → ⊥) → moved_to (told_step x) at ≡ at
by Step.End h = refl
by (Step.Command cid len next) h = absurd (h cid len next refl)
by (Step.Stop r o) h = refl
by (Step.Refused r) h = refl

pub returns-in_default : goal.returns-in_default
returns-in_default c = rest_made _ _ _ _ _ c.loop-made.invariant (omega arith) (sym c.step_at.ensures) (by _ c.in_default.not-Command)

-- A contract fixes its function's outcome, where the contract is read as it is written, over any memory. (Rattle.bits.proofs.Fixed reads it as the plain `Post`.)
-- Assumes nothing.
use mathlib.Core.Path.{◌≡◌}
use seplogic.Ra.Ura.{Ura}
use base.Logic.{SProp, ent, sep, fst∗, snd∗}
use prog.Memory.{Memory}
use prog.Routine.{Routine}
use types.Logic.{Logic}
use contract.Lifetimes.{Lfts}
use contract.Monad.{Fun, fact, fact_i, fact_use}
use denote.Triple.Clauses.{Ended, Clauses, AtExit}
use denote.Triple.Entry.{Args, Res}

-- a function's clauses, at any model of memory
abbrev pub AnyClauses : Ended → Type 2
AnyClauses T = (M : Type 1) (𝓤 : Ura M) (𝓛 : Logic 𝓤) → (Memory → SProp 𝓤) → (Routine → Fun 𝓤) → Clauses 𝓤 T

-- where the `ensures` holds of two outcomes, their results are equal, and so is what `lent` reads off the parameters at exit
abbrev pub FixedWith : (T : Ended) → AnyClauses T → {M : Type 0} → ((κs : Lfts T.signature.lifetimes) → AtExit T κs → M) → Type 2
FixedWith T clauses {M = L} lent =
    (M : Type 1) (𝓤 : Ura M) (𝓛 : Logic 𝓤) (mem : Memory → SProp 𝓤) (run : Routine → Fun 𝓤) (κs : Lfts T.signature.lifetimes) (a : Args T.signature κs)
    (g : (clauses M 𝓤 𝓛 mem run κs a).ghost) (x y : Res T.signature κs) (exit exit' : AtExit T κs)
    → ent 𝓤 (sep 𝓤 ((clauses M 𝓤 𝓛 mem run κs a).ensures g x exit) ((clauses M 𝓤 𝓛 mem run κs a).ensures g y exit'))
    (fact 𝓤 (◌≡◌ {A = Res T.signature κs × L} (x, lent κs exit) (y, lent κs exit')))

-- the results are equal
abbrev pub Fixed : (T : Ended) → AnyClauses T → Type 2
Fixed T clauses =
    (M : Type 1) (𝓤 : Ura M) (𝓛 : Logic 𝓤) (mem : Memory → SProp 𝓤) (run : Routine → Fun 𝓤) (κs : Lfts T.signature.lifetimes) (a : Args T.signature κs)
    (g : (clauses M 𝓤 𝓛 mem run κs a).ghost) (x y : Res T.signature κs) (exit exit' : AtExit T κs)
    → ent 𝓤 (sep 𝓤 ((clauses M 𝓤 𝓛 mem run κs a).ensures g x exit) ((clauses M 𝓤 𝓛 mem run κs a).ensures g y exit')) (fact 𝓤 (x ≡ y))

-- of an `ensures` that is a plain fact
pub fixes : {M : Type 1} (𝓤 : Ura M) {φ ψ χ : Type 0} → (φ → ψ → χ) → ent 𝓤 (sep 𝓤 (fact 𝓤 φ) (fact 𝓤 ψ)) (fact 𝓤 χ)
fixes 𝓤 {φ} {ψ} {χ} f =
    fact_use 𝓤 φ (fst∗ 𝓤 (fact 𝓤 φ) (fact 𝓤 ψ)) (λ p. fact_use 𝓤 ψ (snd∗ 𝓤 (fact 𝓤 φ) (fact 𝓤 ψ)) (λ q. fact_i 𝓤 χ _ (f p q)))

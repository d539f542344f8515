-- An answer of this crate is known from what it tells: each `told` has an inverse. Assumes nothing.
use Prim.Native.Nat.{ℕ}
use mathlib.Core.Path.{◌≡◌, refl, ap, ap₂}
use Rattle.bits.proofs.Fixed.{by_inverse}
use Rattle.table.specs.Answers.{Answer, given, refused}
use Rattle.table.specs.declared.refusal.Refusal.{Refusal}
use Rattle.table.proofs.Told.{numbered, numbered_number}
use Rattle.payloads.specs.declared.uplink.UplinkMacCommand.{UplinkMacCommand}
use Rattle.payloads.specs.declared.downlink.DownlinkMacCommand.{DownlinkMacCommand}
use Rattle.payloads.proofs.Told.{uplink_of, uplink-back, downlink_of, downlink-back}
use Rattle.walk.specs.declared.command.CommandStep.{CommandStep}
use Rattle.walk.specs.declared.step.Step.{Step}
use Rattle.walk.specs.declared.whole.Outcome.{Outcome}
use Rattle.walk.specs.declared.whole.WalkEnd.{WalkEnd}
use Rattle.walk.specs.Command.{uplink_cmd, downlink_cmd}
use Rattle.walk.specs.Step.{Found, ended, command, stopped}
use Rattle.walk.specs.Told.{told_step, told_command_step, told_uplink_step, told_downlink_step, told_outcome, told_walk}
use Rattle.walk.specs.Walk.{Cmd, Ending, end, stop}

-- what a step was made of, by its four forms
abbrev made : {C S : Type 0} → S → (C → ℕ → S) → (Refusal → ℕ → S) → (Refusal → S) → Answer (Found C) → S
made atEnd atCommand atStop past (given ended) = atEnd
made atEnd atCommand atStop past (given (command c next)) = atCommand c next
made atEnd atCommand atStop past (given (stopped n at)) = atStop (numbered n) at
made atEnd atCommand atStop past (refused n) = past (numbered n)

made_tells : {C S : Type 0} (told : S → Answer (Found C)) (atEnd : S) (atCommand : C → ℕ → S) (atStop : Refusal → ℕ → S) (past : Refusal → S)
    → ((x : S) → made atEnd atCommand atStop past (told x) ≡ x) → {x y : S} → told x ≡ told y → x ≡ y
made_tells told atEnd atCommand atStop past back p = by_inverse told (made atEnd atCommand atStop past) back p

pub step_tells : {x y : Step} → told_step x ≡ told_step y → x ≡ y
step_tells =
    made_tells told_step Step.End (λ h next. Step.Command h.cid h.len next) Step.Stop Step.Refused
    (elim [
      | Step.End ↦ refl
      | Step.Command cid len next ↦ refl
      | Step.Stop r at ↦ ap (λ r. Step.Stop r at) (numbered_number r)
      | Step.Refused r ↦ ap Step.Refused (numbered_number r)
    ])

-- a typed step is known from what is told of it, if a command is
pub command_step_tells : {C : Type 0} (f : C → Cmd) (g : Cmd → C) → ((c : C) → g (f c) ≡ c) → {x y : CommandStep C} → told_command_step f x ≡ told_command_step f y → x ≡ y
command_step_tells f g back p =
    made_tells (told_command_step f) CommandStep.End (λ c next. CommandStep.Command (g c) next) CommandStep.Stop CommandStep.Refused
    (elim [
      | CommandStep.End ↦ refl
      | CommandStep.Command c next ↦ ap (λ c. CommandStep.Command c next) (back c)
      | CommandStep.Stop r at ↦ ap (λ r. CommandStep.Stop r at) (numbered_number r)
      | CommandStep.Refused r ↦ ap CommandStep.Refused (numbered_number r)
    ])
    p

abbrev uplink_back : Cmd → UplinkMacCommand
uplink_back c = uplink_of (c.cid, c.body)

pub uplink_step_tells : {x y : CommandStep UplinkMacCommand} → told_uplink_step x ≡ told_uplink_step y → x ≡ y
uplink_step_tells p = command_step_tells uplink_cmd uplink_back uplink-back p

abbrev downlink_back : Cmd → DownlinkMacCommand
downlink_back c = downlink_of (c.cid, c.body)

pub downlink_step_tells : {x y : CommandStep DownlinkMacCommand} → told_downlink_step x ≡ told_downlink_step y → x ≡ y
downlink_step_tells p = command_step_tells downlink_cmd downlink_back downlink-back p

outcome_told : Answer Ending → Outcome
outcome_told (given (end at)) = Outcome.End at
outcome_told (given (stop n at)) = Outcome.Stop (numbered n) at
outcome_told (refused n) = Outcome.Refused (numbered n)

outcome_back : (x : Outcome) → outcome_told (told_outcome x) ≡ x
unfolding outcome_told
outcome_back (Outcome.End at) = refl
outcome_back (Outcome.Stop r at) = ap (λ r. Outcome.Stop r at) (numbered_number r)
outcome_back (Outcome.Refused r) = ap Outcome.Refused (numbered_number r)

pub outcome_tells : {x y : Outcome} → told_outcome x ≡ told_outcome y → x ≡ y
outcome_tells p = by_inverse told_outcome outcome_told outcome_back p

walk_end : Outcome → ℕ → WalkEnd
walk_end o n = record { outcome = o; count = n }

pub walk_tells : {x y : WalkEnd} → told_walk x ≡ told_walk y → x ≡ y
unfolding walk_end
walk_tells p = ap₂ walk_end (outcome_tells (ap (λ t. t.0) p)) (ap (λ t. t.1) p)

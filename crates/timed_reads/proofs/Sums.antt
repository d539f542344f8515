-- The sum over the commands of a walk, step by step. Assumes nothing.
use Prim.Native.Nat.{ℕ, ◌+◌, ◌≤◌, ◌<◌}
use mathlib.Core.List.{List}
use mathlib.Core.Path.{◌≡◌, refl, sym, ap, ◌∙◌, subst}
use native.Mathlib.Omega.{arith}
use lib.ListN.{length, drop, drop_of_length-le}
use Rattle.table.specs.Answers.{Answer, given, refused}
use Rattle.walk.specs.Step.{Found, ended, command, stopped, found_at}
use Rattle.walk.specs.Walk.{Rule, Cmd, Walk, walk_from}
use Rattle.walk.proofs.Laws.{walk_nil, walk_ends}
use Rattle.walk.proofs.Steps.{Here, past, ends, goes, here, walk_goes, found_goes, found_command}
use Rattle.payloads.specs.declared.downlink.DownlinkMacCommand.{DownlinkMacCommand}
use Rattle.walk.specs.declared.command.CommandStep.{CommandStep}
use Rattle.walk.specs.Told.{told_downlink_step}
use Rattle.timed_reads.specs.Fields.{worth, worths}

-- a step gave no command
abbrev pub Stays : Answer (Found Cmd) → Type 0
Stays (given (command c next)) = ⊥
Stays (given ended) = Unit
Stays (given (stopped n at)) = Unit
Stays (refused n) = Unit

pub no_command : (found : CommandStep DownlinkMacCommand) → ((c : DownlinkMacCommand) (next : ℕ) → found ≡ CommandStep.Command c next → ⊥)
    → Stays (told_downlink_step found)
no_command CommandStep.End none = tt
no_command (CommandStep.Command c next) none = absurd (none c next refl)
no_command (CommandStep.Stop reason at) none = tt
no_command (CommandStep.Refused n) none = tt

module _ (L : Rule) (s : List ℕ) where
  -- the sum over the commands from an offset on
  unfoldable pub left : ℕ → ℕ
  left at = worths (walk_from L at (drop at s)).cmds

  in-walk : (at : ℕ) {w : Walk} → walk_from L at (drop at s) ≡ w → left at ≡ worths w.cmds
  unfolding left
  in-walk at e = ap (λ (w : Walk). worths w.cmds) e

  pub left_goes : (at : ℕ) {next : ℕ} {c : Cmd} → found_at L s at ≡ given (command c next) → left at ≡ worth c + left next
  unfolding left worths
  left_goes at e = in-walk at (walk_goes L s (found_command L s e))

  pub left_stays : (at : ℕ) (x : Answer (Found Cmd)) → found_at L s at ≡ x → Stays x → left at ≡ 0
  unfolding worths
  left_stays at x e stays = by (here L s at)
    where
      by : Here L s at → left at ≡ 0
      by (past h) = in-walk at (ap (walk_from L at) (drop_of_length-le s {i = at} (omega arith)) ∙ walk_nil L at)
      by (ends _ h y) = in-walk at (walk_ends L y)
      by (goes c next g) = absurd (subst Stays (sym e ∙ found_goes L s g) stays)

  -- a command's end is in the stream and behind its start
  pub onwards : (at : ℕ) {next : ℕ} {c : Cmd} → found_at L s at ≡ given (command c next) → (at < next) × (next ≤ length s)
  onwards at e = let g = found_command L s e in (omega (arith, g.behind), g.fits)

-- What the answers of this crate tell, in the numbers and values of docs/RULES.md (M11).
use Rattle.std.specs.Prelude.{ℕ, Some, None}
use Rattle.std.specs.Prelude as Std
use Rattle.std.proofs.Math.Option.{Option, none, some}
use Rattle.table.specs.Answers.{Answer, given, refused}
use Rattle.table.specs.Refusals.{number_of}
use Rattle.payloads.specs.declared.uplink.UplinkMacCommand.{UplinkMacCommand}
use Rattle.payloads.specs.declared.downlink.DownlinkMacCommand.{DownlinkMacCommand}
use Rattle.walk.specs.declared.command.CommandStep.{CommandStep}
use Rattle.walk.specs.declared.step.Step.{Step}
use Rattle.walk.specs.declared.whole.Outcome.{Outcome}
use Rattle.walk.specs.declared.whole.WalkEnd.{WalkEnd}
use Rattle.walk.specs.Command.{uplink_cmd, downlink_cmd}
use Rattle.walk.specs.Walk.{Cmd, Ending, end, stop}
use Rattle.walk.specs.Step.{Found, ended, command, stopped, Heading, heading}

abbrev pub told_step : Step → Answer (Found Heading)
told_step Step.End = given ended
told_step (Step.Command cid len next) = given (command (heading cid len) next)
told_step (Step.Stop r at) = given (stopped (number_of r) at)
told_step (Step.Refused r) = refused (number_of r)

-- what a typed step finds, with each command told by f
abbrev pub told_command_step : {C : Type 0} → (C → Cmd) → CommandStep C → Answer (Found Cmd)
told_command_step f CommandStep.End = given ended
told_command_step f (CommandStep.Command c next) = given (command (f c) next)
told_command_step f (CommandStep.Stop r at) = given (stopped (number_of r) at)
told_command_step f (CommandStep.Refused r) = refused (number_of r)

-- its command as it is in the stream
abbrev pub told_uplink_step : CommandStep UplinkMacCommand → Answer (Found Cmd)
told_uplink_step x = told_command_step uplink_cmd x

abbrev pub told_downlink_step : CommandStep DownlinkMacCommand → Answer (Found Cmd)
told_downlink_step x = told_command_step downlink_cmd x

abbrev pub told_outcome : Outcome → Answer Ending
told_outcome (Outcome.End at) = given (end at)
told_outcome (Outcome.Stop r at) = given (stop (number_of r) at)
told_outcome (Outcome.Refused r) = refused (number_of r)

-- the ending, and the number of commands
abbrev pub told_walk : WalkEnd → Answer Ending × ℕ
told_walk w = (told_outcome w.outcome, w.count)

abbrev pub told_port : Std.Option ℕ → Option ℕ
told_port None = none
told_port (Some n) = some n

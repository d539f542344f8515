-- Any two outcomes that a public function's contract admits are equal; a slice that is handed back, in its place and its bytes. Assumes
-- nothing.
use mathlib.Core.Path.{sym, ◌∙◌}
use Rattle.bits.proofs.Fixed.{Fixed}
use Rattle.table.proofs.Told.{verdict_tells}
use Rattle.walk.proofs.FixedPart.{FixedPart}
use Rattle.walk.proofs.Told.{step_tells, uplink_step_tells, downlink_step_tells, walk_tells}
use Rattle.walk.proofs.chooser.choose_verdict.Reads as choose_verdict
use Rattle.walk.proofs.chooser.choose.Reads as choose
use Rattle.walk.proofs.command.uplink_at.Reads as uplink_at
use Rattle.walk.proofs.command.downlink_at.Reads as downlink_at
use Rattle.walk.proofs.step.after_steps.Reads as after_steps
use Rattle.walk.proofs.step.step_at.Reads as step-at
use Rattle.walk.proofs.step.payload_at.Reads as payload_at
use Rattle.walk.proofs.whole.walk_from.Reads as walk_from
use Rattle.walk.proofs.whole.walk.Reads as walk

choose_verdict_one : Fixed choose_verdict.Post
choose_verdict_one _ _ _ _ _ _ p q = verdict_tells (p ∙ sym q)

choose_one : FixedPart choose.Post
choose_one _ _ _ _ _ _ p q = p ∙ sym q

uplink_at_one : Fixed uplink_at.Post
uplink_at_one _ _ _ _ _ _ p q = uplink_step_tells (p ∙ sym q)

downlink_at_one : Fixed downlink_at.Post
downlink_at_one _ _ _ _ _ _ p q = downlink_step_tells (p ∙ sym q)

step_at_one : Fixed step-at.Post
step_at_one _ _ _ _ _ _ p q = step_tells (p ∙ sym q)

payload_at_one : FixedPart payload_at.Post
payload_at_one _ _ _ _ _ _ p q = p ∙ sym q

after_steps_one : Fixed after_steps.Post
after_steps_one _ _ _ _ _ _ p q = p ∙ sym q

walk_from_one : Fixed walk_from.Post
walk_from_one _ _ _ _ _ _ p q = walk_tells (p ∙ sym q)

walk_one : Fixed walk.Post
walk_one _ _ _ _ _ _ p q = walk_tells (p ∙ sym q)

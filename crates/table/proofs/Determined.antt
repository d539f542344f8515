-- Any two outcomes that a public function's contract admits are equal. `Post` is what the check reads of the contract. Assumes nothing.
use mathlib.Core.Path.{sym, ap, ◌∙◌}
use Rattle.bits.proofs.Fixed.{Fixed}
use Rattle.table.specs.declared.rules.Direction.{Direction}
use Rattle.table.proofs.Told.{length_tells}
use Rattle.table.proofs.refusal.Refusal.number.Reads as number
use Rattle.table.proofs.rules.Rules.new.Reads as new
use Rattle.table.proofs.rules.Rules.payload_len.Reads as payload_len

number_one : Fixed number.Post
number_one _ _ _ _ _ _ p q = p ∙ sym q

new_one : Fixed new.Post
new_one _ _ _ _ _ _ p q = ap (λ (d : Direction). record { direction = d }) (p ∙ sym q)

payload_len_one : Fixed payload_len.Post
payload_len_one _ _ _ _ _ _ p q = length_tells (p ∙ sym q)

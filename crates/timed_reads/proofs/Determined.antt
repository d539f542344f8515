-- Any two outcomes that a public function's contract admits are equal. Assumes nothing.
use mathlib.Core.Path.{sym, ◌∙◌}
use Rattle.bits.proofs.Fixed.{Fixed}
use Rattle.timed_reads.proofs.every_field.nazhdivar_fields.Reads as nazhdivar_fields
use Rattle.timed_reads.proofs.iterator.nazhdivar_nth.Reads as nazhdivar_nth

nazhdivar_fields_one : Fixed nazhdivar_fields.Post
nazhdivar_fields_one _ _ _ _ _ _ p q = p ∙ sym q

nazhdivar_nth_one : Fixed nazhdivar_nth.Post
nazhdivar_nth_one _ _ _ _ _ _ p q = p ∙ sym q

-- Any two outcomes that a public function's contract admits are equal. Assumes nothing.
use mathlib.Core.Path.{sym, ◌∙◌}
use Rattle.bits.proofs.Fixed.{FixedWith}
use Rattle.timed_ledger.proofs.replay.nazhdivar_ledger.Reads as nazhdivar_ledger

nazhdivar_ledger_one : FixedWith (λ s. s.1.0.now) nazhdivar_ledger.Post
nazhdivar_ledger_one _ _ _ _ _ _ p q = p ∙ sym q

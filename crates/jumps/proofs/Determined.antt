-- Any two outcomes that a public function's contract admits are equal. Assumes nothing.
use mathlib.Core.Path.{sym, ap, ap₂, ◌∙◌}
use Rattle.bits.proofs.Fixed.{Fixed, FixedWith}
use Rattle.jumps.proofs.Told.{entries_tells, jump_tells}
use Rattle.jumps.proofs.entries.make_entries.Reads as make_entries
use Rattle.jumps.proofs.jump.jump_to.Reads as jump_to

make_entries_one : FixedWith (λ s. s.1.1.0.now) make_entries.Post
make_entries_one _ _ _ _ _ _ p q =
    ap₂ (λ r o. (r, o)) (entries_tells (ap (λ x. x.0) (p ∙ sym q))) (ap (λ x. x.1) (p ∙ sym q))

jump_to_one : Fixed jump_to.Post
jump_to_one _ _ _ _ _ _ p q = jump_tells (p ∙ sym q)

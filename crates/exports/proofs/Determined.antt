-- Any two outcomes that a public function's contract admits are equal. Assumes nothing.
use mathlib.Core.Path.{sym, ◌∙◌}
use Rattle.bits.proofs.Fixed.{Fixed, FixedWith}
use Rattle.exports.proofs.jump.nazhdivar_entries.Reads as nazhdivar_entries
use Rattle.exports.proofs.jump.nazhdivar_jump.Reads as nazhdivar_jump
use Rattle.exports.proofs.listing.nazhdivar_listing.Reads as nazhdivar_listing
use Rattle.exports.proofs.listing.nazhdivar_listing_len.Reads as nazhdivar_listing_len
use Rattle.exports.proofs.records.nazhdivar_build.Reads as nazhdivar_build
use Rattle.exports.proofs.streams.nazhdivar_count.Reads as nazhdivar_count

nazhdivar_build_one : FixedWith (λ s. s.1.0.now) nazhdivar_build.Post
nazhdivar_build_one _ _ _ _ _ _ p q = p ∙ sym q

nazhdivar_count_one : Fixed nazhdivar_count.Post
nazhdivar_count_one _ _ _ _ _ _ p q = p ∙ sym q

nazhdivar_entries_one : FixedWith (λ s. s.1.0.now) nazhdivar_entries.Post
nazhdivar_entries_one _ _ _ _ _ _ p q = p ∙ sym q

nazhdivar_jump_one : Fixed nazhdivar_jump.Post
nazhdivar_jump_one _ _ _ _ _ _ p q = p ∙ sym q

nazhdivar_listing_one : FixedWith (λ s. s.1.1.0.now) nazhdivar_listing.Post
nazhdivar_listing_one _ _ _ _ _ _ p q = p ∙ sym q

nazhdivar_listing_len_one : Fixed nazhdivar_listing_len.Post
nazhdivar_listing_len_one _ _ _ _ _ _ p q = p ∙ sym q

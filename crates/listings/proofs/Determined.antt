-- Any two outcomes that a public function's contract admits are equal. Assumes nothing.
use mathlib.Core.Path.{sym, ap, ap₂, ◌∙◌}
use Rattle.bits.proofs.Fixed.{Fixed, FixedWith}
use Rattle.listings.proofs.Told.{listing_tells}
use Rattle.listings.proofs.passes.listing_len.Reads as listing_len
use Rattle.listings.proofs.passes.write_listing.Reads as write_listing

listing_len_one : Fixed listing_len.Post
listing_len_one _ _ _ _ _ _ p q = listing_tells (p ∙ sym q)

write_listing_one : FixedWith (λ s. s.1.1.1.0.now) write_listing.Post
write_listing_one _ _ _ _ _ _ p q =
    ap₂ (λ r o. (r, o)) (listing_tells (ap (λ x. x.0) (p ∙ sym q))) (ap (λ x. x.1) (p ∙ sym q))

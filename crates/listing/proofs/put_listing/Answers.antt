-- There is room for the text of any stream of 1,024 bytes, so it is not refused.
use Rattle.std.proofs.Common.{ℕ, ap, ◌∙◌, arith}
use Rattle.listings.specs.Listing.{listing_of}
use Rattle.listings.proofs.Longest.{text_of_1024}
use Rattle.listing.proofs.Printing.{taken_put}
use Rattle.listing.proofs.put_listing.Goals as goal

pub returns : goal.returns
returns c =
    let a = c.args in
    let r = c.requires.1 in
    ap (λ (n : ℕ). (n, c.write_listing.new.out)) c.unwrap_or.ensures
    ∙ taken_put (listing_of a.rules 0 a.stream.now) a.out.now (omega (arith, text_of_1024.in-frame-0 a.rules a.stream.now c.requires.0)) _ c.write_listing.ensures

-- `write_listing` meets its contract. Assumes nothing.
use Rattle.listings.proofs.Into.{fits_of, into_written}
use Rattle.listings.proofs.passes.write_listing.Goals as goal

pub returns : goal.returns
returns c = into_written _ _ (fits_of _ _ c.in_ok-measure.ensures) c.write_lines.ensures

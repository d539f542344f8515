-- What the listing's two entries answer, as one number.
use Rattle.std.specs.Prelude.{ℕ, List, ◌≡◌}
use Rattle.table.specs.Answers.{Answer, given, refused}
use Rattle.payloads.specs.Commands.{sent_down}
use Rattle.listings.specs.Into.{length_within, into}
use Rattle.listings.specs.Listing.{listing_of}

-- the text's length, or the refusal's number
abbrev pub number : Answer ℕ → ℕ
number (given n) = n
number (refused k) = k

-- that number, and the lent memory
abbrev pub with_number : Answer ℕ × List ℕ → ℕ × List ℕ
with_number a = (number a.0, a.1)

-- two texts down, each in a frame, with the same number have the same answer, written or only measured: the refusal's number is 4, and no text is so
-- short
pub record ListingTellsApart : Type 0 where
  pub written : (f g : ℕ) (s t o p : List ℕ) → number (into (listing_of sent_down f s) o).0 ≡ number (into (listing_of sent_down g t) p).0
      → (into (listing_of sent_down f s) o).0 ≡ (into (listing_of sent_down g t) p).0
  pub measured : (f g : ℕ) (s t : List ℕ) (m n : ℕ) → number (length_within m (listing_of sent_down f s)) ≡ number (length_within n (listing_of sent_down g t))
      → length_within m (listing_of sent_down f s) ≡ length_within n (listing_of sent_down g t)

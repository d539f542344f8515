-- How long a listing can be (RULES: L10), in either direction. proofs/Longest.antt proves both claims.
use Rattle.std.specs.Prelude.{ℕ, ◌^◌, ◌<◌, ◌≤◌, List, length, replicate}
use Rattle.table.specs.declared.rules.Rules.{Rules}
use Rattle.payloads.specs.Commands.{sent_up}
use Rattle.listings.specs.Listing.{listing_of}

-- of all streams with so many bytes none has a longer text in a frame than that of RXTimingSetupAns (08, sent up) at every byte
abbrev pub LongestText : Type 0
LongestText =
    (rules : Rules) (frame : ℕ) (s : List ℕ) → length (listing_of rules frame s) ≤ length (listing_of sent_up frame (replicate (length s) 8))

-- so these are room enough for the text of any stream of at most 1,024 bytes: 30,645 characters in frame 0, and 39,870 in any frame of 32 bits
pub record TextOf1024 : Type 0 where
  pub in-frame-0 : (rules : Rules) (s : List ℕ) → length s ≤ 1024 → length (listing_of rules 0 s) ≤ 30_645
  pub in-any : (rules : Rules) (frame : ℕ) (s : List ℕ) → frame < 2 ^ 32 → length s ≤ 1024 → length (listing_of rules frame s) ≤ 39_870

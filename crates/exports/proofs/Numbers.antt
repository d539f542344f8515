-- A listing's one number tells its answer: no text is as short as the refusal's number says. Assumes nothing.
use Prim.Native.Nat.{ℕ, ◌≤◌}
use mathlib.Core.Bool.{Bool, true, false, cond}
use mathlib.Core.List.{List}
use mathlib.Core.Path.{◌≡◌, refl, sym, ap, ◌∙◌}
use native.Mathlib.Omega.{arith}
use lib.Dec.{leb}
use lib.ListN.{length}
use Rattle.bits.specs.Memory.{over}
use Rattle.table.specs.Answers.{Answer, given, refused}
use Rattle.payloads.specs.Commands.{sent_down}
use Rattle.listings.specs.Into.{length_within, into}
use Rattle.listings.specs.Listing.{listing_of}
use Rattle.listings.proofs.Walking.{eight_at_least}
use Rattle.exports.specs.Listing.{number, ListingTellsApart}

-- the answer where a text of m bytes has room, and where not
abbrev answer : ℕ → Bool → Answer ℕ
answer m fits = cond fits (given m) (refused 4)

told_apart : (m n : ℕ) → 8 ≤ m → 8 ≤ n → (a b : Bool) → number (answer m a) ≡ number (answer n b) → answer m a ≡ answer n b
told_apart m n h k true true e = ap given e
told_apart m n h k true false e = absurd (omega arith)
told_apart m n h k false true e = absurd (omega arith)
told_apart m n h k false false e = refl

measured_apart : (f g : ℕ) (s t : List ℕ) (m n : ℕ) → number (length_within m (listing_of sent_down f s)) ≡ number (length_within n (listing_of sent_down g t))
    → length_within m (listing_of sent_down f s) ≡ length_within n (listing_of sent_down g t)
unfolding length_within
measured_apart f g s t m n e =
    told_apart (length (listing_of sent_down f s)) (length (listing_of sent_down g t)) (eight_at_least sent_down f s) (eight_at_least sent_down g t)
    (leb (length (listing_of sent_down f s)) m) (leb (length (listing_of sent_down g t)) n) e

-- the writer answers as one who only measures, with memory's length for the room
as_measured : (t out : List ℕ) → (into t out).0 ≡ length_within (length out) t
unfolding into length_within
as_measured t out = by (leb (length t) (length out))
  where
    by : (b : Bool) → (cond {A = Answer ℕ × List ℕ} b (given (length t), over out 0 t) (refused 4, out)).0 ≡ answer (length t) b
    by true = refl
    by false = refl

pub listing_tells_apart : ListingTellsApart
listing_tells_apart = record {
  written = λ f g s t o p e.
      as_measured (listing_of sent_down f s) o
      ∙ measured_apart f g s t (length o) (length p) (ap number (sym (as_measured (listing_of sent_down f s) o)) ∙ e ∙ ap number (as_measured (listing_of sent_down g t) p))
      ∙ sym (as_measured (listing_of sent_down g t) p);
  measured = measured_apart;
}

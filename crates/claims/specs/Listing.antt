-- The listing says what is read (RULES: L1 to L9, L11, L13, F3): of every outcome that the contracts of `write_listing` and `listing_len` admit.
use Rattle.std.specs.Prelude.{ℕ, ◌<◌, ◌≤◌, List, [], ◌∷◌, ◌++◌, map, ◌≡◌, length, take, drop, Result}
use Prim.Native.String.{String}
use Rattle.std.specs.Borrow.{Bor, MutBor}
use Rattle.bits.specs.Every.{Every}
use Rattle.table.specs.Answers.{Answer, given, refused}
use Rattle.table.specs.declared.refusal.Refusal.{Refusal}
use Rattle.table.specs.declared.rules.Direction.{Direction}
use Rattle.table.specs.declared.rules.Direction.TheVariants.{Down, Up}
use Rattle.table.specs.declared.rules.Rules.{Rules}
use Rattle.text.specs.Characters.{ascii}
use Rattle.text.specs.Lines.{text}
use Rattle.walk.specs.Walk.{Placed, Ending}
use Rattle.listings.specs.Into.{largest}
use Rattle.listings.specs.Listing.{in_frame, lines_of}
use Rattle.listings.specs.Told.{told_listing}
use Rattle.listings.proofs.passes.listing_len.Reads as listing_len
use Rattle.listings.proofs.passes.write_listing.Reads as write_listing
use Rattle.claims.specs.Handing.{ReadAs}
use Rattle.claims.specs.Outcomes.{Gives, GivesWith}

-- asked to list a stream in a frame into lent memory, the writer may answer so, and leave memory so
pub record Lists (rules : Rules) (frame : ℕ) (stream : Bor (List ℕ)) (out : MutBor (List ℕ)) (a : Answer ℕ) (after : List ℕ) : Type 0 where
  pub answer : Result ℕ Refusal
  pub admitted : GivesWith (λ s. s.1.1.1.0.now) write_listing.Post (rules, (frame, (stream, (out, tt)))) answer after
  pub told : told_listing answer ≡ a

-- asked for the length alone, it may answer so
pub record Sizes (rules : Rules) (frame : ℕ) (stream : Bor (List ℕ)) (a : Answer ℕ) : Type 0 where
  pub answer : Result ℕ Refusal
  pub admitted : Gives listing_len.Post (rules, (frame, (stream, tt))) answer
  pub told : told_listing answer ≡ a

-- the text of a stream in a frame, whatever way it came about: where there is room it stands at the front, its length is the answer, and the bytes
-- behind it stay (L7); else the answer is refusal 4, and memory is as it was (L8). Asked alone, the length is the same, and refusal 4 where no
-- memory could hold the text (L9)
pub record TextIs (rules : Rules) (frame : ℕ) (stream : Bor (List ℕ)) (t : List ℕ) : Type 0 where
  pub room : (out : MutBor (List ℕ)) (a : Answer ℕ) (after : List ℕ) → Lists rules frame stream out a after → length t ≤ length out.now
      → (a ≡ given (length t)) × (after ≡ t ++ drop (length t) out.now)
  pub no_room : (out : MutBor (List ℕ)) (a : Answer ℕ) (after : List ℕ) → Lists rules frame stream out a after → length out.now < length t
      → (a ≡ refused 4) × (after ≡ out.now)
  pub sized : (a : Answer ℕ) → Sizes rules frame stream a → length t ≤ largest → a ≡ given (length t)
  pub too_long : (a : Answer ℕ) → Sizes rules frame stream a → largest < length t → a ≡ refused 4

-- L1, L13: what is written is the lines of the commands that every entry hands out of the stream, and the line of the ending that it tells, each
-- in the frame that the caller gave. So a stop is no refusal (F3)
pub record SaysWhatIsRead (rules : Rules) (frame : ℕ) (stream : Bor (List ℕ)) : Type 0 where
  pub cmds : List Placed
  pub ending : Ending
  pub read : ReadAs rules stream cmds ending
  pub lines : TextIs rules frame stream (text (map (in_frame frame) (lines_of rules cmds ending)))

-- L11: where the same text is written of two streams, each in a frame, the frames are one, and the same is read of both streams
pub record ReadAlike (rules : Rules) (s t : Bor (List ℕ)) : Type 0 where
  pub cmds : List Placed
  pub ending : Ending
  pub one : ReadAs rules s cmds ending
  pub other : ReadAs rules t cmds ending

abbrev pub TextFixes : Type 0
TextFixes =
    (rules : Rules) (f g : ℕ) (s t : Bor (List ℕ)) (o p : MutBor (List ℕ)) (n : ℕ) (after after' : List ℕ)
    → Lists rules f s o (given n) after → Lists rules g t p (given n) after' → take n after ≡ take n after' → (f ≡ g) × ReadAlike rules s t

-- ---- examples: a stream of a direction, in a frame, and its text

pub record Example : Type 0 where
  pub direction : Direction
  pub frame : ℕ
  pub bytes : List ℕ
  pub shown : String

abbrev pub example : Direction → (frame : ℕ) → List ℕ → String → Example
example d f s t = record { direction = d; frame = f; bytes = s; shown = t }

abbrev pub examples : List Example
examples =
    -- P16, the request's
    example Down 0 (0x02 ∷ 0x0A ∷ 0x03 ∷ 0x03 ∷ 0x51 ∷ 0x07 ∷ 0x00 ∷ 0x01 ∷ 0x08 ∷ []) "0\t0\tD\t02\tLinkCheckAns\t0A03\n0\t3\tD\t03\tLinkADRReq\t51070001\t3\n0\t8\tstop\t2\n" ∷
    -- a mask with a channel in each byte, in the last frame of 32 bits
    example Down 4_294_967_295 (0x03 ∷ 0x00 ∷ 0x01 ∷ 0x80 ∷ 0x00 ∷ []) "4294967295\t0\tD\t03\tLinkADRReq\t00018000\t2\n4294967295\t5\tend\n" ∷
    -- P1 to P6
    example Up 0 [] "0\t0\tend\n" ∷
    example Up 7 [] "7\t0\tend\n" ∷
    example Up 0 (0x02 ∷ 0x03 ∷ 0x00 ∷ []) "0\t0\tU\t02\tLinkCheckReq\t-\n0\t1\tU\t03\tLinkADRAns\t00\n0\t3\tend\n" ∷
    example Down 0 (0x02 ∷ 0x03 ∷ 0x00 ∷ []) "0\t0\tD\t02\tLinkCheckAns\t0300\n0\t3\tend\n" ∷
    example Up 0 (0x03 ∷ []) "0\t0\tstop\t2\n" ∷
    example Down 0 (0x03 ∷ 0x51 ∷ 0x07 ∷ []) "0\t0\tstop\t2\n" ∷
    example Down 65_536 (0x03 ∷ 0x51 ∷ 0x07 ∷ 0x00 ∷ []) "65536\t0\tstop\t2\n" ∷
    example Up 7 (0x02 ∷ 0x80 ∷ []) "7\t0\tU\t02\tLinkCheckReq\t-\n7\t1\tstop\t1\n" ∷ []

abbrev pub Shown : Example → Type 0
Shown e = (stream : Bor (List ℕ)) → stream.now ≡ e.bytes → TextIs (record { direction = e.direction }) e.frame stream (ascii e.shown)

pub record ListingsTell : Type 0 where
  pub says_what_is_read : (rules : Rules) (frame : ℕ) (stream : Bor (List ℕ)) → SaysWhatIsRead rules frame stream
  pub text_fixes : TextFixes
  pub shown : Every Shown examples

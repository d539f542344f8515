-- What the program prints for an input (RULES: L10).
use Rattle.std.specs.Prelude.{ℕ, cond, List, [], ◌∷◌, eqb, leb, length}
use Rattle.bits.specs.Memory.{over}
use Rattle.table.specs.declared.rules.Direction.TheVariants.{Down, Up}
use Rattle.payloads.specs.Commands.{sent_up, sent_down}
use Rattle.text.specs.Characters.{ascii, character_of, letter_of}
use Rattle.text.specs.Lines.{line}
use Rattle.listings.specs.Listing.{listing_of}

-- the line for an input that is no capture
unfoldable pub bad_input : List ℕ
bad_input = line (record { first = ascii "bad input"; more = [] })

-- by the letter, in frame 0
unfoldable pub by_letter : (letter : ℕ) → List ℕ → List ℕ
by_letter letter stream =
    cond (eqb letter (character_of (letter_of Down))) (listing_of sent_down 0 stream)
    (cond (eqb letter (character_of (letter_of Up))) (listing_of sent_up 0 stream) bad_input)

-- a letter, and at most 1,024 bytes behind it
unfoldable pub printed_for : List ℕ → List ℕ
printed_for [] = bad_input
printed_for (letter ∷ stream) = cond (leb (length stream) 1024) (by_letter letter stream) bad_input

-- a text at the front of memory, whole, and how many bytes of memory it takes
abbrev pub at_front : List ℕ → List ℕ → ℕ × List ℕ
at_front text out = (length text, over out 0 text)

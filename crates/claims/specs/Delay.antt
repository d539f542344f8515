-- The delay before the first receive window (RULES: Y7, K10, P19), of every outcome that the contracts admit: a payload is read in seconds, a creator is
-- given a code, the ledger shows seconds and marks by them (X9, X11), and the byte is shown as it was sent.
use Rattle.std.specs.Prelude.{ℕ, ◌+◌, ◌*◌, ◌/◌, ◌%◌, ◌≤◌, true, List, [], ◌∷◌, reverse, ◌↔◌, ◌⊎◌, ◌≡◌, length, get_or, set, drop, Result, Ok, Err}
use Rattle.std.proofs.Math.Option.{Option, none, some}
use Rattle.std.specs.Prelude as Std
use Rattle.std.specs.Borrow.{Bor, MutBor}
use Rattle.table.specs.Answers.{accepted}
use Rattle.table.specs.Table.{named}
use Rattle.table.specs.Told.{told_verdict}
use Rattle.table.specs.declared.refusal.Refusal.{Refusal}
use Rattle.table.specs.declared.rules.Direction.TheVariants.{Down}
use Rattle.text.specs.Characters.{ascii}
use Rattle.text.specs.Decimal.{decimal}
use Rattle.text.specs.Hex.{hex_byte}
use Rattle.text.specs.Lines.{text}
use Rattle.payloads.specs.declared.rx_timing_setup.RXTimingSetupReqPayload.{RXTimingSetupReqPayload}
use Rattle.payloads.proofs.rx_timing_setup.RXTimingSetupReqPayload.bytes.Reads as payload_bytes
use Rattle.payloads.proofs.rx_timing_setup.RXTimingSetupReqPayload.delay.Reads as delay_read
use Rattle.payloads.proofs.rx_timing_setup.RXTimingSetupReqPayload.new.Reads as payload_new
use Rattle.creators.specs.Image.{image_length}
use Rattle.creators.specs.declared.rx_timing_setup.RXTimingSetupReqCreator.{RXTimingSetupReqCreator}
use Rattle.creators.proofs.rx_timing_setup.RXTimingSetupReqCreatorCreator2.build.Reads as build
use Rattle.creators.proofs.rx_timing_setup.RXTimingSetupReqCreator.set_delay.Reads as set_delay
use Rattle.ledger.specs.Claims.{TookEffect, IsParent}
use Rattle.ledger.specs.Events.{Request, Event, events}
use Rattle.ledger.specs.Parents.{Shown}
use Rattle.ledger.specs.Settings.{delay, says}
use Rattle.ledger.specs.Trace.{TraceLine}
use Rattle.ledger.specs.declared.Ledger.{Ledger}
use Rattle.ledger.specs.declared.settings.Parent.{Parent}
use Rattle.claims.specs.Ledger.{Asks, told_parent, Tells}
use Rattle.claims.specs.Listing.{TextIs}
use Rattle.claims.specs.Outcomes.{Gives, GivesWith}

-- the seconds that each of the codes 0 to 15 stands for (the standard, 5.7)
abbrev pub delays : List ℕ
delays = 1 ∷ 1 ∷ 2 ∷ 3 ∷ 4 ∷ 5 ∷ 6 ∷ 7 ∷ 8 ∷ 9 ∷ 10 ∷ 11 ∷ 12 ∷ 13 ∷ 14 ∷ 15 ∷ []

-- ---- payload and creator

-- whatever `delay` may answer of the payload with this byte is so many seconds
abbrev pub HasDelay : (byte seconds : ℕ) → Type 0
HasDelay b s = (r : ℕ) → Gives delay_read.Post (record { 0 = b }, tt) r → r ≡ s

-- a payload was read, and its delay may only be this
abbrev pub ReadWithDelay : ℕ → Result RXTimingSetupReqPayload Refusal → Type 0
ReadWithDelay s (Ok p) = (r : ℕ) → Gives delay_read.Post (p, tt) r → r ≡ s
ReadWithDelay s (Err n) = ⊥

-- ---- the ledger

-- a request's code: its payload's low nibble
abbrev pub code_of : Request → ℕ
code_of r = get_or r.body 0 0 % 16

-- codes for the same seconds: the same code, or 0 and 1
abbrev pub SameSeconds : ℕ → ℕ → Type 0
SameSeconds a b = (a ≡ b) ⊎ ((a ≤ 1) × (b ≤ 1))

-- what is shown of the delay: where its parent stands, the seconds of that request's code, and the mark exactly if the parent before it had a code for
-- the same seconds
pub record NamesDelay (past : List Event) (s : Shown) : Type 0 where
  pub made : Request
  pub is : IsParent delay past made
  pub named : s.parent ≡ made.at
  pub told : s.value ≡ get_or delays (code_of made) 0
  pub marked : (s.unchanged ≡ true) ↔ ((q : Request) × IsParent delay is.effect.earlier q × SameSeconds (code_of made) (code_of q))

abbrev pub ExactDelay : List Event → Option Shown → Type 0
ExactDelay past none = (r : Request) → TookEffect delay past r → ⊥
ExactDelay past (some s) = NamesDelay past s

-- ---- the listing

-- of one RXTimingSetupReq: its line, with the byte in hex, and the line of the end
abbrev pub listing_with : (byte frame : ℕ) → List ℕ
listing_with b frame = text (
    record { first = decimal frame; more = ascii "0" ∷ ascii "D" ∷ ascii "08" ∷ ascii "RXTimingSetupReq" ∷ hex_byte b ∷ [] } ∷
    record { first = decimal frame; more = ascii "2" ∷ ascii "end" ∷ [] } ∷ [])

-- ---- the claims

pub record DelayTells : Type 0 where
  -- the seconds of the code in the byte's low nibble, whatever the high one is; and they are 1 to 15
  pub read : (b : ℕ) → HasDelay b (get_or delays (b % 16) 0)
  pub within : (b r : ℕ) → Gives delay_read.Post (record { 0 = b }, tt) r → (1 ≤ r) × (r ≤ 15)
  -- each of the sixteen codes is taken by any creator, and is written as it is into the low nibble of the byte behind the CID, whose high one stays. (That
  -- any other number is refused: `refusals_keep`)
  pub written : (c : MutBor RXTimingSetupReqCreator) (code : ℕ) (r : Result Unit Refusal) (d : RXTimingSetupReqCreator) → code ≤ 15
      → GivesWith (λ s. s.0.now) set_delay.Post (c, (code, tt)) r d
      → (told_verdict r ≡ accepted) × (d.«data» ≡ set c.now.«data» 1 (get_or c.now.«data» 1 0 / 16 * 16 + code))
  -- of a creator whose image has its two bytes, what is built then, less the CID, is a payload that is read as the code's seconds
  pub set_is_read : (c : MutBor RXTimingSetupReqCreator) (code : ℕ) (r : Result Unit Refusal) (d : RXTimingSetupReqCreator) (image : List ℕ)
      (payload : Bor (List ℕ)) (a : Result RXTimingSetupReqPayload Refusal)
      → length c.now.«data» ≡ image_length (named "RXTimingSetupReq") → code ≤ 15
      → GivesWith (λ s. s.0.now) set_delay.Post (c, (code, tt)) r d → Gives build.Post (d, tt) image
      → payload.now ≡ drop 1 image → Gives payload_new.Post (payload, tt) a → ReadWithDelay (get_or delays code 0) a
  -- what the ledger takes a request to say of the delay is what the reader answers of its payload
  pub ledger_reads : (body : List ℕ) (r : ℕ) → Gives delay_read.Post (record { 0 = get_or body 0 0 }, tt) r → says delay body ≡ r
  -- so a ledger that tells of some lines shows seconds, and marks by them
  pub held : (lines : List TraceLine) (lent : List ℕ) (l : Ledger) (after : List ℕ) (h : Std.Option Parent) → Tells lines lent l after → Asks delay l h
      → ExactDelay (reverse (events 0 lines)) (told_parent h)
  -- the byte as it was sent: by `bytes`, and in the listing of this one command
  pub sent : (b : ℕ) (bytes : List ℕ) → Gives payload_bytes.Post (record { 0 = b }, tt) bytes → bytes ≡ b ∷ []
  pub in-listing : (b frame : ℕ) (stream : Bor (List ℕ)) → stream.now ≡ 0x08 ∷ b ∷ []
      → TextIs (record { direction = Down }) frame stream (listing_with b frame)
  -- P19
  pub code_zero : HasDelay 0x00 1
  pub code_one : HasDelay 0x01 1
  pub code_most : HasDelay 0x0F 15
  pub high_nibble : HasDelay 0xF0 1

-- The delay before the first receive window: crates/claims/specs/Delay.antt. Assumes nothing.
use Prim.Native.Nat.{ℕ, ◌+◌, ◌*◌, ◌/◌, ◌%◌, ◌≤◌, max}
use mathlib.Core.List.{List, [], ◌∷◌, reverse}
use mathlib.Core.Logic.{◌↔◌, inl, inr}
use mathlib.Core.Option.{Option, none, some}
use mathlib.Core.Path.{◌≡◌, refl, sym, ap, ◌∙◌, subst}
use native.Mathlib.Decide.{dec_le}
use native.Mathlib.Omega.{arith}
use lib.ListN.{length, get_or, set, drop, length-drop}
use Rattle.std.specs.Prelude.{Result, Ok, Err}
use Rattle.bits.specs.Bits.{set_field}
use Rattle.bits.proofs.Each.{Each, each}
use Rattle.table.specs.Answers.{given}
use Rattle.table.specs.Told.{told}
use Rattle.table.specs.declared.refusal.Refusal.{Refusal}
use Rattle.table.specs.declared.rules.Direction.TheVariants.{Down}
use Rattle.text.specs.Characters.{ascii}
use Rattle.text.specs.Decimal.{decimal, digits}
use Rattle.text.specs.Hex.{hex_of}
use Rattle.text.specs.Lines.{joined, text}
use Rattle.fields.specs.Lists.{exactly}
use Rattle.fields.specs.Places.{rx_timing_setup_req_delay}
use Rattle.fields.proofs.Lists.{exactly_given}
use Rattle.payloads.specs.Bytes.{rx_timing_setup_req_bytes}
use Rattle.payloads.specs.Meanings.{delay_of}
use Rattle.payloads.specs.declared.rx_timing_setup.RXTimingSetupReqPayload.{RXTimingSetupReqPayload}
use Rattle.payloads.proofs.Low.{low}
use Rattle.walk.specs.Walk.{go}
use Rattle.listings.specs.Listing.{lines_of, listing_of}
use Rattle.creators.specs.Image.{put_at}
use Rattle.creators.specs.declared.rx_timing_setup.RXTimingSetupReqCreator.{RXTimingSetupReqCreator}
use Rattle.creators.proofs.ReadBack.{length_put}
use Rattle.creators.proofs.Setters.{delay_reads}
use Rattle.ledger.specs.Claims.{Exact}
use Rattle.ledger.specs.Events.{Event, events}
use Rattle.ledger.specs.Parents.{Shown}
use Rattle.ledger.specs.Settings.{delay, says}
use Rattle.claims.specs.Delay.{delays, HasDelay, ReadWithDelay, SameSeconds, ExactDelay, listing_with, DelayTells}
use Rattle.claims.specs.Ledger.{told_parent}
use Rattle.claims.specs.Listing.{TextIs}
use Rattle.claims.proofs.Keeping.{both, verdict_with, refusals_keep}
use Rattle.claims.proofs.Listing.{written_all}

-- ---- what a code stands for

Stands : ℕ → Type 0
Stands code = max 1 code ≡ get_or delays code 0

stands : Each Stands 16
unfolding Stands
stands = (refl, (refl, (refl, (refl, (refl, (refl, (refl, (refl, (refl, (refl, (refl, (refl, (refl, (refl, (refl, (refl, tt))))))))))))))))

in_table : (code : ℕ) → code ≤ 15 → max 1 code ≡ get_or delays code 0
unfolding Stands
in_table code h = each Stands 16 code stands (omega arith)

-- of a payload, by its first byte
by_nibble : (payload : List ℕ) → delay_of payload ≡ max 1 (get_or payload 0 0 % 16)
by_nibble payload = ap (max 1) (sym (low 4 (get_or payload 0 0)))

known : (payload : List ℕ) → delay_of payload ≡ get_or delays (get_or payload 0 0 % 16) 0
known payload = by_nibble payload ∙ in_table (get_or payload 0 0 % 16) (omega arith)

-- computed from what the contract says, in whatever form it says it
code_zero : HasDelay 0x00 1
code_zero r g = g.1.1

read : (b : ℕ) → HasDelay b (get_or delays (b % 16) 0)
read b r g = g.1.1 ∙ known (b ∷ [])

-- ---- set, and read again

written_nibble : (image : List ℕ) (code : ℕ) → put_at rx_timing_setup_req_delay image code ≡ set image 1 (get_or image 1 0 / 16 * 16 + code)
unfolding put_at
written_nibble image code = let e : set_field 0 4 (get_or image 1 0) code ≡ get_or image 1 0 / 16 * 16 + code = omega arith in ap (set image 1) e

read_with : (bytes : List ℕ) (s : ℕ) → delay_of bytes ≡ s → (a : Result RXTimingSetupReqPayload Refusal) → told rx_timing_setup_req_bytes a ≡ given bytes → ReadWithDelay s a
read_with bytes s e (Ok p) t = λ r g. let same : rx_timing_setup_req_bytes p ≡ bytes = cc in g.1.1 ∙ ap delay_of same ∙ e
read_with bytes s e (Err n) t = cc

-- ---- the ledger

-- the same seconds are the same code, or 0 and 1
alike : (a b : ℕ) → (max 1 a ≡ max 1 b) ↔ SameSeconds a b
alike a b = (λ e. by e (dec_le a 1) (dec_le b 1), back)
  where
    by : max 1 a ≡ max 1 b → Dec (a ≤ 1) → Dec (b ≤ 1) → SameSeconds a b
    by e (yes h) (yes k) = inr (h, k)
    by e (yes h) (no k) = inl (omega arith)
    by e (no h) k = inl (omega arith)

    back : SameSeconds a b → max 1 a ≡ max 1 b
    back (inl e) = ap (max 1) e
    back (inr h) = let p = h.0 in let q = h.1 in omega arith

said_alike : (p q : List ℕ) → (says delay p ≡ says delay q) ↔ SameSeconds (get_or p 0 0 % 16) (get_or q 0 0 % 16)
said_alike p q =
    let same = alike (get_or p 0 0 % 16) (get_or q 0 0 % 16) in (
      λ e. same.0 (sym (by_nibble p) ∙ e ∙ by_nibble q),
      λ h. by_nibble p ∙ same.1 h ∙ sym (by_nibble q),
    )

exact_delay : (past : List Event) (o : Option Shown) → Exact delay past o → ExactDelay past o
exact_delay past none e = e
exact_delay past (some s) e = record {
  made = e.made;
  is = e.is;
  named = e.named;
  told = e.told ∙ known e.made.body;
  marked = (
    λ u. let m = e.marked.0 u in (m.0, m.1, (said_alike e.made.body m.0.body).0 m.2),
    λ m. e.marked.1 (m.0, m.1, (said_alike e.made.body m.0.body).1 m.2),
  );
}

-- ---- the listing

one_command : (b frame : ℕ) → listing_of (record { direction = Down }) frame (0x08 ∷ b ∷ []) ≡ listing_with b frame
unfolding go lines_of text joined decimal digits hex_of ascii
one_command b frame = refl

pub delay_tells : DelayTells
delay_tells = record {
  read = read;
  within = λ b r g. (omega (arith, g.1.1), omega (arith, g.1.1));
  written = λ c code r d small set_to.
      let kept = (refusals_keep.delay c code r d set_to).accepts (λ over. omega arith) in
      (kept.0, ap (λ (x : RXTimingSetupReqCreator). x.«data») kept.1 ∙ written_nibble c.now.«data» code);
  set_is_read = λ c code r d image payload a long small set_to built same new.
      let e = both (verdict_with (λ (x : RXTimingSetupReqCreator). x.«data») r set_to.1.1.0 set_to.1.1.1) in
      let kept = (refusals_keep.delay c code r d set_to).accepts (λ over. omega arith) in
      let size : length d.«data» ≡ 2 =
      ap (λ (x : RXTimingSetupReqCreator). length x.«data») kept.1 ∙ length_put rx_timing_setup_req_delay c.now.«data» code ∙ long in
      let seconds : delay_of (drop 1 d.«data») ≡ max 1 code =
      ap (λ (i : List ℕ). delay_of (drop 1 i)) e.1 ∙ delay_reads c.now.«data» code (omega arith) (sym e.0 ∙ kept.0) in
      let here : payload.now ≡ drop 1 d.«data» = same ∙ ap (drop 1) built.1.1 in
      let one : length (drop 1 d.«data») ≡ 1 = length-drop 1 d.«data» ∙ (omega (arith, size)) in
      read_with (drop 1 d.«data») (get_or delays code 0) (seconds ∙ in_table code small) a
      (new.1.1 ∙ ap (exactly 1) here ∙ exactly_given 1 (drop 1 d.«data») one);
  ledger_reads = λ body r g. sym g.1.1;
  held = λ lines lent l after h t asks. exact_delay (reverse (events 0 lines)) (told_parent h) (t.parents delay h asks);
  sent = λ b bytes g. g.1.1;
  in-listing = λ b frame stream e.
      subst (TextIs (record { direction = Down }) frame stream) (ap (listing_of (record { direction = Down }) frame) e ∙ one_command b frame)
      (written_all (record { direction = Down }) frame stream);
  code_zero = code_zero;
  code_one = read 0x01;
  code_most = read 0x0F;
  high_nibble = read 0xF0;
}

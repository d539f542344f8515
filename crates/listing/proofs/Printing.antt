-- What is printed, by the tests that the program makes. Assumes nothing.
use Prim.Native.Nat.{ℕ, ◌-◌, ◌<◌, ◌≤◌}
use mathlib.Core.Bool.{Bool, true, false, cond}
use mathlib.Core.List.{List, [], ◌∷◌}
use mathlib.Core.Path.{◌≡◌, refl, ap, ap₂, ◌∙◌}
use native.Mathlib.Omega.{arith}
use lib.Dec.{eqb, leb}
use lib.ListN.{length, get_or, take, drop, length-take}
use lib.Seq.{take-length}
use borrow.Author.Tests.{eq-eqb, ne_eqb, le-leb, lt-leb, leb-true}
use Rattle.bits.specs.Memory.{over}
use Rattle.bits.proofs.Memory.{Left, over_length, puts_of}
use Rattle.std.specs.Prelude.{Result, Ok, Err}
use Rattle.std.specs.Result.{result_unwrap_or}
use Rattle.table.specs.declared.refusal.Refusal.{Refusal}
use Rattle.table.specs.declared.rules.Direction.{Direction}
use Rattle.table.specs.declared.rules.Direction.TheVariants.{Down, Up}
use Rattle.table.specs.declared.rules.Rules.{Rules}
use Rattle.table.specs.Answers.{Answer, given, refused}
use Rattle.table.specs.Told.{told}
use Rattle.payloads.specs.Commands.{sent_up, sent_down}
use Rattle.text.specs.Characters.{ascii}
use Rattle.text.specs.Lines.{joined}
use Rattle.listings.specs.Into.{into}
use Rattle.listings.specs.Listing.{listing_of}
use Rattle.listings.proofs.Into.{into_room}
use Rattle.listings.proofs.Longest.{text_of_1024}
use Rattle.listing.specs.Program.{at_front, bad_input, by_letter, printed_for}

-- ---- a text that has room is put at the front, and not refused

pub front_put : (t out : List ℕ) → length t ≤ length out → {n : ℕ} {o : List ℕ} → Left n o out 0 t → (n, o) ≡ at_front t out
front_put t out h e =
    let p = puts_of (omega arith) e in
    ap₂ (λ (k : ℕ) (x : List ℕ). (k, x)) (let b = p.behind in omega arith) p.memory

module _ (t out : List ℕ) (h : length t ≤ length out) where
  total_put : {n : ℕ} {o : List ℕ} → ◌≡◌ {A = Answer ℕ × List ℕ} (given n, o) (into t out) → (n, o) ≡ at_front t out
  total_put {n} {o} e =
      let q : ◌≡◌ {A = Answer ℕ × List ℕ} (given n, o) (given (length t), over out 0 t) = e ∙ into_room t out h in
      let told : ◌≡◌ {A = Answer ℕ} (given n) (given (length t)) = ap (λ (x : Answer ℕ × List ℕ). x.0) q in
      let n_is : n ≡ length t = cc in
      ap₂ (λ (k : ℕ) (x : List ℕ). (k, x)) n_is (ap (λ (x : Answer ℕ × List ℕ). x.1) q)

  never_refused : {k : ℕ} {o : List ℕ} → ◌≡◌ {A = Answer ℕ × List ℕ} (refused k, o) (into t out) → ⊥
  never_refused {k} {o} e =
      let q : ◌≡◌ {A = Answer ℕ × List ℕ} (refused k, o) (given (length t), over out 0 t) = e ∙ into_room t out h in
      let told : ◌≡◌ {A = Answer ℕ} (refused k) (given (length t)) = ap (λ (x : Answer ℕ × List ℕ). x.0) q in
      let no_way : ◌≡◌ {A = ℕ} 0 1 = cc in
      omega arith

  -- so is it by the writer's answer, whose length is taken, or none on a refusal
  pub taken_put : (r : Result ℕ Refusal) {o : List ℕ} → ◌≡◌ {A = Answer ℕ × List ℕ} (told (λ n. n) r, o) (into t out) → (result_unwrap_or r 0, o) ≡ at_front t out
  taken_put (Ok n) e = total_put e
  taken_put (Err x) e = absurd (never_refused e)

-- ---- whatever is printed has room

pub bad_few : length bad_input ≤ 30645
unfolding bad_input joined ascii
bad_few = omega arith

letter_few : (letter : ℕ) (s : List ℕ) → length s ≤ 1024 → length (by_letter letter s) ≤ 30645
unfolding by_letter ascii
letter_few letter s h = by (eqb letter 68) (eqb letter 85)
  where
    by : (d u : Bool) → length (cond d (listing_of sent_down 0 s) (cond u (listing_of sent_up 0 s) bad_input)) ≤ 30645
    by true u = text_of_1024.in-frame-0 sent_down s h
    by false true = text_of_1024.in-frame-0 sent_up s h
    by false false = bad_few

printed_few : (s : List ℕ) → length (printed_for s) ≤ 30645
unfolding printed_for
printed_few [] = bad_few
printed_few (c ∷ s) = by (leb (length s) 1024) refl
  where
    by : (b : Bool) → leb (length s) 1024 ≡ b → length (cond b (by_letter c s) bad_input) ≤ 30645
    by true e = letter_few c s (leb-true (length s) 1024 e)
    by false e = bad_few

-- so it ends within memory
pub printed_within : (s out : List ℕ) → 30645 ≤ length out → {n : ℕ} {o : List ℕ} → ◌≡◌ {A = ℕ × List ℕ} (n, o) (at_front (printed_for s) out) → n ≤ length o
printed_within s out h {n} {o} e =
    let few = printed_few s in
    let n_is : n ≡ length (printed_for s) = ap (λ (x : ℕ × List ℕ). x.0) e in
    let o_is : length o ≡ length out = ap (λ (x : ℕ × List ℕ). length x.1) e ∙ over_length out 0 (printed_for s) (omega arith) in
    omega arith

-- ---- by the input

pub for_none : (s : List ℕ) → length s ≡ 0 → bad_input ≡ printed_for s
unfolding printed_for
for_none [] h = refl
for_none (c ∷ s) h = absurd (omega arith)

pub for_long : (s : List ℕ) → 1025 < length s → bad_input ≡ printed_for s
unfolding printed_for
for_long [] h = absurd (omega arith)
for_long (c ∷ s) h = simp (lt-leb (length s) 1024 (omega arith))

module _ (s : List ℕ) (some : length s ≡ 0 → ⊥) (few : length s ≤ 1025) where
  -- the letter, and the bytes behind it
  letter_is : by_letter (get_or s 0 0) (take (length s - 1) (drop 1 s)) ≡ printed_for s
  unfolding printed_for
  letter_is = by s some few
    where
      by : (s : List ℕ) → (length s ≡ 0 → ⊥) → length s ≤ 1025 → by_letter (get_or s 0 0) (take (length s - 1) (drop 1 s)) ≡ printed_for s
      by [] p q = absurd (p refl)
      by (c ∷ s) p q =
          let n : length (c ∷ s) - 1 ≡ length s = omega arith in
          ap (λ (k : ℕ). by_letter c (take k s)) n ∙ ap (by_letter c) (take-length s) ∙ simp (le-leb (length s) 1024 (omega arith))

  pub for_down : (rules : Rules) → rules.direction ≡ Down → get_or s 0 0 ≡ 68 → listing_of rules 0 (take (length s - 1) (drop 1 s)) ≡ printed_for s
  unfolding by_letter ascii
  for_down rules d e =
      ap (λ (x : Direction). listing_of (record { direction = x }) 0 (take (length s - 1) (drop 1 s))) d ∙ simp (eq-eqb (get_or s 0 0) 68 e) at letter_is

  pub for_up : (rules : Rules) → rules.direction ≡ Up → (get_or s 0 0 ≡ 68 → ⊥) → get_or s 0 0 ≡ 85 → listing_of rules 0 (take (length s - 1) (drop 1 s)) ≡ printed_for s
  unfolding by_letter ascii
  for_up rules u d e =
      ap (λ (x : Direction). listing_of (record { direction = x }) 0 (take (length s - 1) (drop 1 s))) u
      ∙ simp (ne_eqb (get_or s 0 0) 68 d, eq-eqb (get_or s 0 0) 85 e) at letter_is

  pub for_other : (get_or s 0 0 ≡ 68 → ⊥) → (get_or s 0 0 ≡ 85 → ⊥) → bad_input ≡ printed_for s
  unfolding by_letter ascii
  for_other d u = simp (ne_eqb (get_or s 0 0) 68 d, ne_eqb (get_or s 0 0) 85 u) at letter_is

-- the bytes behind the letter are no more than 1,024
pub stream_few : (s : List ℕ) → length s ≤ 1025 → length (take (length s - 1) (drop 1 s)) ≤ 1024
stream_few s h = simp length-take (omega arith)

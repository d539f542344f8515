-- Reading after setting, and what a setter leaves, once over places and runs. Assumes nothing.
use Prim.Native.Nat.{ℕ, ◌+◌, ◌-◌, ◌^◌, ◌<◌, ◌≤◌}
use mathlib.Core.Path.{◌≡◌, refl, sym, ap, ◌∙◌}
use mathlib.Core.Bool.{Bool, true, false}
use mathlib.Core.List.{List, ◌++◌, append_assoc}
use mathlib.Core.Logic.{◌⊎◌, inl, inr, ◌≢◌}
use native.Mathlib.Decide.{ℕ_discrete}
use native.Mathlib.Omega.{arith}
use lib.Dec.{eqb, ltb}
use lib.ListN.{length, get_or, take, drop, length-set, get_or-append}
use lib.Seq.{get_or-set_same, get_or-set_other, get_or-drop, get_or-take, drop-drop, drop_at, take_at, take_all, drop-paste, length-paste, length-take-le}
use borrow.Author.Tests.{ltb-true}
use Rattle.bits.specs.Bits.{field, set_field, bit_on, bit_of}
use Rattle.bits.proofs.Laws.{read_put, put_leaves}
use Rattle.table.specs.Answers.{accepted, refused}
use Rattle.fields.specs.Places.{Place, Run, number_at, yes_at, bytes_at, bit, octet}
use Rattle.fields.proofs.Masks.{bit_fits}
use Rattle.creators.specs.Image.{put_at, put_bytes, only_if, checked_at}

-- the payload in an image: what the readers read
abbrev pub payload_of : List ℕ → List ℕ
payload_of image = drop 1 image

-- ---- a place

pub length_put : (p : Place) (image : List ℕ) (v : ℕ) → length (put_at p image v) ≡ length image
unfolding put_at
length_put p image v = length-set image (1 + p.byte) (set_field p.lo p.width (get_or image (1 + p.byte) 0) v)

-- bit k of byte j of the image is none of the place's
abbrev pub Outside : Place → ℕ → ℕ → Type 0
Outside p j k = (j ≢ 1 + p.byte) ⊎ ((k < p.lo) ⊎ (p.width + p.lo ≤ k))

module _ (p : Place) (image : List ℕ) (v : ℕ) (here : 1 + p.byte < length image) (fits : v < 2 ^ p.width) where
  -- the byte that was written
  written : get_or (put_at p image v) (1 + p.byte) 0 ≡ set_field p.lo p.width (get_or image (1 + p.byte) 0) v
  unfolding put_at
  written = get_or-set_same image (1 + p.byte) (set_field p.lo p.width (get_or image (1 + p.byte) 0) v) 0 here

  -- what was put is read
  pub reads : number_at p (payload_of (put_at p image v)) ≡ v
  reads =
      ap (field p.lo p.width) (get_or-drop 1 (put_at p image v) p.byte 0 ∙ written)
      ∙ read_put p.lo p.width (get_or image (1 + p.byte) 0) v fits

  -- and every bit outside the place stays
  in-its-byte : (j k : ℕ) → j ≡ 1 + p.byte → (k < p.lo) ⊎ (p.width + p.lo ≤ k) → bit_on k (get_or (put_at p image v) j 0) ≡ bit_on k (get_or image j 0)
  in-its-byte j k e o =
      ap (λ (i : ℕ). bit_on k (get_or (put_at p image v) i 0)) e
      ∙ ap (bit_on k) written
      ∙ put_leaves p.lo p.width (get_or image (1 + p.byte) 0) v fits k o
      ∙ ap (λ (i : ℕ). bit_on k (get_or image i 0)) (sym e)

  in-another : (j k : ℕ) → j ≢ 1 + p.byte → bit_on k (get_or (put_at p image v) j 0) ≡ bit_on k (get_or image j 0)
  unfolding put_at
  in-another j k n = ap (bit_on k) (get_or-set_other image (1 + p.byte) j (set_field p.lo p.width (get_or image (1 + p.byte) 0) v) 0 n)

  pub leaves : (j k : ℕ) → Outside p j k → bit_on k (get_or (put_at p image v) j 0) ≡ bit_on k (get_or image j 0)
  leaves j k (inl n) = in-another j k n
  leaves j k (inr o) = by (ℕ_discrete j (1 + p.byte))
    where
      by : Dec (j ≡ 1 + p.byte) → bit_on k (get_or (put_at p image v) j 0) ≡ bit_on k (get_or image j 0)
      by (yes e) = in-its-byte j k e o
      by (no n) = in-another j k n

-- a yes or no
bit_told : (on : Bool) → eqb (bit_of on) 1 ≡ on
bit_told true = refl
bit_told false = refl

pub says : (byte lo : ℕ) (image : List ℕ) (on : Bool) → 1 + byte < length image → yes_at (bit byte lo) (payload_of (put_at (bit byte lo) image (bit_of on))) ≡ on
says byte lo image on h = ap (λ (n : ℕ). eqb n 1) (reads (bit byte lo) image (bit_of on) h (bit_fits on)) ∙ bit_told on

-- ---- a setter that may refuse

pub accepted_writes : (ok : Bool) (n : ℕ) (image written : List ℕ) → (only_if ok n image written).0 ≡ accepted → (ok ≡ true) × ((only_if ok n image written).1 ≡ written)
accepted_writes true n image written e = (refl, refl)
accepted_writes false n image written e = let z : ◌≡◌ {A = ℕ} 0 1 = cc in absurd (omega arith)

-- a refusal has the setter's number, and the image is as it was
pub refused_keeps : (ok : Bool) (n : ℕ) (image written : List ℕ) (m : ℕ) → (only_if ok n image written).0 ≡ refused m → (m ≡ n) × ((only_if ok n image written).1 ≡ image)
refused_keeps true n image written m e = let z : ◌≡◌ {A = ℕ} 0 1 = cc in absurd (omega arith)
refused_keeps false n image written m e = (cc, refl)

module _ (p : Place) (n : ℕ) (image : List ℕ) (v : ℕ) (here : 1 + p.byte < length image) where
  pub checked_reads : (checked_at p n image v).0 ≡ accepted → number_at p (payload_of (checked_at p n image v).1) ≡ v
  unfolding checked_at
  checked_reads e =
      let w = accepted_writes (ltb v (2 ^ p.width)) n image (put_at p image v) e in
      ap (λ (i : List ℕ). number_at p (payload_of i)) w.1 ∙ reads p image v here (ltb-true v (2 ^ p.width) w.0)

  -- accepted or refused
  pub checked_leaves : (j k : ℕ) → Outside p j k → bit_on k (get_or (checked_at p n image v).1 j 0) ≡ bit_on k (get_or image j 0)
  unfolding checked_at
  checked_leaves j k o = go (ltb v (2 ^ p.width)) (ltb-true v (2 ^ p.width))
    where
      go : (ok : Bool) → (ok ≡ true → v < 2 ^ p.width) → bit_on k (get_or (only_if ok n image (put_at p image v)).1 j 0) ≡ bit_on k (get_or image j 0)
      go true h = leaves p image v here (h refl) j k o
      go false h = refl

-- ---- a field in a byte that is written whole

pub reads_within : (p : Place) (image : List ℕ) (v : ℕ) → 1 + p.byte < length image → get_or image (1 + p.byte) 0 < 2 ^ 8
    → number_at p (payload_of (put_at (octet p.byte) image v)) ≡ field p.lo p.width v
unfolding put_at
reads_within p image v here byte =
    let e : set_field 0 8 (get_or image (1 + p.byte) 0) v ≡ v = omega arith in
    ap (field p.lo p.width) (get_or-drop 1 (put_at (octet p.byte) image v) p.byte 0 ∙ get_or-set_same image (1 + p.byte) (set_field 0 8 (get_or image (1 + p.byte) 0) v) 0 here ∙ e)

-- ---- a run of bytes

module _ (r : Run) (image bytes : List ℕ) (here : 1 + r.byte + r.count ≤ length image) (fits : r.count ≡ length bytes) where
  pub length_run : length (put_bytes r image bytes) ≡ length image
  unfolding put_bytes
  length_run = length-paste image (1 + r.byte) bytes r.count here (omega arith)

  pub reads_run : bytes_at r (payload_of (put_bytes r image bytes)) ≡ bytes
  unfolding put_bytes
  reads_run =
      let at = 1 + r.byte in
      let rest = drop (at + r.count) image in
      let front : length (take at image) ≡ at = length-take-le at image (omega arith) in
      let size : length (take r.count bytes) ≡ r.count = length-take-le r.count bytes (omega arith) in
      ap (take r.count)
      (drop-drop r.byte 1 (put_bytes r image bytes)
      ∙ ap (drop at) (append_assoc (take at image) (take r.count bytes) rest)
      ∙ drop_at (take at image) (take r.count bytes ++ rest) at front)
      ∙ take_at (take r.count bytes) rest r.count size
      ∙ take_all r.count bytes (omega arith)

  -- and every byte outside the run stays
  pub leaves_run : (j : ℕ) → (j < 1 + r.byte) ⊎ (1 + r.byte + r.count ≤ j) → get_or (put_bytes r image bytes) j 0 ≡ get_or image j 0
  unfolding put_bytes
  leaves_run j (inl h) =
      let at = 1 + r.byte in
      let front : length (take at image) ≡ at = length-take-le at image (omega arith) in
      ap (λ (i : List ℕ). get_or i j 0) (append_assoc (take at image) (take r.count bytes) (drop (at + r.count) image))
      ∙ get_or-append (take at image) (take r.count bytes ++ drop (at + r.count) image) 0 j (omega arith)
      ∙ get_or-take at image j 0 h
  leaves_run j (inr h) =
      let past = 1 + r.byte + r.count in
      let e : past + (j - past) ≡ j = omega arith in
      ap (λ (i : ℕ). get_or (put_bytes r image bytes) i 0) (sym e)
      ∙ sym (get_or-drop past (put_bytes r image bytes) (j - past) 0)
      ∙ ap (λ (i : List ℕ). get_or i (j - past) 0) (drop-paste image (1 + r.byte) bytes r.count (omega arith) (omega arith))
      ∙ get_or-drop past image (j - past) 0
      ∙ ap (λ (i : ℕ). get_or image i 0) e

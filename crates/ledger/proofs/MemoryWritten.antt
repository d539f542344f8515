-- The row that a request writes is the row of each setting that it writes, and tells whether it is for a channel that is not held. Assumes nothing.
use Prim.Native.Nat.{ℕ, ◌+◌, ◌%◌, ◌<◌, ◌≤◌}
use mathlib.Core.Bool.{Bool, true, false, cond, ◌&&◌, ◌||◌}
use mathlib.Core.List.{[], ◌∷◌}
use mathlib.Core.Path.{◌≡◌, refl, sym, ap, ap₂, subst, ◌∙◌}
use native.Mathlib.Decide.{dec_lt}
use native.Mathlib.Omega.{arith}
use borrow.Author.Tests.{eqb-true, eqb-false, eq-eqb, ne_eqb, lt-ltb, le-ltb}
use lib.Dec.{eqb, ltb}
use lib.ListN.{get_or}
use Rattle.fields.specs.Places.{number_at, octet}
use Rattle.ledger.specs.Memory.{five_of, request_of, channel_row, row_of}
use Rattle.ledger.specs.Settings.{
  Setting,
  data_rate,
  tx_power,
  channel_mask,
  redundancy,
  max_duty_cycle,
  rx1_dr_offset,
  rx2_data_rate,
  rx2_frequency,
  delay,
  downlink_dwell_time,
  uplink_dwell_time,
  max_eirp,
  channel_frequency,
  channel_rates,
  downlink_frequency,
  writer,
  is_for,
  writes,
  is_beyond,
}
use Rattle.ledger.specs.Working.{row_written}
use Rattle.ledger.specs.declared.memory.Asked.{Asked}

-- ---- the CIDs that write a row

data Known : ℕ → Type 0 where
  adr : Known 3
  duty : Known 4
  windows : Known 5
  timing : Known 8
  limits : Known 9
  channel : Known 7
  downlink : Known 10
  other : {c : ℕ} → eqb c 7 ≡ false → eqb c 10 ≡ false → ((i : ℕ) → row_written c i ≡ 37) → Known c

known : (c : ℕ) → Known c
known c = by (eqb c 3) (eqb c 4) (eqb c 5) (eqb c 8) (eqb c 9) (eqb c 7) (eqb c 10) refl refl refl refl refl refl refl
  where
    by : (b₃ b₄ b₅ b₈ b₉ b₇ b₁₀ : Bool) → eqb c 3 ≡ b₃ → eqb c 4 ≡ b₄ → eqb c 5 ≡ b₅ → eqb c 8 ≡ b₈ → eqb c 9 ≡ b₉ → eqb c 7 ≡ b₇ → eqb c 10 ≡ b₁₀
        → Known c
    by true b₄ b₅ b₈ b₉ b₇ b₁₀ e₃ e₄ e₅ e₈ e₉ e₇ e₁₀ = subst Known (sym (eqb-true c 3 e₃)) adr
    by false true b₅ b₈ b₉ b₇ b₁₀ e₃ e₄ e₅ e₈ e₉ e₇ e₁₀ = subst Known (sym (eqb-true c 4 e₄)) duty
    by false false true b₈ b₉ b₇ b₁₀ e₃ e₄ e₅ e₈ e₉ e₇ e₁₀ = subst Known (sym (eqb-true c 5 e₅)) windows
    by false false false true b₉ b₇ b₁₀ e₃ e₄ e₅ e₈ e₉ e₇ e₁₀ = subst Known (sym (eqb-true c 8 e₈)) timing
    by false false false false true b₇ b₁₀ e₃ e₄ e₅ e₈ e₉ e₇ e₁₀ = subst Known (sym (eqb-true c 9 e₉)) limits
    by false false false false false true b₁₀ e₃ e₄ e₅ e₈ e₉ e₇ e₁₀ = subst Known (sym (eqb-true c 7 e₇)) channel
    by false false false false false false true e₃ e₄ e₅ e₈ e₉ e₇ e₁₀ = subst Known (sym (eqb-true c 10 e₁₀)) downlink
    by false false false false false false false e₃ e₄ e₅ e₈ e₉ e₇ e₁₀ = other {c = c} e₇ e₁₀ (λ i. simp (e₃, e₄, e₅, e₈, e₉, e₇, e₁₀))

-- a channel's row, and 38 for one that is not held
abbrev row_for : ℕ → ℕ → ℕ
row_for first i = cond (ltb i 16) (first + i) 38

-- the CID that writes a row
abbrev cid_of : ℕ → ℕ
cid_of r = cond (ltb r 5) (get_or (3 ∷ 4 ∷ 5 ∷ 8 ∷ 9 ∷ []) r 0) (cond (ltb r 21) 7 10)

cid_of_channel : (r : ℕ) → 5 ≤ r → r < 21 → cid_of r ≡ 7
cid_of_channel r l h = simp (le-ltb r 5 l, lt-ltb r 21 h)

cid_of_downlink : (r : ℕ) → 21 ≤ r → cid_of r ≡ 10
cid_of_downlink r l = let m : 5 ≤ r = omega arith in simp (le-ltb r 5 m, le-ltb r 21 l)

row-for : (first i : ℕ) → row_for first i < 37 → (i < 16) × (row_for first i ≡ first + i)
row-for first i h = by (dec_lt i 16)
  where
    by : Dec (i < 16) → (i < 16) × (row_for first i ≡ first + i)
    by (yes l) = (l, simp (lt-ltb i 16 l))
    by (no l) = let m : 16 ≤ i = omega arith in let n : 38 < 37 = simp (le-ltb i 16 m) at h in absurd (omega arith)

writer_of : {c : ℕ} → Known c → (i : ℕ) → row_written c i < 37 → cid_of (row_written c i) ≡ c
writer_of adr i h = refl
writer_of duty i h = refl
writer_of windows i h = refl
writer_of timing i h = refl
writer_of limits i h = refl
writer_of channel i h = let p = row-for 5 i h in cid_of_channel (row_for 5 i) (omega arith) (omega arith)
writer_of downlink i h = let p = row-for 21 i h in cid_of_downlink (row_for 21 i) (omega arith)
writer_of (other e₇ e₁₀ e) i h = let r = e i in absurd (omega arith)

-- ---- the settings

-- the channel that a request names
abbrev named : ℕ → ℕ
named b = number_at (octet 0) (five_of b)

named_is : (b : ℕ) → named b ≡ b % 256
named_is b = omega arith

row_for_not : (first i : ℕ) → first < 22 → row_for first i ≡ 37 → ⊥
row_for_not first i l e = by (dec_lt i 16)
  where
    by : Dec (i < 16) → ⊥
    by (yes h) = let n : first + i ≡ 37 = simp (lt-ltb i 16 h) at e in omega arith
    by (no h) = let m : 16 ≤ i = omega arith in let n : ◌≡◌ {A = ℕ} 38 37 = simp (le-ltb i 16 m) at e in omega arith

module _ (first k i : ℕ) (l : first < 22) where
  rows_apart : (k ≡ i → ⊥) → row_for first i ≡ channel_row first k → ⊥
  rows_apart q e = by (dec_lt i 16) (dec_lt k 16)
    where
      by : Dec (i < 16) → Dec (k < 16) → ⊥
      by (yes h) (yes g) = let n : first + i ≡ first + k = simp (lt-ltb i 16 h, lt-ltb k 16 g) at e in q (omega arith)
      by (yes h) (no g) = let m : 16 ≤ k = omega arith in let n : first + i ≡ 37 = simp (lt-ltb i 16 h, le-ltb k 16 m) at e in omega arith
      by (no h) (yes g) = let m : 16 ≤ i = omega arith in let n : 38 ≡ first + k = simp (le-ltb i 16 m, lt-ltb k 16 g) at e in omega arith
      by (no h) (no g) =
          let m : 16 ≤ i = omega arith in
          let o : 16 ≤ k = omega arith in
          let n : ◌≡◌ {A = ℕ} 38 37 = simp (le-ltb i 16 m, le-ltb k 16 o) at e in omega arith

  row_own : ltb k 16 ≡ eqb (row_for first k) (channel_row first k)
  row_own = by (dec_lt k 16)
    where
      by : Dec (k < 16) → ltb k 16 ≡ eqb (row_for first k) (channel_row first k)
      by (yes h) = lt-ltb k 16 h ∙ sym (eq-eqb (row_for first k) (channel_row first k) (simp (lt-ltb k 16 h)))
      by (no h) = let m : 16 ≤ k = omega arith in simp (le-ltb k 16 m)

  -- a request that names channel i is for the setting of channel k if the rows are the same
  names : (eqb k i && ltb k 16) ≡ eqb (row_for first i) (channel_row first k)
  names = by (eqb k i) refl
    where
      by : (b : Bool) → eqb k i ≡ b → (b && ltb k 16) ≡ eqb (row_for first i) (channel_row first k)
      by true e = row_own ∙ ap (λ (n : ℕ). eqb (row_for first n) (channel_row first k)) (eqb-true k i e)
      by false e = sym (ne_eqb (row_for first i) (channel_row first k) (rows_apart (eqb-false k i e)))

names_in : (first k b : ℕ) → first < 22 → (eqb k (named b) && ltb k 16) ≡ eqb (row_for first (b % 256)) (channel_row first k)
names_in first k b l = ap (λ (i : ℕ). eqb k i && ltb k 16) (named_is b) ∙ names first k (b % 256) l

-- a channel that is not held
past : (first i : ℕ) → first < 22 → ltb 15 i ≡ eqb (row_for first i) 38
past first i l = by (dec_lt i 16)
  where
    by : Dec (i < 16) → ltb 15 i ≡ eqb (row_for first i) 38
    by (yes h) =
        le-ltb 15 i (omega arith) ∙ sym (ne_eqb (row_for first i) 38 (λ e. let n : first + i ≡ 38 = simp (lt-ltb i 16 h) at e in omega arith))
    by (no h) = let m : 16 ≤ i = omega arith in lt-ltb 15 i (omega arith) ∙ sym (eq-eqb (row_for first i) 38 (simp (le-ltb i 16 m)))

past_in : (first b : ℕ) → first < 22 → ltb 15 (named b) ≡ eqb (row_for first (b % 256)) 38
past_in first b l = ap (ltb 15) (named_is b) ∙ past first (b % 256) l

or_false : (t : Bool) → (t || false) ≡ t
or_false true = refl
or_false false = refl

channel-row : (first k : ℕ) → channel_row first k < 37 → (k < 16) × (channel_row first k ≡ first + k)
channel-row first k h = by (dec_lt k 16)
  where
    by : Dec (k < 16) → (k < 16) × (channel_row first k ≡ first + k)
    by (yes l) = (l, simp (lt-ltb k 16 l))
    by (no l) = let m : 16 ≤ k = omega arith in let n : 37 < 37 = simp (le-ltb k 16 m) at h in absurd (omega arith)

cid_of_channel_row : (k : ℕ) → channel_row 5 k < 37 → cid_of (channel_row 5 k) ≡ 7
cid_of_channel_row k h = let p = channel-row 5 k h in cid_of_channel (channel_row 5 k) (omega arith) (omega arith)

cid_of_downlink_row : (k : ℕ) → channel_row 21 k < 37 → cid_of (channel_row 21 k) ≡ 10
cid_of_downlink_row k h = let p = channel-row 21 k h in cid_of_downlink (channel_row 21 k) (omega arith)

-- a row that is held has one CID
cid_of_row : (σ : Setting) → row_of σ < 37 → cid_of (row_of σ) ≡ (writer σ).cid
cid_of_row data_rate h = refl
cid_of_row tx_power h = refl
cid_of_row channel_mask h = refl
cid_of_row redundancy h = refl
cid_of_row max_duty_cycle h = refl
cid_of_row rx1_dr_offset h = refl
cid_of_row rx2_data_rate h = refl
cid_of_row rx2_frequency h = refl
cid_of_row delay h = refl
cid_of_row downlink_dwell_time h = refl
cid_of_row uplink_dwell_time h = refl
cid_of_row max_eirp h = refl
cid_of_row (channel_frequency k) h = cid_of_channel_row k h
cid_of_row (channel_rates k) h = cid_of_channel_row k h
cid_of_row (downlink_frequency k) h = cid_of_downlink_row k h

-- a request with the CID that writes a setting writes its row if it is for the setting
for_row : (σ : Setting) (b : ℕ) → is_for σ (five_of b) ≡ eqb (row_written (writer σ).cid (b % 256)) (row_of σ)
for_row data_rate b = refl
for_row tx_power b = refl
for_row channel_mask b = refl
for_row redundancy b = refl
for_row max_duty_cycle b = refl
for_row rx1_dr_offset b = refl
for_row rx2_data_rate b = refl
for_row rx2_frequency b = refl
for_row delay b = refl
for_row downlink_dwell_time b = refl
for_row uplink_dwell_time b = refl
for_row max_eirp b = refl
for_row (channel_frequency k) b = names_in 5 k b (omega arith)
for_row (channel_rates k) b = names_in 5 k b (omega arith)
for_row (downlink_frequency k) b = names_in 21 k b (omega arith)

-- and it writes some row, or is for a channel that is not held
writer_writes : (σ : Setting) (i : ℕ) → row_written (writer σ).cid i ≡ 37 → ⊥
writer_writes data_rate i e = omega arith
writer_writes tx_power i e = omega arith
writer_writes channel_mask i e = omega arith
writer_writes redundancy i e = omega arith
writer_writes max_duty_cycle i e = omega arith
writer_writes rx1_dr_offset i e = omega arith
writer_writes rx2_data_rate i e = omega arith
writer_writes rx2_frequency i e = omega arith
writer_writes delay i e = omega arith
writer_writes downlink_dwell_time i e = omega arith
writer_writes uplink_dwell_time i e = omega arith
writer_writes max_eirp i e = omega arith
writer_writes (channel_frequency k) i e = row_for_not 5 i (omega arith) e
writer_writes (channel_rates k) i e = row_for_not 5 i (omega arith) e
writer_writes (downlink_frequency k) i e = row_for_not 21 i (omega arith) e

-- ---- a request

module _ (c : ℕ) (r : Asked) where
  -- that writes a row writes the settings of that row
  pub writes_row : row_written c (r.payload % 256) < 37 → (σ : Setting) → writes (request_of c r) σ ≡ eqb (row_written c (r.payload % 256)) (row_of σ)
  writes_row h σ = by (eqb c (writer σ).cid) refl
    where
      by : (t : Bool) → eqb c (writer σ).cid ≡ t → (t && is_for σ (five_of r.payload)) ≡ eqb (row_written c (r.payload % 256)) (row_of σ)
      by true e = for_row σ r.payload ∙ ap (λ (d : ℕ). eqb (row_written d (r.payload % 256)) (row_of σ)) (sym (eqb-true c (writer σ).cid e))
      by false e =
          sym (ne_eqb (row_written c (r.payload % 256)) (row_of σ) (λ q.
          eqb-false c (writer σ).cid e (sym (writer_of (known c) (r.payload % 256) h) ∙ ap cid_of q ∙ cid_of_row σ (subst (λ (k : ℕ). k < 37) q h))))

  -- that writes none writes no setting
  pub writes_none : row_written c (r.payload % 256) ≡ 37 → (σ : Setting) → writes (request_of c r) σ ≡ false
  writes_none h σ = by (eqb c (writer σ).cid) refl
    where
      by : (t : Bool) → eqb c (writer σ).cid ≡ t → (t && is_for σ (five_of r.payload)) ≡ false
      by true e = absurd (writer_writes σ (r.payload % 256) (ap (λ (d : ℕ). row_written d (r.payload % 256)) (sym (eqb-true c (writer σ).cid e)) ∙ h))
      by false e = refl

  pub beyond_row : is_beyond (request_of c r) ≡ eqb (row_written c (r.payload % 256)) 38
  beyond_row = by (known c)
    where
      by : {d : ℕ} → Known d → is_beyond (request_of d r) ≡ eqb (row_written d (r.payload % 256)) 38
      by adr = refl
      by duty = refl
      by windows = refl
      by timing = refl
      by limits = refl
      by channel = or_false (ltb 15 (named r.payload)) ∙ past_in 5 r.payload (omega arith)
      by downlink = past_in 21 r.payload (omega arith)
      by (other e₇ e₁₀ e) =
          ap₂ (λ (s t : Bool). (s && ltb 15 (named r.payload)) || (t && ltb 15 (named r.payload))) e₇ e₁₀ ∙ ap (λ (k : ℕ). eqb k 38) (sym (e (r.payload % 256)))

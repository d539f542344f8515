-- A refusal leaves things as they were: crates/claims/specs/Keeping.antt. Assumes nothing.
use Prim.Native.Nat.{ℕ, suc, ◌+◌, ◌*◌, ◌/◌, ◌%◌, ◌<◌, ◌≤◌}
use mathlib.Core.Bool.{Bool, true, false, cond}
use mathlib.Core.List.{List, ◌∷◌}
use mathlib.Core.Path.{◌≡◌, sym, ap, ◌∙◌}
use native.Mathlib.Omega.{arith}
use lib.Dec.{ltb, leb}
use lib.ListN.{length, set}
use borrow.Author.Tests.{lt-ltb, le-ltb, le-leb, lt-leb}
use Rattle.std.specs.Borrow.{MutBor}
use Rattle.std.specs.Prelude.{Result}
use Rattle.std.proofs.Math.Nat.{lt_of_not-le}
use Rattle.std.proofs.lemmas.Bool.{true_from_ne_false}
use Rattle.bits.specs.Memory.{over, written_at}
use Rattle.table.specs.Answers.{Answer, Consent, refused}
use Rattle.table.specs.Told.{told_verdict}
use Rattle.table.specs.declared.refusal.Refusal.{Refusal}
use Rattle.fields.specs.Mask.{switched}
use Rattle.fields.specs.Places.{link_adr_req_data_rate, link_adr_req_tx_power, rx_timing_setup_req_delay, tx_param_setup_req_max_eirp, dev_status_ans_whole, device_time_ans_fraction}
use Rattle.creators.specs.Image.{put_at, only_if, checked_at}
use Rattle.creators.specs.Setters.{is_margin, six_bits, margin_at, nano_seconds_at}
use Rattle.walk.specs.Step.{Found, Heading}
use Rattle.walk.specs.Stepping.{moved_to}
use Rattle.walk.specs.Told.{told_step}
use Rattle.walk.specs.Walk.{Cmd}
use Rattle.build.specs.Records.{held_by, command_bytes, len_byte, packed_at}
use Rattle.build.specs.declared.record.Record.{Record}
use Rattle.build.proofs.record.Record.write.Reads as write
use Rattle.build.proofs.record.Record.pack.Reads as pack
use Rattle.lent.specs.Iterator.{at_index}
use Rattle.lent.specs.declared.iterator.MacCommandIterator.{MacCommandIterator}
use Rattle.claims.specs.Handing.{NextAsked, NextRecordAsked}
use Rattle.claims.specs.Handing as Handing
use Rattle.claims.specs.Keeping.{Checked, Written, RefusalsKeep, MasksTell}
use Rattle.claims.specs.Outcomes.{GivesWith}
use Rattle.claims.proofs.Building.{keeps_slots, keeps_structs, keeps_four}
use Rattle.claims.proofs.Handing.{next_says, next_record_says, retold_refused}

-- two equations from one of pairs
pub both : {A B : Type 0} {a c : A} {b d : B} → ◌≡◌ {A = A × B} (a, b) (c, d) → (a ≡ c) × (b ≡ d)
both e = (ap (λ p. p.0) e, ap (λ p. p.1) e)

-- a verdict, and the state that is left, by what is said of both
pub verdict_with : {A : Type 0} (held : A → List ℕ) (v : Result Unit Refusal) {a b : A} {x : Consent × List ℕ}
    → ◌≡◌ {A = Consent × List ℕ} (told_verdict v, held a) x → a ≡ b → ◌≡◌ {A = Consent × List ℕ} (told_verdict v, held b) x
verdict_with held v e f = ap (λ a. (told_verdict v, held a)) (sym f) ∙ e

-- a state that holds a list, and a test that fails exactly where the argument is bad: it accepts with one state, and refuses with the state as it was
checked : {A : Type 0} (hold : List ℕ → A) (bad : Type 0) (ok : Bool) (v : Result Unit Refusal) (after x y : List ℕ) (n : ℕ)
    → ◌≡◌ {A = Consent × List ℕ} (told_verdict v, after) (only_if ok n x y) → (bad → ok ≡ false) → ((bad → ⊥) → ok ≡ true)
    → Checked bad n v (hold x) (hold y) (hold after)
checked hold bad true v after x y n e f t = record {
  refuses = λ b. let no_way = f b in cc;
  accepts = λ b. (ap (λ p. p.0) e, ap (λ p. hold p.1) e);
  keeps = λ m r. let accepts = ap (λ p. p.0) e in cc;
}
checked hold bad false v after x y n e f t = record {
  refuses = λ b. (ap (λ p. p.0) e, ap (λ p. hold p.1) e);
  accepts = λ b. let no_way = t b in cc;
  keeps = λ m r. ap (λ p. hold p.1) e;
}

-- a number below a bound, the bound's own failure, and its absence
not_below : (v k : ℕ) → (k ≤ v → ⊥) → ltb v k ≡ true
not_below v k h = lt-ltb v k (lt_of_not-le h)

below : {A : Type 0} (hold : List ℕ → A) (i k : ℕ) (v : Result Unit Refusal) (after x y : List ℕ) (n : ℕ)
    → ◌≡◌ {A = Consent × List ℕ} (told_verdict v, after) (only_if (ltb i k) n x y) → Checked (k ≤ i) n v (hold x) (hold y) (hold after)
below hold i k v after x y n e = checked hold (k ≤ i) (ltb i k) v after x y n e (le-ltb i k) (not_below i k)

-- a nibble takes 0 to 15
nibble : {A : Type 0} (hold : List ℕ → A) (i : ℕ) (v : Result Unit Refusal) (after x y : List ℕ) (n : ℕ)
    → ◌≡◌ {A = Consent × List ℕ} (told_verdict v, after) (only_if (ltb i 16) n x y) → Checked (15 < i) n v (hold x) (hold y) (hold after)
nibble hold i v after x y n e = checked hold (15 < i) (ltb i 16) v after x y n e (λ b. le-ltb i 16 (omega arith)) (λ b. not_below i 16 (λ l. b (omega arith)))

at_most : (i k : ℕ) → (k < i → ⊥) → leb i k ≡ true
at_most i k h = let l = lt_of_not-le {n = suc k} {m = i} h in le-leb i k (omega arith)

-- ---- an iterator that is refused; a record that has no room

next_kept : (it : MacCommandIterator) (a : Answer (Found Cmd)) (it' : MacCommandIterator) (n : ℕ) → NextAsked it a it' → a ≡ refused n → it' ≡ it
next_kept _ _ _ n (Handing.asked it r p it' q g) e =
    let t = next_says it r it' q in
    let r_is : told_step r ≡ refused n = retold_refused (λ (h : Heading). record { cid = h.cid; body = p.now }) (told_step r) n e in
    ap (λ x. x.1) t ∙ ap (λ (x : Answer (Found Heading)). at_index it.now (moved_to x it.now.index)) (sym (ap (λ x. x.0) t) ∙ r_is)

next_record_kept : (frame : ℕ) (it : MacCommandIterator) (a : Answer (Found Record)) (it' : MacCommandIterator) (n : ℕ) → NextRecordAsked frame it a it' → a ≡ refused n → it' ≡ it
next_record_kept frame _ _ _ n (Handing.asked it r it' q) e =
    let t = next_record_says it frame r it' q in
    let r_is : told_step r.step ≡ refused n = retold_refused (λ (h : Heading). r.«record») (told_step r.step) n e in
    ap (λ x. x.1) t ∙ ap (λ (x : Answer (Found Heading)). at_index it.now (moved_to x it.now.index)) (sym (ap (λ x. x.0.0) t) ∙ r_is)

write_says : (r : Record) (out : MutBor (List ℕ)) (at next : ℕ) (after : List ℕ) → GivesWith (λ s. s.1.0.now) write.Post (r, (out, (at, tt))) next after
    → Written out.now at (held_by r) next after
unfolding written_at
write_says r out at next after g =
    let k = at + length (command_bytes (held_by r)) in
    let e : ◌≡◌ {A = ℕ × List ℕ} (next, after) (cond (leb k (length out.now)) (k, over out.now at (command_bytes (held_by r))) (at, out.now)) =
    ap (λ (o : List ℕ). (next, o)) (sym g.1.1.1) ∙ g.1.1.0 in
    record {
      no_room = λ h. both (e ∙ ap (λ (b : Bool). cond b (k, over out.now at (command_bytes (held_by r))) (at, out.now)) (lt-leb k (length out.now) h));
      room = λ h. both (e ∙ ap (λ (b : Bool). cond b (k, over out.now at (command_bytes (held_by r))) (at, out.now)) (le-leb k (length out.now) h));
    }

pack_says : (r : Record) (slots : MutBor (List ℕ)) (i : ℕ) (after : List ℕ) → GivesWith (λ s. s.1.0.now) pack.Post (r, (slots, (i, tt))) tt after
    → (length slots.now / 8 ≤ i → after ≡ slots.now) × (after ≡ packed_at slots.now i (held_by r))
unfolding packed_at
pack_says r slots i after g =
    let e = sym g.1.1.1 ∙ g.1.1.0 in (
      λ h. e ∙ ap (λ (b : Bool). cond b (over slots.now (8 * i) (r.cid ∷ len_byte r.len ∷ r.payload)) slots.now) (le-ltb i (length slots.now / 8) h),
      e,
    )

pub refusals_keep : RefusalsKeep
unfolding checked_at margin_at nano_seconds_at
refusals_keep = record {
  slots = keeps_slots;
  structs = keeps_structs;
  four = keeps_four;
  next = next_kept;
  next_record = next_record_kept;
  write = write_says;
  pack = pack_says;
  bank = λ N fits m i v r m' g. below (λ b. record { 0 = b }) i (length m.now.0) r m'.0 m.now.0 (set m.now.0 i v) 5 (verdict_with (λ x. x.0) r g.1.1.0 g.1.1.1);
  channel = λ N fits m c on r m' g. below (λ b. record { 0 = b }) c (8 * length m.now.0) r m'.0 m.now.0 (switched m.now.0 c on) 5 (verdict_with (λ x. x.0) r g.1.1.0 g.1.1.1);
  data_rate = λ c v r c' g. nibble (λ b. record { «data» = b }) v r c'.«data» c.now.«data» (put_at link_adr_req_data_rate c.now.«data» v) 7 (verdict_with (λ x. x.«data») r g.1.1.0 g.1.1.1);
  tx_power = λ c v r c' g. nibble (λ b. record { «data» = b }) v r c'.«data» c.now.«data» (put_at link_adr_req_tx_power c.now.«data» v) 8 (verdict_with (λ x. x.«data») r g.1.1.0 g.1.1.1);
  margin = λ c m r c' g. checked (λ b. record { «data» = b }) (is_margin m ≡ false) (is_margin m) r c'.«data» c.now.«data»
      (put_at dev_status_ans_whole c.now.«data» (six_bits m)) 9 (verdict_with (λ x. x.«data») r g.1.1.0 g.1.1.1) (λ e. e) (true_from_ne_false (is_margin m));
  delay = λ c v r c' g. nibble (λ b. record { «data» = b }) v r c'.«data» c.now.«data» (put_at rx_timing_setup_req_delay c.now.«data» v) 10 (verdict_with (λ x. x.«data») r g.1.1.0 g.1.1.1);
  max_eirp = λ c v r c' g. nibble (λ b. record { «data» = b }) v r c'.«data» c.now.«data» (put_at tx_param_setup_req_max_eirp c.now.«data» v) 11 (verdict_with (λ x. x.«data») r g.1.1.0 g.1.1.1);
  nano_seconds = λ c k r c' g. checked (λ b. record { «data» = b }) (1_000_000_000 < k) (leb k 1_000_000_000) r c'.«data» c.now.«data»
      (put_at device_time_ans_fraction c.now.«data» (k / 3_906_250 % 256)) 12 (verdict_with (λ x. x.«data») r g.1.1.0 g.1.1.1) (lt-leb k 1_000_000_000) (at_most k 1_000_000_000);
}

pub masks_tell : MasksTell
masks_tell = record {
  default = λ N fits m g. g.1.1;
  new = λ N fits s r g. g.1.1;
  enabled = λ N fits m c r g. g.1.1;
  bank = λ N fits m i r g. g.1.1;
  statuses_2 = λ m r g. g.1.1;
  statuses_9 = λ m r g. g.1.1;
  on_2 = λ m r g. g.1.1;
}

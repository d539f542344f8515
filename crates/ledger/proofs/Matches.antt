-- The head of the queue is the earliest unanswered request. Assumes nothing.
use Prim.Native.Nat.{ℕ, ◌+◌, ◌<◌, ◌≤◌}
use mathlib.Core.Bool.{Bool, true, false, cond}
use mathlib.Core.List.{List, [], ◌∷◌, ◌++◌, head?, tail, append-nil, append_assoc}
use mathlib.Core.Logic.{◌↔◌, ◌⊎◌, inl, inr}
use mathlib.Core.Option.{Option, none, some}
use mathlib.Core.Path.{◌≡◌, refl, sym, ap, ◌∙◌, subst}
use native.Mathlib.Decide.{dec_le, dec_lt}
use native.Mathlib.Omega.{arith}
use borrow.Author.Tests.{eqb-true, eqb-false, eq-eqb}
use lib.Dec.{eqb}
use lib.ListN.{length, drop, length-append}
use lib.Seq.{drop_at}
use Rattle.ledger.specs.Events.{Request, Reply, Event, request, reply, stop_at}
use Rattle.ledger.specs.Matching.{
  open_after,
  unanswered,
  answered_by,
  of_cid,
  requests,
  Earliest,
  Answered,
  Matched,
  QueueIsMatching,
  StrayIsUnmatched,
  OpenAreUnanswered,
}

-- ---- the requests of a CID are those that have left its queue, and then those in it

abbrev first_of : List Request → List Request
first_of [] = []
first_of (r ∷ rs) = r ∷ []

abbrev leaves : ℕ → Event → List Request → List Request
leaves c (request r) rs = []
leaves c (reply a) rs = cond (eqb a.cid c) (first_of rs) []
leaves c (stop_at p) rs = []

abbrev gone : ℕ → List Event → List Request
gone c [] = []
gone c (e ∷ past) = gone c past ++ leaves c e (unanswered c past)

module _ (c : ℕ) where
  part : (e : Event) (g u : List Request) → g ++ u ++ of_cid c e ≡ g ++ leaves c e u ++ open_after c e u
  part (request r) g u = by (eqb r.cid c)
    where
      by : (b : Bool) → g ++ u ++ cond b (r ∷ []) [] ≡ g ++ [] ++ cond b (u ++ (r ∷ [])) u
      by true = simp (append-nil, append_assoc)
      by false = simp append-nil
  part (reply a) g u = by (eqb a.cid c) u
    where
      by : (b : Bool) (u : List Request) → g ++ u ++ [] ≡ g ++ cond b (first_of u) [] ++ cond b (tail u) u
      by true [] = refl
      by true (r ∷ rs) = simp (append-nil, append_assoc)
      by false u = simp append-nil
  part (stop_at p) g u = simp append-nil

  parted : (past : List Event) → requests c past ≡ gone c past ++ unanswered c past
  parted [] = refl
  parted (e ∷ past) = ap (λ (l : List Request). l ++ of_cid c e) (parted past) ∙ part e (gone c past) (unanswered c past)

-- ---- where what is so is what is below g, the earliest that is not so is g

module _ {So : ℕ → Type 0} {g n : ℕ} (h : (i : ℕ) → So i ↔ (i < g)) where
  is_end : {k : ℕ} → Earliest So n k → (k ≡ g) × (g < n)
  is_end {k} e = by (dec_le k g) (dec_le g k)
    where
      by : Dec (k ≤ g) → Dec (g ≤ k) → (k ≡ g) × (g < n)
      by (yes p) (yes q) = let l = e.is_one in (omega arith, omega arith)
      by (yes p) (no q) = absurd (e.is_not ((h k).1 (omega arith)))
      by (no p) d = let l = (h g).0 (e.before g (omega arith)) in absurd (omega arith)

  at_end : g < n → Earliest So n g
  at_end l = record { is_one = l; is_not = λ s. let m = (h g).0 s in omega arith; before = λ i m. (h i).1 m }

-- ---- the requests answered are those that have left the queue

module _ (c : ℕ) where
  count : (past : List Event) (u : List Request) → unanswered c past ≡ u → length (requests c past) ≡ length (gone c past) + length u
  count past u q =
      ap length (parted c past) ∙ length-append (gone c past) (unanswered c past) ∙ ap (λ (v : List Request). length (gone c past) + length v) q

  answered_is : (past : List Event) (k : ℕ) → Answered c past k ↔ (k < length (gone c past))
  answered_is [] k = (λ x. absurd x, λ (h : k < 0). absurd (omega arith))
  answered_is (request r ∷ past) k = simp append-nil (answered_is past k)
  answered_is (reply a ∷ past) k = by (answered_is past) (eqb a.cid c) refl (unanswered c past) refl
    where
      by : ((i : ℕ) → Answered c past i ↔ (i < length (gone c past))) → (b : Bool) → eqb a.cid c ≡ b → (u : List Request) → unanswered c past ≡ u
          → (Answered c past k ⊎ ((a.cid ≡ c) × Earliest (Answered c past) (length (requests c past)) k))
          ↔ (k < length (gone c past ++ cond b (first_of u) []))
      by h false e u q = simp append-nil (
        λ s. elim s [ inl x ↦ (h k).0 x | inr y ↦ absurd (eqb-false a.cid c e y.0) ],
        λ l. inl ((h k).1 l),
      )
      by h true e [] q = simp append-nil (
        λ s. elim s [ inl x ↦ (h k).0 x | inr y ↦ let l = (is_end h y.1).1 in absurd (omega (arith, count past [] q)) ],
        λ l. inl ((h k).1 l),
      )
      by h true e (r ∷ rs) q =
          let more : length (gone c past) < length (requests c past) = omega (arith, count past (r ∷ rs) q) in
          let now : length (gone c past ++ (r ∷ [])) ≡ length (gone c past) + 1 = length-append (gone c past) (r ∷ []) in (
            λ s. elim s [ inl x ↦ let l = (h k).0 x in omega arith | inr y ↦ let l = (is_end h y.1).0 in omega arith ],
            λ l. which l more now (dec_lt k (length (gone c past))),
          )
        where
          which : k < length (gone c past ++ (r ∷ [])) → length (gone c past) < length (requests c past)
              → length (gone c past ++ (r ∷ [])) ≡ length (gone c past) + 1 → Dec (k < length (gone c past))
              → Answered c past k ⊎ ((a.cid ≡ c) × Earliest (Answered c past) (length (requests c past)) k)
          which l more now (yes m) = inl ((h k).1 m)
          which l more now (no m) =
              let k_is : length (gone c past) ≡ k = omega arith in
              inr (eqb-true a.cid c e, subst (Earliest (Answered c past) (length (requests c past))) k_is (at_end h more))
  answered_is (stop_at p ∷ past) k = simp append-nil (answered_is past k)

-- ---- the request number n of a CID stands in the past, with n of them before it

snoc : {A : Type 0} (xs ys zs : List A) {x y : A} → xs ++ (x ∷ []) ≡ ys ++ y ∷ zs → ((x ≡ y) × (xs ≡ ys)) ⊎ ((ws : List A) × (xs ≡ ys ++ y ∷ ws))
snoc [] [] zs e = inl (cc, refl)
snoc [] (y' ∷ []) zs e = let no_way : ◌≡◌ {A = ℕ} 0 1 = cc in absurd (omega arith)
snoc [] (y' ∷ y'' ∷ ys) zs e = let no_way : ◌≡◌ {A = ℕ} 0 1 = cc in absurd (omega arith)
snoc (x' ∷ xs) [] zs {y = y} e = let same : x' ≡ y = cc in inr (xs, cc)
snoc (x' ∷ xs) (y' ∷ ys) zs {x} {y} e =
    let heads : x' ≡ y' = cc in
    let tails : xs ++ (x ∷ []) ≡ ys ++ y ∷ zs = cc in
    elim (snoc xs ys zs tails) [ inl p ↦ let q = p.1 in inl (p.0, cc) | inr p ↦ let q = p.1 in inr (p.0, cc) ]

module _ (c : ℕ) where
  record Stands (past : List Event) (xs : List Request) (r : Request) : Type 0 where
    between : List Event
    before : List Event
    past_is : past ≡ between ++ request r ∷ before
    cid_is : r.cid ≡ c
    earlier : requests c before ≡ xs

  behind : (e : Event) {past : List Event} {xs : List Request} {r : Request} → Stands past xs r → Stands (e ∷ past) xs r
  behind e s = record {
    between = e ∷ s.between;
    before = s.before;
    past_is = ap (λ (l : List Event). e ∷ l) s.past_is;
    cid_is = s.cid_is;
    earlier = s.earlier;
  }

  stands : (past : List Event) (xs : List Request) (r : Request) (ys : List Request) → requests c past ≡ xs ++ r ∷ ys → Stands past xs r
  stands [] [] r ys e = let no_way : ◌≡◌ {A = ℕ} 0 1 = cc in absurd (omega arith)
  stands [] (x ∷ xs) r ys e = let no_way : ◌≡◌ {A = ℕ} 0 1 = cc in absurd (omega arith)
  stands (request q ∷ past) xs r ys e = by (stands past xs r) (eqb q.cid c) refl e
    where
      by : ((zs : List Request) → requests c past ≡ xs ++ r ∷ zs → Stands past xs r) → (b : Bool) → eqb q.cid c ≡ b
          → requests c past ++ cond b (q ∷ []) [] ≡ xs ++ r ∷ ys
          → Stands (request q ∷ past) xs r
      by h true t e = elim (snoc (requests c past) xs ys e) [
        | inl p ↦ record {
          between = [];
          before = past;
          past_is = ap (λ (x : Request). request x ∷ past) p.0;
          cid_is = ap (λ (x : Request). x.cid) (sym p.0) ∙ eqb-true q.cid c t;
          earlier = p.1;
        }
        | inr p ↦ behind (request q) (h p.0 p.1)
      ]
      by h false t e = behind (request q) (h ys (sym (append-nil (requests c past)) ∙ e))
  stands (reply a ∷ past) xs r ys e = behind (reply a) (stands past xs r ys (sym (append-nil (requests c past)) ∙ e))
  stands (stop_at p ∷ past) xs r ys e = behind (stop_at p) (stands past xs r ys (sym (append-nil (requests c past)) ∙ e))

  after_it : (between before : List Event) (r : Request) → eqb r.cid c ≡ true
      → (more : List Request) × (requests c (between ++ request r ∷ before) ≡ requests c before ++ r ∷ more)
  after_it [] before r e = ([], ap (λ (b : Bool). requests c before ++ cond b (r ∷ []) []) e)
  after_it (x ∷ between) before r e =
      let m = after_it between before r e in
      (m.0 ++ of_cid c x, ap (λ (l : List Request). l ++ of_cid c x) m.1 ∙ append_assoc (requests c before) (r ∷ m.0) (of_cid c x))

-- ---- the head of the queue

module _ (past : List Event) (a : Reply) (r : Request) where
  pub head_is_matched : answered_by a past ≡ some r → Matched past a r
  head_is_matched h = by (unanswered a.cid past) refl h
    where
      by : (u : List Request) → unanswered a.cid past ≡ u → head? u ≡ some r → Matched past a r
      by [] q h = let no_way : ◌≡◌ {A = ℕ} 0 1 = cc in absurd (omega arith)
      by (x ∷ rs) q h =
          let x_is : x ≡ r = cc in
          let all : requests a.cid past ≡ gone a.cid past ++ r ∷ rs =
          parted a.cid past ∙ ap (λ (u : List Request). gone a.cid past ++ u) (q ∙ ap (λ (x : Request). x ∷ rs) x_is) in
          let s = stands a.cid past (gone a.cid past) r rs all in
          record {
            between = s.between;
            before = s.before;
            past_is = s.past_is;
            cid_is = s.cid_is;
            earliest = subst (Earliest (Answered a.cid past) (length (requests a.cid past))) (ap length (sym s.earlier))
                (at_end (answered_is a.cid past) (omega (arith, count a.cid past (x ∷ rs) q)));
          }

  pub matched_is_head : Matched past a r → answered_by a past ≡ some r
  matched_is_head m =
      let m2 = after_it a.cid m.between m.before r (eq-eqb r.cid a.cid m.cid_is) in
      let one : requests a.cid past ≡ requests a.cid m.before ++ r ∷ m2.0 = ap (requests a.cid) m.past_is ∙ m2.1 in
      let number : length (requests a.cid m.before) ≡ length (gone a.cid past) = (is_end (answered_is a.cid past) m.earliest).0 in
      ap head? (sym (drop_at (gone a.cid past) (unanswered a.cid past) (length (gone a.cid past)) refl)
      ∙ ap (drop (length (gone a.cid past))) (sym (parted a.cid past) ∙ one)
      ∙ drop_at (requests a.cid m.before) (r ∷ m2.0) (length (gone a.cid past)) number)

pub queue_is_matching : QueueIsMatching
queue_is_matching past a r = (head_is_matched past a r, matched_is_head past a r)

pub stray_is_unmatched : StrayIsUnmatched
stray_is_unmatched past a = (
  λ h r m. let s = matched_is_head past a r m in let no_way : ◌≡◌ {A = ℕ} 0 1 = cc in omega arith,
  by (answered_by a past) refl,
)
  where
    by : (o : Option Request) → answered_by a past ≡ o → ((r : Request) → Matched past a r → ⊥) → o ≡ none
    by none q h = refl
    by (some r) q h = absurd (h r (head_is_matched past a r q))

pub open_are_unanswered : OpenAreUnanswered
open_are_unanswered c past k =
    let n = count c past (unanswered c past) refl in
    let a = answered_is c past k in
    (λ h. let l = a.0 h in omega arith, λ h. a.1 (omega arith))

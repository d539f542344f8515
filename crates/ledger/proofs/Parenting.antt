-- What is shown of a setting is exact, and effects in the order of the trace. Assumes nothing.
use Prim.Native.Nat.{ℕ, suc}
use mathlib.Core.Bool.{Bool, true, false, cond, true≢false, false≢true}
use mathlib.Core.List.{List, [], ◌∷◌, ◌++◌, append_assoc, reverse, reverse-append, reverse-reverse, reverse-cons}
use mathlib.Core.Logic.{◌⊎◌, inl, inr}
use mathlib.Core.Option.{Option, none, some}
use mathlib.Core.Path.{◌≡◌, refl, sym, ap, ap₂, ◌∙◌, subst}
use native.Mathlib.Omega.{arith}
use borrow.Author.Tests.{eqb-true, eq-eqb}
use lib.ListN.{length, take, drop}
use lib.Seq.{drop_at}
use Rattle.ledger.specs.Book.{Book, taken_all}
use Rattle.ledger.specs.Claims.{TookEffect, IsParent, Exact, ExactIsOne, InOrder, EffectsInOrder, fresh, ParentsExactly}
use Rattle.ledger.specs.Events.{Request, Reply, Event, request, reply, stop_at, events}
use Rattle.ledger.specs.Matching.{answered_by, EarliestOf}
use Rattle.ledger.specs.Parents.{agreed, joining, parents, Shown, shown}
use Rattle.ledger.specs.Settings.{Setting, says, writes}
use Rattle.ledger.specs.Trace.{TraceLine}
use Rattle.ledger.proofs.LineByLine.{taken_whole}
use Rattle.ledger.proofs.Matches.{head_is_matched, matched_is_head}

nothing_before : (l : List Event) (x : Event) (m : List Event) → [] ≡ l ++ x ∷ m → ⊥
nothing_before [] x m q = let no_way : ◌≡◌ {A = ℕ} 0 1 = cc in omega arith
nothing_before (y ∷ l) x m q = let no_way : ◌≡◌ {A = ℕ} 0 1 = cc in omega arith

both_or_neither : (a b : Bool) → (a ≡ true → b ≡ true) → (b ≡ true → a ≡ true) → a ≡ b
both_or_neither true b f g = sym (f refl)
both_or_neither false true f g = g refl
both_or_neither false false f g = refl

module _ (σ : Setting) where
  -- a request takes effect at this event
  record Now (e : Event) (past : List Event) (r : Request) : Type 0 where
    yes_to : agreed e past ≡ some r
    for : writes r σ ≡ true

  now_effect : (e : Event) (past : List Event) (r : Request) → Now e past r → (t : TookEffect σ (e ∷ past) r) × (t.later ≡ []) × (t.earlier ≡ past)
  now_effect (request q) past r n = let y = n.yes_to in let no_way : ◌≡◌ {A = ℕ} 0 1 = cc in absurd (omega arith)
  now_effect (reply a) past r n = by a.agrees refl n.yes_to
    where
      by : (b : Bool) → a.agrees ≡ b → cond b (answered_by a past) none ≡ some r
          → (t : TookEffect σ (reply a ∷ past) r) × (t.later ≡ []) × (t.earlier ≡ past)
      by true q y =
          let m = head_is_matched past a r y in
          (record { later = []; yea = a; earlier = past; past_is = refl; matched = m; agrees = q; for = n.for }, refl, refl)
      by false q y = let no_way : ◌≡◌ {A = ℕ} 0 1 = cc in absurd (omega arith)
  now_effect (stop_at p) past r n = let y = n.yes_to in let no_way : ◌≡◌ {A = ℕ} 0 1 = cc in absurd (omega arith)

  abbrev still : (e : Event) {past : List Event} {r : Request} → TookEffect σ past r → TookEffect σ (e ∷ past) r
  still e t = record {
    later = e ∷ t.later;
    yea = t.yea;
    earlier = t.earlier;
    past_is = ap (λ (l : List Event). e ∷ l) t.past_is;
    matched = t.matched;
    agrees = t.agrees;
    for = t.for;
  }

  -- an effect is at this event, or at one before
  before_or_now : (e : Event) (past : List Event) {r : Request} (t : TookEffect σ (e ∷ past) r)
      → Now e past r ⊎ ((s : TookEffect σ past r) × (length t.later ≡ suc (length s.later)) × (s.earlier ≡ t.earlier))
  before_or_now e past {r} t = by t.later t.past_is
    where
      by : (l : List Event) → e ∷ past ≡ l ++ reply t.yea ∷ t.earlier
          → Now e past r ⊎ ((s : TookEffect σ past r) × (length l ≡ suc (length s.later)) × (s.earlier ≡ t.earlier))
      by [] q =
          let e_is : e ≡ reply t.yea = cc in
          let past_is : past ≡ t.earlier = cc in
          let yes_to : agreed (reply t.yea) t.earlier ≡ some r =
          ap (λ (b : Bool). cond b (answered_by t.yea t.earlier) none) t.agrees ∙ matched_is_head t.earlier t.yea r t.matched in
          inl (record { yes_to = cc; for = t.for })
      by (x ∷ l) q = inr (
        record { later = l; yea = t.yea; earlier = t.earlier; past_is = cc; matched = t.matched; agrees = t.agrees; for = t.for },
        refl,
        refl,
      )

  -- what the list of parents says of the past
  abbrev Shape : List Event → List Request → Type 0
  Shape past [] = (r : Request) → TookEffect σ past r → ⊥
  Shape past (p ∷ ps) = (i : IsParent σ past p) × (parents σ i.effect.earlier ≡ ps)

  unmoved : (e : Event) (past : List Event) (ps : List Request) → ((r : Request) → Now e past r → ⊥) → Shape past ps → Shape (e ∷ past) ps
  unmoved e past [] h s = λ r t. elim (before_or_now e past t) [ inl n ↦ h r n | inr b ↦ s r b.0 ]
  unmoved e past (p ∷ ps) h s = (
    record {
      effect = still e s.0.effect;
      last = λ q t. elim (before_or_now e past t) [ inl n ↦ absurd (h q n) | inr b ↦ let l = s.0.last q b.0 in omega (arith, b.1) ];
    },
    s.1,
  )

  shape : (past : List Event) → Shape past (parents σ past)
  shape [] = λ r t. nothing_before t.later (reply t.yea) t.earlier t.past_is
  shape (e ∷ past) = by (shape past) (agreed e past) refl
    where
      other : (r : Request) → agreed e past ≡ some r → writes r σ ≡ false → (q : Request) → Now e past q → ⊥
      other r y w q n =
          let z = n.yes_to in
          let same : q ≡ r = cc in
          true≢false (sym n.for ∙ ap (λ (x : Request). writes x σ) same ∙ w)

      writes_it : Shape past (parents σ past) → (r : Request) → agreed e past ≡ some r → (b : Bool) → writes r σ ≡ b
          → Shape (e ∷ past) (cond b (r ∷ parents σ past) (parents σ past))
      writes_it s r q false w = unmoved e past (parents σ past) (other r q w) s
      writes_it s r q true w =
          let n = now_effect e past r (record { yes_to = q; for = w }) in
          (record { effect = n.0; last = λ x t. omega (arith, ap length n.1) }, ap (parents σ) n.2)

      by : Shape past (parents σ past) → (o : Option Request) → agreed e past ≡ o → Shape (e ∷ past) (joining σ o (parents σ past))
      by s none q = unmoved e past (parents σ past) (λ r n. let y = n.yes_to in let no_way : ◌≡◌ {A = ℕ} 0 1 = cc in omega arith) s
      by s (some r) q = writes_it s r q (writes r σ) refl

  -- there is one parent only
  one_parent : {past : List Event} {q r : Request} (i : IsParent σ past q) (j : IsParent σ past r)
      → (q ≡ r) × (i.effect.earlier ≡ j.effect.earlier)
  one_parent {past} {q} {r} i j =
      let s = i.effect in
      let t = j.effect in
      let le = i.last r t in
      let ge = j.last q s in
      let number : length s.later ≡ length t.later = omega arith in
      let same : reply s.yea ∷ s.earlier ≡ reply t.yea ∷ t.earlier =
      sym (drop_at s.later (reply s.yea ∷ s.earlier) (length t.later) number)
      ∙ ap (drop (length t.later)) (sym s.past_is ∙ t.past_is)
      ∙ drop_at t.later (reply t.yea ∷ t.earlier) (length t.later) refl in
      let yeas : s.yea ≡ t.yea = cc in
      let earlier : s.earlier ≡ t.earlier = cc in
      let hs = matched_is_head s.earlier s.yea q s.matched in
      let ht = matched_is_head t.earlier t.yea r t.matched in
      let one : answered_by s.yea s.earlier ≡ answered_by t.yea t.earlier =
      ap (λ (a : Reply). answered_by a s.earlier) yeas ∙ ap (answered_by t.yea) earlier in
      let made : q ≡ r = cc in
      (made, earlier)

  exact : (past : List Event) → Exact σ past (shown σ (parents σ past))
  exact past = by (parents σ past) (shape past)
    where
      by : (ps : List Request) → Shape past ps → Exact σ past (shown σ ps)
      by [] s = s
      by (p ∷ []) s =
          let none_before = subst (Shape s.0.effect.earlier) s.1 (shape s.0.effect.earlier) in
          record {
            made = p;
            is = s.0;
            named = refl;
            told = refl;
            marked = (λ h. absurd (false≢true h), λ x. absurd (none_before x.0 x.1.effect));
          }
      by (p ∷ q ∷ ps) s =
          let one-before = subst (Shape s.0.effect.earlier) s.1 (shape s.0.effect.earlier) in
          record {
            made = p;
            is = s.0;
            named = refl;
            told = refl;
            marked = (
              λ h. (q, one-before.0, eqb-true (says σ p.body) (says σ q.body) h),
              λ x. eq-eqb (says σ p.body) (says σ q.body)
                  (x.2 ∙ ap (λ (r : Request). says σ r.body) (sym (one_parent one-before.0 x.1).0)),
            );
          }

  -- the last two are enough
  shown_two : (ps : List Request) → shown σ (take 2 ps) ≡ shown σ ps
  shown_two [] = refl
  shown_two (p ∷ []) = refl
  shown_two (p ∷ q ∷ ps) = refl

  -- the mark, told by the parent's past and what it says
  abbrev Before : List Event → ℕ → Type 0
  Before past v = (q : Request) × IsParent σ past q × (v ≡ says σ q.body)

  one_shown : (past : List Event) (o p : Option Shown) → Exact σ past o → Exact σ past p → o ≡ p
  one_shown past none none x y = refl
  one_shown past none (some e) x y = absurd (x y.made y.is.effect)
  one_shown past (some d) none x y = absurd (y x.made x.is.effect)
  one_shown past (some d) (some e) x y =
      let o = one_parent x.is y.is in
      let value : says σ x.made.body ≡ says σ y.made.body = ap (λ (r : Request). says σ r.body) o.0 in
      let place : d.parent ≡ e.parent = x.named ∙ ap (λ (r : Request). r.at) o.0 ∙ sym y.named in
      let same : d.value ≡ e.value = x.told ∙ value ∙ sym y.told in
      let moved : Before x.is.effect.earlier (says σ x.made.body) ≡ Before y.is.effect.earlier (says σ y.made.body) =
      ap₂ Before o.1 value in
      let mark : d.unchanged ≡ e.unchanged = both_or_neither d.unchanged e.unchanged
      (λ h. y.marked.1 (subst (λ (T : Type 0). T) moved (x.marked.0 h)))
      (λ h. x.marked.1 (subst (λ (T : Type 0). T) (sym moved) (y.marked.0 h))) in
      ap some (λ i. record { parent = place i; value = same i; unchanged = mark i })

pub exact_is_one : ExactIsOne
exact_is_one σ = one_shown σ

pub parents_exactly : (lent : List ℕ) → ParentsExactly lent
parents_exactly lent t ls b read e σ =
    let w = taken_whole lent ls b (ap (λ (x : List (Option TraceLine)). taken_all x (fresh lent)) (sym read) ∙ e) in
    let past : List Event = reverse (events 0 ls) in
    subst (λ (c : Book). Exact σ past (shown σ (c.held σ))) (sym w.book)
    (subst (Exact σ past) (sym (shown_two σ (parents σ past))) (exact σ past))

-- ---- the order of the trace

turn : {A : Type 0} (xs : List A) (y : A) (ys : List A) → reverse (xs ++ y ∷ ys) ≡ reverse ys ++ y ∷ reverse xs
turn xs y ys = reverse-append xs (y ∷ ys) ∙ ap (λ l. l ++ reverse xs) (reverse-cons y ys) ∙ append_assoc (reverse ys) (y ∷ []) (reverse xs)

module _ (σ : Setting) (es : List Event) (r : Request) where
  in_order : TookEffect σ (reverse es) r → InOrder σ es r
  in_order t =
      let m = t.matched in
      let forwards : reverse t.earlier ≡ reverse m.before ++ request r ∷ reverse m.between =
      ap reverse m.past_is ∙ turn m.between (request r) m.before in
      record {
        before = reverse m.before;
        between = reverse m.between;
        after = reverse t.later;
        yea = t.yea;
        trace = sym (reverse-reverse es) ∙ ap reverse t.past_is ∙ turn t.later (reply t.yea) t.earlier
            ∙ ap (λ (l : List Event). l ++ reply t.yea ∷ reverse t.later) forwards
            ∙ append_assoc (reverse m.before) (request r ∷ reverse m.between) (reply t.yea ∷ reverse t.later);
        cid_is = m.cid_is;
        earliest = subst (λ (l : List Event). EarliestOf t.yea.cid l (reverse (reverse m.before)))
            (sym (reverse-reverse t.earlier) ∙ ap reverse forwards)
            (subst (λ (l : List Event). EarliestOf t.yea.cid t.earlier l) (sym (reverse-reverse m.before)) m.earliest);
        agrees = t.agrees;
        for = t.for;
      }

  backwards : InOrder σ es r → TookEffect σ (reverse es) r
  backwards i = record {
    later = reverse i.after;
    yea = i.yea;
    earlier = reverse (i.before ++ request r ∷ i.between);
    past_is = ap reverse (i.trace ∙ sym (append_assoc i.before (request r ∷ i.between) (reply i.yea ∷ i.after)))
        ∙ turn (i.before ++ request r ∷ i.between) (reply i.yea) i.after;
    matched = record {
      between = reverse i.between;
      before = reverse i.before;
      past_is = turn i.before (request r) i.between;
      cid_is = i.cid_is;
      earliest = i.earliest;
    };
    agrees = i.agrees;
    for = i.for;
  }

pub effects_in_order : EffectsInOrder
effects_in_order σ es r = (in_order σ es r, backwards σ es r)

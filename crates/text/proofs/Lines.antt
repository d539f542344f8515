-- From a text back to its lines, and from a line to its fields. Assumes nothing.
use Prim.Native.Nat.{ℕ, ◌≤◌}
use mathlib.Core.Bool.{Bool, true, false, cond}
use mathlib.Core.List.{List, [], ◌∷◌, ◌++◌, append_assoc}
use mathlib.Core.Path.{◌≡◌, refl, sym, ap₂, ap, ◌∙◌, subst}
use native.Mathlib.Omega.{arith}
use lib.Dec.{eqb, leb}
use lib.ListN.{length, length-append}
use borrow.Author.Tests.{eqb-true, eqb-false, leb-true}
use Rattle.bits.specs.Every.{Every}
use Rattle.text.specs.Lines.{Line, joined, line, text, Plain, PlainLine, PlainText, Ended}

-- what a field ends at
data Mark : ℕ → Type 0 where
  tab : Mark 9
  newline : Mark 10

pub head_is : {A : Type 0} {a b : A} {s t : List A} → a ∷ s ≡ b ∷ t → a ≡ b
head_is e = cc

pub tail_is : {A : Type 0} {a b : A} {s t : List A} → a ∷ s ≡ b ∷ t → s ≡ t
tail_is e = cc

-- two plain fields with a mark behind each: where the texts are equal, so are the fields, the marks, and what follows
cut : {c d : ℕ} (f g x y : List ℕ) → Plain f → Plain g → Mark c → Mark d → f ++ (c ∷ x) ≡ g ++ (d ∷ y) → (f ≡ g) × (c ≡ d) × (x ≡ y)
cut [] [] x y p q m n e = (refl, head_is e, tail_is e)
cut [] (b ∷ g) x y p q tab n e = absurd (q.0 (sym (head_is e)))
cut [] (b ∷ g) x y p q newline n e = absurd (q.1 (sym (head_is e)))
cut (a ∷ f) [] x y p q m tab e = absurd (p.0 (head_is e))
cut (a ∷ f) [] x y p q m newline e = absurd (p.1 (head_is e))
cut (a ∷ f) (b ∷ g) x y p q m n e =
    let r = cut f g x y p.2 q.2 m n (tail_is e) in
    (ap₂ (λ (a : ℕ) (l : List ℕ). a ∷ l) (head_is e) r.0, r.1, r.2)

fields_apart : (f g : List ℕ) (fs gs : List (List ℕ)) (x y : List ℕ) → Plain f → Every Plain fs → Plain g → Every Plain gs
    → joined f fs ++ x ≡ joined g gs ++ y → (f ≡ g) × (fs ≡ gs) × (x ≡ y)
unfolding joined
fields_apart f g [] [] x y p ps q qs e =
    let r = cut f g x y p q newline newline (sym (append_assoc f (10 ∷ []) x) ∙ e ∙ append_assoc g (10 ∷ []) y) in
    (r.0, refl, r.2)
fields_apart f g [] (k ∷ gs) x y p ps q qs e =
    let r = cut f g x (joined k gs ++ y) p q newline tab (sym (append_assoc f (10 ∷ []) x) ∙ e ∙ append_assoc g (9 ∷ joined k gs) y) in
    let z = r.1 in
    absurd (omega arith)
fields_apart f g (h ∷ fs) [] x y p ps q qs e =
    let r = cut f g (joined h fs ++ x) y p q tab newline (sym (append_assoc f (9 ∷ joined h fs) x) ∙ e ∙ append_assoc g (10 ∷ []) y) in
    let z = r.1 in
    absurd (omega arith)
fields_apart f g (h ∷ fs) (k ∷ gs) x y p ps q qs e =
    let r = cut f g (joined h fs ++ x) (joined k gs ++ y) p q tab tab
    (sym (append_assoc f (9 ∷ joined h fs) x) ∙ e ∙ append_assoc g (9 ∷ joined k gs) y) in
    let t = fields_apart h k fs gs x y ps.0 ps.1 qs.0 qs.1 r.2 in
    (r.0, ap₂ (λ (a : List ℕ) (l : List (List ℕ)). a ∷ l) t.0 t.1, t.2)

pub line_apart : (l m : Line) (x y : List ℕ) → PlainLine l → PlainLine m → line l ++ x ≡ line m ++ y → (l ≡ m) × (x ≡ y)
line_apart l m x y p q e =
    let r = fields_apart l.first m.first l.more m.more x y p.0 p.1 q.0 q.1 e in
    (ap₂ (λ (f : List ℕ) (fs : List (List ℕ)). record { first = f; more = fs }) r.0 r.1, r.2)

line_some : (f : List ℕ) (fs : List (List ℕ)) → 1 ≤ length (joined f fs)
unfolding joined
line_some f [] = omega (arith, length-append f (10 ∷ []))
line_some f (g ∷ fs) = omega (arith, length-append f (9 ∷ joined g fs))

pub text_apart : (ls ms : List Line) → PlainText ls → PlainText ms → text ls ≡ text ms → ls ≡ ms
unfolding text
text_apart [] [] p q e = refl
text_apart [] (m ∷ ms) p q e = absurd (omega (arith, ap length e, length-append (line m) (text ms), line_some m.first m.more))
text_apart (l ∷ ls) [] p q e = absurd (omega (arith, ap length e, length-append (line l) (text ls), line_some l.first l.more))
text_apart (l ∷ ls) (m ∷ ms) p q e =
    let r = line_apart l m (text ls) (text ms) p.0 q.0 e in
    ap₂ (λ (l : Line) (ls : List Line). l ∷ ls) r.0 (text_apart ls ms p.1 q.1 r.1)

-- whether all characters are past the newline, by computing
unfoldable pub visible : List ℕ → Bool
visible [] = true
visible (c ∷ s) = cond (leb 11 c) (visible s) false

pub visible_plain : (s : List ℕ) → visible s ≡ true → Plain s
unfolding visible
visible_plain [] h = tt
visible_plain (c ∷ s) h = by (leb 11 c) refl (visible_plain s) h
  where
    by : (b : Bool) → leb 11 c ≡ b → (visible s ≡ true → Plain s) → cond b (visible s) false ≡ true → Plain (c ∷ s)
    by true e rest g = let l = leb-true 11 c e in (λ e. omega arith, λ e. omega arith, rest g)
    by false e rest g = let no_way : ◌≡◌ {A = ℕ} 0 1 = cc in absurd (omega arith)

-- ---- what ends in a newline is the text of some lines

abbrev Parted : List ℕ → Type 0
Parted t = (ls : List Line) × (PlainText ls × (text ls ≡ t))

-- a character in front of a text of lines: a newline is a line of its own, a tab a field of its own, and any other belongs to the first field
in-front : (c : ℕ) (l : Line) (ls : List Line) → PlainText (l ∷ ls) → (b d : Bool) → eqb c 10 ≡ b → eqb c 9 ≡ d → Parted (c ∷ text (l ∷ ls))
unfolding text joined
in-front c l ls p true d n t =
    (record { first = []; more = [] } ∷ l ∷ ls, (((tt, tt), p), ap (λ (x : ℕ). x ∷ text (l ∷ ls)) (sym (eqb-true c 10 n))))
in-front c l ls p false true n t =
    (record { first = []; more = l.first ∷ l.more } ∷ ls, (((tt, p.0), p.1), ap (λ (x : ℕ). x ∷ text (l ∷ ls)) (sym (eqb-true c 9 t))))
in-front c l ls p false false n t =
    let plain : PlainLine (record { first = c ∷ l.first; more = l.more }) = ((eqb-false c 9 t, eqb-false c 10 n, p.0.0), p.0.1) in
    (record { first = c ∷ l.first; more = l.more } ∷ ls, ((plain, p.1), ap (λ (x : List ℕ). x ++ text ls) (longer l.first l.more)))
  where
    longer : (f : List ℕ) (fs : List (List ℕ)) → joined (c ∷ f) fs ≡ c ∷ joined f fs
    longer f [] = refl
    longer f (g ∷ fs) = refl

some_line : (c d : ℕ) (s : List ℕ) (ls : List Line) → PlainText ls → text ls ≡ d ∷ s → Parted (c ∷ d ∷ s)
unfolding text
some_line c d s [] p e = let no_way : ◌≡◌ {A = ℕ} 0 1 = cc in absurd (omega arith)
some_line c d s (l ∷ ls) p e = subst Parted (ap (λ (x : List ℕ). c ∷ x) e) (in-front c l ls p (eqb c 10) (eqb c 9) refl refl)

pub parted : (t : List ℕ) → Ended t → Parted t
unfolding text joined
parted [] h = ([], (tt, refl))
parted (c ∷ []) h = (record { first = []; more = [] } ∷ [], (((tt, tt), tt), ap (λ (x : ℕ). x ∷ []) (sym h)))
parted (c ∷ d ∷ s) h = let r = parted (d ∷ s) h in some_line c d s r.0 r.1.0 r.1.1

-- ---- and every text of lines ends so

ended_front : (s : List ℕ) (c : ℕ) (t : List ℕ) → Ended (c ∷ t) → Ended (s ++ (c ∷ t))
ended_front [] c t h = h
ended_front (x ∷ []) c t h = h
ended_front (x ∷ y ∷ s) c t h = ended_front (y ∷ s) c t h

ended_newline : (t : List ℕ) → Ended t → Ended (10 ∷ t)
ended_newline [] h = refl
ended_newline (c ∷ t) h = h

ended_tab : (t : List ℕ) → 1 ≤ length t → Ended t → Ended (9 ∷ t)
ended_tab [] l h = absurd (omega arith)
ended_tab (c ∷ t) l h = h

ended_line : (f : List ℕ) (fs : List (List ℕ)) (t : List ℕ) → Ended t → Ended (joined f fs ++ t)
unfolding joined
ended_line f [] t h = subst Ended (sym (append_assoc f (10 ∷ []) t)) (ended_front f 10 t (ended_newline t h))
ended_line f (g ∷ fs) t h =
    subst Ended (sym (append_assoc f (9 ∷ joined g fs) t))
    (ended_front f 9 (joined g fs ++ t) (ended_tab (joined g fs ++ t) (omega (arith, length-append (joined g fs) t, line_some g fs)) (ended_line g fs t h)))

pub text_ended : (ls : List Line) → Ended (text ls)
unfolding text
text_ended [] = tt
text_ended (l ∷ ls) = ended_line l.first l.more (text ls) (text_ended ls)

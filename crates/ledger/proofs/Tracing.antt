-- A trace's lines: reading is the inverse of writing, and the lines of a text from an offset on, told from the line there. Assumes nothing.
use Prim.Native.Nat.{ℕ, zero, suc, ◌+◌, ◌<◌, ◌≤◌}
use mathlib.Core.Bool.{Bool, true, false, cond, ◌&&◌}
use mathlib.Core.List.{List, [], ◌∷◌, ◌++◌, map, append-nil, append_assoc}
use mathlib.Core.Option.{Option, none, some}
use mathlib.Core.Path.{◌≡◌, refl, sym, ap, ap₂, ◌∙◌, subst}
use native.Mathlib.Omega.{arith}
use lib.Dec.{eqb, ltb}
use lib.ListN.{length, drop, length-append, length-drop, drop_of_length-le}
use lib.Seq.{drop-drop, drop-append_seam}
use borrow.Author.Tests.{eqb-true, eq-eqb, ne_eqb, ltb-true, lt-ltb}
use Rattle.bits.specs.Bits.{Byte}
use Rattle.bits.specs.Every.{Every}
use Rattle.table.specs.declared.rules.Direction.{Direction}
use Rattle.table.specs.declared.rules.Direction.TheVariants.{Down, Up}
use Rattle.text.specs.Characters.{ascii, letter_of}
use Rattle.text.specs.Decimal.{decimal, value_of}
use Rattle.text.specs.Hex.{hex_field, bytes_of}
use Rattle.text.specs.Lines.{joined, Plain}
use Rattle.text.proofs.Decimals.{value_decimal, decimal_plain}
use Rattle.text.proofs.Hexes.{hex_back, field_plain}
use Rattle.ledger.specs.Trace.{
  TraceLine,
  Lawful,
  written,
  written_all,
  up_to,
  behind,
  begins,
  direction_of,
  likely,
  all_bytes,
  is_lawful,
  front,
  parted,
  lines_within,
  lines_of,
  BeginsWith,
  ReadIsInverse,
  TraceReadBack,
}
use Rattle.ledger.specs.Working.{with_next, front_at}

-- ---- a line's fields, one behind the other

pub written_parts : (l : TraceLine) (t : List ℕ)
    → written l ++ t ≡ decimal l.frame ++ (9 ∷ (ascii (letter_of l.direction) ++ (9 ∷ (hex_field l.stream ++ (10 ∷ t)))))
unfolding written joined
written_parts l t = simp append_assoc

pub written_some : (l : TraceLine) → 1 ≤ length (written l)
unfolding written joined
written_some l =
    omega (arith, length-append (decimal l.frame) (9 ∷ joined (ascii (letter_of l.direction)) (hex_field l.stream ∷ [])))

-- ---- the likely line of a line's text is that line

abbrev Off : ℕ → List ℕ → Type 0
Off c s = Every (λ (d : ℕ). d ≡ c → ⊥) s

off_tab : (s : List ℕ) → Plain s → Off 9 s
off_tab [] p = tt
off_tab (c ∷ s) p = (p.0, off_tab s p.2)

off_newline : (s : List ℕ) → Plain s → Off 10 s
off_newline [] p = tt
off_newline (c ∷ s) p = (p.1, off_newline s p.2)

up_to_is : (c : ℕ) (f t : List ℕ) → Off c f → up_to c (f ++ (c ∷ t)) ≡ f
unfolding up_to
up_to_is c [] t p = rw (eq-eqb c c refl)
up_to_is c (d ∷ f) t p = rw (ne_eqb d c p.0, up_to_is c f t p.1)

past : (c : ℕ) (f t : List ℕ) → Off c f → behind c (f ++ (c ∷ t)) ≡ t
unfolding behind
past c [] t p = rw (eq-eqb c c refl)
past c (d ∷ f) t p = rw (ne_eqb d c p.0, past c f t p.1)

direction_back : (d : Direction) → direction_of (ascii (letter_of d)) ≡ d
unfolding ascii begins
direction_back Down = refl
direction_back Up = refl

letter_plain : (d : Direction) → Plain (ascii (letter_of d))
unfolding ascii
letter_plain Down = (λ e. omega arith, λ e. omega arith, tt)
letter_plain Up = (λ e. omega arith, λ e. omega arith, tt)

field_back : (s : List ℕ) → bytes_of (hex_field s) ≡ s
unfolding ascii bytes_of
field_back [] = refl
field_back (b ∷ s) = hex_back (b ∷ s)

abbrev line_from : (number letter stream : List ℕ) → TraceLine
line_from f g h = record { frame = value_of f; direction = direction_of g; stream = bytes_of h }

same_line : (l m : TraceLine) → l.frame ≡ m.frame → l.direction ≡ m.direction → l.stream ≡ m.stream → l ≡ m
same_line l m e f g =
    ap (λ (x : ℕ). record { frame = x; direction = l.direction; stream = l.stream }) e
    ∙ ap (λ (x : Direction). record { frame = m.frame; direction = x; stream = l.stream }) f
    ∙ ap (λ (x : List ℕ). record { frame = m.frame; direction = m.direction; stream = x }) g

likely_back : (l : TraceLine) (t : List ℕ) → likely (written l ++ t) ≡ l
likely_back l t =
    let f : List ℕ = decimal l.frame in
    let g : List ℕ = ascii (letter_of l.direction) in
    let h : List ℕ = hex_field l.stream in
    let u : List ℕ = h ++ (10 ∷ t) in
    let p = off_tab f (decimal_plain l.frame) in
    let q = off_tab g (letter_plain l.direction) in
    let r = off_newline h (field_plain l.stream) in
    let first : behind 9 (f ++ (9 ∷ (g ++ (9 ∷ u)))) ≡ g ++ (9 ∷ u) = past 9 f (g ++ (9 ∷ u)) p in
    let second : behind 9 (behind 9 (f ++ (9 ∷ (g ++ (9 ∷ u))))) ≡ u = ap (behind 9) first ∙ past 9 g u q in
    ap likely (written_parts l t)
    ∙ same_line (likely (f ++ (9 ∷ (g ++ (9 ∷ u))))) l
    (ap value_of (up_to_is 9 f (g ++ (9 ∷ u)) p) ∙ value_decimal l.frame)
    (ap direction_of (ap (up_to 9) first ∙ up_to_is 9 g u q) ∙ direction_back l.direction)
    (ap bytes_of (ap (up_to 10) second ∙ up_to_is 10 h t r) ∙ field_back l.stream)

-- ---- the tests

pub both : (a b : Bool) → a && b ≡ true → (a ≡ true) × (b ≡ true)
both true b e = (refl, e)
both false b e = let no_way : ◌≡◌ {A = ℕ} 0 1 = cc in absurd (omega arith)

all_bytes_is : (s : List ℕ) → Every Byte s → all_bytes s ≡ true
unfolding all_bytes
all_bytes_is [] h = refl
all_bytes_is (b ∷ s) h = rw (lt-ltb b 256 h.0, all_bytes_is s h.1)

bytes_all : (s : List ℕ) → all_bytes s ≡ true → Every Byte s
unfolding all_bytes
bytes_all [] e = tt
bytes_all (b ∷ s) e = let h = both (ltb b 256) (all_bytes s) e in (ltb-true b 256 h.0, bytes_all s h.1)

lawful_test : (l : TraceLine) → Lawful l → is_lawful l ≡ true
lawful_test l h =
    rw (lt-ltb l.frame 4_294_967_296 h.frame, lt-ltb (length l.stream) 256 h.size, all_bytes_is l.stream h.bytes)

test_lawful : (l : TraceLine) → is_lawful l ≡ true → Lawful l
test_lawful l e =
    let h = both (ltb l.frame 4_294_967_296) (ltb (length l.stream) 256 && all_bytes l.stream) e in
    let g = both (ltb (length l.stream) 256) (all_bytes l.stream) h.1 in
    record {
      frame = ltb-true l.frame 4_294_967_296 h.0;
      size = ltb-true (length l.stream) 256 g.0;
      bytes = bytes_all l.stream g.1;
    }

pub begins_own : (s t : List ℕ) → begins s (s ++ t) ≡ true
unfolding begins
begins_own [] t = refl
begins_own (c ∷ s) t = rw (eq-eqb c c refl, begins_own s t)

pub begins_rest : (s t : List ℕ) → begins s t ≡ true → t ≡ s ++ drop (length s) t
unfolding begins
begins_rest [] t e = refl
begins_rest (c ∷ s) [] e = let no_way : ◌≡◌ {A = ℕ} 0 1 = cc in absurd (omega arith)
begins_rest (c ∷ s) (d ∷ t) e =
    let h = both (eqb c d) (begins s t) e in
    ap₂ (λ (x : ℕ) (l : List ℕ). x ∷ l) (sym (eqb-true c d h.0)) (begins_rest s t h.1)

pub taken : {A : Type 0} (b : Bool) (x y : A) → cond b (some x) none ≡ some y → (b ≡ true) × (x ≡ y)
taken true x y e = (refl, cc)
taken false x y e = let no_way : ◌≡◌ {A = ℕ} 0 1 = cc in absurd (omega arith)

-- ---- reading a line is the inverse of writing it

pub front_written : (l : TraceLine) (t : List ℕ) → Lawful l → front (written l ++ t) ≡ some l
unfolding front
front_written l t h =
    ap (λ (m : TraceLine). cond (is_lawful m && begins (written m) (written l ++ t)) (some m) none) (likely_back l t)
    ∙ rw (lawful_test l h, begins_own (written l) t)

front_back : (t : List ℕ) (l : TraceLine) → BeginsWith t l → front t ≡ some l
front_back t l p = ap front p.text ∙ front_written l p.rest p.lawful

pub front_read : (t : List ℕ) (l : TraceLine) → front t ≡ some l → BeginsWith t l
unfolding front
front_read t l e =
    let h = taken (is_lawful (likely t) && begins (written (likely t)) t) (likely t) l e in
    let g = both (is_lawful (likely t)) (begins (written (likely t)) t) h.0 in
    subst (BeginsWith t) h.1
    (record {
      lawful = test_lawful (likely t) g.0;
      rest = drop (length (written (likely t))) t;
      text = begins_rest (written (likely t)) t g.1;
    })

-- what is behind a line's text is what is left when as many characters are dropped
rest_is : (t : List ℕ) (l : TraceLine) (p : BeginsWith t l) → drop (length (written l)) t ≡ p.rest
rest_is t l p = ap (drop (length (written l))) p.text ∙ drop-append_seam (written l) p.rest

front_one : (t : List ℕ) (l m : TraceLine) (p : BeginsWith t l) (q : BeginsWith t m) → (l ≡ m) × (p.rest ≡ q.rest)
front_one t l m p q =
    let e : ◌≡◌ {A = Option TraceLine} (some l) (some m) = sym (front_back t l p) ∙ front_back t m q in
    let same : l ≡ m = cc in
    (same, sym (rest_is t l p) ∙ ap (λ (x : TraceLine). drop (length (written x)) t) same ∙ rest_is t m q)

pub read_is_inverse : ReadIsInverse
read_is_inverse = record { read = front_read; back = front_back; one = front_one }

-- ---- the lines of a text

-- any bound will do that is not below the length
enough : (k m : ℕ) (t : List ℕ) → length t ≤ k → length t ≤ m → lines_within k t ≡ lines_within m t
unfolding lines_within
enough zero zero t h g = refl
enough zero (suc m) [] h g = refl
enough zero (suc m) (c ∷ s) h g = absurd (omega arith)
enough (suc k) zero [] h g = refl
enough (suc k) zero (c ∷ s) h g = absurd (omega arith)
enough (suc k) (suc m) [] h g = refl
enough (suc k) (suc m) (c ∷ s) h g = by (front (c ∷ s)) (λ u l. enough k m u (omega arith) (omega arith))
  where
    by : (o : Option TraceLine) → ((u : List ℕ) → length u ≤ length s → lines_within k u ≡ lines_within m u)
        → parted o (c ∷ s) (lines_within k) ≡ parted o (c ∷ s) (lines_within m)
    by none r = refl
    by (some l) r =
        ap (λ (x : List (Option TraceLine)). some l ∷ x)
        (r (drop (length (written l)) (c ∷ s)) (omega (arith, length-drop (length (written l)) (c ∷ s), written_some l)))

pub lines_none : lines_of [] ≡ []
unfolding lines_of lines_within
lines_none = refl

pub lines_some : (t : List ℕ) → 1 ≤ length t → lines_of t ≡ parted (front t) t lines_of
unfolding lines_of lines_within
lines_some [] h = absurd (omega arith)
lines_some (c ∷ s) h = by (front (c ∷ s))
  where
    by : (o : Option TraceLine) → parted o (c ∷ s) (lines_within (length s)) ≡ parted o (c ∷ s) lines_of
    by none = refl
    by (some l) =
        let u : List ℕ = drop (length (written l)) (c ∷ s) in
        ap (λ (x : List (Option TraceLine)). some l ∷ x)
        (enough (length s) (length u) u (omega (arith, length-drop (length (written l)) (c ∷ s), written_some l)) (omega arith))

pub lines_at : (t : List ℕ) (at : ℕ) → at < length t → lines_of (drop at t) ≡ parted (front (drop at t)) (drop at t) lines_of
lines_at t at h = lines_some (drop at t) (omega (arith, length-drop at t))

pub lines_end : (t : List ℕ) (at : ℕ) → length t ≤ at → lines_of (drop at t) ≡ []
lines_end t at h = ap lines_of (drop_of_length-le t h) ∙ lines_none

-- the lines of a line's text and something behind it
lines_written : (l : TraceLine) (t : List ℕ) → Lawful l → lines_of (written l ++ t) ≡ some l ∷ lines_of t
lines_written l t h =
    lines_some (written l ++ t) (omega (arith, length-append (written l) t, written_some l))
    ∙ ap (λ (o : Option TraceLine). parted o (written l ++ t) lines_of) (front_written l t h)
    ∙ ap (λ (u : List ℕ). some l ∷ lines_of u) (drop-append_seam (written l) t)

-- ---- a trace read back

all_joined : (ls : List TraceLine) (t : List ℕ) → Every Lawful ls → lines_of (written_all ls ++ t) ≡ map some ls ++ lines_of t
unfolding written_all
all_joined [] t h = refl
all_joined (l ∷ ls) t h =
    ap lines_of (append_assoc (written l) (written_all ls) t)
    ∙ lines_written l (written_all ls ++ t) h.0
    ∙ ap (λ (x : List (Option TraceLine)). some l ∷ x) (all_joined ls t h.1)

all_back : (ls : List TraceLine) → Every Lawful ls → lines_of (written_all ls) ≡ map some ls
all_back ls h =
    ap lines_of (sym (append-nil (written_all ls)))
    ∙ all_joined ls [] h
    ∙ ap (λ (x : List (Option TraceLine)). map some ls ++ x) lines_none
    ∙ append-nil (map some ls)

all_only : (t : List ℕ) (ls : List TraceLine) → lines_of t ≡ map some ls → Every Lawful ls × (t ≡ written_all ls)
unfolding written_all
all_only [] [] e = (tt, refl)
all_only [] (l ∷ ls) e =
    let f = sym lines_none ∙ e in
    let no_way : ◌≡◌ {A = ℕ} 0 1 = cc in absurd (omega arith)
all_only (c ∷ s) [] e = absurd (by (front (c ∷ s)) (sym (lines_some (c ∷ s) (omega arith)) ∙ e))
  where
    by : (o : Option TraceLine) → parted o (c ∷ s) lines_of ≡ [] → ⊥
    by none f = let no_way : ◌≡◌ {A = ℕ} 0 1 = cc in omega arith
    by (some m) f = let no_way : ◌≡◌ {A = ℕ} 0 1 = cc in omega arith
all_only (c ∷ s) (l ∷ ls) e =
    by (front (c ∷ s)) refl (sym (lines_some (c ∷ s) (omega arith)) ∙ e) (λ u. all_only u ls)
  where
    by : (o : Option TraceLine) → front (c ∷ s) ≡ o → parted o (c ∷ s) lines_of ≡ some l ∷ map some ls
        → ((u : List ℕ) → lines_of u ≡ map some ls → Every Lawful ls × (u ≡ written_all ls))
        → Every Lawful (l ∷ ls) × (c ∷ s ≡ written l ++ written_all ls)
    by none f g r = let no_way : ◌≡◌ {A = ℕ} 0 1 = cc in absurd (omega arith)
    by (some m) f g r =
        let same : m ≡ l = cc in
        let p = front_read (c ∷ s) m f in
        let tail : lines_of (drop (length (written m)) (c ∷ s)) ≡ map some ls = cc in
        let more = r p.rest (ap lines_of (sym (rest_is (c ∷ s) m p)) ∙ tail) in
        ((subst Lawful same p.lawful, more.0), p.text ∙ ap₂ (λ (x : TraceLine) (u : List ℕ). written x ++ u) same more.1)

pub trace_read_back : TraceReadBack
trace_read_back = record { joined = all_joined; all = all_back; only = all_only }

-- ---- from an offset on, as a loop over the text needs it

-- what follows from a line at an offset
pub record LineRead (t : List ℕ) (at : ℕ) (l : TraceLine) (next : ℕ) : Type 0 where
  pub lines : lines_of (drop at t) ≡ some l ∷ lines_of (drop next t)
  pub on : at < next
  pub within : next ≤ length t
  pub lawful : Lawful l

pub line_read : (t : List ℕ) (at : ℕ) (l : TraceLine) (next : ℕ) → front_at t at ≡ some (l, next) → LineRead t at l next
unfolding front_at
line_read t at l next e = by (front (drop at t)) refl e
  where
    by : (o : Option TraceLine) → front (drop at t) ≡ o → with_next at o ≡ some (l, next) → LineRead t at l next
    by none f g = let no_way : ◌≡◌ {A = ℕ} 0 1 = cc in absurd (omega arith)
    by (some m) f g =
        let pair : ◌≡◌ {A = TraceLine × ℕ} (m, at + length (written m)) (l, next) = cc in
        let same : m ≡ l = ap (λ (x : TraceLine × ℕ). x.0) pair in
        let there : at + length (written m) ≡ next = ap (λ (x : TraceLine × ℕ). x.1) pair in
        let p = front_read (drop at t) m f in
        let sum = ap length p.text ∙ length-append (written m) p.rest in
        let some-there = written_some m in
        let left = length-drop at t in
        record {
          lines =
              lines_at t at (omega arith)
              ∙ ap (λ (x : Option TraceLine). parted x (drop at t) lines_of) f
              ∙ ap₂ (λ (x : TraceLine) (u : List ℕ). some x ∷ lines_of u) same
              (drop-drop (length (written m)) at t ∙ ap (λ (n : ℕ). drop n t) there);
          on = omega arith;
          within = omega arith;
          lawful = subst Lawful same p.lawful;
        }

pub none_read : (t : List ℕ) (at : ℕ) → at < length t → front_at t at ≡ none → lines_of (drop at t) ≡ none ∷ []
unfolding front_at
none_read t at h e = lines_at t at h ∙ by (front (drop at t)) e
  where
    by : (o : Option TraceLine) → with_next at o ≡ none → parted o (drop at t) lines_of ≡ none ∷ []
    by none f = refl
    by (some m) f = let no_way : ◌≡◌ {A = ℕ} 0 1 = cc in absurd (omega arith)

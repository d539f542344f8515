-- The laws of the lists of specs/Lists.antt. Assumes nothing.
use mathlib.Core.Path.{◌≡◌, refl, ap, ap₂, sym, subst, ◌∙◌}
use mathlib.Core.Bool.{cond}
use mathlib.Core.List.{List, [], ◌∷◌}
use Prim.Native.Nat.{ℕ, zero, suc, ◌+◌, ◌<◌, suc-le-suc}
use native.Mathlib.Nat.{le_of_suc-le-suc, not-suc-le-zero, zero-lt-suc}
use lib.ListN.{length, get_or}
use borrow.Author.Tests.{eq-eqb}
use denote.Param.Members.{Mut, Called}
use lib.Seq.{ext_get_or}
use native.Mathlib.Omega.{arith}
use Rattle.std.specs.Array.{IsFromFnResult, IsFromFnResultFrom}
use Rattle.table.specs.Answers.{given, refused}
use Rattle.fields.specs.Lists.{tabulate, exactly}

pub length_tabulate : {A : Type 0} (n : ℕ) (f : ℕ → A) → length (tabulate n f) ≡ n
unfolding tabulate
length_tabulate zero f = refl
length_tabulate (suc n) f = ap suc (length_tabulate n (λ (k : ℕ). f (suc k)))

pub get_d_tabulate : {A : Type 0} (n : ℕ) (f : ℕ → A) (k : ℕ) (d : A) → k < n → get_or (tabulate n f) k d ≡ f k
unfolding tabulate
get_d_tabulate zero f k d h = absurd (not-suc-le-zero h)
get_d_tabulate (suc n) f zero d h = refl
get_d_tabulate (suc n) f (suc k) d h = get_d_tabulate n (λ (m : ℕ). f (suc m)) k d (le_of_suc-le-suc h)

pub tabulate_same : {A : Type 0} (n : ℕ) (f g : ℕ → A) → ((k : ℕ) → k < n → f k ≡ g k) → tabulate n f ≡ tabulate n g
unfolding tabulate
tabulate_same zero f g e = refl
tabulate_same (suc n) f g e =
    ap₂ (λ x l. x ∷ l) (e zero (zero-lt-suc n)) (tabulate_same n (λ (k : ℕ). f (suc k)) (λ (k : ℕ). g (suc k)) (λ k h. e (suc k) (suc-le-suc h)))

-- an array that calls of one function made, at each place in turn, where a call leaves the function as it was
module _ {F B : Type 0} (g : Mut F (ℕ × Unit {0}) B) (f : F) (h : ℕ → B) (calls : (k : ℕ) (y : B) (q : F) → Called g f (k, tt) y q → (y ≡ h k) × (q ≡ f)) where
  made_from : (i n : ℕ) (ys : List B) → IsFromFnResultFrom g f ys i n → (k j : ℕ) (d : B) → k < n → i + k ≡ j → get_or ys j d ≡ h j
  made_from i zero ys m k j d l s = absurd (not-suc-le-zero l)
  made_from i (suc n) ys (q, y, e, called, more) zero j d l s =
      let here : i ≡ j = omega arith in
      ap (λ (p : ℕ). get_or ys p d) (sym here) ∙ e.1 d ∙ (calls i y q called).0 ∙ ap h here
  made_from i (suc n) ys (q, y, e, called, more) (suc k) j d l s =
      let rest : IsFromFnResultFrom g f ys (i + 1) n = subst (λ p. IsFromFnResultFrom g p ys (i + 1) n) (calls i y q called).1 more in
      made_from (i + 1) n ys rest k j d (le_of_suc-le-suc l) (omega arith)

  pub made_by_calls : (n : ℕ) (ys : List B) (d : B) → IsFromFnResult g f ys n → ys ≡ tabulate n h
  made_by_calls n ys d m =
      ext_get_or d ys (tabulate n h) (m.long ∙ sym (length_tabulate n h))
      (λ k l. let inside : k < n = omega (arith, m.long) in made_from 0 n ys m.each k k d inside (omega arith) ∙ sym (get_d_tabulate n h k d inside))

-- a list is its elements, read one by one
pub whole : (s : List ℕ) → tabulate (length s) (λ (k : ℕ). get_or s k 0) ≡ s
unfolding tabulate
whole [] = refl
whole (x ∷ s) = ap (λ (l : List ℕ). x ∷ l) (whole s)

pub elements : (n : ℕ) (s : List ℕ) → length s ≡ n → tabulate n (λ (k : ℕ). get_or s k 0) ≡ s
elements n s e = ap (λ (m : ℕ). tabulate m (λ (k : ℕ). get_or s k 0)) (sym e) ∙ whole s

-- a list of the right length is taken
pub exactly_given : (n : ℕ) (s : List ℕ) → length s ≡ n → exactly n s ≡ given s
exactly_given n s e = ap (λ b. cond b (given s) (refused 3)) (eq-eqb (length s) n e)

-- what is made from the elements of a list of the right length
pub exactly_made : (n : ℕ) (s : List ℕ) → length s ≡ n → given (tabulate n (λ (k : ℕ). get_or s k 0)) ≡ exactly n s
exactly_made n s e = ap given (elements n s e) ∙ sym (exactly_given n s e)

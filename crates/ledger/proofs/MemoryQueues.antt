-- The open requests and the parents in memory, and what becomes of them where one queue or one row changes. Assumes nothing.
use Prim.Native.Nat.{ℕ, zero, suc, ◌+◌, ◌-◌, ◌<◌, ◌≤◌}
use mathlib.Core.Bool.{Bool, true, false, cond}
use mathlib.Core.List.{List, [], ◌∷◌, ◌++◌, head?, tail, map}
use mathlib.Core.Option.{none, some}
use mathlib.Core.Path.{◌≡◌, refl, sym, ap, fun_ext, ◌∙◌}
use native.Mathlib.Omega.{arith}
use borrow.Author.Tests.{eqb-true, eqb-false}
use lib.Dec.{eqb}
use lib.ListN.{length, get_or, set, take}
use lib.Seq.{get_or-set_same, get_or-set_other}
use Rattle.std.specs.Prelude.{None, Some, slice_get}
use Rattle.std.proofs.Common.{add-one}
use Rattle.std.proofs.lemmas.List.{length-take-le, get_or-take, same_lists}
use Rattle.ledger.specs.Book.{put}
use Rattle.ledger.specs.Events.{Request}
use Rattle.ledger.specs.Memory.{request_of, open_requests, pending_in, row_in, no_queue, no_parents, parents_in}
use Rattle.ledger.specs.declared.memory.Asked.{Asked}
use Rattle.ledger.specs.declared.memory.Queue.{Queue}
use Rattle.ledger.specs.declared.memory.Parents.{Parents}

-- ---- a list of kept requests

pub map-append : (c : ℕ) (l m : List Asked) → map (request_of c) (l ++ m) ≡ map (request_of c) l ++ map (request_of c) m
map-append c [] m = refl
map-append c (x ∷ l) m = ap (λ (s : List Request). request_of c x ∷ s) (map-append c l m)

pub map-tail : (c : ℕ) (l : List Asked) → map (request_of c) (tail l) ≡ tail (map (request_of c) l)
map-tail c [] = refl
map-tail c (x ∷ l) = refl

pub map-take_two : (c : ℕ) (x : Asked) (l : List Asked) → map (request_of c) (take 2 (x ∷ l)) ≡ take 2 (request_of c x ∷ map (request_of c) l)
map-take_two c x [] = refl
map-take_two c x (y ∷ l) = refl

-- the request that a place of the list has, and none where it has none
pub got_first : (c : ℕ) (l : List Asked) (r : Asked) → slice_get l 0 ≡ Some r → head? (map (request_of c) l) ≡ some (request_of c r)
got_first c [] r e = cc
got_first c (x ∷ l) r e = let same : x ≡ r = cc in ap (λ (y : Asked). some (request_of c y)) same

pub none_first : (c : ℕ) (l : List Asked) → slice_get l 0 ≡ None → head? (map (request_of c) l) ≡ none
none_first c [] e = refl
none_first c (x ∷ l) e = cc

-- the requests behind the first of n, where each has moved to the place before its own
pub moved_up : (l m : List Asked) (n : ℕ) → 0 < n → n ≤ length l → n ≤ length m → ((k : ℕ) (d : Asked) → k + 1 < n → get_or m k d ≡ get_or l (k + 1) d)
    → take (n - 1) m ≡ tail (take n l)
moved_up l m zero z h g e = absurd (omega arith)
moved_up [] m (suc n) z h g e = absurd (omega arith)
moved_up (x ∷ l) m (suc n) z h g e =
    let less : suc n - 1 ≡ n = omega arith in
    let size : length (take n m) ≡ n = length-take-le n m (omega arith) in
    rw less
    (same_lists (take n m) (take n l) (size ∙ sym (length-take-le n l (omega arith)))
    (λ k d i.
    let below : k < n = omega arith in
    get_or-take n m k d below ∙ (rw add-one at (e k d (omega arith))) ∙ sym (get_or-take n l k d below)))

-- ---- the open requests, where one queue changes

pub put_in : (w : List Queue) (c : ℕ) (q : Queue) → c < length w → pending_in (set w c q) ≡ put c (open_requests c q) (pending_in w)
put_in w c q h = fun_ext (λ d. by d (eqb c d) refl)
  where
    by : (d : ℕ) (t : Bool) → eqb c d ≡ t → open_requests d (get_or (set w c q) d no_queue) ≡ cond t (open_requests c q) (pending_in w d)
    by d true e =
        let same : c ≡ d = eqb-true c d e in
        ap (λ (k : ℕ). open_requests k (get_or (set w c q) k no_queue)) (sym same)
        ∙ ap (open_requests c) (get_or-set_same w c q no_queue h)
    by d false e = ap (open_requests d) (get_or-set_other w c d q no_queue (λ z. eqb-false c d e (sym z)))

-- ---- the parents of a row, where one row changes

pub row_put : (w : List Parents) (row : ℕ) (p : Parents) → row < length w → (c d : ℕ)
    → row_in (set w row p) c d ≡ cond (eqb row d) (map (request_of c) (parents_in p)) (row_in w c d)
row_put w row p h c d = by (eqb row d) refl
  where
    by : (t : Bool) → eqb row d ≡ t → row_in (set w row p) c d ≡ cond t (map (request_of c) (parents_in p)) (row_in w c d)
    by true e =
        let same : row ≡ d = eqb-true row d e in
        ap (λ (k : ℕ). row_in (set w row p) c k) (sym same)
        ∙ ap (λ (x : Parents). map (request_of c) (parents_in x)) (get_or-set_same w row p no_parents h)
    by false e = ap (λ (x : Parents). map (request_of c) (parents_in x)) (get_or-set_other w row d p no_parents (λ z. eqb-false row d e (sym z)))

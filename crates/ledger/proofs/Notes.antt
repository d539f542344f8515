-- The list has the entries that it should have, in the lent numbers too. Assumes nothing.
use Prim.Native.Nat.{ℕ, zero, suc, ◌+◌, ◌*◌, ◌/◌, ◌<◌, ◌≤◌}
use mathlib.Core.Bool.{Bool, true, false, cond, ◌&&◌}
use mathlib.Core.List.{List, [], ◌∷◌, ◌++◌, reverse, append-nil}
use mathlib.Core.Logic.{◌⊎◌, inl, inr}
use mathlib.Core.Option.{Option, none, some}
use mathlib.Core.Path.{◌≡◌, refl, sym, ap, ap₂, ◌∙◌, subst}
use native.Mathlib.Omega.{arith}
use borrow.Author.Tests.{lt-ltb}
use lib.ListN.{length, drop, get_or}
use lib.Seq.{drop_at}
use Rattle.fields.specs.Lists.{tabulate}
use Rattle.ledger.specs.Book.{in_four, taken_all}
use Rattle.ledger.specs.Claims.{
  Brings,
  strays,
  reaches,
  stops,
  Listed,
  nothing,
  entered,
  passed,
  ListedIsOne,
  in_numbers,
  fresh,
  room_in,
  Lists,
  ListExactly,
}
use Rattle.ledger.specs.Events.{Request, Event, request, reply, stop_at, events}
use Rattle.ledger.specs.Matching.{answered_by}
use Rattle.ledger.specs.Memory.{note_at}
use Rattle.ledger.specs.Parents.{Note, stray, beyond, stopped, brought_by, due, notes}
use Rattle.ledger.specs.Settings.{is_beyond}
use Rattle.ledger.specs.Trace.{TraceLine}
use Rattle.ledger.proofs.LineByLine.{taken_whole}
use Rattle.ledger.proofs.Matches.{head_is_matched, matched_is_head, stray_is_unmatched}
use Rattle.ledger.proofs.Replaying.{numbers_long, list_of, list_long}

-- ---- what an event brings is what is due

brought : (e : Event) (past : List Event) (n : Note) → Brings e past n → due e past ≡ n ∷ []
brought e past n (strays a h) = ap (brought_by a) ((stray_is_unmatched past a).1 h)
brought e past n (reaches a r m y b) =
    ap (brought_by a) (matched_is_head past a r m) ∙ ap (λ (x : Bool). cond (x && is_beyond r) (beyond r.at ∷ []) []) y
    ∙ ap (λ (x : Bool). cond x (beyond r.at ∷ []) []) b
brought e past n (stops p) = refl

came : (e : Event) (past : List Event) → ((n : Note) × Brings e past n) ⊎ (due e past ≡ [])
came (request r) past = inr refl
came (reply a) past = by (answered_by a past) refl
  where
    agreed : (r : Request) → answered_by a past ≡ some r → (y : Bool) → a.agrees ≡ y → (b : Bool) → is_beyond r ≡ b
        → ((n : Note) × Brings (reply a) past n) ⊎ (cond {A = List Note} (y && b) (beyond r.at ∷ []) [] ≡ [])
    agreed r q true y true b = inl (beyond r.at, reaches a r (head_is_matched past a r q) y b)
    agreed r q true y false b = inr refl
    agreed r q false y c b = inr refl

    by : (o : Option Request) → answered_by a past ≡ o → ((n : Note) × Brings (reply a) past n) ⊎ (brought_by a o ≡ [])
    by none q = inl (stray a.at, strays a ((stray_is_unmatched past a).0 q))
    by (some r) q = agreed r q a.agrees refl (is_beyond r) refl
came (stop_at p) past = inl (stopped p, stops p)

pub notes_listed : (past : List Event) → Listed past (notes past)
notes_listed [] = nothing
notes_listed (e ∷ past) = by (came e past) (notes_listed past)
  where
    by : ((n : Note) × Brings e past n) ⊎ (due e past ≡ []) → Listed past (notes past) → Listed (e ∷ past) (notes past ++ due e past)
    by (inl b) l = subst (λ (ns : List Note). Listed (e ∷ past) (notes past ++ ns)) (sym (brought e past b.0 b.1)) (entered e b.1 l)
    by (inr q) l =
        subst (λ (ns : List Note). Listed (e ∷ past) ns) (sym (append-nil (notes past)) ∙ ap (λ (ns : List Note). notes past ++ ns) (sym q))
        (passed e (λ n b. let d = brought e past n b in let no_way : ◌≡◌ {A = ℕ} 0 1 = cc in omega arith) l)

listed_is : {past : List Event} {ns : List Note} → Listed past ns → ns ≡ notes past
listed_is nothing = refl
listed_is (entered {past} {ns} {n} e b l) =
    ap (λ (ms : List Note). ms ++ (n ∷ [])) (listed_is l) ∙ ap (λ (ds : List Note). notes past ++ ds) (sym (brought e past n b))
listed_is (passed {past} {ns} e h l) = listed_is l ∙ by (came e past)
  where
    by : ((n : Note) × Brings e past n) ⊎ (due e past ≡ []) → notes past ≡ notes past ++ due e past
    by (inl b) = absurd (h b.0 b.1)
    by (inr q) = sym (ap (λ (ds : List Note). notes past ++ ds) q ∙ append-nil (notes past))

pub listed_is_one : ListedIsOne
listed_is_one past ms ns l m = listed_is l ∙ sym (listed_is m)

-- ---- the entries in the lent numbers

tabulate_alike : {A : Type 0} (n : ℕ) (f g : ℕ → A) → ((k : ℕ) → k < n → f k ≡ g k) → tabulate n f ≡ tabulate n g
unfolding tabulate
tabulate_alike zero f g h = refl
tabulate_alike (suc n) f g h =
    ap₂ (λ x y. x ∷ y) (h zero (omega arith)) (tabulate_alike n (λ k. f (suc k)) (λ k. g (suc k)) (λ k l. h (suc k) (omega arith)))

-- entry k, wherever the list ends
abbrev four_at : List ℕ → ℕ → Note
four_at w k = record {
  kind = get_or w (4 * k) 0;
  at = record { line = get_or w (4 * k + 1) 0; frame = get_or w (4 * k + 2) 0; offset = get_or w (4 * k + 3) 0 };
}

four_behind : (n : Note) (w : List ℕ) (k : ℕ) → four_at (in_four n ++ w) (suc k) ≡ four_at w k
four_behind n w k = λ i. record { kind = first i; at = record { line = at 1 i; frame = at 2 i; offset = at 3 i } }
  where
    first : get_or (in_four n ++ w) (4 * suc k) 0 ≡ get_or w (4 * k) 0
    first = let place : 4 * suc k ≡ suc (suc (suc (suc (4 * k)))) = omega arith in ap (λ (i : ℕ). get_or (in_four n ++ w) i 0) place

    at : (j : ℕ) → get_or (in_four n ++ w) (4 * suc k + j) 0 ≡ get_or w (4 * k + j) 0
    at j = let place : 4 * suc k + j ≡ suc (suc (suc (suc (4 * k + j)))) = omega arith in ap (λ (i : ℕ). get_or (in_four n ++ w) i 0) place

fours_are : (ns : List Note) (w : List ℕ) → tabulate (length ns) (four_at (in_numbers ns ++ w)) ≡ ns
unfolding tabulate
fours_are [] w = refl
fours_are (n ∷ ns) w =
    let rest : List ℕ = in_numbers ns ++ w in
    let behind : tabulate (length ns) (λ k. four_at (in_four n ++ rest) (suc k)) ≡ tabulate (length ns) (four_at rest) =
    tabulate_alike (length ns) (λ k. four_at (in_four n ++ rest) (suc k)) (four_at rest) (λ k h. four_behind n rest k) in
    ap (λ (l : List Note). n ∷ l) (behind ∙ fours_are ns w)

pub entries_are : (lent : List ℕ) (ns : List Note) → length ns ≤ room_in lent → tabulate (length ns) (note_at (list_of lent ns)) ≡ ns
entries_are lent ns h =
    tabulate_alike (length ns) (note_at (list_of lent ns)) (four_at (list_of lent ns)) within ∙ fours_are ns (drop (length (in_numbers ns)) lent)
  where
    within : (k : ℕ) → k < length ns → note_at (list_of lent ns) k ≡ four_at (list_of lent ns) k
    within k l =
        let in_list : k < length (list_of lent ns) / 4 = omega (arith, ap (λ (n : ℕ). n / 4) (list_long lent ns h)) in
        let nothing_there : Note = record { kind = 0; at = record { line = 0; frame = 0; offset = 0 } } in
        ap (λ (b : Bool). cond b (four_at (list_of lent ns) k) nothing_there) (lt-ltb k (length (list_of lent ns) / 4) in_list)

pub list_exactly : (lent : List ℕ) → ListExactly lent
list_exactly lent t ls b read e =
    let w = taken_whole lent ls b (ap (λ (x : List (Option TraceLine)). taken_all x (fresh lent)) (sym read) ∙ e) in
    let past : List Event = reverse (events 0 ls) in
    let ns : List Note = notes past in
    let long = numbers_long ns in
    subst (Lists lent past) (sym w.book) (record {
      entries = subst (Listed past) (sym (entries_are lent ns w.fits)) (notes_listed past);
      behind = drop_at (in_numbers ns) (drop (length (in_numbers ns)) lent) (4 * length ns) long ∙ ap (λ (k : ℕ). drop k lent) long;
      long = list_long lent ns w.fits;
    })

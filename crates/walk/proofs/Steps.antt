-- What stands at an offset of a stream, and what that says of the step and of the walk from there. Assumes nothing.
use Prim.Native.Nat.{ℕ, ◌+◌, ◌-◌, ◌≤◌, ◌<◌}
use mathlib.Core.Bool.{cond}
use mathlib.Core.List.{List, [], ◌∷◌, ◌++◌}
use mathlib.Core.Option.{Option, none, some}
use mathlib.Core.Path.{◌≡◌, refl, sym, ap, ap₂, ◌∙◌, subst}
use native.Mathlib.Decide.{dec_le, dec_lt}
use native.Mathlib.Nat.{add_assoc}
use native.Mathlib.Numerals.{add-one, one-add}
use native.Mathlib.Omega.{arith}
use lib.Dec.{ltb}
use lib.ListN.{length, get_or, take, drop, length-drop, take-append-drop, drop_of_length-le}
use lib.Seq.{drop-cons, drop-drop, length-take-le, take-append_seam}
use borrow.Author.Tests.{le-leb, lt-leb, lt-ltb, le-ltb}
use Rattle.std.proofs.lemmas.List.{take_rest}
use Rattle.table.specs.Answers.{Answer, given, refused}
use Rattle.walk.specs.Ownership.{Ends, nothing_left, no_cid, cut_short}
use Rattle.walk.specs.Lanes.{more, Leads}
use Rattle.walk.specs.Room.{room_for, read_by}
use Rattle.walk.specs.Step.{Found, ended, command, stopped, first_of, first_move, found_at, Heading, heading, in_numbers, step_at, tally, tally_from}
use Rattle.walk.specs.Walk.{Rule, Cmd, Ending, end, stop, place_of, Walk, finish, after, walk_from, size}
use Rattle.walk.proofs.Laws.{ends_at, walk_ends, walk_command}

-- the walk from an offset, told from the step there and the walk from the next
abbrev pub tally_after : Rule → List ℕ → ℕ → Answer (Found Heading) → Answer Ending × ℕ
tally_after L s at (given ended) = (given (end at), 0)
tally_after L s at (given (command h next)) = more 1 (tally_from L s next)
tally_after L s at (given (stopped n o)) = (given (stop n o), 0)
tally_after L s at (refused n) = (refused n, 0)

-- a step at a CID, in numbers, told from its length
abbrev pub by_length : (at cid left : ℕ) → Option ℕ → Answer (Found Heading)
by_length at cid left none = given (stopped 1 at)
by_length at cid left (some n) = cond (ltb n left) (given (command (heading cid n) (at + 1 + n))) (given (stopped 2 at))

-- an ending is no command
pub ended_no_command : (e : Ending) {c : Cmd} {next : ℕ} → ◌≡◌ {A = Answer (Found Cmd)} (given (first_of [] e)) (given (command c next)) → ⊥
ended_no_command (end o) p = cc
ended_no_command (stop n o) p = cc

module _ (L : Rule) (s : List ℕ) where
  -- a command stands at an offset
  pub record Goes (at : ℕ) (c : Cmd) (next : ℕ) : Type 0 where
    pub bytes : drop at s ≡ c.cid ∷ (c.body ++ drop next s)
    pub known : L c.cid ≡ some (length c.body)
    pub behind : next ≡ at + size c
    pub fits : next ≤ length s

  -- its payload stands behind its CID
  pub goes_body : {at : ℕ} {c : Cmd} {next : ℕ} → Goes at c next → take (length c.body) (drop (at + 1) s) ≡ c.body
  goes_body {at} {c} {next} g =
      ap (take (length c.body)) (sym (drop-drop 1 at s) ∙ ap (drop 1) g.bytes) ∙ take-append_seam c.body (drop next s)

  pub data Here (at : ℕ) : Type 0 where
    past : length s < at → Here at
    ends : (e : Ending) → at ≤ length s → Ends L at (drop at s) e → Here at
    goes : (c : Cmd) (next : ℕ) → Goes at c next → Here at

  pub walk_goes : {at : ℕ} {c : Cmd} {next : ℕ} → Goes at c next → walk_from L at (drop at s) ≡ after (record { at = at; cmd = c }) (walk_from L next (drop next s))
  walk_goes {at} {c} {next} g =
      ap (walk_from L at) g.bytes ∙ walk_command L at c.cid c.body (drop next s) g.known
      ∙ ap (λ (k : ℕ). after (record { at = at; cmd = c }) (walk_from L k (drop next s))) (sym g.behind)

  -- ---- the definitions, there

  found_in : {at : ℕ} {w : Walk} → at ≤ length s → walk_from L at (drop at s) ≡ w → found_at L s at ≡ given (first_move w)
  unfolding found_at
  found_in {at} h e = rw (le-leb at (length s) h) (ap (λ (w : Walk). given (first_move w)) e)

  tally_in : {at : ℕ} {w : Walk} → at ≤ length s → walk_from L at (drop at s) ≡ w → tally_from L s at ≡ tally w
  unfolding tally_from
  tally_in {at} h e = rw (le-leb at (length s) h) (ap tally e)

  pub found_past : {at : ℕ} → length s < at → found_at L s at ≡ refused 5
  unfolding found_at
  found_past {at} h = rw (lt-leb at (length s) h)

  tally_past : {at : ℕ} → length s < at → tally_from L s at ≡ (refused 5, 0)
  unfolding tally_from
  tally_past {at} h = rw (lt-leb at (length s) h)

  pub found_ends : {at : ℕ} {e : Ending} → at ≤ length s → Ends L at (drop at s) e → found_at L s at ≡ given (first_of [] e)
  found_ends h x = found_in h (walk_ends L x)

  pub found_goes : {at : ℕ} {c : Cmd} {next : ℕ} → Goes at c next → found_at L s at ≡ given (command c next)
  found_goes {at} {c} {next} g =
      found_in (omega (arith, g.behind, g.fits)) (walk_goes g) ∙ ap (λ (k : ℕ). given (command c k)) (sym g.behind)

  -- ---- by the tests that tell them apart

  module _ {at : ℕ} where
    at_cid : at < length s → drop at s ≡ get_or s at 0 ∷ drop (at + 1) s
    at_cid h = drop-cons s at 0 h ∙ ap (λ (k : ℕ). get_or s at 0 ∷ drop k s) (sym (add-one at))

    ends_here : at ≤ length s → length s ≤ at → Ends L at (drop at s) (end at)
    ends_here h g = subst (λ (t : List ℕ). Ends L at t (end at)) (sym (drop_of_length-le s {i = at} g)) nothing_left

    unknown_here : at < length s → L (get_or s at 0) ≡ none → Ends L at (drop at s) (stop 1 at)
    unknown_here h e = subst (λ (t : List ℕ). Ends L at t (stop 1 at)) (sym (at_cid h)) (no_cid (get_or s at 0) (drop (at + 1) s) e)

    short_here : (n : ℕ) → at < length s → L (get_or s at 0) ≡ some n → length s - (at + 1) < n → Ends L at (drop at s) (stop 2 at)
    short_here n h e g =
        subst (λ (t : List ℕ). Ends L at t (stop 2 at)) (sym (at_cid h)) (cut_short (get_or s at 0) n (drop (at + 1) s) e (simp length-drop g))

    pub command_here : (n : ℕ) → at < length s → L (get_or s at 0) ≡ some n → n ≤ length s - (at + 1)
        → Goes at (record { cid = get_or s at 0; body = take n (drop (at + 1) s) }) (at + 1 + n)
    command_here n h e g =
        let t : List ℕ = drop (at + 1) s in
        let len : length (take n t) ≡ n = length-take-le n t (simp length-drop g) in
        record {
          bytes = at_cid h ∙ ap (λ (l : List ℕ). get_or s at 0 ∷ l) (sym (take-append-drop n t) ∙ ap (λ (l : List ℕ). take n t ++ l) (drop-drop n (at + 1) s));
          known = e ∙ ap some (sym len);
          behind = omega arith;
          fits = omega arith;
        }

    here_known : (n : ℕ) → at < length s → L (get_or s at 0) ≡ some n → Dec (n ≤ length s - (at + 1)) → Here at
    here_known n h e (yes g) = goes _ _ (command_here n h e g)
    here_known n h e (no g) = ends _ (omega arith) (short_here n h e (omega arith))

    here_in : at < length s → (l : Option ℕ) → L (get_or s at 0) ≡ l → Here at
    here_in h none e = ends _ (omega arith) (unknown_here h e)
    here_in h (some n) e = here_known n h e (dec_le n (length s - (at + 1)))

    here_by : Dec (at < length s) → Dec (at ≤ length s) → Here at
    here_by (yes h) d = here_in h (L (get_or s at 0)) refl
    here_by (no h) (yes g) = ends _ g (ends_here g (omega arith))
    here_by (no h) (no g) = past (omega arith)

    pub found_end : at ≤ length s → length s ≤ at → found_at L s at ≡ given ended
    found_end h g = found_ends h (ends_here h g)

    -- ---- the step, in numbers

    pub step_past : length s < at → step_at L s at ≡ refused 5
    step_past h = ap in_numbers (found_past h)

    pub step_end : at ≤ length s → length s ≤ at → step_at L s at ≡ given ended
    step_end h g = ap in_numbers (found_end h g)

    step_unknown : at < length s → L (get_or s at 0) ≡ none → step_at L s at ≡ given (stopped 1 at)
    step_unknown h e = ap in_numbers (found_ends (omega arith) (unknown_here h e))

    step_short : (n : ℕ) → at < length s → L (get_or s at 0) ≡ some n → length s - (at + 1) < n → step_at L s at ≡ given (stopped 2 at)
    step_short n h e g = ap in_numbers (found_ends (omega arith) (short_here n h e g))

    pub step_command : (n : ℕ) → at < length s → L (get_or s at 0) ≡ some n → n ≤ length s - (at + 1)
        → step_at L s at ≡ given (command (heading (get_or s at 0) n) (at + 1 + n))
    step_command n h e g =
        ap in_numbers (found_goes (command_here n h e g))
        ∙ ap (λ (k : ℕ). given (command (heading (get_or s at 0) k) (at + 1 + n))) (length-take-le n (drop (at + 1) s) (simp length-drop g))

    -- by the length of the CID that stands there
    pub step_by : at < length s → step_at L s at ≡ by_length at (get_or s at 0) (length s - at) (L (get_or s at 0))
    step_by h = by (L (get_or s at 0)) refl
      where
        by_room : (n : ℕ) → L (get_or s at 0) ≡ some n → Dec (n < length s - at) → step_at L s at ≡ by_length at (get_or s at 0) (length s - at) (some n)
        by_room n e (yes g) = step_command n h e (omega arith) ∙ rw (lt-ltb n (length s - at) g) refl
        by_room n e (no g) =
            let short : length s - at ≤ n = omega arith in
            step_short n h e (omega arith) ∙ rw (le-ltb n (length s - at) short) refl

        by : (l : Option ℕ) → L (get_or s at 0) ≡ l → step_at L s at ≡ by_length at (get_or s at 0) (length s - at) l
        by none e = step_unknown h e
        by (some n) e = by_room n e (dec_lt n (length s - at))

    -- ---- a typed step: what its test and its reading say

    read_in : {c : Cmd} → at < length s → (l : Option ℕ) → L (get_or s at 0) ≡ l → given c ≡ read_by l (get_or s at 0) (drop (at + 1) s)
        → given (command c (at + size c)) ≡ found_at L s at
    read_in h none e r = absurd cc
    read_in {c} h (some n) e r = by (dec_le n (length (drop (at + 1) s)))
      where
        by : Dec (n ≤ length (drop (at + 1) s)) → given (command c (at + size c)) ≡ found_at L s at
        by (yes g) =
            let q = simp (le-leb n (length (drop (at + 1) s)) g) at r in
            let c_is : c ≡ record { cid = get_or s at 0; body = take n (drop (at + 1) s) } = cc in
            let len : length c.body ≡ n = ap (λ (d : Cmd). length d.body) c_is ∙ length-take-le n (drop (at + 1) s) g in
            let behind : at + size c ≡ at + 1 + n = omega arith in
            let goes = command_here n h e (omega (arith, simp length-drop at g)) in
            ap₂ (λ (d : Cmd) (k : ℕ). given (command d k)) c_is behind ∙ sym (found_goes goes)
        by (no g) =
            let short : length (drop (at + 1) s) < n = omega arith in
            let q = simp (lt-leb n (length (drop (at + 1) s)) short) at r in
            absurd cc

    pub found_read : {c : Cmd} {len : ℕ} → at < length s
        → given c ≡ read_by (L (get_or s at 0)) (get_or s at 0) (take (length s - (at + 1)) (drop (at + 1) s))
        → len ≡ length c.body → given (command c (at + 1 + len)) ≡ found_at L s at
    found_read {c} {len} h r l =
        let behind : at + 1 + len ≡ at + size c = omega arith in
        ap (λ (k : ℕ). given (command c k)) behind ∙ read_in h (L (get_or s at 0)) refl (simp take_rest at r)

    stops_by : (k : ℕ) → at < length s → (l : Option ℕ) → L (get_or s at 0) ≡ l → refused k ≡ room_for l (length s - at) → given (stopped k at) ≡ found_at L s at
    stops_by k h none e p =
        let k_is : k ≡ 1 = cc in ap (λ (m : ℕ). given (stopped m at)) k_is ∙ sym (found_ends (omega arith) (unknown_here h e))
    stops_by k h (some n) e p = by (dec_lt n (length s - at))
      where
        by : Dec (n < length s - at) → given (stopped k at) ≡ found_at L s at
        by (yes g) = let q = simp (lt-ltb n (length s - at) g) at p in absurd cc
        by (no g) =
            let q = simp (le-ltb n (length s - at) (omega arith)) at p in
            let k_is : k ≡ 2 = cc in
            ap (λ (m : ℕ). given (stopped m at)) k_is ∙ sym (found_ends (omega arith) (short_here n h e (omega arith)))

    pub found_no_room : (k : ℕ) → at < length s → refused k ≡ room_for (L (get_or s at 0)) (length s - at) → given (stopped k at) ≡ found_at L s at
    found_no_room k h p = stops_by k h (L (get_or s at 0)) refl p

  pub here : (at : ℕ) → Here at
  here at = here_by (dec_lt at (length s)) (dec_le at (length s))

  -- ---- from the step to the walk

  pub found_command : {at next : ℕ} {c : Cmd} → found_at L s at ≡ given (command c next) → Goes at c next
  found_command {at} {next} {c} p = by (here at)
    where
      by : Here at → Goes at c next
      by (past h) = let q = found_past h in absurd cc
      by (ends e h x) = absurd (ended_no_command e (sym (found_ends h x) ∙ p))
      by (goes d m g) =
          let q = found_goes g in
          let c_is : d ≡ c = cc in
          let next_is : m ≡ next = cc in
          subst (λ (k : ℕ). Goes at c k) next_is (subst (λ (x : Cmd). Goes at x m) c_is g)

  pub command_told : (x : Answer (Found Cmd)) {h : Heading} {next : ℕ} → in_numbers x ≡ given (command h next)
      → (c : Cmd) × (x ≡ given (command c next)) × (heading c.cid (length c.body) ≡ h)
  command_told (given ended) p = absurd cc
  command_told (given (command c m)) p = (c, cc, cc)
  command_told (given (stopped n o)) p = absurd cc
  command_told (refused n) p = absurd cc

  -- what a step's command says of the offsets
  pub step_on : (at : ℕ) {next : ℕ} {h : Heading} → step_at L s at ≡ given (command h next) → (next ≡ at + 1 + h.len) × (next ≤ length s)
  step_on at p =
      let t = command_told (found_at L s at) p in
      let g = found_command t.1 in
      let len_is : length t.0.body ≡ _ = ap (λ (h : Heading). h.len) t.2 in
      (omega (arith, g.behind), g.fits)

  pub tally_step : (at : ℕ) → tally_from L s at ≡ tally_after L s at (step_at L s at)
  tally_step at = by (here at)
    where
      ending_is : (e : Ending) → place_of e ≡ at → tally (finish e) ≡ tally_after L s at (in_numbers (given (first_of [] e)))
      ending_is (end o) p = ap (λ (k : ℕ). (given (end k), 0)) p
      ending_is (stop n o) p = refl

      by : Here at → tally_from L s at ≡ tally_after L s at (step_at L s at)
      by (past h) = tally_past h ∙ sym (ap (tally_after L s at) (step_past h))
      by (ends e h x) =
          tally_in h (walk_ends L x) ∙ ending_is e (ends_at L x) ∙ sym (ap (λ (a : Answer (Found Cmd)). tally_after L s at (in_numbers a)) (found_ends h x))
      by (goes c next g) =
          tally_in (omega (arith, g.behind, g.fits)) (walk_goes g)
          ∙ ap (λ (n : ℕ). (given (walk_from L next (drop next s)).ending, n)) (sym (one-add (length (walk_from L next (drop next s)).cmds)))
          ∙ ap (more 1) (sym (tally_in g.fits refl))
          ∙ sym (ap (λ (a : Answer (Found Cmd)). tally_after L s at (in_numbers a)) (found_goes g))

  -- ---- the walk by steps

  pub leads_behind : (at : ℕ) {h : Heading} {next : ℕ} → step_at L s at ≡ given (command h next) → Leads L s at 1 next
  leads_behind at e = let m = step_on at e in record { same = tally_step at ∙ ap (tally_after L s at) e; apart = omega arith }

  pub leads_on : {from m at n to : ℕ} → Leads L s from m at → Leads L s at n to → Leads L s from (m + n) to
  leads_on {m = m} {n = n} {to = to} p q = record {
    same = p.same ∙ ap (more m) q.same ∙ ap (λ (k : ℕ). ((tally_from L s to).0, k)) (sym (add_assoc m n (tally_from L s to).1));
    apart = omega arith;
  }

  -- where one part comes to the place at which another begins
  pub leads_over : {from m at place n to : ℕ} → Leads L s from m at → at ≡ place → Leads L s place n to → Leads L s from (m + n) to
  leads_over {n = n} {to = to} p e q = leads_on p (subst (λ (k : ℕ). Leads L s k n to) (sym e) q)

  -- where the front of a stream leads to, the rest of its walk begins
  pub leads_from_start : {n at m : ℕ} {a : Answer Ending} → Leads L s 0 n at → (a, m) ≡ tally_from L s at → (a, n + m) ≡ tally (walk_from L 0 s)
  leads_from_start {n = n} l e = ap (more n) e ∙ sym l.same ∙ tally_in (omega arith) refl

-- Who owns each byte: the claims of specs/Ownership.antt hold, for every rule and every stream. Assumes nothing.
use Prim.Native.Nat.{ℕ, ◌+◌, ◌≤◌}
use mathlib.Core.List.{List, [], ◌∷◌, ◌++◌, append-nil}
use mathlib.Core.Path.{◌≡◌, refl, sym, ap, ◌∙◌, subst}
use native.Mathlib.Nat.{zero-add}
use native.Mathlib.Numerals.{one-add}
use native.Mathlib.Omega.{arith}
use lib.ListN.{length, take, drop, length-append, length-drop}
use lib.Seq.{take-append_seam, drop_at, drop-drop}
use denote.Ref.{Bor}
use Rattle.table.specs.Answers.{Answer, given}
use Rattle.walk.specs.Ownership.{offset_of, Ends, Owned, EveryByteOwned, StopsOnlyThere, Division, OneDivision, FrontsAreBeginnings, CountFits, Resumes, Steps, finds, hands, StepAndWalkAgree, StopsStay, PayloadShown, EncodedWalksBack, SameBytesSameCommands}
use Rattle.walk.specs.Part.{payload_part}
use Rattle.walk.specs.Step.{Found, stopped, first_of, in_numbers, step_at}
use Rattle.walk.specs.Walk.{Rule, Cmd, Placed, Ending, end, stop, place_of, Walk, finish, after, walk_from, walk_of, encode, size, place, bare}
use Rattle.walk.proofs.Laws.{after_all, View, ends, goes, view, walk_nil, walk_command, walk_ends, ends_at, walk_front, Parted, parted, begins, stands}
use Rattle.walk.proofs.Steps.{Goes, Here, here, past, ends as ends_here, goes as goes_here, ended_no_command, found_past, found_ends, found_goes, found_command, goes_body, walk_goes}

pub bare_place : (at : ℕ) (cs : List Cmd) → bare (place at cs) ≡ cs
bare_place at [] = refl
bare_place at (c ∷ cs) = ap (λ (l : List Cmd). c ∷ l) (bare_place (at + size c) cs)

-- each command takes at least its first byte
few : (ps : List Placed) → length ps ≤ length (encode (bare ps))
few [] = omega arith
few (p ∷ ps) = let m = few ps in simp length-append (omega arith)

module _ (L : Rule) where
  pub encoded_walks_back : EncodedWalksBack L
  encoded_walks_back cs h =
      ap (walk_of L) (sym (append-nil (encode cs))) ∙ walk_front L 0 cs [] h ∙ simp (walk_nil, append-nil, zero-add)

  pub same_bytes_same_commands : SameBytesSameCommands L
  same_bytes_same_commands cs ds hc hd e =
      let same : place 0 cs ≡ place 0 ds = ap (λ (w : Walk). w.cmds) (sym (encoded_walks_back cs hc) ∙ ap (walk_of L) e ∙ encoded_walks_back ds hd) in
      sym (bare_place 0 cs) ∙ ap bare same ∙ bare_place 0 ds

module _ (L : Rule) (s : List ℕ) where
  -- where the walk stands between the commands handed out and those to come
  module _ (handed coming : List Placed) (e : (walk_of L s).cmds ≡ handed ++ coming) where
    split : Parted L 0 s handed coming
    split = parted L 0 s handed coming e

    stands_at : offset_of coming (walk_of L s).ending ≡ length (encode (bare handed))
    stands_at =
        ap (λ (w : Walk). offset_of w.cmds w.ending) (sym split.goes_on)
        ∙ begins L (view L (0 + length (encode (bare handed))) split.rest) ∙ zero-add (length (encode (bare handed)))

    left : drop (offset_of coming (walk_of L s).ending) s ≡ split.rest
    left =
        ap (drop (offset_of coming (walk_of L s).ending)) (sym split.bytes)
        ∙ drop_at (encode (bare handed)) split.rest (offset_of coming (walk_of L s).ending) (sym stands_at)

    resumed : walk_from L (offset_of coming (walk_of L s).ending) (drop (offset_of coming (walk_of L s).ending) s) ≡ record { cmds = coming; ending = (walk_of L s).ending }
    resumed =
        ap (walk_from L (offset_of coming (walk_of L s).ending)) left
        ∙ ap (λ (k : ℕ). walk_from L k split.rest) (stands_at ∙ sym (zero-add (length (encode (bare handed)))))
        ∙ split.goes_on

    owns : Owned L s handed coming
    owns = record {
      commands = split.commands;
      within = omega (arith, stands_at, simp length-append at (ap length split.bytes));
      bytes = ap (λ (k : ℕ). take k s) stands_at ∙ ap (take (length (encode (bare handed)))) (sym split.bytes) ∙ take-append_seam (encode (bare handed)) split.rest;
    }

  pub every_byte_owned : EveryByteOwned L s
  every_byte_owned handed coming e = owns handed coming e

  pub resumes : Resumes L s
  resumes handed coming e = resumed handed coming e

  all_handed : (walk_of L s).cmds ≡ (walk_of L s).cmds ++ []
  all_handed = sym (append-nil (walk_of L s).cmds)

  divided : Division L s
  divided =
      let d = split (walk_of L s).cmds [] all_handed in
      let len : 0 + length (encode (bare (walk_of L s).cmds)) ≡ length (encode (bare (walk_of L s).cmds)) = zero-add (length (encode (bare (walk_of L s).cmds))) in
      record {
        cmds = bare (walk_of L s).cmds;
        rest = d.rest;
        ending = (walk_of L s).ending;
        commands = d.commands;
        bytes = d.bytes;
        ends = subst (λ (k : ℕ). Ends L k d.rest (walk_of L s).ending) len
            (subst (λ (w : Walk). Ends L (0 + length (encode (bare (walk_of L s).cmds))) d.rest w.ending) d.goes_on
            (stands L (view L (0 + length (encode (bare (walk_of L s).cmds))) d.rest) (ap (λ (w : Walk). w.cmds) d.goes_on)));
      }

  reported : (d : Division L s) → walk_of L s ≡ record { cmds = place 0 d.cmds; ending = d.ending }
  reported d =
      ap (walk_of L) (sym d.bytes) ∙ walk_front L 0 d.cmds d.rest d.commands
      ∙ ap (λ (k : ℕ). after_all (place 0 d.cmds) (walk_from L k d.rest)) (zero-add (length (encode d.cmds)))
      ∙ ap (after_all (place 0 d.cmds)) (walk_ends L d.ends)
      ∙ ap (λ (ps : List Placed). record { cmds = ps; ending = d.ending }) (append-nil (place 0 d.cmds))

  pub one_division : OneDivision L s
  one_division = record {
    divided = divided;
    reported = reported;
    unique = λ d e. let same = sym (reported d) ∙ reported e in (
      sym (bare_place 0 d.cmds) ∙ ap (λ (w : Walk). bare w.cmds) same ∙ bare_place 0 e.cmds,
      ap (λ (w : Walk). w.ending) same,
    );
  }

  pub stops_only_there : StopsOnlyThere L s
  stops_only_there =
      let w = resumed (walk_of L s).cmds [] all_handed in
      subst (λ (w : Walk). Ends L (place_of (walk_of L s).ending) (drop (place_of (walk_of L s).ending) s) w.ending) w
      (stands L (view L (place_of (walk_of L s).ending) (drop (place_of (walk_of L s).ending) s)) (ap (λ (w : Walk). w.cmds) w))

  pub fronts_are_beginnings : FrontsAreBeginnings L s
  fronts_are_beginnings cs rest h e =
      ((walk_from L (0 + length (encode cs)) rest).cmds, ap (λ (t : List ℕ). (walk_of L t).cmds) (sym e) ∙ ap (λ (w : Walk). w.cmds) (walk_front L 0 cs rest h))

  pub count_fits : CountFits L s
  count_fits =
      omega (arith, few (walk_of L s).cmds, (owns (walk_of L s).cmds [] all_handed).within, stands_at (walk_of L s).cmds [] all_handed)

  -- ---- step and walk

  -- along the view of the bytes from an offset on
  hand_out : (at : ℕ) {t : List ℕ} → View L at t → drop at s ≡ t → at ≤ length s → Steps L s at (walk_from L at t).cmds (walk_from L at t).ending
  hand_out at {t} (ends {e = e} x) d h =
      subst (λ (w : Walk). Steps L s at w.cmds w.ending) (sym (walk_ends L x))
      (finds e (found_ends L s h (subst (λ (t : List ℕ). Ends L at t e) (sym d) x)) (ends_at L x))
  hand_out at (goes c p r k v) d h =
      let there : drop (at + (1 + length p)) s ≡ r =
      sym (drop-drop (1 + length p) at s) ∙ ap (drop (1 + length p)) d ∙ drop_at (c ∷ p) r (1 + length p) (sym (one-add (length p))) in
      let g : Goes L s at (record { cid = c; body = p }) (at + (1 + length p)) = record {
        bytes = d ∙ ap (λ (t : List ℕ). c ∷ (p ++ t)) (sym there);
        known = k;
        behind = refl;
        fits = omega (arith, simp (length-drop, length-append) at (ap length d));
      } in
      subst (λ (w : Walk). Steps L s at w.cmds w.ending) (sym (walk_command L at c p r k))
      (hands (record { cid = c; body = p }) (found_goes L s g) (hand_out (at + (1 + length p)) v there g.fits))

  same_ending : (d e : Ending) → place_of d ≡ place_of e → ◌≡◌ {A = Answer (Found Cmd)} (given (first_of [] d)) (given (first_of [] e)) → d ≡ e
  same_ending (end o) (end o') p q = ap end p
  same_ending (end o) (stop n o') p q = absurd cc
  same_ending (stop n o) (end o') p q = absurd cc
  same_ending (stop n o) (stop n' o') p q = cc

  no_other : (at : ℕ) {ps : List Placed} {e : Ending} → Steps L s at ps e → walk_from L at (drop at s) ≡ record { cmds = ps; ending = e }
  no_other at (finds e f p) = by (here L s at)
    where
      by : Here L s at → walk_from L at (drop at s) ≡ finish e
      by (past h) = let q = found_past L s h in absurd cc
      by (ends_here d h x) = walk_ends L x ∙ ap finish (same_ending d e (ends_at L x ∙ sym p) (sym (found_ends L s h x) ∙ f))
      by (goes_here c m g) = absurd (ended_no_command e (sym f ∙ found_goes L s g))
  no_other at (hands c {e = e} f st) = walk_goes L s (found_command L s f) ∙ ap (after (record { at = at; cmd = c })) (no_other _ st)

  pub step_and_walk_agree : StepAndWalkAgree L s
  step_and_walk_agree at h = record {
    hand_out = hand_out at (view L at (drop at s)) refl h;
    no_other = λ ps e st. no_other at st;
  }

  pub stops_stay : StopsStay L s
  stops_stay at n o f = subst (λ (k : ℕ). step_at L s k ≡ given (stopped n o)) (stays (here L s at)) f
    where
      stays_at : (e : Ending) → place_of e ≡ at → in_numbers (given (first_of [] e)) ≡ given (stopped n o) → at ≡ o
      stays_at (end k) p q = absurd cc
      stays_at (stop m k) p q = cc

      stays : Here L s at → at ≡ o
      stays (past h) = let q = ap in_numbers (found_past L s h) in absurd cc
      stays (ends_here e h x) = stays_at e (ends_at L x) (sym (ap in_numbers (found_ends L s h x)) ∙ f)
      stays (goes_here c m g) = let q = ap in_numbers (found_goes L s g) in absurd cc

pub payload_shown : (L : Rule) (s : Bor (List ℕ)) → PayloadShown L s
payload_shown L s at next c f =
    ap (λ (a : Answer (Found Cmd)). payload_part s at (in_numbers a)) f
    ∙ ap (λ (b : List ℕ). record { place = (s.ref_ptr.0, at + 1 + s.ref_ptr.1); bytes = b }) (goes_body L s.now (found_command L s.now f))

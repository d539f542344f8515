-- The walk, by four equations and one view: nothing else opens its recursion. Assumes nothing.
use Prim.Native.Nat.{ℕ, zero, suc, ◌+◌, ◌≤◌, ◌<◌}
use mathlib.Core.List.{List, [], ◌∷◌, ◌++◌, append_assoc}
use mathlib.Core.Option.{Option, none, some}
use mathlib.Core.Path.{◌≡◌, refl, sym, ap, ◌∙◌, subst}
use native.Mathlib.Decide.{dec_le}
use native.Mathlib.Nat.{add-zero, le_refl, not-suc-le-zero}
use native.Mathlib.Omega.{arith}
use lib.ListN.{length, take, drop, length-append, length-drop, take-append-drop}
use lib.Seq.{take-append_seam, length-take-le}
use borrow.Author.Tests.{le-leb, lt-leb}
use Rattle.walk.specs.Ownership.{offset_of, Ends, nothing_left, no_cid, cut_short}
use Rattle.walk.specs.Walk.{Rule, Cmd, Placed, placed, Ending, end, stop, place_of, Walk, finish, after, first, go, walk_from, WellFormed, encode, size, place, bare}

-- the commands ps, and then the walk w
abbrev pub after_all : List Placed → Walk → Walk
after_all ps w = record { cmds = ps ++ w.cmds; ending = w.ending }

module _ (L : Rule) where
  -- ---- the four equations

  pub walk_nil : (at : ℕ) → walk_from L at [] ≡ finish (end at)
  unfolding go
  walk_nil at = refl

  by_rule : (at c : ℕ) (s : List ℕ) (l : Option ℕ) → L c ≡ l → walk_from L at (c ∷ s) ≡ first l at c s (λ n. go L (at + 1) n s)
  unfolding go
  by_rule at c s l h = ap (λ (l : Option ℕ). first l at c s (λ n. go L (at + 1) n s)) h

  pub walk_unknown : (at c : ℕ) (s : List ℕ) → L c ≡ none → walk_from L at (c ∷ s) ≡ finish (stop 1 at)
  walk_unknown at c s h = by_rule at c s none h

  pub walk_short : (at c n : ℕ) (s : List ℕ) → L c ≡ some n → length s < n → walk_from L at (c ∷ s) ≡ finish (stop 2 at)
  walk_short at c n s h lt = by_rule at c s (some n) h ∙ simp (lt-leb n (length s) lt)

  skip_is : (at : ℕ) (p r : List ℕ) → go L at (length p) (p ++ r) ≡ walk_from L (at + length p) r
  unfolding go
  skip_is at [] r = rw add-zero
  skip_is at (c ∷ p) r = skip_is (at + 1) p r ∙ ap (λ (k : ℕ). walk_from L k r) (omega arith)

  pub walk_command : (at c : ℕ) (p r : List ℕ) → L c ≡ some (length p)
      → walk_from L at (c ∷ (p ++ r)) ≡ after (placed at c p) (walk_from L (at + (1 + length p)) r)
  walk_command at c p r h =
      let fits : length p ≤ length (p ++ r) = simp length-append (omega arith) in
      let behind : at + 1 + length p ≡ at + (1 + length p) = omega arith in
      by_rule at c (p ++ r) (some (length p)) h
      ∙ simp (le-leb (length p) (length (p ++ r)) fits, take-append_seam p r, skip_is (at + 1) p r, behind)

  -- ---- the view: bytes from an offset on are where a walk ends, or a command and bytes behind it

  pub data View : (at : ℕ) → List ℕ → Type 0 where
    ends : {at : ℕ} {s : List ℕ} {e : Ending} → Ends L at s e → View at s
    goes : {at : ℕ} (c : ℕ) (p r : List ℕ) → L c ≡ some (length p) → View (at + (1 + length p)) r → View at (c ∷ (p ++ r))

  view_in : (f at : ℕ) (s : List ℕ) → length s ≤ f → View at s
  view_in zero at [] h = ends nothing_left
  view_in (suc f) at [] h = ends nothing_left
  view_in zero at (c ∷ s) h = absurd (not-suc-le-zero h)
  view_in (suc f) at (c ∷ s) h = by (λ n a. view_in f a (drop n s) (simp length-drop (omega arith))) (L c) refl
    where
      fits : ((n a : ℕ) → View a (drop n s)) → (n : ℕ) → L c ≡ some n → Dec (n ≤ length s) → View at (c ∷ s)
      fits behind n e (yes l) =
          subst (λ (t : List ℕ). View at (c ∷ t)) (take-append-drop n s)
          (goes c (take n s) (drop n s) (e ∙ ap some (sym (length-take-le n s l))) (behind n (at + (1 + length (take n s)))))
      fits behind n e (no l) = ends (cut_short c n s e (omega arith))

      by : ((n a : ℕ) → View a (drop n s)) → (l : Option ℕ) → L c ≡ l → View at (c ∷ s)
      by behind none e = ends (no_cid c s e)
      by behind (some n) e = fits behind n e (dec_le n (length s))

  pub view : (at : ℕ) (s : List ℕ) → View at s
  view at s = view_in (length s) at s (le_refl (length s))

  -- ---- at an ending, and over commands

  pub walk_ends : {at : ℕ} {s : List ℕ} {e : Ending} → Ends L at s e → walk_from L at s ≡ finish e
  walk_ends {at} nothing_left = walk_nil at
  walk_ends {at} (no_cid c s h) = walk_unknown at c s h
  walk_ends {at} (cut_short c n s h lt) = walk_short at c n s h lt

  pub ends_at : {at : ℕ} {s : List ℕ} {e : Ending} → Ends L at s e → place_of e ≡ at
  ends_at nothing_left = refl
  ends_at (no_cid c s h) = refl
  ends_at (cut_short c n s h lt) = refl

  -- commands in front of a stream come out first, and the walk goes on behind them
  pub walk_front : (at : ℕ) (cs : List Cmd) (r : List ℕ) → WellFormed L cs
      → walk_from L at (encode cs ++ r) ≡ after_all (place at cs) (walk_from L (at + length (encode cs)) r)
  walk_front at [] r h = rw add-zero
  walk_front at (c ∷ cs) r h =
      rw (append_assoc c.body (encode cs) r)
      (walk_command at c.cid c.body (encode cs ++ r) h.0
      ∙ ap (after (record { at = at; cmd = c })) (walk_front (at + size c) cs r h.1)
      ∙ ap (λ (k : ℕ). after_all (place at (c ∷ cs)) (walk_from L k r)) (simp length-append (omega arith)))

  -- ---- the walk parted into the commands handed out and those to come

  pub record Parted (at : ℕ) (s : List ℕ) (handed coming : List Placed) : Type 0 where
    pub rest : List ℕ
    pub commands : WellFormed L (bare handed)
    pub bytes : encode (bare handed) ++ rest ≡ s
    pub places : handed ≡ place at (bare handed)
    pub goes_on : walk_from L (at + length (encode (bare handed))) rest ≡ record { cmds = coming; ending = (walk_from L at s).ending }

  part : (at : ℕ) {s : List ℕ} → View at s → (handed coming : List Placed) → (walk_from L at s).cmds ≡ handed ++ coming → Parted at s handed coming
  part at {s} v [] coming e = record {
    rest = s;
    commands = tt;
    bytes = refl;
    places = refl;
    goes_on = rw (add-zero at) (ap (λ (ps : List Placed). record { cmds = ps; ending = (walk_from L at s).ending }) e);
  }
  part at (ends {e = x} h) (p ∷ ps) coming e =
      let none_is : [] ≡ p ∷ (ps ++ coming) = sym (ap (λ (w : Walk). w.cmds) (walk_ends h)) ∙ e in
      absurd cc
  part at (goes c b r h v) (p ∷ ps) coming e =
      let w = walk_command at c b r h in
      let same : placed at c b ∷ (walk_from L (at + (1 + length b)) r).cmds ≡ p ∷ (ps ++ coming) = sym (ap (λ (w : Walk). w.cmds) w) ∙ e in
      let p_is : placed at c b ≡ p = cc in
      let o = part (at + (1 + length b)) v ps coming (cc) in
      subst (λ (q : Placed). Parted at (c ∷ (b ++ r)) (q ∷ ps) coming) p_is (record {
        rest = o.rest;
        commands = (h, o.commands);
        bytes = ap (λ (l : List ℕ). c ∷ l) (append_assoc b (encode (bare ps)) o.rest ∙ ap (λ (l : List ℕ). b ++ l) o.bytes);
        places = ap (λ (l : List Placed). placed at c b ∷ l) o.places;
        goes_on = ap (λ (k : ℕ). walk_from L k o.rest) (simp length-append (omega arith)) ∙ o.goes_on
            ∙ ap (λ (x : Walk). record { cmds = coming; ending = x.ending }) (sym w);
      })

  pub parted : (at : ℕ) (s : List ℕ) (handed coming : List Placed) → (walk_from L at s).cmds ≡ handed ++ coming → Parted at s handed coming
  parted at s handed coming e = part at (view at s) handed coming e

  -- a walk stands at the offset where it begins
  pub begins : {at : ℕ} {s : List ℕ} → View at s → offset_of (walk_from L at s).cmds (walk_from L at s).ending ≡ at
  begins (ends h) = ap (λ (w : Walk). offset_of w.cmds w.ending) (walk_ends h) ∙ ends_at h
  begins {at} (goes c b r h v) = ap (λ (w : Walk). offset_of w.cmds w.ending) (walk_command at c b r h)

  -- a walk that hands out nothing is where it ends
  pub stands : {at : ℕ} {s : List ℕ} → View at s → (walk_from L at s).cmds ≡ [] → Ends L at s (walk_from L at s).ending
  stands {at} {s} (ends h) e = subst (λ (w : Walk). Ends L at s w.ending) (sym (walk_ends h)) h
  stands {at} (goes c b r h v) e =
      let none_is : placed at c b ∷ (walk_from L (at + (1 + length b)) r).cmds ≡ [] = sym (ap (λ (w : Walk). w.cmds) (walk_command at c b r h)) ∙ e in
      absurd cc

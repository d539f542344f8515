-- Records written one behind another from the front of lent memory. Assumes nothing.
use Prim.Native.Nat.{ℕ, suc, ◌+◌, ◌-◌, ◌<◌, ◌≤◌}
use mathlib.Core.Path.{◌≡◌, refl, sym, ap, ◌∙◌, subst}
use mathlib.Core.List.{List, [], ◌∷◌, ◌++◌, map, map-append, append-nil, append_assoc}
use native.Mathlib.Numerals.{add-one}
use native.Mathlib.Omega.{arith}
use lib.ListN.{length, get_or, take, drop, length-append, take-append-drop}
use lib.Seq.{take-suc, take-length, take_all}
use Rattle.bits.specs.Memory.{over}
use Rattle.bits.proofs.Memory.{over_take, over_drop, over_length}
use Rattle.walk.specs.Walk.{Cmd, encode}
use Rattle.build.specs.Records.{Rec, cmd_of, command_bytes}
use Rattle.build.specs.Laying.{LaidAt}

-- the bytes of the first i records
abbrev pub front : List Rec → ℕ → List ℕ
front rs i = encode (map cmd_of (take i rs))

abbrev pub all : List Rec → List ℕ
all rs = encode (map cmd_of rs)

encode_append : (cs ds : List Cmd) → encode (cs ++ ds) ≡ encode cs ++ encode ds
encode_append [] ds = refl
encode_append (c ∷ cs) ds =
    ap (λ (l : List ℕ). c.cid ∷ l)
    (ap (λ (l : List ℕ). c.body ++ l) (encode_append cs ds) ∙ sym (append_assoc c.body (encode cs) (encode ds)))

module _ (rs : List Rec) where
  pub front_more : (i : ℕ) (d : Rec) → i < length rs → front rs (suc i) ≡ front rs i ++ command_bytes (get_or rs i d)
  front_more i d h =
      ap (λ (l : List Rec). encode (map cmd_of l)) (take-suc rs i d h)
      ∙ ap encode (map-append cmd_of (take i rs) (get_or rs i d ∷ []))
      ∙ encode_append (map cmd_of (take i rs)) (cmd_of (get_or rs i d) ∷ [])
      ∙ ap (λ (l : List ℕ). front rs i ++ ((get_or rs i d).cid ∷ l)) (append-nil (take (get_or rs i d).len (get_or rs i d).bytes))

  front_within : (i : ℕ) → length (front rs i) ≤ length (all rs)
  front_within i =
      let e : all rs ≡ front rs i ++ encode (map cmd_of (drop i rs)) =
      ap (λ (l : List Rec). encode (map cmd_of l)) (sym (take-append-drop i rs))
      ∙ ap encode (map-append cmd_of (take i rs) (drop i rs))
      ∙ encode_append (map cmd_of (take i rs)) (map cmd_of (drop i rs)) in
      omega (arith, ap length e, length-append (front rs i) (encode (map cmd_of (drop i rs))))

  -- i records stand at the front, and the next goes to offset `at`. From there to the end of all records memory may hold anything
  pub record Laid (out : List ℕ) (i at : ℕ) (o : List ℕ) : Type 0 where
    pub behind : at ≡ length (front rs i)
    pub before : take at o ≡ front rs i
    pub rest : drop (length (all rs)) o ≡ drop (length (all rs)) out
    pub long : length o ≡ length out

  module _ (out : List ℕ) (fits : length (all rs) ≤ length out) where
    pub laid_none : Laid out 0 0 out
    laid_none = record { behind = refl; before = refl; rest = refl; long = refl }

    pub laid_length : {i at : ℕ} {o : List ℕ} → Laid out i at o → length o ≡ length out
    laid_length l = l.long

    module _ {i at : ℕ} {o : List ℕ} (d : Rec) (h : i < length rs) (l : Laid out i at o) where
      ends_next : at + length (command_bytes (get_or rs i d)) ≡ length (front rs (suc i))
      ends_next =
          omega (arith, l.behind, ap length (front_more i d h), length-append (front rs i) (command_bytes (get_or rs i d)))

      -- the next record fits
      pub laid_room : at + length (command_bytes (get_or rs i d)) ≤ length (all rs)
      laid_room = let w = front_within (suc i) in let e = ends_next in omega arith

      -- and is laid behind the others, with a surplus that ends where all records end, or before
      pub laid_next : (next : ℕ) (o' : List ℕ) → LaidAt o at (length (all rs)) (get_or rs i d) next o' → Laid out (i + 1) next o'
      laid_next next o' n =
          let r : Rec = get_or rs i d in
          let x : List ℕ = n.surplus in
          let w : List ℕ = command_bytes (get_or rs i d) ++ n.surplus in
          let k : length o ≡ length out = l.long in
          let u : at + length (command_bytes (get_or rs i d) ++ n.surplus) ≤ length (all rs) = n.within in
          let room : at + length (command_bytes (get_or rs i d) ++ n.surplus) ≤ length o = omega arith in
          let far : length (all rs) ≡ at + length w + (length (all rs) - (at + length w)) = omega arith in
          let a : next ≡ length (front rs (suc i)) = n.behind ∙ ends_next in
          let b : take next o' ≡ front rs (suc i) =
          ap (λ (k : ℕ). take k o') n.behind
          ∙ ap (take (at + length (command_bytes r))) n.memory
          ∙ over_take o at (command_bytes r) x (omega arith)
          ∙ ap (λ (l : List ℕ). l ++ command_bytes r) l.before
          ∙ sym (front_more i d h) in
          let c : drop (length (all rs)) o' ≡ drop (length (all rs)) out =
          ap (drop (length (all rs))) n.memory
          ∙ ap (λ (k : ℕ). drop k (over o at w)) far
          ∙ over_drop o at w room (length (all rs) - (at + length w))
          ∙ ap (λ (k : ℕ). drop k o) (sym far)
          ∙ l.rest in
          let e : length o' ≡ length out = ap length n.memory ∙ over_length o at w room ∙ k in
          subst (λ (x : ℕ). Laid out x next o') (sym (add-one i)) (record { behind = a; before = b; rest = c; long = e })

    -- the record that comes next, in memory that all of them fill
    module _ {i at : ℕ} {o : List ℕ} (r : Rec) (h : i < length rs) (here : get_or rs i r ≡ r) (full : length out ≡ length (all rs)) (l : Laid out i at o) where
      pub room_here : at + length (command_bytes r) ≤ length o
      room_here = omega (arith, laid_room r h l, ap (λ (x : Rec). length (command_bytes x)) here, l.long)

      pub laid_here : (next : ℕ) (o' : List ℕ) → LaidAt o at (length o) r next o' → Laid out (i + 1) next o'
      laid_here next o' n =
          laid_next r h l next o'
          (subst (λ (x : Rec). LaidAt o at (length (all rs)) x next o') (sym here) (subst (λ (e : ℕ). LaidAt o at e r next o') (l.long ∙ full) n))

    -- all of them fill memory that has room for no more
    pub laid_all : {i at : ℕ} {o : List ℕ} → i ≡ length rs → length out ≡ length (all rs) → Laid out i at o → o ≡ all rs
    laid_all {i} {at} {o} e n l =
        let f : front rs i ≡ all rs = ap (λ (l : List Rec). encode (map cmd_of l)) (ap (λ (k : ℕ). take k rs) e ∙ take-length rs) in
        let whole : length o ≤ at = omega (arith, l.behind, ap length f, l.long) in
        sym (take_all at o whole) ∙ l.before ∙ f

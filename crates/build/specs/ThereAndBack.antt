-- What is claimed of the build (RULES: D3d, D3e, B2 to B4), for any rule and any lists. proofs/ThereAndBack.antt proves it.
use Rattle.std.specs.Prelude.{ℕ, ◌≤◌, ◌≡◌, ◌↔◌, List, [], ◌∷◌, map, length, take, drop}
use Rattle.std.proofs.Math.Option.{some}
use Rattle.walk.specs.Walk.{Rule, end, walk_of, encode, place, bare}
use Rattle.build.specs.Records.{Rec, Item, whole, part, recs_in, cmds_of}
use Rattle.build.specs.Build.{total, total_of, build_of}
use Rattle.build.specs.Equal.{EqualLists, as_rec}

-- a list of well-formed commands: each a whole record whose length is what the rule gives its CID, with payload bytes to that length
abbrev pub Commands : Rule → List Item → Type 0
Commands L [] = Unit
Commands L (whole r ∷ xs) = (L r.cid ≡ some r.len) × (r.len ≤ length r.bytes) × Commands L xs
Commands L (part ∷ xs) = ⊥

-- no record says more than its bytes hold and is taken: so of records with five bytes, under a rule that gives at most five
abbrev pub Full : Rule → List Item → Type 0
Full L [] = Unit
Full L (whole r ∷ xs) = (L r.cid ≡ some r.len → r.len ≤ length r.bytes) × Full L xs
Full L (part ∷ xs) = Full L xs

module _ (L : Rule) (xs : List Item) where
  -- D3d: of well-formed commands that fit, the walk of what the build wrote is an equal list, one behind the other, and the end; and memory
  -- behind it is as it was (B2)
  pub record WalksBack (out : List ℕ) : Type 0 where
    pub size : (build_of L xs out).0 ≡ total (length (encode (cmds_of xs)))
    pub walk : walk_of L (take (length (encode (cmds_of xs))) (build_of L xs out).1)
        ≡ record { cmds = place 0 (cmds_of xs); ending = end (length (encode (cmds_of xs))) }
    pub list : EqualLists (map as_rec (bare (walk_of L (take (length (encode (cmds_of xs))) (build_of L xs out).1)).cmds)) (recs_in xs)
    pub later : drop (length (encode (cmds_of xs))) (build_of L xs out).1 ≡ drop (length (encode (cmds_of xs))) out

  abbrev pub BuildThenWalk : Type 0
  BuildThenWalk = (out : List ℕ) → length xs ≤ 4096 → Commands L xs → length (encode (cmds_of xs)) ≤ length out → WalksBack out

  -- the build accepts exactly the lists of well-formed commands that fit
  abbrev pub Accepts : Type 0
  Accepts = (out : List ℕ) → Full L xs
      → ((n : ℕ) × ((build_of L xs out).0 ≡ total n)) ↔ ((length xs ≤ 4096) × Commands L xs × (length (encode (cmds_of xs)) ≤ length out))

  -- `mac_commands_len` is the number of bytes that the build writes
  abbrev pub LengthIsWritten : Type 0
  LengthIsWritten = (n : ℕ) → Full L xs → total_of L xs ≡ total n → n ≡ length (encode (cmds_of xs))

module _ (L : Rule) where
  -- D3e: lists of well-formed commands that have the same bytes are equal
  abbrev pub EqualBytesEqualLists : Type 0
  EqualBytesEqualLists =
      (xs ys : List Item) → Commands L xs → Commands L ys → encode (cmds_of xs) ≡ encode (cmds_of ys) → EqualLists (recs_in xs) (recs_in ys)

  -- of equal lists the build has the same answer and the same bytes, so it does not look behind a payload (B4)
  pub record BuiltAlike (rs qs : List Rec) : Type 0 where
    pub len : total_of L (map whole rs) ≡ total_of L (map whole qs)
    pub build : (out : List ℕ) → build_of L (map whole rs) out ≡ build_of L (map whole qs) out

  abbrev pub EqualListsBuiltAlike : Type 0
  EqualListsBuiltAlike = (rs qs : List Rec) → EqualLists rs qs → BuiltAlike rs qs

-- When two lists of commands are equal (RULES: D3f, B4, B5): each CID, each length and each payload is. What stands behind the payload in a
-- record's five bytes, its frame and its offset don't count.
use Rattle.std.specs.Prelude.{List, [], ◌∷◌, ◌≡◌, length, take}
use Rattle.walk.specs.Walk.{Cmd}
use Rattle.build.specs.Records.{Rec}

pub record Equal (r q : Rec) : Type 0 where
  pub cid : r.cid ≡ q.cid
  pub len : r.len ≡ q.len
  pub payload : take r.len r.bytes ≡ take q.len q.bytes

abbrev pub EqualLists : List Rec → List Rec → Type 0
EqualLists [] [] = Unit
EqualLists (r ∷ rs) (q ∷ qs) = Equal r q × EqualLists rs qs
EqualLists [] (q ∷ qs) = ⊥
EqualLists (r ∷ rs) [] = ⊥

-- a command, to be compared with records
abbrev pub as_rec : Cmd → Rec
as_rec c = record { cid = c.cid; len = length c.body; bytes = c.body }

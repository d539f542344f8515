-- The walk over a stream of MAC commands (RULES: W1 to W6, D3), for any rule L: the number of payload bytes that follow a CID,
-- or none for a byte that is no CID.
use Rattle.std.specs.Prelude.{ℕ, zero, suc, ◌+◌, cond, List, [], ◌∷◌, ◌++◌, ◌≡◌, leb, length, take}
use Rattle.std.proofs.Math.Option.{Option, none, some}

abbrev pub Rule : Type 0
Rule = ℕ → Option ℕ

-- a command: its CID and its payload
pub record Cmd : Type 0 where
  pub cid : ℕ
  pub body : List ℕ

-- a command at its offset in the stream
pub record Placed : Type 0 where
  pub at : ℕ
  pub cmd : Cmd

abbrev pub placed : ℕ → ℕ → List ℕ → Placed
placed at c p = record { at = at; cmd = record { cid = c; body = p } }

-- how a walk finishes: at the stream's end, or with refusal 1 (the byte is no CID) or 2 (the payload is cut short); and at which offset
pub data Ending : Type 0 where
  end : ℕ → Ending
  stop : (number at : ℕ) → Ending

abbrev pub place_of : Ending → ℕ
place_of (end at) = at
place_of (stop n at) = at

-- the commands handed out, and the ending
pub record Walk : Type 0 where
  pub cmds : List Placed
  pub ending : Ending

-- no command, and an ending
abbrev pub finish : Ending → Walk
finish e = record { cmds = []; ending = e }

-- a command, and then a walk
abbrev pub after : Placed → Walk → Walk
after p w = record { cmds = p ∷ w.cmds; ending = w.ending }

-- what the byte c at offset `at` leads to, if L says so much of it and s are the bytes behind it: of no CID, stop 1; of a CID whose
-- payload is all there, that command and then the rest of the walk; of a CID whose payload is cut short, stop 2
abbrev pub first : Option ℕ → ℕ → ℕ → List ℕ → (ℕ → Walk) → Walk
first none at c s rest = finish (stop 1 at)
first (some n) at c s rest = cond (leb n (length s)) (after (placed at c (take n s)) (rest n)) (finish (stop 2 at))

-- the walk of the bytes s, the first of which stands at offset `at`, with `skip` bytes of a payload still to pass
unfoldable pub go : Rule → (at skip : ℕ) → List ℕ → Walk
go L at skip [] = finish (end at)
go L at zero (c ∷ s) = first (L c) at c s (λ n. go L (at + 1) n s)
go L at (suc skip) (c ∷ s) = go L (at + 1) skip s

-- the walk of the bytes s, the first of which stands at offset `at`
abbrev pub walk_from : Rule → ℕ → List ℕ → Walk
walk_from L at s = go L at 0 s

-- the walk of a stream
abbrev pub walk_of : Rule → List ℕ → Walk
walk_of L s = walk_from L 0 s

-- ---- lists of commands

-- each is well formed: the rule gives its CID the length of its payload
abbrev pub WellFormed : Rule → List Cmd → Type 0
WellFormed L [] = Unit
WellFormed L (c ∷ cs) = (L c.cid ≡ some (length c.body)) × WellFormed L cs

-- their bytes: CID and payload of each, joined in order
abbrev pub encode : List Cmd → List ℕ
encode [] = []
encode (c ∷ cs) = c.cid ∷ (c.body ++ encode cs)

-- the bytes of one: its CID and its payload
abbrev pub size : Cmd → ℕ
size c = 1 + length c.body

-- at their offsets, one after another from `at` on
abbrev pub place : ℕ → List Cmd → List Placed
place at [] = []
place at (c ∷ cs) = record { at = at; cmd = c } ∷ place (at + size c) cs

-- without their offsets
abbrev pub bare : List Placed → List Cmd
bare [] = []
bare (p ∷ ps) = p.cmd ∷ bare ps

-- Who owns each byte (RULES: D3): what is claimed of the walk of every stream, by every rule, so in each direction and by each table.
-- proofs/Ownership.antt proves each claim.
use Rattle.std.specs.Prelude.{ℕ, ◌+◌, ◌<◌, ◌≤◌, List, [], ◌∷◌, ◌++◌, ◌≡◌, length, take, drop}
use Rattle.std.proofs.Math.Option.{none, some}
use Rattle.std.specs.Borrow.{Bor}
use Rattle.table.specs.Answers.{given}
use Rattle.walk.specs.Part.{payload_part}
use Rattle.walk.specs.Step.{command, stopped, first_of, found_at, step_at}
use Rattle.walk.specs.Walk.{Rule, Cmd, Placed, Ending, end, stop, place_of, walk_from, walk_of, WellFormed, encode, place, bare}

-- the offset at which a walk stands that has these commands and this ending before it
abbrev pub offset_of : List Placed → Ending → ℕ
offset_of [] e = place_of e
offset_of (p ∷ ps) e = p.at

-- the three endings, at the bytes that are left from offset `at` on: none are left; the first is no CID; the first is a CID whose
-- payload is cut short
pub data Ends (L : Rule) : (at : ℕ) → List ℕ → Ending → Type 0 where
  nothing_left : {at : ℕ} → Ends L at [] (end at)
  no_cid : {at : ℕ} (c : ℕ) (s : List ℕ) → L c ≡ none → Ends L at (c ∷ s) (stop 1 at)
  cut_short : {at : ℕ} (c n : ℕ) (s : List ℕ) → L c ≡ some n → length s < n → Ends L at (c ∷ s) (stop 2 at)

module _ (L : Rule) (s : List ℕ) where
  -- D3a: the commands handed out are the bytes in front of the walk's offset, wherever the walk's list is parted into those handed out and
  -- those to come
  pub record Owned (handed coming : List Placed) : Type 0 where
    pub commands : WellFormed L (bare handed)
    pub within : offset_of coming (walk_of L s).ending ≤ length s
    pub bytes : take (offset_of coming (walk_of L s).ending) s ≡ encode (bare handed)

  abbrev pub EveryByteOwned : Type 0
  EveryByteOwned = (handed coming : List Placed) → (walk_of L s).cmds ≡ handed ++ coming → Owned handed coming

  -- D3b: one of the three endings is so, where the walk says
  abbrev pub StopsOnlyThere : Type 0
  StopsOnlyThere = Ends L (place_of (walk_of L s).ending) (drop (place_of (walk_of L s).ending) s) (walk_of L s).ending

  -- and its converse. The stream is divided into whole commands and bytes at which one of the three endings is so
  pub record Division : Type 0 where
    pub cmds : List Cmd
    pub rest : List ℕ
    pub ending : Ending
    pub commands : WellFormed L cmds
    pub bytes : encode cmds ++ rest ≡ s
    pub ends : Ends L (length (encode cmds)) rest ending

  -- there is a division, and of each one the walk hands out the commands and reports the ending, so there is but one
  pub record OneDivision : Type 0 where
    pub divided : Division
    pub reported : (d : Division) → walk_of L s ≡ record { cmds = place 0 d.cmds; ending = d.ending }
    pub unique : (d e : Division) → (d.cmds ≡ e.cmds) × (d.ending ≡ e.ending)

  -- D3c: commands that a front of the stream can be cut into are the first of the walk's list
  abbrev pub FrontsAreBeginnings : Type 0
  FrontsAreBeginnings = (cs : List Cmd) (rest : List ℕ) → WellFormed L cs → encode cs ++ rest ≡ s → (more : List Placed) × ((walk_of L s).cmds ≡ place 0 cs ++ more)

  -- W4: a walk has no more commands than the stream has bytes
  abbrev pub CountFits : Type 0
  CountFits = length (walk_of L s).cmds ≤ length s

  -- the walk entered again at an offset where it stood hands out the rest of its list, and ends as it did
  abbrev pub Resumes : Type 0
  Resumes = (handed coming : List Placed) → (walk_of L s).cmds ≡ handed ++ coming
      → walk_from L (offset_of coming (walk_of L s).ending) (drop (offset_of coming (walk_of L s).ending) s) ≡ record { cmds = coming; ending = (walk_of L s).ending }

  -- steps, each at the offset behind the command that the one before it found, hand out these commands and then find this
  pub data Steps : (at : ℕ) → List Placed → Ending → Type 0 where
    finds : {at : ℕ} (e : Ending) → found_at L s at ≡ given (first_of [] e) → place_of e ≡ at → Steps at [] e
    hands : {at next : ℕ} (c : Cmd) {ps : List Placed} {e : Ending} → found_at L s at ≡ given (command c next) → Steps next ps e
        → Steps at (record { at = at; cmd = c } ∷ ps) e

  -- step and walk agree: from each offset of the stream on, steps hand out the walk's list, and no other
  pub record StepsAreTheWalk (at : ℕ) : Type 0 where
    pub hand_out : Steps at (walk_from L at (drop at s)).cmds (walk_from L at (drop at s)).ending
    pub no_other : (ps : List Placed) (e : Ending) → Steps at ps e → walk_from L at (drop at s) ≡ record { cmds = ps; ending = e }

  abbrev pub StepAndWalkAgree : Type 0
  StepAndWalkAgree = (at : ℕ) → at ≤ length s → StepsAreTheWalk at

  -- W3: a step where the walk has stopped gives the same stop
  abbrev pub StopsStay : Type 0
  StopsStay = (at n o : ℕ) → step_at L s at ≡ given (stopped n o) → step_at L s o ≡ given (stopped n o)

-- W2: the part that `payload_at` promises begins behind the command's CID, and holds the command's payload
abbrev pub PayloadShown : Rule → Bor (List ℕ) → Type 0
PayloadShown L s = (at next : ℕ) (c : Cmd) → found_at L s.now at ≡ given (command c next)
    → payload_part s at (step_at L s.now at) ≡ record { place = (s.ref_ptr.0, at + 1 + s.ref_ptr.1); bytes = c.body }

module _ (L : Rule) where
  -- a list of well-formed commands, encoded, walks back to itself and the end
  abbrev pub EncodedWalksBack : Type 0
  EncodedWalksBack = (cs : List Cmd) → WellFormed L cs → walk_of L (encode cs) ≡ record { cmds = place 0 cs; ending = end (length (encode cs)) }

  -- equal bytes, equal lists
  abbrev pub SameBytesSameCommands : Type 0
  SameBytesSameCommands = (cs ds : List Cmd) → WellFormed L cs → WellFormed L ds → encode cs ≡ encode ds → cs ≡ ds

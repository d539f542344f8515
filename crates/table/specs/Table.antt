-- The command table (RULES: T1): a row for each CID, with the command sent down and the command sent up, each with the bytes of its
-- payload, the CID not counted. All that is said elsewhere of a command's CID, direction and length follows from these rows.
use Rattle.std.specs.Prelude.{ℕ, Bool, true, false, cond, List, [], ◌∷◌, eqb}
use Prim.Native.String.{String}
use Rattle.std.proofs.Math.Option.{Option, none, some}
use lib.Text.{eqt}
use Rattle.table.specs.declared.rules.Direction.{Direction}
use Rattle.table.specs.declared.rules.Direction.TheVariants.{Down, Up}
use Rattle.table.specs.declared.rules.Rules.{Rules}

pub record Row : Type 0 where
  pub cid : ℕ
  pub down : String
  pub bytes_down : ℕ
  pub up : String
  pub bytes_up : ℕ

abbrev pub row : ℕ → String → ℕ → String → ℕ → Row
row c d n u m = record { cid = c; down = d; bytes_down = n; up = u; bytes_up = m }

abbrev pub rows : List Row
rows =
    row 0x02 "LinkCheckAns" 2 "LinkCheckReq" 0 ∷
    row 0x03 "LinkADRReq" 4 "LinkADRAns" 1 ∷
    row 0x04 "DutyCycleReq" 1 "DutyCycleAns" 0 ∷
    row 0x05 "RXParamSetupReq" 4 "RXParamSetupAns" 1 ∷
    row 0x06 "DevStatusReq" 0 "DevStatusAns" 2 ∷
    row 0x07 "NewChannelReq" 5 "NewChannelAns" 1 ∷
    row 0x08 "RXTimingSetupReq" 1 "RXTimingSetupAns" 0 ∷
    row 0x09 "TXParamSetupReq" 1 "TXParamSetupAns" 0 ∷
    row 0x0A "DlChannelReq" 4 "DlChannelAns" 1 ∷
    row 0x0D "DeviceTimeAns" 5 "DeviceTimeReq" 0 ∷ []

-- ---- by CID

-- the one of two that belongs to the direction
abbrev pub side_of : {A : Type 0} → Direction → A → A → A
side_of Down down up = down
side_of Up down up = up

abbrev pub length_in : List Row → Direction → ℕ → Option ℕ
length_in [] d c = none
length_in (r ∷ rs) d c = cond (eqb c r.cid) (some (side_of d r.bytes_down r.bytes_up)) (length_in rs d c)

-- the rule of a stream: how many payload bytes follow a CID, and none for a byte that the direction has no command for
abbrev pub length_of : Rules → ℕ → Option ℕ
length_of rules c = length_in rows rules.direction c

abbrev pub name_in : List Row → Direction → ℕ → String
name_in [] d c = ""
name_in (r ∷ rs) d c = cond (eqb c r.cid) (side_of d r.down r.up) (name_in rs d c)

-- the name of a CID's command, and no letters for a byte that the direction has no command for
abbrev pub name_of : Rules → ℕ → String
name_of rules c = name_in rows rules.direction c

-- ---- by name

pub record Command : Type 0 where
  pub name : String
  pub cid : ℕ
  pub up : Bool
  pub size : ℕ

abbrev pub named_in : List Row → String → Option Command
named_in [] n = none
named_in (r ∷ rs) n =
    cond (eqt r.down n) (some (record { name = r.down; cid = r.cid; up = false; size = r.bytes_down }))
    (cond (eqt r.up n) (some (record { name = r.up; cid = r.cid; up = true; size = r.bytes_up }))
    (named_in rs n))

-- what a name may be cited for: a command, where a row has the name, and nothing where none has
abbrev pub Cited : Option Command → Type 0
Cited (some c) = Command
Cited none = Unit

abbrev pub cited : (found : Option Command) → Cited found
cited (some c) = c
cited none = tt

-- the command of that name. A name that no row has is no command, so a contract or a definition with such a name has no type and is refused
abbrev pub named : (n : String) → Cited (named_in rows n)
named n = cited (named_in rows n)

-- the flag by which a command type says whether it is sent up: as its row has it (RULES: T2, T3; the standard, 5)
abbrev pub flag_of : Command → Bool
flag_of c = c.up

-- The listing of a walk (RULES: L1 to L6, L13): a line for each command that it hands out, and a last line for how it ended, each in its frame.
use Rattle.std.specs.Prelude.{ℕ, cond, List, [], ◌∷◌, map}
use Prim.Native.String.{String}
use lib.Text.{eqt}
use Rattle.table.specs.declared.rules.Rules.{Rules}
use Rattle.table.specs.Table.{length_of, name_of, named}
use Rattle.fields.specs.Mask.{channels_on}
use Rattle.fields.specs.Places.{bytes_at, link_adr_req_channel_mask}
use Rattle.walk.specs.Walk.{Placed, Ending, end, stop, Walk, walk_of}
use Rattle.text.specs.Characters.{ascii, letter_of}
use Rattle.text.specs.Decimal.{decimal}
use Rattle.text.specs.Hex.{hex_byte, hex_field}
use Rattle.text.specs.Lines.{Line, text}

-- the channels that the mask of a LinkADRReq switches on
abbrev pub channels : List ℕ → ℕ
channels body = channels_on (bytes_at link_adr_req_channel_mask body)

-- L4: what LinkADRReq alone has behind its payload: how many these are
abbrev pub count_field : String → List ℕ → List (List ℕ)
count_field name body = cond (eqt name (named "LinkADRReq").name) (decimal (channels body) ∷ []) []

-- L3: the offset, the direction, the CID, the name, the payload
abbrev pub command_line : Rules → Placed → Line
command_line rules p = record {
  first = decimal p.at;
  more =
      ascii (letter_of rules.direction) ∷ hex_byte p.cmd.cid ∷ ascii (name_of rules p.cmd.cid) ∷ hex_field p.cmd.body
      ∷ count_field (name_of rules p.cmd.cid) p.cmd.body;
}

-- L6: the offset where the walk finished, and that it came to the end, or the number of the refusal that it stopped with
abbrev pub last_line : Ending → Line
last_line (end at) = record { first = decimal at; more = ascii "end" ∷ [] }
last_line (stop number at) = record { first = decimal at; more = ascii "stop" ∷ decimal number ∷ [] }

-- L1: the commands' lines in order, and the last line
unfoldable pub lines_of : Rules → List Placed → Ending → List Line
lines_of rules [] e = last_line e ∷ []
lines_of rules (p ∷ ps) e = command_line rules p ∷ lines_of rules ps e

-- L13: the frame's number, in front of a line's other fields
abbrev pub in_frame : (frame : ℕ) → Line → Line
in_frame frame l = record { first = decimal frame; more = l.first ∷ l.more }

-- with it every line begins
abbrev pub printed : Rules → (frame : ℕ) → Walk → List ℕ
printed rules frame w = text (map (in_frame frame) (lines_of rules w.cmds w.ending))

-- the listing of a stream
abbrev pub listing_of : Rules → (frame : ℕ) → List ℕ → List ℕ
listing_of rules frame s = printed rules frame (walk_of (length_of rules) s)

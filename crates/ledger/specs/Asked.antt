-- What is asked of a ledger, as it is answered (RULES: X11, X12, X16): a setting's parent, and an entry of the list.
use Rattle.std.specs.Prelude.{replicate, Option as Maybe, None, Some}
use Rattle.std.proofs.Math.Option.{Option, none, some}
use Rattle.ledger.specs.Memory.{fresh_queue, no_parents}
use Rattle.ledger.specs.Parents.{Shown, Note}
use Rattle.ledger.specs.declared.Ledger.{Ledger}
use Rattle.ledger.specs.declared.entries.Entry.{Entry}
use Rattle.ledger.specs.declared.settings.Parent.{Parent}

-- a ledger before its first line
abbrev pub fresh_ledger : Ledger
fresh_ledger = record { lines = 0; listed = 0; pending = replicate 16 fresh_queue; held = replicate 37 no_parents }

-- a setting's parent: where the request stands, what it says, and its mark
abbrev pub in_hand : Option Shown → Maybe Parent
in_hand none = None
in_hand (some s) = Some (record {
  line = s.parent.line;
  frame = s.parent.frame;
  offset = s.parent.offset;
  value = s.value;
  unchanged = s.unchanged;
})

-- an entry of the list
abbrev pub note_of : Entry → Note
note_of e = record { kind = e.kind; at = record { line = e.line; frame = e.frame; offset = e.offset } }

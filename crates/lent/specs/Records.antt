-- The build over record structs (RULES: H3, M9): the records as crate build's definitions have them.
use Rattle.std.specs.Prelude.{List, map}
use Rattle.build.specs.Records.{Rec, Item, whole, held_by}
use Rattle.build.specs.declared.record.Record.{Record}

abbrev pub recs_of : List Record → List Rec
recs_of rs = map held_by rs

abbrev pub items_of : List Record → List Item
items_of rs = map whole (recs_of rs)

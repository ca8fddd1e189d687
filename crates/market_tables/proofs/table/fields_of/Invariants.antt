use Rattle.std.proofs.Common.{◌≡◌, drop, map}
use Rattle.toml.specs.View.{table_view}
use Rattle.market_tables.specs.Table.{listed, fields_of}
use Rattle.market_tables.proofs.FieldLists.{onto}
use Rattle.market_tables.proofs.table.fields_of.Given as goal

-- the fields so far and those of the keys that are left are those of all keys
abbrev pub invariant-loop-key : goal.invariant-loop-key
invariant-loop-key g l = onto l.fields.items (fields_of (g.R.Places.required l.reader) (g.R.Places.gives l.reader) (map listed (drop l.key-index l.keys)) (table_view l.table)) ≡ fields_of (g.R.Places.required l.reader) (g.R.Places.gives l.reader) (map listed l.keys) (table_view l.table)

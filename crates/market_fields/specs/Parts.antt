-- The parts of a composite (QuantLib's CompositeInstrument::add).
use Rattle.std.specs.Prelude.{List, Option, Result, Ok}
use Rattle.toml.specs.Data.{Data}
use Rattle.desk_terms.specs.declared.terms.Part.{Part}
use Rattle.market_tables.specs.declared.fault.MarketKind.{MarketKind}
use Rattle.market_tables.specs.Given.{◌>>=◌}
use Rattle.market_tables.specs.Presence.{must_stand}
use Rattle.market_tables.specs.Values.{table_in, tables_in}
use Rattle.market_tables.specs.Arrays.{each}
use Rattle.market_tables.specs.Table.{row_of}
use Rattle.market_tables.specs.Fields.{field_in}
use Rattle.market_fields.specs.declared.field.Field.{Field}
use Rattle.market_fields.specs.declared.field.Field.TheVariants as field
use Rattle.market_fields.specs.Earlier.{Earlier}
use Rattle.market_fields.specs.Keys.{part_keys}
use Rattle.market_fields.specs.Field.{must, object_in, weight_in}
use Rattle.market_fields.specs.Places.{plain_field}

-- a part from its fields
abbrev pub part_made : List (Option Field) → Result Part MarketKind
part_made fs =
    must (object_in (field_in fs 0)) >>= (λ member. must (weight_in (field_in fs 1)) >>= (λ weight.
    Ok (record { weight = weight; member = member })))

-- the part that a table says
abbrev pub part_in : Earlier → Data → Result Part MarketKind
part_in e d =
    table_in d >>= (λ table.
    row_of (λ presence _. Ok (must_stand presence)) (plain_field e) part_keys table >>= part_made)

abbrev pub parts_field : Earlier → Data → Result Field MarketKind
parts_field e d = tables_in d >>= (λ ds. each (part_in e) ds >>= (λ parts. Ok (field.Parts parts)))

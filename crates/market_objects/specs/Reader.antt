-- The objects that the tables of a market say.
use Rattle.std.specs.Prelude.{ℕ, List, Result}
use Rattle.toml.specs.Data.{Data}
use Rattle.desk_terms.specs.declared.terms.Terms.{Terms}
use Rattle.market_tables.specs.declared.fault.MarketKind.{MarketKind}
use Rattle.market_tables.specs.Given.{◌>>=◌}
use Rattle.market_tables.specs.Values.{table_in}
use Rattle.market_tables.specs.Table.{entry_of}
use Rattle.market_fields.specs.Earlier.{Earlier}
use Rattle.market_fields.specs.Presence.{required}
use Rattle.market_fields.specs.Version.{in_version}
use Rattle.market_fields.specs.Keys.{kind_of, keys_of}
use Rattle.market_fields.specs.Helpers.{place_field}
use Rattle.market_objects.specs.Board.{added}
use Rattle.market_objects.specs.Making.{entry_made}

-- the name and the terms of the object that a table says
abbrev pub entry_in : Earlier → Data → Result (List ℕ × Terms) MarketKind
entry_in e d =
    table_in d >>= (λ table. in_version e.version table >>= (λ table.
    entry_of kind_of keys_of required (place_field e) table >>= (λ entry.
    entry_made e entry.0 entry.1)))

-- the objects with the one that a table says
abbrev pub behind : Earlier → Data → Result Earlier MarketKind
behind e d = entry_in e d >>= (λ entry. added e entry.0 entry.1)

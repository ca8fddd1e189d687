-- The calendars that the tables of a market say.
use Rattle.std.specs.Prelude.{ℕ, List, [], Result, Ok}
use Rattle.toml.specs.Data.{Data, Items}
use Rattle.market_tables.specs.declared.fault.MarketKind.{MarketKind}
use Rattle.market_tables.specs.Given.{◌>>=◌}
use Rattle.market_tables.specs.Presence.{must_stand}
use Rattle.market_tables.specs.Values.{table_in}
use Rattle.market_tables.specs.Entries.{entries_from}
use Rattle.market_tables.specs.Table.{entry_of}
use Rattle.market_calendars.specs.declared.calendars.NamedCalendar.{NamedCalendar}
use Rattle.market_calendars.specs.Calendars.{Calendars, with_calendar}
use Rattle.market_calendars.specs.Keys.{kind_of, keys_of}
use Rattle.market_calendars.specs.Places.{place_field}
use Rattle.market_calendars.specs.Making.{entry_made}

-- the name and the calendar that a table says
abbrev pub entry_in : Calendars → Data → Result (List ℕ × NamedCalendar) MarketKind
entry_in cs d =
    table_in d >>= (λ table.
    entry_of kind_of keys_of (λ presence _. Ok (must_stand presence)) (place_field cs) table >>= (λ entry.
    entry_made entry.0 entry.1))

-- the calendars with the one that a table says
abbrev pub behind : Calendars → Data → Result Calendars MarketKind
behind cs d = entry_in cs d >>= (λ entry. Ok (with_calendar cs entry.0 entry.1))

-- the calendars that tables say, or the first fault with its table's number
abbrev pub calendars_in : Items → Result Calendars (ℕ × MarketKind)
calendars_in tables = entries_from behind [] 1 tables

-- The calendars of a market so far, by their names.
use Rattle.std.specs.Prelude.{ℕ, List, Option}
use Rattle.std.specs.Map.{lookup}
use Rattle.std.specs.Str.{bytes_eq}
use Rattle.indexmap.specs.IndexMap.{insert_entry}
use Rattle.market_calendars.specs.declared.calendars.NamedCalendar.{NamedCalendar}

-- each calendar with its name, in order
abbrev pub Calendars : Type 0
Calendars = List (List ℕ × NamedCalendar)

-- the calendar of a name
abbrev pub named : Calendars → List ℕ → Option NamedCalendar
named cs name = lookup (bytes_eq name) cs

-- the calendars with one more, or with another in the place of the one of that name
abbrev pub with_calendar : Calendars → List ℕ → NamedCalendar → Calendars
with_calendar cs name c = insert_entry bytes_eq cs name c

-- What stands earlier in a market.
use Rattle.std.specs.Prelude.{ℕ, ◌-◌, if◌then◌else◌, List, Option, Some, None, slice_get, Result, Ok, Err}
use Rattle.desk_names.specs.Names.{has_text, place_of}
use Rattle.desk_terms.specs.declared.kind.Kind.{Kind}
use Rattle.desk_terms.specs.declared.kind.Wanted.{Wanted}
use Rattle.desk_terms.specs.declared.terms.Terms.{Terms}
use Rattle.desk_terms.specs.declared.terms.Terms.TheVariants as terms
use Rattle.desk_terms.specs.Kind.{serves}
use Rattle.flow_terms.specs.declared.indexes.IndexTerms.{IndexTerms}
use Rattle.holiday_calendars.specs.declared.calendars.Calendar.{Calendar}
use Rattle.market_tables.specs.declared.fault.MarketKind.{MarketKind}
use Rattle.market_tables.specs.declared.fault.MarketKind.TheVariants as fault
use Rattle.market_tables.specs.Given.{◌>>=◌}
use Rattle.market_tables.specs.Values.{name_of}
use Rattle.market_calendars.specs.Calendars.{Calendars}
use Rattle.market_calendars.specs.Building.{calendar_named}
use Rattle.market_fields.specs.declared.version.Version.{Version}
use Rattle.market_fields.specs.declared.earlier.Named.{Named}
use Rattle.market_fields.specs.declared.earlier.Earlier as code

-- the names so far, the kind of each object so far, `today` first, the name and the terms of each object but `today`,
-- the calendars, and the version of the market's format; an object has the number of its name
pub record Earlier : Type 0 where
  pub names : List (List ℕ)
  pub kinds : List Kind
  pub made : List (ℕ × Terms)
  pub calendars : Calendars
  pub version : Version

abbrev pub seen : code.Earlier → Earlier
seen e = record { names = e.names.now; kinds = e.kinds.now; made = e.made.now; calendars = e.calendars.now; version = e.version }

abbrev pub object_at : ℕ → Option Kind → Result Named MarketKind
object_at object None = Err fault.Unknown
object_at object (Some kind) = Ok (record { object = object; kind = kind })

abbrev pub known_object : Earlier → List ℕ → Result Named MarketKind
known_object e name =
    if has_text e.names name then object_at (place_of e.names name) (slice_get e.kinds (place_of e.names name))
    else Err fault.Unknown

-- the object that a text names
abbrev pub named_object : Earlier → List ℕ → Result Named MarketKind
named_object e text = name_of text >>= known_object e

-- the name, where no object has it
abbrev pub untaken : Earlier → List ℕ → Result (List ℕ) MarketKind
untaken e name = if has_text e.names name then Err fault.Taken else Ok name

-- a text as a new name
abbrev pub new_name : Earlier → List ℕ → Result (List ℕ) MarketKind
new_name e text = name_of text >>= untaken e

-- the object, where it is what is wanted
abbrev pub served : Wanted → Named → Result ℕ MarketKind
served wanted named = if serves named.kind wanted then Ok named.object else Err fault.Kind

-- the calendar that a text names
abbrev pub calendar_of : Earlier → List ℕ → Result Calendar MarketKind
calendar_of e text = calendar_named e.calendars text

-- the terms of an index
abbrev pub index_in : Terms → Result IndexTerms MarketKind
index_in (terms.Index index fixings) = Ok index
index_in (terms.Quote value) = Err fault.Kind
index_in (terms.Derived minus first second) = Err fault.Kind
index_in (terms.Handle target_kind target) = Err fault.Kind
index_in (terms.Curve curve) = Err fault.Kind
index_in (terms.Implied curve reference) = Err fault.Kind
index_in (terms.Engine curve) = Err fault.Kind
index_in (terms.Stock quote) = Err fault.Kind
index_in (terms.Composite parts) = Err fault.Kind
index_in (terms.Flows flows engine) = Err fault.Kind

abbrev pub index_at : Option (ℕ × Terms) → Result IndexTerms MarketKind
index_at None = Err fault.Kind
index_at (Some entry) = index_in entry.1

-- the terms of an object that is an index; object 1 is the first that is made
abbrev pub index_terms : Earlier → ℕ → Result IndexTerms MarketKind
index_terms e object = index_at (slice_get e.made (object - 1))

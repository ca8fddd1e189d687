-- The top table of a market (this project's profile).
use Rattle.std.specs.Prelude.{ℕ, ℤ, pos, if◌then◌else◌, List, [], ◌∷◌, codes, Option, Some, None, Result, Ok, Err}
use Rattle.std.specs.Ordering.{int_eq}
use Rattle.toml.specs.Data.{Data, Members}
use Rattle.market_tables.specs.declared.fault.MarketKind.{MarketKind}
use Rattle.market_tables.specs.declared.fault.MarketKind.TheVariants as fault
use Rattle.market_tables.specs.declared.presence.Presence.{Presence}
use Rattle.market_tables.specs.declared.presence.Presence.TheVariants.{Always, Optional}
use Rattle.market_tables.specs.Given.{◌>>=◌}
use Rattle.market_tables.specs.Presence.{must_stand}
use Rattle.market_tables.specs.Values.{text_in, day_in, integer_in, tables_in}
use Rattle.market_tables.specs.Table.{Key, row_of}
use Rattle.market_tables.specs.Fields.{field_in}
use Rattle.market_fields.specs.declared.version.Version.{Version}
use Rattle.market_fields.specs.declared.version.Version.TheVariants.{One, Two}
use Rattle.market_file.specs.declared.top.TopPlace.{TopPlace}
use Rattle.market_file.specs.declared.top.TopPlace.TheVariants as place
use Rattle.market_file.specs.declared.top.TopField.{TopField}
use Rattle.market_file.specs.declared.top.TopField.TheVariants as field
use Rattle.market_file.specs.declared.top.TopTable.{TopTable}

-- a key that must stand in the table, and one that may
abbrev pub key : List ℕ → TopPlace → Key Presence TopPlace
key word place = record { word = word; presence = Always; place = place }

abbrev pub key? : List ℕ → TopPlace → Key Presence TopPlace
key? word place = record { word = word; presence = Optional; place = place }

-- the keys of the top table, in listed order
abbrev pub top_keys : List (Key Presence TopPlace)
top_keys =
    key (codes "version") place.Version
    ∷ key (codes "today") place.Day
    ∷ key? (codes "quotes") place.Path
    ∷ key? (codes "fixings") place.Path
    ∷ key? (codes "calendar") place.Tables
    ∷ key? (codes "object") place.Tables
    ∷ []

-- the version of the format is 1 or 2
abbrev pub version_of : ℤ → Version
version_of n = if int_eq n (pos 1) then One else Two

abbrev pub version_field : Data → Result TopField MarketKind
version_field d = integer_in (pos 1) (pos 2) d >>= (λ n. Ok (field.Version (version_of n)))

abbrev pub day_field : Data → Result TopField MarketKind
day_field d = day_in d >>= (λ day. Ok (field.Day day))

abbrev pub path_field : Data → Result TopField MarketKind
path_field d = text_in d >>= (λ text. Ok (field.Path text))

abbrev pub tables_field : Data → Result TopField MarketKind
tables_field d = tables_in d >>= (λ ds. Ok field.Tables)

-- what a place of the top table takes
abbrev pub top_field : TopPlace → Data → Result TopField MarketKind
top_field place.Version d = version_field d
top_field place.Day d = day_field d
top_field place.Path d = path_field d
top_field place.Tables d = tables_field d

-- what a field of one sort says; one that another place gave, or that is not there and must be, is the fault Key
abbrev pub version_in : Option TopField → Result Version MarketKind
version_in (Some (field.Version version)) = Ok version
version_in _ = Err fault.Key

abbrev pub today_in : Option TopField → Result ℤ MarketKind
today_in (Some (field.Day day)) = Ok day
today_in _ = Err fault.Key

abbrev pub path_in : Option TopField → Result (Option (List ℕ)) MarketKind
path_in None = Ok None
path_in (Some (field.Path path)) = Ok (Some path)
path_in _ = Err fault.Key

abbrev pub top_made : List (Option TopField) → Result TopTable MarketKind
top_made fs =
    version_in (field_in fs 0) >>= (λ version. today_in (field_in fs 1) >>= (λ today.
    path_in (field_in fs 2) >>= (λ quotes. path_in (field_in fs 3) >>= (λ fixings.
    Ok (record { version = version; today = today; quotes = quotes; fixings = fixings })))))

-- what a top table says, or its first fault
abbrev pub top_of : Members → Result TopTable MarketKind
top_of document = row_of (λ presence _. Ok (must_stand presence)) top_field top_keys document >>= top_made

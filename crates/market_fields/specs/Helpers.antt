-- The helpers of a curve (QuantLib's DepositRateHelper and SwapRateHelper), and what every place says.
use Rattle.std.specs.Prelude.{ℕ, ◌+◌, ◌||◌, ◌==◌, nat_lt, false, unwrap_or, if◌then◌else◌, List, length, Option, Some, None, Result, Ok, Err}
use Rattle.toml.specs.Data.{Data}
use Rattle.curve_terms.specs.declared.terms.Helper.{Helper}
use Rattle.day_number.specs.declared.tenors.Tenor.{Tenor}
use Rattle.market_tables.specs.declared.fault.MarketKind.{MarketKind}
use Rattle.market_tables.specs.declared.fault.MarketKind.TheVariants as fault
use Rattle.market_tables.specs.Given.{◌>>=◌}
use Rattle.market_tables.specs.Presence.{must_stand}
use Rattle.market_tables.specs.Values.{table_in, tables_in}
use Rattle.market_tables.specs.Arrays.{each}
use Rattle.market_tables.specs.Table.{entry_of}
use Rattle.market_tables.specs.Fields.{field_in}
use Rattle.market_fields.specs.declared.field.Field.{Field}
use Rattle.market_fields.specs.declared.field.Field.TheVariants as field
use Rattle.market_fields.specs.declared.keys.HelperKind.{HelperKind}
use Rattle.market_fields.specs.declared.keys.HelperKind.TheVariants.{Deposit, Swap}
use Rattle.market_fields.specs.declared.keys.ObjectPlace.{ObjectPlace}
use Rattle.market_fields.specs.declared.keys.ObjectPlace.TheVariants as place
use Rattle.market_fields.specs.Earlier.{Earlier}
use Rattle.market_fields.specs.Keys.{helper_kind_of, helper_keys_of}
use Rattle.market_fields.specs.Field.{must, object_in, tenor_in, convention_in, flag_in, counter_in}
use Rattle.market_fields.specs.Places.{plain_field}
use Rattle.market_fields.specs.Parts.{parts_field}

-- a helper that pays every so often, its convention, flag and counter at a position and behind it
abbrev pub helper_of : List (Option Field) → Option Tenor → ℕ → Result Helper MarketKind
helper_of fs every at =
    must (object_in (field_in fs 0)) >>= (λ quote. must (tenor_in (field_in fs 1)) >>= (λ tenor.
    must (convention_in (field_in fs at)) >>= (λ conv. flag_in (field_in fs (at + 1)) >>= (λ eom.
    must (counter_in (field_in fs (at + 2))) >>= (λ counter.
    Ok (record { quote = quote; tenor = tenor; every = every; conv = conv; eom = unwrap_or eom false; counter = counter }))))))

-- a helper of a kind from its fields: a deposit pays once, at its end
abbrev pub helper_made : HelperKind → List (Option Field) → Result Helper MarketKind
helper_made Deposit fs = helper_of fs None 2
helper_made Swap fs = must (tenor_in (field_in fs 2)) >>= (λ every. helper_of fs (Some every) 3)

-- the helper that a table says
abbrev pub helper_in : Earlier → Data → Result Helper MarketKind
helper_in e d =
    table_in d >>= (λ table.
    entry_of helper_kind_of helper_keys_of (λ presence _. Ok (must_stand presence)) (plain_field e) table >>= (λ entry.
    helper_made entry.0 entry.1))

-- one to 64 helpers
abbrev pub counted : List Helper → Result (List Helper) MarketKind
counted helpers = if (length helpers == 0) || nat_lt 64 (length helpers) then Err fault.Parts else Ok helpers

-- the helpers of an array: the faults of all tables before that of their number
abbrev pub helpers_field : Earlier → Data → Result Field MarketKind
helpers_field e d =
    tables_in d >>= (λ ds. each (helper_in e) ds >>= (λ helpers. counted helpers >>= (λ few. Ok (field.Helpers few))))

-- what a place says
abbrev pub place_field : Earlier → ObjectPlace → Data → Result Field MarketKind
place_field e place.Parts d = parts_field e d
place_field e place.Helpers d = helpers_field e d
place_field e place.NewName d = plain_field e place.NewName d
place_field e (place.Object wanted) d = plain_field e (place.Object wanted) d
place_field e place.AnyObject d = plain_field e place.AnyObject d
place_field e place.Target d = plain_field e place.Target d
place_field e place.Day d = plain_field e place.Day d
place_field e place.Weight d = plain_field e place.Weight d
place_field e place.Calendar d = plain_field e place.Calendar d
place_field e place.Count d = plain_field e place.Count d
place_field e place.Tenor d = plain_field e place.Tenor d
place_field e place.Months d = plain_field e place.Months d
place_field e place.Rule d = plain_field e place.Rule d
place_field e place.Convention d = plain_field e place.Convention d
place_field e place.Flag d = plain_field e place.Flag d
place_field e place.Counter d = plain_field e place.Counter d
place_field e place.Notional d = plain_field e place.Notional d
place_field e place.Rate d = plain_field e place.Rate d
place_field e place.Leg d = plain_field e place.Leg d
place_field e place.Position d = plain_field e place.Position d

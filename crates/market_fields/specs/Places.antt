-- What the places of objects take that hold no tables (this project's profile).
use Rattle.std.specs.Prelude.{ℕ, ℤ, pos, negsuc, unsigned_abs, ◌&&◌, int_le, if◌then◌else◌, Result, Ok, Err}
use Rattle.std.specs.Ordering.{int_eq}
use Rattle.toml.specs.Data.{Data, as_integer, as_bool}
use Rattle.desk_terms.specs.declared.kind.Wanted.{Wanted}
use Rattle.day_number.specs.Text.{tenor_of_text}
use Rattle.day_number.specs.declared.tenors.Tenor.{Tenor}
use Rattle.day_number.specs.declared.tenors.Unit.{Unit as TimeUnit}
use Rattle.day_number.specs.declared.tenors.Unit.TheVariants.{Days, Weeks, Months, Years}
use Rattle.market_tables.specs.declared.fault.MarketKind.{MarketKind}
use Rattle.market_tables.specs.declared.fault.MarketKind.TheVariants as fault
use Rattle.market_tables.specs.Given.{◌>>=◌}
use Rattle.market_tables.specs.Values.{or_fault, text_in, day_in, integer_in}
use Rattle.market_fields.specs.declared.earlier.Named.{Named}
use Rattle.market_fields.specs.declared.field.Field.{Field}
use Rattle.market_fields.specs.declared.field.Field.TheVariants as field
use Rattle.market_fields.specs.declared.keys.ObjectPlace.{ObjectPlace}
use Rattle.market_fields.specs.declared.keys.ObjectPlace.TheVariants as place
use Rattle.market_fields.specs.Earlier.{Earlier, named_object, new_name, served, calendar_of}
use Rattle.market_fields.specs.Limited.{notional_of, rate_of}
use Rattle.market_fields.specs.Words.{convention_of, counter_of, rule_of, target_of, leg_of, position_of}

abbrev pub name_field : Earlier → Data → Result Field MarketKind
name_field e d = text_in d >>= (λ text. new_name e text >>= (λ name. Ok (field.Name name)))

-- the object that a value names
abbrev pub named_at : Earlier → Data → Result Named MarketKind
named_at e d = text_in d >>= named_object e

abbrev pub object_field : Earlier → Wanted → Data → Result Field MarketKind
object_field e wanted d = named_at e d >>= (λ named. served wanted named >>= (λ object. Ok (field.Object object)))

abbrev pub any_object_field : Earlier → Data → Result Field MarketKind
any_object_field e d = named_at e d >>= (λ named. Ok (field.Named named))

abbrev pub day_field : Data → Result Field MarketKind
day_field d = day_in d >>= (λ day. Ok (field.Day day))

-- a weight is a whole number within 1,000,000 either way, and not 0
abbrev pub weight_field : Data → Result Field MarketKind
weight_field d =
    integer_in (negsuc 999_999) (pos 1_000_000) d >>= (λ weight.
    if int_eq weight (pos 0) then Err fault.Number else Ok (field.Weight weight))

abbrev pub calendar_field : Earlier → Data → Result Field MarketKind
calendar_field e d = text_in d >>= (λ text. calendar_of e text >>= (λ calendar. Ok (field.Calendar calendar)))

-- a number of settlement days or of fixing days, from 0 to 30
abbrev pub count_of : ℤ → Result ℕ MarketKind
count_of n = if int_le (pos 0) n && int_le n (pos 30) then Ok (unsigned_abs n) else Err fault.Number

abbrev pub count_field : Data → Result Field MarketKind
count_field d = or_fault fault.Key (as_integer d) >>= (λ n. count_of n >>= (λ count. Ok (field.Count count)))

abbrev pub tenor_in : Data → Result Tenor MarketKind
tenor_in d = text_in d >>= (λ text. or_fault fault.Number (tenor_of_text text))

-- a tenor of months or years
abbrev pub months_by : TimeUnit → Tenor → Result Tenor MarketKind
months_by Days tenor = Err fault.Number
months_by Weeks tenor = Err fault.Number
months_by Months tenor = Ok tenor
months_by Years tenor = Ok tenor

abbrev pub months_of : Tenor → Result Tenor MarketKind
months_of tenor = months_by tenor.unit tenor

abbrev pub tenor_field : Data → Result Field MarketKind
tenor_field d = tenor_in d >>= (λ tenor. Ok (field.Tenor tenor))

abbrev pub months_field : Data → Result Field MarketKind
months_field d = tenor_in d >>= (λ tenor. months_of tenor >>= (λ months. Ok (field.Tenor months)))

abbrev pub flag_field : Data → Result Field MarketKind
flag_field d = or_fault fault.Key (as_bool d) >>= (λ flag. Ok (field.Flag flag))

abbrev pub notional_field : Data → Result Field MarketKind
notional_field d = text_in d >>= (λ text. notional_of text >>= (λ notional. Ok (field.Notional notional)))

abbrev pub rate_field : Data → Result Field MarketKind
rate_field d = text_in d >>= (λ text. rate_of text >>= (λ rate. Ok (field.Rate rate)))

abbrev pub target_field : Data → Result Field MarketKind
target_field d = text_in d >>= (λ word. target_of word >>= (λ said. Ok (field.Target said)))

abbrev pub rule_field : Data → Result Field MarketKind
rule_field d = text_in d >>= (λ word. rule_of word >>= (λ said. Ok (field.Rule said)))

abbrev pub convention_field : Data → Result Field MarketKind
convention_field d = text_in d >>= (λ word. convention_of word >>= (λ said. Ok (field.Convention said)))

abbrev pub counter_field : Data → Result Field MarketKind
counter_field d = text_in d >>= (λ word. counter_of word >>= (λ said. Ok (field.Counter said)))

abbrev pub leg_field : Data → Result Field MarketKind
leg_field d = text_in d >>= (λ word. leg_of word >>= (λ said. Ok (field.Sign said)))

abbrev pub position_field : Data → Result Field MarketKind
position_field d = text_in d >>= (λ word. position_of word >>= (λ said. Ok (field.Sign said)))

-- what a place says that holds no tables
abbrev pub plain_field : Earlier → ObjectPlace → Data → Result Field MarketKind
plain_field e place.NewName d = name_field e d
plain_field e (place.Object wanted) d = object_field e wanted d
plain_field e place.AnyObject d = any_object_field e d
plain_field e place.Target d = target_field d
plain_field e place.Day d = day_field d
plain_field e place.Weight d = weight_field d
plain_field e place.Calendar d = calendar_field e d
plain_field e place.Count d = count_field d
plain_field e place.Tenor d = tenor_field d
plain_field e place.Months d = months_field d
plain_field e place.Rule d = rule_field d
plain_field e place.Convention d = convention_field d
plain_field e place.Flag d = flag_field d
plain_field e place.Counter d = counter_field d
plain_field e place.Notional d = notional_field d
plain_field e place.Rate d = rate_field d
plain_field e place.Leg d = leg_field d
plain_field e place.Position d = position_field d
plain_field e place.Parts d = Err fault.Key
plain_field e place.Helpers d = Err fault.Key

-- What the places of calendars take (this project's profile).
use Rattle.std.specs.Prelude.{ℕ, zero, suc, ◌||◌, ◌==◌, nat_lt, is_some, codes, if◌then◌else◌, List, Option, Some, None, Result, Ok, Err}
use Rattle.std.specs.Str.{bytes_eq}
use Rattle.toml.specs.Data.{Data, Items, no_items, item}
use Rattle.desk_names.specs.Name.{is_name}
use Rattle.holiday_calendars.specs.declared.joint_parts.JointRule.TheVariants as rule
use Rattle.market_tables.specs.declared.fault.MarketKind.{MarketKind}
use Rattle.market_tables.specs.declared.fault.MarketKind.TheVariants as fault
use Rattle.market_tables.specs.Given.{◌>>=◌}
use Rattle.market_tables.specs.Values.{text_in, items_in, day_in, name_of}
use Rattle.market_tables.specs.Arrays.{each}
use Rattle.market_calendars.specs.declared.keys.CalendarPlace.{CalendarPlace}
use Rattle.market_calendars.specs.declared.keys.CalendarPlace.TheVariants as place
use Rattle.market_calendars.specs.declared.calendars.NamedCalendar.{NamedCalendar}
use Rattle.market_calendars.specs.declared.calendars.NamedCalendar.TheVariants.{One, Joint}
use Rattle.market_calendars.specs.declared.places.Field.{Field}
use Rattle.market_calendars.specs.declared.places.Field.TheVariants as field
use Rattle.market_calendars.specs.Calendars.{Calendars, named}
use Rattle.market_calendars.specs.Weekend.{weekday_in, flags_of, weekend_of}

-- the passes over an array of texts: each looks for one kind of fault in all elements
abbrev pub text_pass : Data → Result (Unit {0}) MarketKind
text_pass d = text_in d >>= (λ text. Ok tt)

abbrev pub form_pass : Data → Result (Unit {0}) MarketKind
form_pass d = text_in d >>= (λ text. if is_name text then Ok tt else Err fault.Name)

abbrev pub is_known : Option NamedCalendar → Result (Unit {0}) MarketKind
is_known None = Err fault.Unknown
is_known (Some calendar) = Ok tt

abbrev pub known_pass : Calendars → Data → Result (Unit {0}) MarketKind
known_pass cs d = text_in d >>= (λ text. is_known (named cs text))

abbrev pub is_single : Option NamedCalendar → Result (Unit {0}) MarketKind
is_single None = Err fault.Unknown
is_single (Some (One base)) = Ok tt
is_single (Some (Joint rule parts)) = Err fault.Kind

abbrev pub single_pass : Calendars → Data → Result (Unit {0}) MarketKind
single_pass cs d = text_in d >>= (λ text. is_single (named cs text))

abbrev pub name_in : Data → Result (List ℕ) MarketKind
name_in d = text_in d >>= name_of

-- the weekdays of an array: Key, then Choice, then Weekend
abbrev pub weekend_field : Data → Result Field MarketKind
weekend_field d =
    items_in d >>= (λ ds. each text_pass ds >>= (λ _. each weekday_in ds >>= (λ days.
    weekend_of (flags_of days) >>= (λ weekend. Ok (field.Weekend weekend)))))

-- the days of an array: Key, then Date
abbrev pub holidays_field : Data → Result Field MarketKind
holidays_field d =
    items_in d >>= (λ ds. each text_pass ds >>= (λ _. each day_in ds >>= (λ days. Ok (field.Holidays days))))

abbrev pub rule_of : List ℕ → Result Field MarketKind
rule_of text =
    if bytes_eq text (codes "holidays") then Ok (field.Rule rule.Holidays)
    else (if bytes_eq text (codes "business") then Ok (field.Rule rule.BusinessDays) else Err fault.Choice)

abbrev pub rule_field : Data → Result Field MarketKind
rule_field d = text_in d >>= rule_of

abbrev pub item_count : Items → ℕ
item_count no_items = zero
item_count (item d ds) = suc (item_count ds)

-- one to eight parts
abbrev pub part_count : Items → Result Items MarketKind
part_count ds = if (item_count ds == 0) || nat_lt 8 (item_count ds) then Err fault.Parts else Ok ds

-- the names of single calendars in an array: Key, then Name, then Unknown, then Kind, then Parts
abbrev pub parts_field : Calendars → Data → Result Field MarketKind
parts_field cs d =
    items_in d >>= (λ ds. each text_pass ds >>= (λ _. each form_pass ds >>= (λ _. each (known_pass cs) ds >>= (λ _.
    each (single_pass cs) ds >>= (λ _. part_count ds >>= (λ _.
    each name_in ds >>= (λ names. Ok (field.Parts names))))))))

-- a name that is new among the calendars, and not `today`
abbrev pub new_name : Calendars → List ℕ → Result Field MarketKind
new_name cs name = if bytes_eq name (codes "today") || is_some (named cs name) then Err fault.Taken else Ok (field.Name name)

abbrev pub name_field : Calendars → Data → Result Field MarketKind
name_field cs d = text_in d >>= (λ text. name_of text >>= new_name cs)

-- what a place says
abbrev pub place_field : Calendars → CalendarPlace → Data → Result Field MarketKind
place_field cs place.NewName d = name_field cs d
place_field cs place.Weekend d = weekend_field d
place_field cs place.Holidays d = holidays_field d
place_field cs place.Rule d = rule_field d
place_field cs place.Parts d = parts_field cs d

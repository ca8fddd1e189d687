-- What the fields of a calendar's table make.
use Rattle.std.specs.Prelude.{ℕ, ℤ, Bool, List, Option, Some, Result, Ok, Err}
use Rattle.holiday_calendars.specs.declared.bases.Base.TheVariants as base
use Rattle.holiday_calendars.specs.declared.joint_parts.JointRule.{JointRule}
use Rattle.holiday_calendars.specs.Closed.{closed_on}
use Rattle.market_tables.specs.declared.fault.MarketKind.{MarketKind}
use Rattle.market_tables.specs.declared.fault.MarketKind.TheVariants as fault
use Rattle.market_tables.specs.Given.{◌>>=◌}
use Rattle.market_tables.specs.Fields.{field_in}
use Rattle.market_calendars.specs.declared.keys.CalendarKind.{CalendarKind}
use Rattle.market_calendars.specs.declared.keys.CalendarKind.TheVariants as kind
use Rattle.market_calendars.specs.declared.calendars.NamedCalendar.{NamedCalendar}
use Rattle.market_calendars.specs.declared.calendars.NamedCalendar.TheVariants.{One, Joint}
use Rattle.market_calendars.specs.declared.places.Field.{Field}
use Rattle.market_calendars.specs.declared.places.Field.TheVariants as field

-- what a field of one sort says; a field that is not there, or that another place gave, is the fault Key
abbrev pub name_in : Option Field → Result (List ℕ) MarketKind
name_in (Some (field.Name name)) = Ok name
name_in _ = Err fault.Key

abbrev pub weekend_in : Option Field → Result (List Bool) MarketKind
weekend_in (Some (field.Weekend weekend)) = Ok weekend
weekend_in _ = Err fault.Key

abbrev pub days_in : Option Field → Result (List ℤ) MarketKind
days_in (Some (field.Holidays days)) = Ok days
days_in _ = Err fault.Key

abbrev pub rule_in : Option Field → Result JointRule MarketKind
rule_in (Some (field.Rule rule)) = Ok rule
rule_in _ = Err fault.Key

abbrev pub parts_in : Option Field → Result (List (List ℕ)) MarketKind
parts_in (Some (field.Parts parts)) = Ok parts
parts_in _ = Err fault.Key

-- a calendar of one's own (QuantLib's BespokeCalendar)
abbrev pub bespoke_of : Option Field → Option Field → Result NamedCalendar MarketKind
bespoke_of weekend holidays =
    weekend_in weekend >>= (λ flags. days_in holidays >>= (λ days. Ok (One (base.Bespoke (closed_on flags days)))))

-- a joint calendar (QuantLib's JointCalendar)
abbrev pub joint_of : Option Field → Option Field → Result NamedCalendar MarketKind
joint_of rule parts = rule_in rule >>= (λ r. parts_in parts >>= (λ names. Ok (Joint r names)))

-- the calendar of a kind, of the fields behind its name
abbrev pub calendar_of : CalendarKind → Option Field → Option Field → Result NamedCalendar MarketKind
calendar_of kind.Null first second = Ok (One base.Null)
calendar_of kind.Weekends first second = Ok (One base.Weekends)
calendar_of kind.Target first second = Ok (One base.Target)
calendar_of kind.Bespoke first second = bespoke_of first second
calendar_of kind.Joint first second = joint_of first second

-- the name and the calendar that a kind makes of its fields
abbrev pub entry_made : CalendarKind → List (Option Field) → Result (List ℕ × NamedCalendar) MarketKind
entry_made kind fs =
    name_in (field_in fs 0) >>= (λ name.
    calendar_of kind (field_in fs 1) (field_in fs 2) >>= (λ calendar. Ok (name, calendar)))

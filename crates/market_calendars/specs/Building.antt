-- The calendar that a name stands for, as terms hold it.
use Rattle.std.specs.Prelude.{ℕ, ◌||◌, ◌==◌, nat_lt, if◌then◌else◌, List, [], ◌∷◌, length, Option, Some, None, Result, Ok, Err}
use Rattle.holiday_calendars.specs.declared.bases.Base.{Base}
use Rattle.holiday_calendars.specs.declared.calendars.Calendar.{Calendar}
use Rattle.holiday_calendars.specs.declared.calendars.Calendar.TheVariants as calendar
use Rattle.holiday_calendars.specs.declared.joint_parts.JointRule.{JointRule}
use Rattle.market_tables.specs.declared.fault.MarketKind.{MarketKind}
use Rattle.market_tables.specs.declared.fault.MarketKind.TheVariants as fault
use Rattle.market_tables.specs.Given.{◌>>=◌}
use Rattle.market_tables.specs.Values.{name_of}
use Rattle.market_calendars.specs.declared.calendars.NamedCalendar.{NamedCalendar}
use Rattle.market_calendars.specs.declared.calendars.NamedCalendar.TheVariants.{One, Joint}
use Rattle.market_calendars.specs.Calendars.{Calendars, named}

-- a part of a joint calendar; each part was found to be a single calendar where the joint one was read
abbrev pub base_of : Option NamedCalendar → Result Base MarketKind
base_of None = Err fault.Unknown
base_of (Some (One base)) = Ok base
base_of (Some (Joint rule parts)) = Err fault.Kind

abbrev pub bases_of : Calendars → List (List ℕ) → Result (List Base) MarketKind
bases_of cs [] = Ok []
bases_of cs (name ∷ names) = base_of (named cs name) >>= (λ base. bases_of cs names >>= (λ bases. Ok (base ∷ bases)))

-- a joint calendar of one to eight parts (QuantLib's JointCalendar)
abbrev pub joined : JointRule → List Base → Result Calendar MarketKind
joined rule bases =
    if (length bases == 0) || nat_lt 8 (length bases) then Err fault.Parts
    else Ok (calendar.Joint (record { rule = rule; parts = bases }))

abbrev pub built : Calendars → Option NamedCalendar → Result Calendar MarketKind
built cs None = Err fault.Unknown
built cs (Some (One base)) = Ok (calendar.One base)
built cs (Some (Joint rule parts)) = bases_of cs parts >>= joined rule

-- the calendar that a text names
abbrev pub calendar_named : Calendars → List ℕ → Result Calendar MarketKind
calendar_named cs text = name_of text >>= (λ name. built cs (named cs name))

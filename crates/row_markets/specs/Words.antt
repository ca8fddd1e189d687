-- The words of a row.
use Rattle.std.specs.Prelude.{ℕ, codes, if◌then◌else◌, List, Option, Some, None}
use Rattle.std.specs.Str.{bytes_eq}
use Rattle.day_number.specs.declared.conventions.Convention.{Convention}
use Rattle.day_number.specs.declared.conventions.Convention.TheVariants as convention
use Rattle.holiday_calendars.specs.declared.calendars.Calendar.{Calendar}
use Rattle.holiday_calendars.specs.declared.calendars.Calendar.TheVariants as calendar
use Rattle.holiday_calendars.specs.declared.bases.Base.TheVariants as base
use Rattle.year_parts.specs.declared.counters.Counter.{Counter}
use Rattle.year_parts.specs.declared.counters.Counter.TheVariants as counter

-- N null, W weekends, T TARGET
abbrev pub calendar_of : List ℕ → Option Calendar
calendar_of name =
    if bytes_eq name (codes "N") then Some (calendar.One base.Null)
    else (if bytes_eq name (codes "W") then Some (calendar.One base.Weekends)
    else (if bytes_eq name (codes "T") then Some (calendar.One base.Target) else None))

-- F following, P preceding, MF modified following
abbrev pub convention_of : List ℕ → Option Convention
convention_of name =
    if bytes_eq name (codes "F") then Some convention.Following
    else (if bytes_eq name (codes "P") then Some convention.Preceding
    else (if bytes_eq name (codes "MF") then Some convention.ModifiedFollowing else None))

abbrev pub counter_of : List ℕ → Option Counter
counter_of name =
    if bytes_eq name (codes "act360") then Some counter.Act360
    else (if bytes_eq name (codes "act365") then Some counter.Act365
    else (if bytes_eq name (codes "actact") then Some counter.ActAct
    else (if bytes_eq name (codes "thirty360") then Some counter.Thirty360
    else (if bytes_eq name (codes "thirtye360") then Some counter.ThirtyE360
    else (if bytes_eq name (codes "bus252") then Some counter.Bus252 else None)))))

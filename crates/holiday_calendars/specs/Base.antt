-- The business days of a single calendar.
use Rattle.std.specs.Prelude.{Bool, true, not, ℤ}
use Rattle.holiday_calendars.specs.declared.bases.Base.{Base}
use Rattle.holiday_calendars.specs.declared.bases.Base.TheVariants.{Null, Weekends, Target, Bespoke}
use Rattle.holiday_calendars.specs.Closed.{is_closed}
use Rattle.holiday_calendars.specs.Target.{is_target_day}
use Rattle.holiday_calendars.specs.Week.{is_weekday}

-- a business day of a single calendar
abbrev pub is_base_day : Base → ℤ → Bool
is_base_day Null day = true
is_base_day Weekends day = is_weekday day
is_base_day Target day = is_target_day day
is_base_day (Bespoke closed) day = not (is_closed closed day)

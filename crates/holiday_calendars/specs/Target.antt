-- The calendar of TARGET, the settlement system of the euro, with the holidays that it has had since 2002, in every year.
use Rattle.std.specs.Prelude.{ℕ, ◌==◌, Bool, not, ◌&&◌, ◌||◌, ℤ, pos, ◌+ℤ◌, ◌-ℤ◌}
use Rattle.std.specs.Ordering.{int_eq}
use Rattle.day_number.specs.Day.{date_of}
use Rattle.holiday_calendars.specs.Easter.{easter_day}
use Rattle.holiday_calendars.specs.Week.{is_weekday}

-- 1 January, 1 May, 25 December or 26 December
abbrev pub is_fixed_holiday : ℕ → ℕ → Bool
is_fixed_holiday month day =
    ((month == 1) && (day == 1)) || ((month == 5) && (day == 1))
    || ((month == 12) && (day == 25)) || ((month == 12) && (day == 26))

-- Good Friday, two days before Easter Sunday, or Easter Monday, one day after it
abbrev pub is_easter_holiday : ℤ → ℤ → Bool
is_easter_holiday year day =
    int_eq day (easter_day year -ℤ pos 2) || int_eq day (easter_day year +ℤ pos 1)

-- a day, weekends apart, on which TARGET is closed
unfoldable pub is_target_holiday : ℤ → Bool
is_target_holiday day =
    let date = date_of day in
    is_fixed_holiday date.month date.day || is_easter_holiday date.year day

-- a business day of TARGET
abbrev pub is_target_day : ℤ → Bool
is_target_day day = is_weekday day && not (is_target_holiday day)

-- The days at which a curve is drawn by its rates: every so many months after its reference day, before its last, and its last
-- (this project's profile).
use Rattle.std.specs.Prelude.{ℕ, zero, suc, ℤ, pos, ◌+◌, int_lt, false, if◌then◌else◌, List, [], ◌∷◌, Option, None, Some}
use Rattle.day_number.specs.declared.conventions.Convention.TheVariants.{Unadjusted}
use Rattle.day_number.specs.declared.tenors.Unit.TheVariants.{Months}
use Rattle.holiday_calendars.specs.declared.bases.Base.TheVariants.{Null}
use Rattle.holiday_calendars.specs.declared.calendars.Calendar.TheVariants.{One}
use Rattle.holiday_calendars.specs.Calendar.{is_business_day}
use Rattle.day_shift.specs.Advanced.{advanced}
use Rattle.curve_drawing.specs.declared.days.TheConstants.{MOST_MONTHS}

-- the day so many months after a day: the same day of that month, or its last one where it is shorter; none behind 2199
abbrev pub month_after : ℤ → ℕ → Option ℤ
month_after day count = advanced (is_business_day (One Null)) Months Unadjusted false day (pos count)

-- a day that is there and before the last
abbrev pub before : ℤ → Option ℤ → Option ℤ
before last None = None
before last (Some day) = if int_lt day last then Some day else None

abbrev pub next_day : ℤ → ℤ → ℕ → Option ℤ
next_day start last months = before last (month_after start months)

-- a day and those behind it; where there is none, the last
abbrev pub day_then : Option ℤ → ℤ → List ℤ → List ℤ
day_then None last rest = last ∷ []
day_then (Some day) last rest = day ∷ rest

-- the days so many months after a day and every so many months later, as many as are given, and the last
unfoldable pub days_on : ℤ → ℤ → ℕ → ℕ → ℕ → List ℤ
days_on start last every months zero = last ∷ []
days_on start last every months (suc more) =
    day_then (next_day start last months) last (days_on start last every (months + every) more)

-- THE DAYS of a curve
abbrev pub days_of : ℤ → ℤ → ℕ → List ℤ
days_of start last every = days_on start last every every MOST_MONTHS

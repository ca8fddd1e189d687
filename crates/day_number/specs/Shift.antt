-- Days before and after a day.
use Rattle.std.specs.Prelude.{◌≡◌, ◌+◌, ◌-◌, min, ℤ, pos, ◌+ℤ◌, ◌*ℤ◌, unsigned_abs}
use Rattle.std.specs.Int.{int_div_euclid, int_rem_euclid}
use Rattle.jiff_core.specs.declared.civil.date.Date.{Date}
use Rattle.jiff_core.specs.Calendar.{days_in_month}
use Rattle.jiff.specs.Words.{epoch_day, add_months}
use Rattle.day_number.specs.Day.{IsDayNumber, CivilDate, date_of, civil_number}

-- a date's month, counted from January of the year 0 (as jiff counts months)
abbrev pub month_number : CivilDate → ℤ
month_number date = date.year *ℤ pos 12 +ℤ pos (date.month - 1)

-- the date n months later: the same day of that month, or its last one where it is shorter (jiff's months)
abbrev pub date_months_later : CivilDate → ℤ → CivilDate
date_months_later date n =
    let months = month_number date +ℤ n in
    let year = int_div_euclid months (pos 12) in
    let month = unsigned_abs (int_rem_euclid months (pos 12)) + 1 in
    record { year = year; month = month; day = min date.day (days_in_month year month) }

-- the number of a date
abbrev pub number_of_date : CivilDate → ℤ
number_of_date date = civil_number date.year date.month date.day

-- the number of the day n months after a day
unfoldable pub months_later : ℤ → ℤ → ℤ
months_later day n = number_of_date (date_months_later (date_of day) n)

-- the number of the last day of a day's month
unfoldable pub last_of_month : ℤ → ℤ
last_of_month day =
    let date = date_of day in
    number_of_date (record date { day = days_in_month date.year date.month })

-- law: months are jiff's
abbrev pub AreJiffsMonths : Type 0
AreJiffsMonths =
    (date : Date) (n : ℤ) → IsDayNumber (epoch_day date) → months_later (epoch_day date) n ≡ add_months date n

-- Civil days as numbers: 1970-01-01 is 0, the first day is 1901-01-01 and the last 2199-12-31.
use Rattle.std.specs.Prelude.{◌≡◌, ℕ, zero, suc, ◌+◌, ◌-◌, ◌/◌, ◌%◌, nat_lt, if◌then◌else◌, List, [], ◌∷◌, ◌++◌, ℤ, pos, neg_ℤ, ◌+ℤ◌, unsigned_abs}
use Rattle.std.specs.Int.{IsInRange}
use Rattle.jiff_core.specs.Calendar.{IsBetween, days_in_month, days_in_year, days_from_civil}

-- the number of a day, from 1901-01-01 to 2199-12-31 (this project's range)
abbrev pub IsDayNumber : ℤ → Type 0
IsDayNumber number = IsBetween (neg_ℤ (pos 25_202)) (pos 84_005) number

-- a date of the Gregorian calendar from 1901-01-01 to 2199-12-31 (the calendar is jiff's, the range this project's)
abbrev pub IsCivil : ℤ → ℕ → ℕ → Type 0
IsCivil year month day =
    IsBetween (pos 1901) (pos 2199) year × IsInRange 1 12 month
    × IsInRange 1 (days_in_month year month) day

-- the number of a date: the days from 1970-01-01 to it, negative before (jiff's day number)
unfoldable pub civil_number : ℤ → ℕ → ℕ → ℤ
civil_number year month day = days_from_civil year month day

-- a date as its year, month and day
pub record CivilDate : Type 0 where
  pub year : ℤ
  pub month : ℕ
  pub day : ℕ

-- the date that lies `rest` days after the first of a month, counted on by whole months, at most `more` of them
unfoldable pub date_in_year : ℕ → ℤ → ℕ → ℕ → CivilDate
date_in_year zero year month rest = record { year = year; month = month; day = rest + 1 }
date_in_year (suc more) year month rest =
    if nat_lt rest (days_in_month year month)
    then record { year = year; month = month; day = rest + 1 }
    else date_in_year more year (month + 1) (rest - days_in_month year month)

-- the date that lies `rest` days after 1 January of a year, counted on by whole years, at most `more` of them
unfoldable pub date_after : ℕ → ℤ → ℕ → CivilDate
date_after zero year rest = date_in_year 11 year 1 rest
date_after (suc more) year rest =
    if nat_lt rest (days_in_year year) then date_in_year 11 year 1 rest
    else date_after more (year +ℤ pos 1) (rest - days_in_year year)

-- the date of a day, counted on from 1901-01-01
unfoldable pub date_of : ℤ → CivilDate
date_of number = date_after 298 (pos 1901) (unsigned_abs (number +ℤ pos 25_202))

-- a number below 100 as two decimal digits
abbrev pub two_digits : ℕ → List ℕ
two_digits n = (48 + n / 10) ∷ (48 + n % 10) ∷ []

-- YYYY-MM-DD of a date (ISO 8601)
abbrev pub date_text : ℕ → ℕ → ℕ → List ℕ
date_text year month day =
    two_digits (year / 100) ++ two_digits (year % 100) ++ 45 ∷ two_digits month
    ++ 45 ∷ two_digits day

-- YYYY-MM-DD of a day
abbrev pub day_text : ℤ → List ℕ
day_text number =
    let date = date_of number in date_text (unsigned_abs date.year) date.month date.day

-- each date of the range has a number of the range
abbrev pub EachDateHasANumber : Type 0
EachDateHasANumber =
    (year : ℤ) (month day : ℕ) → IsCivil year month day → IsDayNumber (civil_number year month day)

-- the date of a number
abbrev pub IsDateOf : ℤ → CivilDate → Type 0
IsDateOf number date =
    IsCivil date.year date.month date.day × (civil_number date.year date.month date.day ≡ number)

-- each number of the range has a date of the range
abbrev pub EachNumberHasADate : Type 0
EachNumberHasADate = (number : ℤ) → IsDayNumber number → IsDateOf number (date_of number)

-- and no other
abbrev pub NoNumberHasTwoDates : Type 0
NoNumberHasTwoDates =
    (number : ℤ) (one other : CivilDate) → IsDateOf number one → IsDateOf number other → one ≡ other

-- Days between two dates in months of 30 days and years of 360.
use Rattle.std.specs.Prelude.{ℕ, min, ◌==◌, if◌then◌else◌, ℤ, pos, negsuc, ◌+ℤ◌, ◌-ℤ◌, ◌*ℤ◌, ◌≤ℤ◌}
use Rattle.day_number.specs.Day.{IsDayNumber, CivilDate, date_of}

-- 360 for each year, 30 for each month and 1 for each day from one date to another (ISDA's 30/360)
abbrev pub thirty_days : CivilDate → CivilDate → ℤ
thirty_days from to =
    (to.year -ℤ from.year) *ℤ pos 360 +ℤ (pos to.month -ℤ pos from.month) *ℤ pos 30
    +ℤ (pos to.day -ℤ pos from.day)

-- the date with day 31 of the month taken as 30 (ISDA)
abbrev pub without_31st : CivilDate → CivilDate
without_31st date = record date { day = min date.day 30 }

-- the last date's day by Bond Basis: day 31 becomes 30 where the first date's day is 30 (ISDA)
abbrev pub bond_day : ℕ → ℕ → ℕ
bond_day first last = if first == 30 then min last 30 else last

-- the days by Bond Basis: the first date's day 31 becomes 30, and the last one's where the first one's is then 30
abbrev pub bond_basis_days : CivilDate → CivilDate → ℤ
bond_basis_days from to =
    let first = without_31st from in
    thirty_days first (record to { day = bond_day first.day to.day })

-- the days by the European rule: each day 31 becomes 30 (30E/360)
abbrev pub european_days : CivilDate → CivilDate → ℤ
european_days from to = thirty_days (without_31st from) (without_31st to)

-- a count of days, taken as 0 where it is negative (this project)
abbrev pub at_least_zero : ℤ → ℕ
at_least_zero (pos n) = n
at_least_zero (negsuc n) = 0

-- law: where the first day is not after the last one, neither count is negative
abbrev pub NeitherIsNegative : Type 0
NeitherIsNegative =
    (from to : ℤ) → IsDayNumber from → IsDayNumber to → from ≤ℤ to
    → (pos 0 ≤ℤ bond_basis_days (date_of from) (date_of to)) × (pos 0 ≤ℤ european_days (date_of from) (date_of to))

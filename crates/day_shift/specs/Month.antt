-- The months of days.
use Rattle.std.specs.Prelude.{◌≡◌, ◌↔◌, ◌<◌, ◌≤◌, Bool, ◌&&◌, nat_le, nat_lt, if◌then◌else◌, Option, Some, None, IsTrue, ℤ, pos}
use Rattle.std.specs.Int.Signed.{le_z}
use Rattle.std.specs.Ordering.{int_eq}
use Rattle.jiff_core.specs.Calendar.{IsBetween}
use Rattle.day_number.specs.Day.{IsDayNumber, date_of}
use Rattle.day_number.specs.Shift.{date_months_later, months_later, last_of_month}

-- another day lies in a day's month of its year
abbrev pub IsInMonth : ℤ → ℤ → Type 0
IsInMonth day other =
    ((date_of other).year ≡ (date_of day).year) × ((date_of other).month ≡ (date_of day).month)

-- the middle of a month, between the days 15 and 16, lies between the days (QuantLib's HalfMonthModifiedFollowing)
abbrev pub IsAcrossMiddle : ℤ → ℤ → Type 0
IsAcrossMiddle day other = ((date_of day).day ≤ 15) × (15 < (date_of other).day)

-- the month n months after a day's month lies in 1901 to 2199
abbrev pub IsMonthInRange : ℤ → ℤ → Type 0
IsMonthInRange day n = IsBetween (pos 1901) (pos 2199) (date_months_later (date_of day) n).year

-- the test of one month, which has one last day
abbrev pub is_same_month : ℤ → ℤ → Bool
is_same_month day other = int_eq (last_of_month day) (last_of_month other)

-- the test of the middle of a month
abbrev pub is_across_middle : ℤ → ℤ → Bool
is_across_middle day other = nat_le (date_of day).day 15 && nat_lt 15 (date_of other).day

-- the day n months after a day, clipped to the month's last, and none outside 1901 to 2199
abbrev pub month_at : ℤ → ℤ → Option ℤ
month_at day n =
    let year = (date_months_later (date_of day) n).year in
    if le_z (pos 1901) year && le_z year (pos 2199) then Some (months_later day n) else None

-- law: two days have one last day of the month exactly where year and month of their dates are the same
abbrev pub OneMonthIsYearAndMonth : Type 0
OneMonthIsYearAndMonth =
    (day other : ℤ)
    → IsDayNumber day → IsDayNumber other → IsTrue (is_same_month day other) ↔ IsInMonth day other

-- ISDA's Actual/Actual, day by day.
use Rattle.std.specs.Prelude.{ℕ, zero, suc, ◌+◌, if◌then◌else◌, ℤ, pos, ◌+ℤ◌}
use Rattle.jiff_core.specs.Calendar.{is_leap_year}
use Rattle.day_number.specs.Day.{date_of}
use Rattle.year_parts.specs.declared.bases.Basis.{Basis}
use Rattle.year_parts.specs.declared.bases.Basis.TheVariants.{D365, D366}
use Rattle.year_parts.specs.Basis.{parts_in_day}

-- the days over which a day of a year counts: 366 in a leap year, and else 365 (ISDA's Actual/Actual)
abbrev pub basis_of_year : ℤ → Basis
basis_of_year year = if is_leap_year year then D366 else D365

-- the parts of one day, by the year that it lies in (ISDA's Actual/Actual)
abbrev pub parts_of_day : ℤ → ℕ
parts_of_day day = parts_in_day (basis_of_year (date_of day).year)

-- the parts of the first n days from a day on, day by day (ISDA's Actual/Actual)
unfoldable pub act_act : ℤ → ℕ → ℕ
act_act from zero = 0
act_act from (suc n) = act_act from n + parts_of_day (from +ℤ pos n)

-- The deposit whose rate an index gives (QuantLib's IborIndex).
use Rattle.std.specs.Prelude.{ℕ, ℤ, pos, Bool, false, int_lt, ◌<ℤ◌, if◌then◌else◌, Option, Some, None, Result, Ok, Err, option_and_then}
use Rattle.jiff_core.specs.Calendar.{IsBetween}
use Rattle.day_number.specs.declared.conventions.Convention.TheVariants.{Following}
use Rattle.day_number.specs.declared.tenors.Unit.TheVariants.{Days}
use Rattle.year_parts.specs.declared.counters.Counter.{Counter}
use Rattle.year_parts.specs.Basis.{most_of_a_period}
use Rattle.holiday_calendars.specs.Calendar.{is_business_day}
use Rattle.day_shift.specs.Advanced.{advanced}
use Rattle.day_counters.specs.Counter.{frac}
use Rattle.desk_terms.specs.declared.cause.Cause.{Cause}
use Rattle.desk_terms.specs.declared.cause.Cause.TheVariants.{DateRange}
use Rattle.flow_terms.specs.declared.indexes.IndexTerms.{IndexTerms}

-- a value day, a maturity and the part of the year between them
abbrev pub Period : Type 0
Period = ℤ × ℤ × ℤ

-- the maturity is after the value day, and the part of the year is at most that of 110,000 days over 360
abbrev pub IsPeriod : Period → Type 0
IsPeriod period = (period.0 <ℤ period.1) × IsBetween (pos 0) (pos most_of_a_period) period.2

-- the day from which a rate runs: the fixing days after the day of the fixing (InterestRateIndex::valueDate)
abbrev pub value_day : IndexTerms → ℤ → Option ℤ
value_day terms day = advanced (is_business_day terms.cal) Days Following false day (pos terms.fixing_days)

-- the day to which it runs: the tenor after its value day (IborIndex::maturityDate)
abbrev pub maturity_day : IndexTerms → ℤ → Option ℤ
maturity_day terms value =
    advanced (is_business_day terms.cal) terms.tenor.unit terms.conv terms.eom value terms.tenor.count

-- from a value day to a maturity, which is after it, by the business days of a calendar
abbrev pub period_between : Counter → (ℤ → Bool) → ℤ → ℤ → Option Period
period_between counter business value maturity =
    if int_lt value maturity then Some (value, maturity, pos (frac counter business value maturity)) else None

abbrev pub period_from : IndexTerms → ℤ → Option Period
period_from terms value = option_and_then (period_between terms.counter (is_business_day terms.cal) value) (maturity_day terms value)

-- of a rate that is fixed on a day, where its days are in range
abbrev pub period_at : IndexTerms → ℤ → Option Period
period_at terms day = option_and_then (period_from terms) (value_day terms day)

abbrev pub or_date_range : ℕ → Option Period → Result Period Cause
or_date_range x (Some period) = Ok period
or_date_range x None = Err (DateRange x)

-- the same of the index x, or that a day leaves the range
unfoldable pub period_of : ℕ → IndexTerms → ℤ → Result Period Cause
period_of x terms day = or_date_range x (period_at terms day)

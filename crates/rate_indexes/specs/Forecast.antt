-- A rate of an index from a discount curve.
use Rattle.std.specs.Prelude.{ℕ, ◌*◌, ◌^◌, ℤ, pos, ◌-ℤ◌, ◌*ℤ◌, unsigned_abs, nat_le, if◌then◌else◌, Result, Ok, Err}
use Rattle.std.specs.Ordering.{int_eq}
use Rattle.year_parts.specs.Parts.{parts_in_year}
use Rattle.fixed_amount.specs.Rounding.{closest}
use Rattle.curve_points.specs.declared.points.PointFault as point
use Rattle.curve_points.specs.Curve.{Curve}
use Rattle.curve_points.specs.Point.{discount_at}
use Rattle.desk_terms.specs.declared.cause.Cause.{Cause}
use Rattle.desk_terms.specs.declared.cause.Cause.TheVariants.{Before, Past, RateRange}
use Rattle.flow_terms.specs.declared.limits.TheConstants.{MOST_RATE}
use Rattle.flow_terms.specs.declared.indexes.IndexTerms.{IndexTerms}
use Rattle.rate_indexes.specs.Period.{Period, period_of}

-- a rate of 1 for a whole year: 10^9 units times the parts of a year
abbrev pub whole : ℤ
whole = pos (10 ^ 9 * parts_in_year)

-- a factor that is there, or the cause by the curve's owner
abbrev pub factor_or_cause : ℕ → ℤ → Result ℤ point.PointFault → Result ℤ Cause
factor_or_cause owner day (Ok factor) = Ok factor
factor_or_cause owner day (Err point.TheVariants.Before) = Err (Before owner day)
factor_or_cause owner day (Err point.TheVariants.Past) = Err (Past owner day)

abbrev pub factor_at : Curve → ℤ → Result ℤ Cause
factor_at curve day = factor_or_cause curve.owner day (discount_at curve day)

-- the rate from a factor to a later one, by the part of the year between them, rounded once
abbrev pub simple_rate : ℤ → ℤ → ℤ → ℤ
simple_rate first last parts = closest ((first -ℤ last) *ℤ whole) (unsigned_abs (last *ℤ parts))

-- a rate within 10 either way (this project's limit)
abbrev pub rate_or_cause : ℕ → ℤ → Result ℤ Cause
rate_or_cause x rate = if nat_le (unsigned_abs rate) MOST_RATE then Ok rate else Err (RateRange x)

-- the rate of the index x over a part of the year that is not 0
abbrev pub forward_rate : ℕ → ℤ → ℤ → ℤ → Result ℤ Cause
forward_rate x first last parts =
    if int_eq parts (pos 0) then Err (RateRange x) else rate_or_cause x (simple_rate first last parts)

-- what a step makes of a value that is there; else its cause
abbrev pub on_value : {A : Type 0} → (A → Result ℤ Cause) → Result A Cause → Result ℤ Cause
on_value step (Ok value) = step value
on_value step (Err cause) = Err cause

-- the factor at the value day is read first, and then that at the maturity
abbrev pub rate_over : ℕ → Curve → Period → Result ℤ Cause
rate_over x curve period =
    on_value
    (λ first. on_value (λ last. forward_rate x first last period.2) (factor_at curve period.1))
    (factor_at curve period.0)

-- the rate of the index x that is fixed on a day, as the curve has it (IborIndex::forecastFixing)
unfoldable pub forecast_of : ℕ → IndexTerms → ℤ → Curve → Result ℤ Cause
forecast_of x terms day curve = on_value (rate_over x curve) (period_of x terms day)

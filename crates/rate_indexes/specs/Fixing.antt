-- The rate of an index on a day.
use Rattle.std.specs.Prelude.{ℕ, ℤ, int_lt, if◌then◌else◌, Option, Some, None, Result, Ok, Err}
use Rattle.curve_points.specs.Curve.{Curve}
use Rattle.desk_terms.specs.declared.cause.Cause.{Cause}
use Rattle.desk_terms.specs.declared.cause.Cause.TheVariants.{NoFixing}
use Rattle.flow_terms.specs.declared.indexes.IndexTerms.{IndexTerms}
use Rattle.flow_terms.specs.Fixings.{Stored, fixing_on}
use Rattle.rate_indexes.specs.Forecast.{forecast_of}

-- the forecast from a curve that is given; without one there is no rate
abbrev pub forecast_by : ℕ → IndexTerms → ℤ → Option Curve → Result ℤ Cause
forecast_by x terms day (Some curve) = forecast_of x terms day curve
forecast_by x terms day None = Err (NoFixing x day)

abbrev pub stored_or : Option ℤ → Result ℤ Cause → Result ℤ Cause
stored_or (Some rate) other = Ok rate
stored_or None other = other

-- the rate of the index x that is fixed on a day: of a later day than today the forecast; else the stored one, and
-- without one the forecast on today alone (InterestRateIndex::fixing)
unfoldable pub fixing_of : ℕ → IndexTerms → Stored → ℤ → ℤ → Option Curve → Result ℤ Cause
fixing_of x terms fixings today day curve =
    if int_lt today day
    then forecast_by x terms day curve
    else stored_or (fixing_on fixings day)
    (if int_lt day today then Err (NoFixing x day) else forecast_by x terms day curve)

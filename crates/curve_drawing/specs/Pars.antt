-- The par rates of a curve's helpers beside their quotes (this project's profile).
use Rattle.std.specs.Prelude.{ℕ, ℤ, List, [], ◌∷◌, Result, Ok, Err}
use Rattle.holiday_calendars.specs.declared.calendars.Calendar.{Calendar}
use Rattle.curve_terms.specs.declared.terms.Helper.{Helper}
use Rattle.curve_points.specs.Curve.{Curve}
use Rattle.curve_bootstrap.specs.declared.faults.HelperFault.{HelperFault}
use Rattle.curve_bootstrap.specs.declared.faults.HelperFault.TheVariants as fault
use Rattle.curve_bootstrap.specs.declared.pars.ParRate.{ParRate}
use Rattle.curve_bootstrap.specs.Par.{par_rate}
use Rattle.desk_terms.specs.declared.cause.Cause.{Cause}
use Rattle.desk_terms.specs.declared.cause.Cause.TheVariants.{DateRange, RateRange}
use Rattle.rate_indexes.specs.Forecast.{rate_or_cause}
use Rattle.curve_drawing.specs.declared.lines.PlotPoint.{PlotPoint}
use Rattle.curve_drawing.specs.declared.pars.Quoted as given
use Rattle.curve_drawing.specs.PlotPoints.{point_then}

-- the helpers that a curve is built from, over its calendar, with the rates of their quotes in the same order
pub record Quotes : Type 0 where
  pub cal : Calendar
  pub helpers : List Helper
  pub rates : List ℤ

abbrev pub quoted_in : given.Quoted → Quotes
quoted_in quoted = record { cal = quoted.cal.now; helpers = quoted.helpers.now; rates = quoted.rates.now }

-- why there is no par rate, as it is told of the curve's owner
abbrev pub cause_of : ℕ → HelperFault → Cause
cause_of owner fault.DateRange = DateRange owner
cause_of owner fault.Pillar = RateRange owner
cause_of owner fault.RateRange = RateRange owner
cause_of owner fault.Negative = RateRange owner
cause_of owner fault.Discount = RateRange owner
cause_of owner fault.NoMemory = RateRange owner

-- a par rate at the end of its helper, beside a quote that is within 10 either way
abbrev pub beside : ParRate → Result ℤ Cause → Result PlotPoint Cause
beside par (Ok quote) = Ok (record { from = par.end; until = par.end; units = par.rate; quoted = quote })
beside par (Err cause) = Err cause

abbrev pub par_point_of : ℕ → ℤ → Result ParRate HelperFault → Result PlotPoint Cause
par_point_of owner quote (Ok par) = beside par (rate_or_cause owner quote)
par_point_of owner quote (Err fault) = Err (cause_of owner fault)

abbrev pub par_point : Calendar → Curve → Helper → ℤ → Result PlotPoint Cause
par_point cal curve helper quote = par_point_of curve.owner quote (par_rate cal curve helper)

-- those of helpers, as far as there are quotes; the first that is refused is the answer
unfoldable pub points_of : Calendar → Curve → List Helper → List ℤ → Result (List PlotPoint) Cause
points_of cal curve [] quotes = Ok []
points_of cal curve (helper ∷ helpers) [] = Ok []
points_of cal curve (helper ∷ helpers) (quote ∷ quotes) =
    point_then (par_point cal curve helper quote) (points_of cal curve helpers quotes)

-- THE PAR RATES of a curve
abbrev pub par_points : Quotes → Curve → Result (List PlotPoint) Cause
par_points quotes curve = points_of quotes.cal curve quotes.helpers quotes.rates

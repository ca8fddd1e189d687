-- Rates of a curve: simple interest over Act/365, by the formula of an index (QuantLib's YieldTermStructure::zeroRate and
-- forwardRate with Simple and Actual365Fixed, but for the rounding).
use Rattle.std.specs.Prelude.{ℤ, pos, ◌*◌, ◌-ℤ◌, unsigned_abs, Result}
use Rattle.year_parts.specs.declared.bases.Basis.TheVariants.{D365}
use Rattle.year_parts.specs.Basis.{parts_in_day}
use Rattle.curve_points.specs.Curve.{Curve}
use Rattle.desk_terms.specs.declared.cause.Cause.{Cause}
use Rattle.rate_indexes.specs.Forecast.{rate_over}

-- the part of the year between two days
abbrev pub parts_between : ℤ → ℤ → ℤ
parts_between from until = pos (unsigned_abs (until -ℤ from) * parts_in_day D365)

-- THE RATE of a curve from a day to a later one, which is a forward rate; from its reference day it is a zero rate. It is refused
-- where it is beyond 10 either way.
abbrev pub rate_between : Curve → ℤ → ℤ → Result ℤ Cause
rate_between curve from until = rate_over curve.owner curve (from, until, parts_between from until)

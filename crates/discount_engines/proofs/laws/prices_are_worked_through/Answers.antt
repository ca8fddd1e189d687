use Rattle.std.proofs.Common.{refl}
use Rattle.day_number.specs.Day.{civil_number, date_of, date_after, date_in_year}
use Rattle.holiday_calendars.specs.Calendar.{is_business_day}
use Rattle.day_shift.specs.Business.{first_from, last_to, next, previous}
use Rattle.day_shift.specs.Adjusted.{adjusted}
use Rattle.day_shift.specs.Advanced.{advanced, days_after, days_before}
use Rattle.day_counters.specs.Counter.{frac}
use Rattle.curve_points.specs.Point.{beyond, discount_at}
use Rattle.rate_indexes.specs.Period.{period_of}
use Rattle.rate_indexes.specs.Forecast.{forecast_of}
use Rattle.rate_indexes.specs.Fixing.{fixing_of}
use Rattle.cash_flow_legs.specs.Interest.{interest}
use Rattle.discount_engines.specs.Worth.{worth}
use Rattle.discount_engines.proofs.laws.prices_are_worked_through.Goals as goal

pub returns : goal.returns
unfolding is_business_day civil_number date_of date_after date_in_year first_from last_to next previous adjusted advanced days_after days_before frac beyond discount_at period_of forecast_of fixing_of interest worth
returns c = record {
  whole = refl;
  half_away_from_zero = refl;
  less_than_half = refl;
  spread = refl;
  greatest_spread = refl;
  spread_beyond = refl;
  empty = refl;
  bond = refl;
  bond_at_a_higher_rate = refl;
  expired = refl;
  par = refl;
  agreed = refl;
  swap = refl;
  swap_unfixed = refl;
  swap_fixed = refl;
  one_rounding = refl;
  paid_today = refl;
  paid_at_the_reference_day = refl;
  amount_first = refl;
  first_flow_first = refl;
  greatest_value = refl;
  value_beyond = refl;
  spread_added = refl;
  spread_taken = refl;
  spread_over_a_stored_rate = refl;
  paid_after_a_holiday = refl;
  month_ends = refl;
  repaid_before_the_curve = refl;
}

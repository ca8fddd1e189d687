use Rattle.std.proofs.Common.{refl}
use Rattle.jiff_core.specs.Calendar.{days_from_civil, day_count, days_of_years, days_of_months, weekday_number}
use Rattle.day_number.specs.Day.{civil_number, date_of, date_after, date_in_year}
use Rattle.day_number.specs.Shift.{months_later, last_of_month}
use Rattle.holiday_calendars.specs.Calendar.{is_business_day}
use Rattle.holiday_calendars.specs.Easter.{moon_days, sunday_days, early_weeks, easter_place, easter_day}
use Rattle.holiday_calendars.specs.Target.{is_target_holiday}
use Rattle.day_shift.specs.Business.{first_from, last_to, next, previous}
use Rattle.day_shift.specs.Adjusted.{adjusted}
use Rattle.day_shift.specs.Advanced.{advanced, days_after}
use Rattle.day_counters.specs.Counter.{frac}
use Rattle.curve_points.specs.Point.{beyond, discount_at}
use Rattle.rate_indexes.specs.Period.{period_of}
use Rattle.rate_indexes.specs.Forecast.{forecast_of}
use Rattle.rate_indexes.specs.Fixing.{fixing_of}
use Rattle.rate_indexes.proofs.laws.rates_are_worked_through.Goals as goal

pub returns : goal.returns
unfolding is_business_day is_target_holiday weekday_number date_of date_after date_in_year moon_days sunday_days early_weeks easter_place easter_day civil_number days_from_civil day_count days_of_years days_of_months months_later last_of_month next previous first_from last_to adjusted advanced days_after frac beyond discount_at period_of forecast_of fixing_of
returns c = record {
  period = refl;
  forecast = refl;
  today = refl;
  stored = refl;
  stored_later = refl;
  yesterday = refl;
  yesterday_stored = refl;
  past = refl;
  before = refl;
  month_end = refl;
  same_day = refl;
  last_business_day = refl;
  kept_in_its_month = refl;
  fixed_over_easter = refl;
  fixed_on_a_weekend = refl;
  month_end_rate = refl;
  same_day_rate = refl;
}

use Rattle.std.proofs.Common.{refl}
use Rattle.jiff_core.specs.Calendar.{days_from_civil, day_count, days_of_years, days_of_months, weekday_number}
use Rattle.day_number.specs.Day.{civil_number, date_of, date_after, date_in_year}
use Rattle.day_number.specs.Shift.{months_later, last_of_month}
use Rattle.holiday_calendars.specs.Calendar.{is_business_day}
use Rattle.holiday_calendars.specs.Easter.{moon_days, sunday_days, early_weeks, easter_place, easter_day}
use Rattle.holiday_calendars.specs.Target.{is_target_holiday}
use Rattle.day_shift.specs.Business.{first_from, last_to, next, previous}
use Rattle.day_shift.specs.Adjusted.{adjusted}
use Rattle.day_shift.specs.Advanced.{advanced, days_after, days_before}
use Rattle.day_counters.specs.Counter.{frac}
use Rattle.schedule_rules.specs.Step.{step, steps_from}
use Rattle.schedule_rules.specs.Raw.{put_into, raw_days}
use Rattle.schedule_rules.specs.Schedule.{each_of, schedule}
use Rattle.curve_points.specs.Point.{beyond, discount_at}
use Rattle.rate_indexes.specs.Period.{period_of}
use Rattle.rate_indexes.specs.Forecast.{forecast_of}
use Rattle.rate_indexes.specs.Fixing.{fixing_of}
use Rattle.cash_flow_legs.specs.Interest.{interest}
use Rattle.cash_flow_legs.specs.Legs.{periods_from}
use Rattle.cash_flow_legs.specs.Live.{with_amounts}
use Rattle.cash_flow_legs.proofs.laws.flows_are_worked_through.Goals as goal

pub returns : goal.returns
unfolding schedule each_of adjusted next previous first_from last_to raw_days put_into step steps_from months_later last_of_month is_business_day is_target_holiday weekday_number date_of date_after date_in_year moon_days sunday_days early_weeks easter_place easter_day civil_number days_from_civil day_count days_of_years days_of_months advanced days_after days_before frac beyond discount_at period_of forecast_of fixing_of interest periods_from with_amounts
returns c = record {
  fixed = refl;
  floating = refl;
  swap = refl;
  swap_paid = refl;
  swap_settled = refl;
  agreement = refl;
  settled = refl;
  days = λ cal. refl;
  coupons = refl;
  redeemed = refl;
  redeemed_late = refl;
  redeemed_two_after = refl;
  redeemed_one_after_a_sunday = refl;
  redeemed_never = refl;
  redeemed_on_the_last_day = refl;
  fixed_before = refl;
  fixed_two_before = refl;
  fixing_first = refl;
  then_period = refl;
  no_divisor = refl;
  paid_after_a_holiday = refl;
  floating_after_a_holiday = refl;
  paid_two_after = refl;
  floating_two_after = refl;
  spread_added = refl;
  spread_taken = refl;
  spread_paid = refl;
}

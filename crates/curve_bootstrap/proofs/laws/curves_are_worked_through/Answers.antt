use Rattle.std.proofs.Common.{refl, true, false, pos}
use Rattle.jiff_core.specs.Calendar.{days_from_civil, day_count, days_of_years, days_of_months, weekday_number}
use Rattle.day_number.specs.Day.{civil_number, date_of, date_after, date_in_year}
use Rattle.day_number.specs.Shift.{months_later, last_of_month}
use Rattle.holiday_calendars.specs.Calendar.{is_business_day}
use Rattle.holiday_calendars.specs.Easter.{moon_days, sunday_days, early_weeks, easter_place, easter_day}
use Rattle.holiday_calendars.specs.Target.{is_target_holiday}
use Rattle.day_shift.specs.Business.{first_from, last_to, next, previous}
use Rattle.day_shift.specs.Adjusted.{adjusted}
use Rattle.day_shift.specs.Advanced.{advanced, days_after, days_before}
use Rattle.day_counters.specs.Counter.{frac}
use Rattle.schedule_rules.specs.Step.{step, steps_from}
use Rattle.schedule_rules.specs.Raw.{put_into, raw_days}
use Rattle.schedule_rules.specs.Schedule.{each_of, schedule}
use Rattle.curve_points.specs.Point.{beyond, discount_at}
use Rattle.curve_bootstrap.specs.Coupon.{total}
use Rattle.curve_bootstrap.specs.Node.{excess, node_of}
use Rattle.curve_bootstrap.specs.Built.{coupons_of, nodes_of, built_curve}
use Rattle.curve_bootstrap.proofs.BuiltRows.{node_at_a_month_end, node_by_the_day, built_to}
use Rattle.curve_bootstrap.proofs.laws.curves_are_worked_through.Goals as goal

pub returns : goal.returns
unfolding schedule each_of adjusted next previous first_from last_to raw_days put_into step steps_from months_later last_of_month is_business_day is_target_holiday weekday_number date_of date_after date_in_year moon_days sunday_days early_weeks easter_place easter_day civil_number days_from_civil day_count days_of_years days_of_months advanced days_after days_before frac beyond total excess node_of coupons_of nodes_of built_curve discount_at
returns c = record {
  settled = refl;
  settled_over_easter = refl;
  settled_from_a_weekend = refl;
  settled_past = refl;
  fixed_on_a_holiday = refl;
  deposit_to_a_month_end = refl;
  deposit_by_the_day = refl;
  deposit_to_a_last_business_day = refl;
  deposit_over_easter = refl;
  deposit_from_a_last_business_day = refl;
  deposit_in_its_month = refl;
  swap_at_month_ends = refl;
  swap_by_the_day = refl;
  swap_month_end_adjusted = refl;
  swap_end_following = refl;
  swap_end_preceding = refl;
  swap_end_unadjusted = refl;
  deposit_from_a_holiday = refl;
  days_from_a_holiday = refl;
  swap_from_a_holiday_following = refl;
  swap_from_a_holiday_preceding = refl;
  swap_from_a_holiday_unadjusted = refl;
  deposit_par = refl;
  swap_par = refl;
  swap_below_par = refl;
  short_curve = refl;
  par_past = refl;
  deposit_past = refl;
  swap_past = refl;
  built_past = refl;
  month_end_not_passed = refl;
  second_rate_beyond = refl;
  node_at_a_month_end = node_at_a_month_end;
  node_by_the_day = node_by_the_day;
  built_at_a_month_end = built_to 19_843 1_028_643 true (pos 996_710_854_182) refl node_at_a_month_end;
  built_by_the_day = built_to 19_842 997_472 false (pos 996_810_207_337) refl node_by_the_day;
}

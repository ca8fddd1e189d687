use Rattle.std.proofs.Common.{refl}
use Rattle.jiff_core.specs.Calendar.{days_from_civil, day_count, days_of_years, days_of_months}
use Rattle.day_number.specs.Day.{civil_number, date_in_year, date_after, date_of}
use Rattle.day_number.specs.Shift.{months_later}
use Rattle.day_shift.specs.Advanced.{advanced, days_after, days_before}
use Rattle.day_shift.specs.Adjusted.{adjusted}
use Rattle.curve_points.specs.Point.{beyond, discount_at}
use Rattle.holiday_calendars.specs.Calendar.{is_business_day}
use Rattle.day_shift.specs.Business.{first_from, last_to, next, previous}
use Rattle.day_counters.specs.Counter.{frac}
use Rattle.curve_bootstrap.specs.Built.{coupons_of}
use Rattle.curve_bootstrap.specs.Coupon.{total}
use Rattle.curve_drawing.specs.Days.{days_on}
use Rattle.curve_drawing.specs.Lines.{rate_points}
use Rattle.curve_drawing.specs.Pars.{points_of}
use Rattle.curve_drawing.proofs.line_rows.rates_are_worked_through.Goals as goal

pub returns : goal.returns
unfolding total coupons_of points_of frac is_business_day days_after days_before first_from last_to next previous days_from_civil day_count days_of_years days_of_months civil_number date_in_year date_after date_of months_later advanced adjusted beyond discount_at days_on rate_points
returns c = record { quarters = refl; cut = refl; month_end = refl; factors = refl; zeros = refl; forwards = refl; none = refl; pars = refl; within = refl; no_helper = refl; no_quote = refl; beyond = refl; unreached = refl; out_of_range = refl }

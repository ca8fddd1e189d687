use Rattle.std.proofs.Common.{refl}
use Rattle.std.specs.Fmt.{digits}
use Rattle.walks.specs.Walk.{below_by}
use Rattle.day_number.specs.Day.{civil_number, date_of, date_after, date_in_year}
use Rattle.holiday_calendars.specs.Calendar.{is_business_day}
use Rattle.day_shift.specs.Business.{first_from, last_to, next, previous}
use Rattle.day_shift.specs.Adjusted.{adjusted}
use Rattle.day_shift.specs.Advanced.{advanced, days_after, days_before}
use Rattle.day_counters.specs.Counter.{frac}
use Rattle.curve_points.specs.Point.{beyond, discount_at}
use Rattle.curve_points.specs.Implied.{implied_curve}
use Rattle.fixed_amount.specs.Decimal.{decimal_text}
use Rattle.desk_names.specs.Names.{has_text, place_of}
use Rattle.rate_indexes.specs.Period.{period_of}
use Rattle.rate_indexes.specs.Forecast.{forecast_of}
use Rattle.rate_indexes.specs.Fixing.{fixing_of}
use Rattle.cash_flow_legs.specs.Interest.{interest}
use Rattle.discount_engines.specs.Worth.{worth}
use Rattle.desk_model.specs.Uses.{input_by, input_at}
use Rattle.desk_model.specs.Fresh.{answer_by, fresh}
use Rattle.desk_model.specs.State.{is_frozen, is_source, is_late, is_late_of, is_clear, least_source, held_outcome, seen_outcome, now, mark_of, shows}
use Rattle.desk_model.specs.Visit.{visit_by, runs, stored, asked}
use Rattle.desk_model.specs.Told.{told, tell, forwards}
use Rattle.desk_model.specs.Effect.{made, notified, revised, quote_set, relinked, engine_set, today_set, fixing_added, frozen_set, deferred}
use Rattle.price_report.specs.Line.{point_text, asked_line}
use Rattle.session_model.specs.Standing.{named_from, with_objects}
use Rattle.session_model.specs.Resolve.{find}
use Rattle.why_model.specs.Workings.{each_flow}
use Rattle.why_model.specs.Listing.{with_object, listing}
use Rattle.why_model.specs.Answer.{object_lines, lines_of_each, why_text}
use Rattle.why_model.proofs.rows.later_answers_are_worked_through.Goals as goal

pub returns : goal.returns
unfolding digits below_by civil_number date_in_year date_after date_of first_from last_to next previous adjusted advanced days_after days_before is_business_day frac beyond discount_at decimal_text has_text place_of input_by input_at answer_by fresh is_frozen is_source is_late is_late_of is_clear least_source held_outcome seen_outcome now mark_of shows visit_by runs stored asked told tell forwards made notified revised quote_set relinked engine_set today_set fixing_added frozen_set deferred point_text asked_line period_of forecast_of fixing_of interest worth implied_curve named_from with_objects find each_flow with_object listing object_lines lines_of_each why_text
returns c = record {
  frozen = refl;
  late = refl;
  stored = refl;
  expired = refl;
  empty = refl;
  refused_member = refl;
  without_engine = refl;
  unset = refl;
}

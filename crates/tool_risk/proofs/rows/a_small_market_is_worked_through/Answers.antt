use Rattle.std.proofs.Common.{refl}
use Rattle.std.specs.Fmt.{digits}
use Rattle.desk_names.specs.Names.{has_text, place_of}
use Rattle.fixed_amount.specs.Decimal.{decimal_text}
use Rattle.walks.specs.Walk.{below_by}
use Rattle.desk_model.specs.Links.{reaches}
use Rattle.desk_model.specs.Uses.{input_by, input_at}
use Rattle.desk_model.specs.Fresh.{answer_by, fresh}
use Rattle.desk_model.specs.State.{is_frozen, is_source, is_late, held_outcome, seen_outcome, now}
use Rattle.desk_model.specs.Visit.{visit_by, runs, stored, asked}
use Rattle.desk_model.specs.Told.{forwards, told, tell}
use Rattle.desk_model.specs.Effect.{made, notified, revised, quote_set, today_set}
use Rattle.market_desk.specs.Making.{with_made}
use Rattle.bump_model.specs.Moves.{with_values, all_set}
use Rattle.bump_model.specs.Asking.{each_asking, rung_asking, rungs_asking, ladder_asking}
use Rattle.bump_model.specs.Quotes.{quotes_below}
use Rattle.tool_risk.specs.Asking.{instrument_asking}
use Rattle.tool_risk.specs.Curves.{curves_below}
use Rattle.tool_risk.specs.Lines.{figure_row, sum_rows, shift_rows, bump_rows, bumps_rows, theta_row, refused_row, unnamed_row, name_text, names_text, risk_text}
use Rattle.day_number.specs.Day.{date_in_year, date_after, date_of}
use Rattle.day_shift.specs.Advanced.{days_after, advanced}
use Rattle.day_shift.specs.Business.{first_from, next}
use Rattle.holiday_calendars.specs.Calendar.{is_business_day}
use Rattle.cash_flow_legs.specs.Live.{with_amounts}
use Rattle.tool_risk.specs.Dues.{dues}
use Rattle.tool_risk.specs.Given.{naming_below, curves_given}
use Rattle.tool_risk.specs.Theta.{day_asking, theta_asking}
use Rattle.tool_risk.proofs.rows.a_small_market_is_worked_through.Goals as goal

pub returns : goal.returns
unfolding digits date_in_year date_after date_of days_after advanced first_from next is_business_day with_amounts dues naming_below curves_given each_asking day_asking theta_asking instrument_asking has_text place_of decimal_text below_by reaches input_by input_at answer_by fresh is_frozen is_source is_late held_outcome seen_outcome now visit_by runs stored asked forwards told tell made notified revised quote_set today_set with_made with_values all_set rung_asking rungs_asking ladder_asking quotes_below curves_below figure_row sum_rows shift_rows bump_rows bumps_rows theta_row refused_row unnamed_row name_text names_text risk_text
returns c = record {
  stock = refl;
  refused = refl;
  others = refl;
  shift = refl;
  calls = refl;
  nothing = refl;
}

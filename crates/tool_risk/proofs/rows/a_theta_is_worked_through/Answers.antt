use Rattle.std.proofs.Common.{refl}
use Rattle.walks.specs.Walk.{below_by}
use Rattle.holiday_calendars.specs.Calendar.{is_business_day}
use Rattle.day_shift.specs.Advanced.{days_after, advanced}
use Rattle.day_shift.specs.Business.{first_from, next}
use Rattle.cash_flow_legs.specs.Live.{with_amounts}
use Rattle.desk_model.specs.Links.{reaches}
use Rattle.desk_model.specs.Uses.{input_by, input_at}
use Rattle.desk_model.specs.Fresh.{answer_by, fresh}
use Rattle.tool_risk.specs.Curves.{curves_below}
use Rattle.tool_risk.specs.Dues.{dues}
use Rattle.tool_risk.specs.Given.{naming_below, curves_given}
use Rattle.tool_risk.proofs.rows.a_theta_is_worked_through.Goals as goal

pub returns : goal.returns
unfolding days_after advanced first_from next is_business_day with_amounts dues naming_below curves_given below_by reaches input_by input_at answer_by fresh curves_below
returns c = record {
  day = refl;
  paid_bond = refl;
  paid_later = refl;
  paid_stock = refl;
  paid_composite = refl;
  bond = refl;
  refused = refl;
  unpaid = refl;
  reference_day = refl;
  last_day = refl;
}

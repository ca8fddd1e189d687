use Rattle.std.proofs.Common.{refl}
use Rattle.jiff_core.specs.Calendar.{days_from_civil, day_count, days_of_years, days_of_months}
use Rattle.day_number.specs.Day.{civil_number}
use Rattle.day_number.specs.Text.{day_of_text}
use Rattle.fixed_amount.specs.Decimal.{decimal_value}
use Rattle.tool_bond.proofs.rows.words_are_worked_through.Goals as goal

pub returns : goal.returns
unfolding day_of_text civil_number days_from_civil day_count days_of_years days_of_months decimal_value
returns c = record {
  four = refl;
  below_zero = refl;
  greatest = refl;
  too_large = refl;
  places = refl;
  no_price = refl;
  no_day = refl;
  too_early = refl;
  three = refl;
  option = refl;
  empty = refl;
}

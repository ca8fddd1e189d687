use Rattle.std.proofs.Common.{refl}
use Rattle.fixed_amount.specs.Decimal.{decimal_value}
use Rattle.desk_names.specs.Name.{is_name, has_form, is_name_byte, is_reserved}
use Rattle.tool_risk.proofs.rows.words_are_worked_through.Goals as goal

pub returns : goal.returns
unfolding decimal_value is_name has_form is_name_byte is_reserved
returns c = record {
  point = refl;
  least = refl;
  most = refl;
  beyond = refl;
  zero = refl;
  below = refl;
  places = refl;
  word = refl;
  no_name = refl;
  no_size = refl;
  comma = refl;
  option = refl;
}

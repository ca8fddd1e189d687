use Rattle.std.proofs.Common.{refl}
use Rattle.std.specs.Fmt.{digits}
use Rattle.day_number.specs.Day.{civil_number, date_in_year, date_after, date_of}
use Rattle.fixed_amount.specs.Decimal.{decimal_text}
use Rattle.curve_drawing.specs.Places.{day_place, height_place}
use Rattle.curve_drawing.specs.Points.{dated_text, from_text, par_text, quoted_text, line_corners, all_corners, first_day, span_from, lowest, highest}
use Rattle.curve_drawing.specs.Scale.{first_from, scale_of}
use Rattle.curve_drawing.specs.Table.{table_heading, row_text, rows_text, lines_rows, table_text}
use Rattle.curve_drawing.proofs.picture_rows.a_curve_is_worked_through.Goals as goal

pub returns : goal.returns
unfolding digits civil_number date_in_year date_after date_of decimal_text day_place height_place dated_text from_text par_text quoted_text line_corners all_corners first_day span_from lowest highest first_from scale_of row_text rows_text lines_rows table_text table_heading
returns c = record {
  scale = refl;
  rates = refl;
  weeks = refl;
  above = refl;
  sixty = refl;
  earlier = refl;
  bare_span = refl;
  no_rate = refl;
  bare_rise = refl;
  least_step = refl;
  within_step = refl;
  beyond_step = refl;
  greatest_step = refl;
  no_reach = refl;
  just_reached = refl;
  reached = refl;
  days = refl;
  years = refl;
  one_day = refl;
  ten_days = refl;
  beyond_ten = refl;
  thousand_days = refl;
  three_years = refl;
  ten_years = refl;
  beyond_ten_years = refl;
  greatest_stride = refl;
  right = refl;
  left = refl;
  third = refl;
  one = refl;
  node = refl;
  foot = refl;
  eleven_marks = refl;
  eight_marks = refl;
  seven_marks = refl;
  eleven_steps = refl;
  eight_steps = refl;
  tenths = refl;
  hundredths = refl;
  most_places = refl;
  table = refl;
  zeros = refl;
  forwards = refl;
  pars = refl;
}

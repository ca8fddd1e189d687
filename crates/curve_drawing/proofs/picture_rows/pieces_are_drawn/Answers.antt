use Rattle.std.proofs.Common.{refl}
use Rattle.std.specs.Fmt.{digits}
use Rattle.day_number.specs.Day.{civil_number, date_in_year, date_after, date_of}
use Rattle.fixed_amount.specs.Decimal.{decimal_text}
use Rattle.curve_drawing.specs.Places.{day_place, height_place, stride_place, step_place, placed}
use Rattle.curve_drawing.specs.Points.{dated_text, from_text, par_text, quoted_text, line_corners, all_corners}
use Rattle.curve_drawing.specs.Svg.{marked_day, disk_title, stride_mark, mark_text, step_mark, colour_of, entry_left, entry_foot, corner_text, corners_text, disk_text, disks_text, name_content, entry_text, group_text, line_text, curve_text}
use Rattle.curve_drawing.proofs.picture_rows.pieces_are_drawn.Goals as goal

pub returns : goal.returns
unfolding digits civil_number date_in_year date_after date_of decimal_text day_place height_place stride_place step_place placed dated_text from_text par_text quoted_text line_corners all_corners stride_mark mark_text step_mark colour_of entry_left entry_foot corner_text corners_text disk_text disks_text name_content entry_text group_text line_text curve_text marked_day disk_title
returns c = record {
  day = refl;
  start = refl;
  twelfth = refl;
  sixtieth = refl;
  step = refl;
  least = refl;
  greatest = refl;
  below = refl;
  zero = refl;
  steps = refl;
  marked = refl;
  par = refl;
  marked_par = refl;
  curve = refl;
  eighth = refl;
}

use Rattle.std.proofs.Common.{refl}
use Rattle.std.specs.Fmt.{digits}
use Rattle.day_number.specs.Day.{civil_number, date_in_year, date_after, date_of}
use Rattle.curve_drawing.specs.Svg.{title_text, counted, counted_text, top_text, heading_text}
use Rattle.curve_drawing.proofs.picture_rows.constants_are_the_stated.Goals as goal

pub returns : goal.returns
unfolding digits civil_number date_in_year date_after date_of counted counted_text top_text heading_text title_text
returns c = record {
  heading = refl;
  in_days = refl;
  zeros = refl;
  forwards = refl;
  pars = refl;
  frame = refl;
  footer = refl;
  left = refl;
  width = refl;
  foot = refl;
  height = refl;
  steps = refl;
  most_step = refl;
  day = refl;
  year = refl;
  most_days = refl;
  strides = refl;
  most_stride = refl;
}

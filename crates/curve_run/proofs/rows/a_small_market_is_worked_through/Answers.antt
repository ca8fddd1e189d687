use Rattle.std.proofs.Common.{refl}
use Rattle.std.specs.Fmt.{digits}
use Rattle.day_number.specs.Day.{date_in_year, date_after, date_of}
use Rattle.desk_names.specs.Names.{has_text, place_of}
use Rattle.fixed_amount.specs.Decimal.{decimal_text}
use Rattle.walks.specs.Walk.{below_by}
use Rattle.desk_model.specs.Uses.{input_by, input_at}
use Rattle.desk_model.specs.Fresh.{answer_by, fresh}
use Rattle.desk_model.specs.State.{is_frozen, is_source, is_late, held_outcome, seen_outcome, now}
use Rattle.desk_model.specs.Visit.{visit_by, runs, stored, asked}
use Rattle.desk_model.specs.Effect.{made}
use Rattle.market_desk.specs.Making.{with_made}
use Rattle.jiff_core.specs.Calendar.{days_from_civil, day_count, days_of_years, days_of_months}
use Rattle.day_number.specs.Shift.{months_later}
use Rattle.day_number.specs.Day.{civil_number}
use Rattle.day_shift.specs.Advanced.{advanced}
use Rattle.day_shift.specs.Adjusted.{adjusted}
use Rattle.curve_points.specs.Point.{beyond, discount_at}
use Rattle.curve_drawing.specs.Days.{days_on}
use Rattle.curve_drawing.specs.Lines.{rate_points}
use Rattle.curve_drawing.specs.Points.{dated_text}
use Rattle.curve_drawing.specs.Table.{table_heading, row_text, rows_text, lines_rows, table_text}
use Rattle.curve_run.specs.Lines.{curve_text, curve_calls}
use Rattle.market_desk.specs.Standing.{unnamed_line}
use Rattle.curve_run.specs.Named.{curve_below, objects_named, lines_named, named_of}
use Rattle.curve_run.specs.Plotting.{plotted_lines, unplotted}
use Rattle.curve_run.specs.Pricing.{refused_line, curves_of, refused_lines}
use Rattle.bump_model.specs.Asking.{each_asking}
use Rattle.curve_run.proofs.rows.a_small_market_is_worked_through.Goals as goal

pub returns : goal.returns
unfolding digits date_in_year date_after date_of has_text place_of decimal_text below_by input_by input_at answer_by fresh is_frozen is_source is_late held_outcome seen_outcome now visit_by runs stored asked made with_made days_from_civil day_count days_of_years days_of_months months_later civil_number advanced adjusted beyond discount_at days_on rate_points dated_text table_heading row_text rows_text lines_rows table_text plotted_lines unplotted curve_text curve_calls curve_below unnamed_line objects_named lines_named named_of refused_line curves_of refused_lines each_asking
returns c = record {
  curve = refl;
  zeros = refl;
  refused = refl;
  unnamed = refl;
  none = refl;
  drawn_so = refl;
  unnamed_so = refl;
  valueless_so = refl;
  calls = refl;
  no_calls = refl;
}

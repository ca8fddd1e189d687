use Rattle.std.proofs.Common.{refl}
use Rattle.std.specs.Fmt.{digits}
use Rattle.day_number.specs.Day.{date_of, date_after, date_in_year}
use Rattle.fixed_amount.specs.Decimal.{decimal_text}
use Rattle.price_report.specs.Line.{point_text, node_texts, asked_line, df_line, refusal_line, over_line}
use Rattle.price_report.proofs.laws.lines_are_worked_through.Goals as goal

pub returns : goal.returns
unfolding point_text node_texts asked_line df_line refusal_line over_line decimal_text digits date_of date_after date_in_year
returns c = record {
  plain = refl;
  dated = refl;
  fresh = refl;
  frozen = refl;
  late = refl;
  held = refl;
  recalc = refl;
  curve = refl;
  bare_curve = refl;
  greatest = refl;
  factor = refl;
  past = refl;
  before = refl;
  no_curve = refl;
  refused = refl;
  over = refl;
  nobody = refl;
}

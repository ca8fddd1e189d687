use Rattle.std.proofs.Common.{refl}
use Rattle.std.specs.Fmt.{digits}
use Rattle.fixed_amount.specs.Decimal.{decimal_text}
use Rattle.bump_ladder.specs.Report.{rung_line, rung_lines, runs_line, ladder_lines, refused_lines}
use Rattle.bump_ladder.proofs.report_rows.lines_are_worked_through.Goals as goal

pub returns : goal.returns
unfolding digits decimal_text rung_line rung_lines runs_line ladder_lines refused_lines
returns c = record {
  ladder = refl;
  refused = refl;
}

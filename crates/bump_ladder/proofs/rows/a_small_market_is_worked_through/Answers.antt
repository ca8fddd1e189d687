use Rattle.std.proofs.Common.{refl}
use Rattle.std.specs.Fmt.{digits}
use Rattle.desk_names.specs.Names.{has_text, place_of}
use Rattle.fixed_amount.specs.Decimal.{decimal_text}
use Rattle.walks.specs.Walk.{below_by}
use Rattle.desk_model.specs.Uses.{input_by, input_at}
use Rattle.desk_model.specs.Fresh.{answer_by, fresh}
use Rattle.desk_model.specs.State.{is_frozen, is_source, is_late, held_outcome, seen_outcome, now}
use Rattle.desk_model.specs.Visit.{visit_by, runs, stored, asked}
use Rattle.desk_model.specs.Told.{forwards, told, tell}
use Rattle.desk_model.specs.Effect.{made, notified, revised, quote_set}
use Rattle.market_desk.specs.Making.{with_made}
use Rattle.bump_model.specs.Moves.{with_values, all_set}
use Rattle.bump_model.specs.Asking.{rung_asking, rungs_asking, ladder_asking}
use Rattle.market_desk.specs.Standing.{unnamed_line}
use Rattle.bump_ladder.specs.Report.{rung_line, rung_lines, runs_line, ladder_lines, refused_lines}
use Rattle.bump_ladder.specs.Lines.{bump_text, bump_calls}
use Rattle.bump_model.specs.Quotes.{quotes_below}
use Rattle.bump_ladder.proofs.rows.a_small_market_is_worked_through.Goals as goal

pub returns : goal.returns
unfolding digits has_text place_of decimal_text below_by input_by input_at answer_by fresh is_frozen is_source is_late held_outcome seen_outcome now visit_by runs stored asked forwards told tell made notified revised quote_set with_made with_values all_set rung_asking rungs_asking ladder_asking rung_line rung_lines runs_line ladder_lines refused_lines unnamed_line bump_text bump_calls quotes_below
returns c = record {
  quotes = refl;
  stock = refl;
  calls = refl;
  quote = refl;
  today = refl;
  unknown = refl;
  nothing = refl;
}

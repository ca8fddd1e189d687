use Rattle.std.proofs.Common.{refl}
use Rattle.std.specs.Fmt.{digits}
use Rattle.walks.specs.Walk.{below_by}
use Rattle.day_number.specs.Day.{date_of, date_after, date_in_year}
use Rattle.curve_points.specs.Point.{beyond, discount_at}
use Rattle.fixed_amount.specs.Decimal.{decimal_text}
use Rattle.desk_names.specs.Names.{place_of}
use Rattle.desk_model.specs.Uses.{input_by, input_at}
use Rattle.desk_model.specs.Fresh.{answer_by, fresh}
use Rattle.desk_model.specs.State.{is_frozen, is_source, is_late, is_clear, held_outcome, seen_outcome, now, mark_of, shows}
use Rattle.desk_model.specs.Visit.{visit_by, runs, stored, asked}
use Rattle.desk_model.specs.Told.{told, tell, forwards}
use Rattle.desk_model.specs.Links.{reaches}
use Rattle.desk_model.specs.Effect.{made, notified, revised, quote_set, relinked, engine_set, member_set, fixing_added, today_set, dropped}
use Rattle.session_commands.specs.Parts.{parts_of}
use Rattle.session_commands.specs.Table.{row_of}
use Rattle.price_report.specs.Line.{point_text, node_texts, asked_line, df_line, refusal_line}
use Rattle.session_model.specs.Standing.{with_objects, named_from, is_full}
use Rattle.session_model.specs.Resolve.{find, with_found, unless, unless_used, unless_kept, unless_taken, resolve}
use Rattle.session_model.specs.Change.{changed, grown}
use Rattle.session_model.specs.Pricing.{discount_in}
use Rattle.session_model.specs.Turn.{step, effect_of, turn}
use Rattle.session_model.specs.Course.{and_then, noticed, heard, course_of, runs_by, opened, round_of}
use Rattle.session_model.specs.Rounds.{rounds, lines_of, calls_in}
use Rattle.session_model.proofs.rows.objects_of_a_market_are_worked_through.Goals as goal

pub returns : goal.returns
unfolding digits date_of date_after date_in_year beyond discount_at point_text node_texts below_by decimal_text place_of input_by input_at answer_by fresh is_frozen is_source is_late is_clear held_outcome seen_outcome now mark_of shows visit_by runs stored asked told tell forwards reaches made notified revised quote_set relinked engine_set member_set fixing_added today_set dropped parts_of row_of asked_line df_line refusal_line with_objects named_from is_full find with_found unless unless_used unless_kept unless_taken resolve changed grown step discount_in effect_of turn and_then noticed heard course_of runs_by opened round_of rounds lines_of calls_in
returns c = record {
  factors = refl;
  engines = refl;
  fixings = refl;
  targets = refl;
  kinds = refl;
}

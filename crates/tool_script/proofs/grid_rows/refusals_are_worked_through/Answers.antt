use Rattle.std.proofs.Common.{refl}
use Rattle.std.specs.Fmt.{digits}
use Rattle.walks.specs.Walk.{below_by}
use Rattle.fixed_amount.specs.Decimal.{decimal_text}
use Rattle.desk_names.specs.Names.{place_of}
use Rattle.desk_model.specs.Uses.{input_by, input_at}
use Rattle.desk_model.specs.Fresh.{answer_by, fresh}
use Rattle.desk_model.specs.State.{is_frozen, is_source, is_late, is_clear, held_outcome, seen_outcome, now, mark_of, shows}
use Rattle.desk_model.specs.Visit.{visit_by, runs, stored, asked}
use Rattle.desk_model.specs.Told.{told, tell, forwards}
use Rattle.desk_model.specs.Effect.{made, notified, revised, quote_set}
use Rattle.session_commands.specs.Parts.{parts_of}
use Rattle.session_commands.specs.Table.{row_of}
use Rattle.price_report.specs.Line.{asked_line, refusal_line}
use Rattle.session_model.specs.Standing.{with_objects, named_from}
use Rattle.session_model.specs.Resolve.{find, with_found, unless, resolve}
use Rattle.session_model.specs.Change.{changed}
use Rattle.session_model.specs.Turn.{step, effect_of, turn}
use Rattle.session_model.specs.Course.{and_then, noticed, heard, course_of, runs_by, opened, round_of}
use Rattle.session_model.specs.Rounds.{rounds, lines_of, calls_in}
use Rattle.tool_script.specs.Scenario.{after, values_of}
use Rattle.tool_script.specs.Grid.{scenario_texts, scenarios_calls, rows_of, worst_line, worst_lines}
use Rattle.tool_script.proofs.grid_rows.refusals_are_worked_through.Goals as goal

pub returns : goal.returns
unfolding digits below_by decimal_text place_of input_by input_at answer_by fresh is_frozen is_source is_late is_clear held_outcome seen_outcome now mark_of shows visit_by runs stored asked told tell forwards made notified revised quote_set parts_of row_of asked_line refusal_line with_objects named_from find with_found unless resolve changed step effect_of turn and_then noticed heard course_of runs_by opened round_of rounds lines_of calls_in after values_of scenario_texts scenarios_calls rows_of worst_line worst_lines
returns c = record {
  link = refl;
  twice = refl;
  nothing = refl;
}

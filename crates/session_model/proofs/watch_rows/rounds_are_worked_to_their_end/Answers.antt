use Rattle.std.proofs.Common.{refl}
use Rattle.std.specs.Fmt.{digits}
use Rattle.walks.specs.Walk.{below_by}
use Rattle.fixed_amount.specs.Decimal.{decimal_text}
use Rattle.desk_names.specs.Names.{place_of}
use Rattle.desk_model.specs.Uses.{input_by, input_at}
use Rattle.desk_model.specs.Fresh.{answer_by, fresh}
use Rattle.desk_model.specs.State.{is_frozen, is_source, is_late, is_late_of, least_source, is_clear, held_outcome, seen_outcome, now, mark_of, shows}
use Rattle.desk_model.specs.Visit.{visit_by, runs, stored, asked}
use Rattle.desk_model.specs.Told.{told, tell, forwards}
use Rattle.desk_model.specs.Links.{reaches}
use Rattle.desk_model.specs.Effect.{made, notified, revised, quote_set, relinked, member_set, today_set, dropped, frozen_set, thawed, deferred, resumed, forward_set, watching, registered_with, unregistered}
use Rattle.desk_model.specs.Recalc.{inputs_walk, reruns, recalced}
use Rattle.session_commands.specs.Parts.{parts_of}
use Rattle.session_commands.specs.Table.{row_of}
use Rattle.price_report.specs.Line.{asked_line, refusal_line, over_line}
use Rattle.watch_rounds.specs.Order.{churned}
use Rattle.watch_rounds.specs.Round.{with_notice, with_run}
use Rattle.session_model.specs.Standing.{named_from, is_full}
use Rattle.session_model.specs.Resolve.{find, with_found, unless, unless_used, unless_late, unless_taken, resolve}
use Rattle.session_model.specs.Change.{changed, grown}
use Rattle.session_model.specs.Turn.{step, effect_of, turn}
use Rattle.session_model.specs.Course.{and_then, noticed, heard, course_of, course_of_all, begun, run, runs_by, opened, round_of}
use Rattle.session_model.specs.Rounds.{rounds, lines_of}
use Rattle.session_model.specs.RoomRows.{left_by}
use Rattle.session_model.specs.Ends.{names_run}
use Rattle.session_model.proofs.watch_rows.rounds_are_worked_to_their_end.Goals as goal

pub returns : goal.returns
unfolding digits below_by decimal_text place_of input_by input_at answer_by fresh is_frozen is_source is_late is_late_of least_source is_clear held_outcome seen_outcome now mark_of shows visit_by runs stored asked told tell forwards reaches made notified revised quote_set relinked member_set today_set dropped frozen_set thawed deferred resumed forward_set watching registered_with unregistered inputs_walk reruns recalced parts_of row_of asked_line refusal_line over_line churned with_notice with_run named_from is_full find with_found unless unless_used unless_late unless_taken resolve changed grown step effect_of turn and_then noticed heard course_of course_of_all begun run runs_by opened round_of rounds lines_of left_by names_run
returns c = record {
  eight = refl;
  over = refl;
  ends = refl;
  most = refl;
  in_turn = refl;
  given = refl;
}

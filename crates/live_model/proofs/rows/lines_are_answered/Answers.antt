use Rattle.std.proofs.Common.{refl}
use Rattle.std.specs.Fmt.{digits}
use Rattle.walks.specs.Walk.{below_by}
use Rattle.fixed_amount.specs.Decimal.{decimal_value, decimal_text}
use Rattle.desk_names.specs.Name.{is_name, has_form, is_name_byte, is_reserved}
use Rattle.desk_names.specs.Names.{has_text, with_text, place_of}
use Rattle.desk_model.specs.Uses.{input_by, input_at}
use Rattle.desk_model.specs.Fresh.{answer_by, fresh}
use Rattle.desk_model.specs.State.{is_frozen, is_source, is_late, is_clear, held_outcome, seen_outcome, now, mark_of, shows}
use Rattle.desk_model.specs.Visit.{visit_by, runs, stored, asked}
use Rattle.desk_model.specs.Told.{told, tell, forwards}
use Rattle.desk_model.specs.Links.{reaches}
use Rattle.desk_model.specs.Effect.{made, notified, revised, quote_set, dropped, registered_with, watching}
use Rattle.session_commands.specs.Parts.{command_of, parts_of}
use Rattle.session_commands.specs.Table.{row_of, verb_of}
use Rattle.script_words.specs.Line.{words_of}
use Rattle.script_words.specs.Word.{fault_of, numbered, plain_field, field_of}
use Rattle.session_lang.specs.Statement.{fields_meaning, command_meaning, begin_meaning, words_meaning, line_meaning}
use Rattle.price_report.specs.Line.{asked_line, refusal_line, over_line}
use Rattle.watch_rounds.specs.Round.{with_notice, with_run}
use Rattle.session_model.specs.Standing.{named_from, is_full}
use Rattle.session_model.specs.Resolve.{find, with_found, unless, unless_used, unless_taken, resolve}
use Rattle.session_model.specs.Change.{changed, grown}
use Rattle.session_model.specs.Turn.{step, effect_of, turn}
use Rattle.session_model.specs.Course.{and_then, noticed, heard, course_of, course_of_all, begun, run, runs_by, opened, round_of}
use Rattle.live_model.specs.Live.{meaning, fault_line, said, learnt, spoken}
use Rattle.live_model.proofs.rows.lines_are_answered.Goals as goal

pub returns : goal.returns
unfolding has_text with_text place_of is_name has_form is_name_byte is_reserved decimal_value words_of line_meaning words_meaning begin_meaning command_meaning fields_meaning field_of plain_field numbered fault_of verb_of row_of command_of parts_of digits below_by decimal_text input_by input_at answer_by fresh is_frozen is_source is_late is_clear held_outcome seen_outcome now mark_of shows visit_by runs stored asked told tell forwards reaches made notified revised quote_set dropped registered_with watching asked_line refusal_line over_line named_from is_full find with_found unless unless_used unless_taken resolve changed grown step effect_of turn and_then noticed heard course_of course_of_all begun run runs_by opened round_of with_notice with_run meaning fault_line said learnt spoken
returns c = record {
  longest = refl;
  nothing = refl;
  names = refl;
  ready = refl;
}

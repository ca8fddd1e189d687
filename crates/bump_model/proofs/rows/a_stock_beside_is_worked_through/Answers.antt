use Rattle.std.proofs.Common.{refl}
use Rattle.walks.specs.Walk.{below_by}
use Rattle.desk_model.specs.Uses.{input_by, input_at}
use Rattle.desk_model.specs.Fresh.{answer_by, fresh}
use Rattle.desk_model.specs.State.{is_frozen, is_source, is_late, held_outcome, seen_outcome, now}
use Rattle.desk_model.specs.Visit.{visit_by, runs, stored, asked}
use Rattle.desk_model.specs.Told.{forwards, told, tell}
use Rattle.desk_model.specs.Effect.{made, notified, revised, quote_set}
use Rattle.bump_model.specs.Moves.{with_values, all_set}
use Rattle.bump_model.specs.Asking.{rung_asking, rungs_asking, ladder_asking}
use Rattle.bump_model.proofs.rows.a_stock_beside_is_worked_through.Goals as goal

pub returns : goal.returns
unfolding below_by input_by input_at answer_by fresh is_frozen is_source is_late held_outcome seen_outcome now visit_by runs stored asked forwards told tell made notified revised quote_set with_values all_set rung_asking rungs_asking ladder_asking
returns c = record {
  rungs = refl;
  runs = refl;
}

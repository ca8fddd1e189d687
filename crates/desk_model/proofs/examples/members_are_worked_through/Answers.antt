use Rattle.std.proofs.Common.{refl}
use Rattle.walks.specs.Walk.{below_by}
use Rattle.desk_model.specs.Uses.{input_by, input_at}
use Rattle.desk_model.specs.Fresh.{answer_by, fresh}
use Rattle.desk_model.specs.State.{is_frozen, is_source, is_late, is_late_of, least_source, is_clear, held_outcome, seen_outcome, now, mark_of, shows}
use Rattle.desk_model.specs.Links.{reaches}
use Rattle.desk_model.specs.Visit.{visit_by, runs, stored, asked}
use Rattle.desk_model.specs.Told.{forwards, told, tell}
use Rattle.desk_model.specs.Recalc.{inputs_walk, reruns, recalced}
use Rattle.desk_model.specs.Effect.{made, watching, notified, revised, quote_set, relinked, engine_set, member_set, today_set, dropped, registered_with, frozen_set, forward_set, thawed, deferred, resumed}
use Rattle.desk_model.proofs.examples.members_are_worked_through.Goals as goal

pub returns : goal.returns
unfolding below_by input_by input_at answer_by fresh is_frozen is_source is_late is_late_of least_source is_clear held_outcome seen_outcome now mark_of shows reaches visit_by runs stored asked forwards told tell inputs_walk reruns recalced made watching notified revised quote_set relinked engine_set member_set today_set dropped registered_with frozen_set forward_set thawed deferred resumed
returns c = record {
  value = refl;
  calls = refl;
  moved_value = refl;
  moved_calls = refl;
  without_a_member = refl;
  live = refl;
}

use Rattle.std.proofs.Common.{refl}
use Rattle.walks.specs.Walk.{below_by}
use Rattle.desk_model.specs.Uses.{input_by, input_at}
use Rattle.desk_model.specs.Fresh.{answer_by, fresh}
use Rattle.desk_model.specs.State.{is_frozen, is_source, is_late, is_late_of, least_source, is_clear, held_outcome, seen_outcome, now, mark_of, shows}
use Rattle.desk_model.specs.Links.{reaches}
use Rattle.desk_model.specs.Visit.{visit_by, runs, stored, asked}
use Rattle.desk_model.specs.Told.{forwards, told, tell}
use Rattle.desk_model.specs.Recalc.{inputs_walk, reruns, recalced}
use Rattle.desk_model.specs.Effect.{made, watching, notified, revised, quote_set, relinked, engine_set, member_set, today_set, dropped, registered_with, unregistered, handed_out, frozen_set, forward_set, thawed, deferred, resumed}
use Rattle.desk_model.proofs.examples.several_watchers_are_worked_through.Goals as goal

pub returns-clause-several : goal.returns-clause-several
unfolding below_by input_by input_at answer_by fresh is_frozen is_source is_late is_late_of least_source is_clear held_outcome seen_outcome now mark_of shows reaches visit_by runs stored asked forwards told tell inputs_walk reruns recalced made watching notified revised quote_set relinked engine_set member_set today_set dropped registered_with unregistered handed_out frozen_set forward_set thawed deferred resumed
returns-clause-several c = record {
  order = refl;
  registered_there = refl;
  not_there = refl;
  both_told = refl;
  one_told = refl;
  told_by_both = refl;
  same_value = refl;
}

pub returns-clause-unregistered : goal.returns-clause-unregistered
unfolding below_by input_by input_at answer_by fresh is_frozen is_source is_late is_late_of least_source is_clear held_outcome seen_outcome now mark_of shows reaches visit_by runs stored asked forwards told tell inputs_walk reruns recalced made watching notified revised quote_set relinked engine_set member_set today_set dropped registered_with unregistered handed_out frozen_set forward_set thawed deferred resumed
returns-clause-unregistered c = record {
  left = refl;
  told = refl;
  still_watching = refl;
  watching_no_more = refl;
  not_registered = refl;
  without_the_stock = refl;
  without_the_watcher = refl;
  dropped_is_not_told = refl;
}

pub returns-clause-handed_out : goal.returns-clause-handed_out
unfolding below_by input_by input_at answer_by fresh is_frozen is_source is_late is_late_of least_source is_clear held_outcome seen_outcome now mark_of shows reaches visit_by runs stored asked forwards told tell inputs_walk reruns recalced made watching notified revised quote_set relinked engine_set member_set today_set dropped registered_with unregistered handed_out frozen_set forward_set thawed deferred resumed
returns-clause-handed_out c = record {
  other_left = refl;
  none_left = refl;
  told_again = refl;
}

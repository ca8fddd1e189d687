use Rattle.std.proofs.Common.{◌≡◌, ◌≤◌, true, length, drop}
use Rattle.std.specs.List.{filter}
use Rattle.desk_model.specs.Told.{is_watching}
use Rattle.watch_rounds.specs.Due.{AreAll}
use Rattle.session_rounds.proofs.acting.forget_idle.Given as goal

abbrev pub invariant-loop-at : goal.invariant-loop-at
invariant-loop-at l = record {
  low : l.at ≤ length l.rounds.round.due;
  others : l.rounds ≡ record l.initial.rounds { round = record l.initial.rounds.round { due = l.rounds.round.due } };
  kept : filter (λ entry. is_watching l.session.state entry.watcher) l.rounds.round.due
      ≡ filter (λ entry. is_watching l.session.state entry.watcher) l.initial.rounds.round.due;
  rest : AreAll (λ entry. is_watching l.session.state entry.watcher ≡ true) (drop l.at l.rounds.round.due);
}

abbrev pub decreases-loop-at : goal.decreases-loop-at
decreases-loop-at l = l.at

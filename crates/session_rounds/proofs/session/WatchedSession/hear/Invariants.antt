use Rattle.std.proofs.Common.{◌≡◌, length}
use Rattle.desk_terms.specs.Reading.{Calc}
use Rattle.desk_model.specs.Sound.{IsSound}
use Rattle.session_model.specs.Course.{heard}
use Rattle.session_rounds.specs.Goes.{Goes, lines_alone}
use Rattle.session_rounds.proofs.session.WatchedSession.hear.Given as goal

abbrev pub invariant-loop-watcher : goal.invariant-loop-watcher
invariant-loop-watcher g l = record {
  goes : Goes g.row.P.Denot (heard l.initial.self) (heard l.self) (lines_alone l.initial.lines.items) (lines_alone l.lines.items);
  names : l.self.standing.names ≡ l.initial.self.standing.names;
  actions : l.self.standing.actions ≡ l.initial.self.standing.actions;
  stopped : l.self.standing.stopped ≡ l.initial.self.standing.stopped;
  sound : (calc : Calc) → IsSound calc l.initial.self.standing.state → IsSound calc l.self.standing.state;
}

abbrev pub decreases-loop-watcher : goal.decreases-loop-watcher
decreases-loop-watcher g l = length l.self.standing.state.noticed

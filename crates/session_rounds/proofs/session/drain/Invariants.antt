use Rattle.std.proofs.Common.{◌≡◌, [], length}
use Rattle.desk_terms.specs.Reading.{Calc}
use Rattle.desk_model.specs.Sound.{IsSound}
use Rattle.session_rounds.proofs.session.drain.Given as goal

abbrev pub invariant-loop-watcher : goal.invariant-loop-watcher
invariant-loop-watcher l = record {
  same : (record l.desk { noticed = [] }) ≡ record l.initial.desk { noticed = [] };
  sound : (calc : Calc) → IsSound calc l.initial.desk → IsSound calc l.desk;
}

abbrev pub decreases-loop-watcher : goal.decreases-loop-watcher
decreases-loop-watcher l = length l.desk.noticed

use Rattle.std.proofs.Common.{◌≡◌, [], false}
use Rattle.watch_rounds.specs.Round.{runs_left}
use Rattle.session_rounds.specs.Goes.{Runs, Stays}
use Rattle.session_rounds.proofs.Stopping.{Awaits}
use Rattle.session_rounds.proofs.session.WatchedSession.run_all.Given as goal

abbrev pub invariant-loop-watcher : goal.invariant-loop-watcher
invariant-loop-watcher g l = record {
  same : g.B.Bench.calc l.bench ≡ g.B.Bench.calc l.initial.bench;
  stays : Stays (g.B.Bench.calc l.initial.bench) l.initial.self.standing l.self.standing;
  running : l.self.standing.stopped ≡ false;
  idle : l.initial.self.round.due ≡ [] → l.self.round.due ≡ [];
  runs : Runs g.row.P.Denot (record { calc = g.B.Bench.calc l.initial.bench; at = g.P.Picker.at; after = g.P.Picker.after })
      l.initial.self l.self
      (record { lines = l.initial.lines.items; count = g.B.Bench.count l.initial.bench; log = g.B.Bench.log l.initial.bench })
      (record { lines = l.lines.items; count = g.B.Bench.count l.bench; log = g.B.Bench.log l.bench });
  awaits : Awaits g.row.P.Denot (record { calc = g.B.Bench.calc l.initial.bench; at = g.P.Picker.at; after = g.P.Picker.after })
      l.initial.self l.self
      (record { lines = l.initial.lines.items; count = g.B.Bench.count l.initial.bench; log = g.B.Bench.log l.initial.bench })
      (record { lines = l.lines.items; count = g.B.Bench.count l.bench; log = g.B.Bench.log l.bench });
}

abbrev pub decreases-loop-watcher : goal.decreases-loop-watcher
decreases-loop-watcher g l = runs_left l.self.round

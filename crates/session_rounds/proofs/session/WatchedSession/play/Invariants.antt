use Rattle.std.proofs.Common.{◌≡◌, ◌-◌, false, [], length, drop}
use Rattle.std.specs.Prelude.{slice_index_or}
use Rattle.session_model.specs.Course.{course_of_all}
use Rattle.session_model.specs.Moments.{moments_of_all}
use Rattle.session_rounds.specs.Goes.{Goes, Stays}
use Rattle.session_rounds.proofs.Stopping.{Leads}
use Rattle.session_rounds.proofs.session.WatchedSession.play.Given as goal

abbrev pub invariant-loop-command : goal.invariant-loop-command
invariant-loop-command g l = record {
  same : g.B.Bench.calc l.bench ≡ g.B.Bench.calc l.initial.bench;
  stays : Stays (g.B.Bench.calc l.initial.bench) l.initial.self.standing l.self.standing;
  running : l.self.standing.stopped ≡ false;
  goes : Goes g.row.P.Denot
      (course_of_all (record { calc = g.B.Bench.calc l.initial.bench; at = g.P.Picker.at; after = g.P.Picker.after })
      (slice_index_or l.initial.self.standing.actions l.action []) l.initial.self)
      (course_of_all (record { calc = g.B.Bench.calc l.initial.bench; at = g.P.Picker.at; after = g.P.Picker.after })
      (drop l.at (slice_index_or l.initial.self.standing.actions l.action [])) l.self)
      (record { lines = l.initial.lines.items; count = g.B.Bench.count l.initial.bench; log = g.B.Bench.log l.initial.bench })
      (record { lines = l.lines.items; count = g.B.Bench.count l.bench; log = g.B.Bench.log l.bench });
  leads : Leads (g.B.Bench.calc l.initial.bench)
      (moments_of_all (record { calc = g.B.Bench.calc l.initial.bench; at = g.P.Picker.at; after = g.P.Picker.after })
      (slice_index_or l.initial.self.standing.actions l.action []) l.initial.self)
      (moments_of_all (record { calc = g.B.Bench.calc l.initial.bench; at = g.P.Picker.at; after = g.P.Picker.after })
      (drop l.at (slice_index_or l.initial.self.standing.actions l.action [])) l.self)
      (record { lines = l.initial.lines.items; count = g.B.Bench.count l.initial.bench; log = g.B.Bench.log l.initial.bench })
      (record { lines = l.lines.items; count = g.B.Bench.count l.bench; log = g.B.Bench.log l.bench });
}

abbrev pub decreases-loop-command : goal.decreases-loop-command
decreases-loop-command g l = length (slice_index_or l.initial.self.standing.actions l.action []) - l.at

use Rattle.std.proofs.Common.{◌≡◌, false, drop}
use Rattle.std.specs.Prelude.{All}
use Rattle.desk_model.specs.Sound.{IsSound}
use Rattle.session_model.specs.Standing.{IsKnown}
use Rattle.tool_live.specs.Ends.{outside}
use Rattle.tool_live.proofs.Played.{Progress}
use Rattle.tool_live.proofs.playing.play.Given as goal

abbrev pub invariant-loop-command : goal.invariant-loop-command
invariant-loop-command g l = record {
  same : g.B.Bench.calc l.bench ≡ g.B.Bench.calc l.initial.bench;
  progress : Progress (record { calc = g.B.Bench.calc l.initial.bench; at = g.P.Picker.at; after = g.P.Picker.after })
      l.initial.session l.commands
      (outside (g.K.Sink.bytes l.initial.out) (g.K.Sink.sent l.initial.out) (g.B.Bench.count l.initial.bench) (g.B.Bench.log l.initial.bench))
      (drop l.command-index l.commands) l.session
      (outside (g.K.Sink.bytes l.out) (g.K.Sink.sent l.out) (g.B.Bench.count l.bench) (g.B.Bench.log l.bench));
  names : l.session.standing.names ≡ l.initial.session.standing.names;
  actions : l.session.standing.actions ≡ l.initial.session.standing.actions;
  known : All (IsKnown l.session.standing) (drop l.command-index l.commands);
  sound : IsSound (g.B.Bench.calc l.initial.bench) l.session.standing.state;
  running : l.session.standing.stopped ≡ false;
  faults : g.K.Sink.faults l.out ≡ g.K.Sink.faults l.initial.out;
}

use Rattle.std.proofs.Common.{◌≡◌, drop}
use Rattle.session_model.specs.Moments.{moments}
use Rattle.desk_top.specs.Early.{outside}
use Rattle.desk_top.proofs.Ahead.{Ahead}
use Rattle.desk_top.proofs.Progress.{Progress}
use Rattle.desk_top.proofs.play.play.Given as goal

abbrev pub invariant-loop-command : goal.invariant-loop-command
invariant-loop-command g l = record {
  same : g.B.Bench.calc l.bench ≡ g.B.Bench.calc l.initial.bench;
  progress : Progress g.row.P.Denot (record { calc = g.B.Bench.calc l.initial.bench; at = g.P.Picker.at; after = g.P.Picker.after })
      l.initial.session l.commands (drop l.command-index l.commands) l.session
      (outside (g.K.Sink.bytes l.initial.out) (g.B.Bench.count l.initial.bench) (g.B.Bench.log l.initial.bench))
      (outside (g.K.Sink.bytes l.out) (g.B.Bench.count l.bench) (g.B.Bench.log l.bench));
  ahead : Ahead (g.B.Bench.calc l.initial.bench)
      (moments (record { calc = g.B.Bench.calc l.initial.bench; at = g.P.Picker.at; after = g.P.Picker.after }) l.initial.session l.commands)
      (moments (record { calc = g.B.Bench.calc l.initial.bench; at = g.P.Picker.at; after = g.P.Picker.after }) l.session (drop l.command-index l.commands))
      (outside (g.K.Sink.bytes l.initial.out) (g.B.Bench.count l.initial.bench) (g.B.Bench.log l.initial.bench))
      (outside (g.K.Sink.bytes l.out) (g.B.Bench.count l.bench) (g.B.Bench.log l.bench));
  faults : g.K.Sink.faults l.out ≡ g.K.Sink.faults l.initial.out;
}

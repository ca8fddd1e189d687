use Rattle.std.proofs.Common.{◌≡◌, drop}
use Rattle.tool_script.proofs.LetGo.{LetGo}
use Rattle.tool_script.proofs.playing.play_all.Given as goal

abbrev pub invariant-loop-command : goal.invariant-loop-command
invariant-loop-command g l = record {
  same : g.B.Bench.calc l.bench ≡ g.B.Bench.calc l.initial.bench;
  go : LetGo (g.B.Bench.calc l.initial.bench) l.commands l.initial.session (g.B.Bench.count l.initial.bench)
      (g.B.Bench.log l.initial.bench) (drop l.command-index l.commands) l.session (g.B.Bench.count l.bench) (g.B.Bench.log l.bench);
}

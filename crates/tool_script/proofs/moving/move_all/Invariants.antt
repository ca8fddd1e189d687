use Rattle.std.proofs.Common.{◌≡◌, drop}
use Rattle.tool_script.specs.Course.{output}
use Rattle.tool_script.specs.Going.{IsGoing}
use Rattle.tool_script.proofs.Steps.{Progress}
use Rattle.tool_script.proofs.moving.move_all.Given as goal

abbrev pub invariant-loop-command : goal.invariant-loop-command
invariant-loop-command g l = record {
  same : g.B.Bench.calc l.bench ≡ g.B.Bench.calc l.initial.bench;
  progress : Progress (g.B.Bench.calc l.initial.bench) l.moves l.initial.session
      (output l.initial.lines.items (g.B.Bench.count l.initial.bench) (g.B.Bench.log l.initial.bench))
      (drop l.command-index l.moves) l.session (output l.lines.items (g.B.Bench.count l.bench) (g.B.Bench.log l.bench));
  going : IsGoing (g.B.Bench.calc l.initial.bench) l.session;
}

use Rattle.std.proofs.Common.{◌≡◌, drop}
use Rattle.tool_script.specs.Course.{output}
use Rattle.tool_script.specs.Going.{IsGoing}
use Rattle.tool_script.proofs.Steps.{Progress, Values}
use Rattle.tool_script.proofs.asking.ask_all.Given as goal

abbrev pub invariant-loop-ask : goal.invariant-loop-ask
invariant-loop-ask g l = record {
  same : g.B.Bench.calc l.bench ≡ g.B.Bench.calc l.initial.bench;
  progress : Progress (g.B.Bench.calc l.initial.bench) l.asks l.initial.session
      (output l.initial.lines.items (g.B.Bench.count l.initial.bench) (g.B.Bench.log l.initial.bench))
      (drop l.ask-index l.asks) l.session (output l.lines.items (g.B.Bench.count l.bench) (g.B.Bench.log l.bench));
  going : IsGoing (g.B.Bench.calc l.initial.bench) l.session;
  values : Values (g.B.Bench.calc l.initial.bench) l.asks l.initial.session l.initial.values (drop l.ask-index l.asks)
      l.session l.values;
}

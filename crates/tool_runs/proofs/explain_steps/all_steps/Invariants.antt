use Rattle.std.proofs.Common.{◌≡◌, length, ◌-◌}
use Rattle.tool_script.specs.Shown.{rows_in}
use Rattle.tool_script.specs.Going.{IsGoing}
use Rattle.tool_script.proofs.BlocksFrom.{blocks_from}
use Rattle.tool_runs.proofs.Going.{PastOf}
use Rattle.tool_runs.proofs.explain_steps.all_steps.Given as goal

abbrev pub invariant-loop-at : goal.invariant-loop-at
invariant-loop-at g l = record {
  same : g.B.Bench.calc l.bench ≡ g.B.Bench.calc l.fn.bench;
  going : IsGoing (g.B.Bench.calc l.fn.bench) l.session;
  named : l.session.standing.names ≡ l.names;
  past : PastOf (g.B.Bench.calc l.fn.bench) l.names l.script l.fn.session l.fn.lines.items (g.B.Bench.count l.fn.bench)
      (g.B.Bench.log l.fn.bench) (blocks_from l.script l.at) l.session l.lines.items (rows_in l.rows) (g.B.Bench.count l.bench)
      (g.B.Bench.log l.bench);
}

abbrev pub decreases-loop-at : goal.decreases-loop-at
decreases-loop-at g l = length l.script.actions - l.at

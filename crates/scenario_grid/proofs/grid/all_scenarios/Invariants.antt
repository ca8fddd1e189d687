use Rattle.std.proofs.Common.{◌≡◌, length, ◌-◌}
use Rattle.tool_script.specs.Shown.{rows_in}
use Rattle.tool_script.specs.Basis.{basis_in}
use Rattle.tool_script.proofs.BlocksFrom.{blocks_from}
use Rattle.scenario_grid.proofs.Grids.{PastOf}
use Rattle.scenario_grid.proofs.grid.all_scenarios.Given as goal

abbrev pub invariant-loop-at : goal.invariant-loop-at
invariant-loop-at g l = record {
  same : g.B.Bench.calc l.bench ≡ g.B.Bench.calc l.fn.bench;
  past : PastOf (g.B.Bench.calc l.fn.bench) (basis_in l.market l.names) l.script l.fn.lines.items (g.B.Bench.count l.fn.bench)
      (g.B.Bench.log l.fn.bench) (blocks_from l.script l.at) l.lines.items (rows_in l.rows) (g.B.Bench.count l.bench)
      (g.B.Bench.log l.bench);
}

abbrev pub decreases-loop-at : goal.decreases-loop-at
decreases-loop-at g l = length l.script.actions - l.at

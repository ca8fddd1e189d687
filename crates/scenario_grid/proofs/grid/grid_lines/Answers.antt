use Rattle.std.proofs.lemmas.Result.{err_from_is_err_and}
use Rattle.tool_script.specs.Shown.{rows_in}
use Rattle.tool_script.specs.Basis.{basis_in}
use Rattle.tool_script.proofs.Calling.{makes_begins}
use Rattle.scenario_grid.proofs.Grids.{lines_whole}
use Rattle.scenario_grid.proofs.grid.grid_lines.Goals as goal

pub returns-in_err-rows-clause-calls : goal.returns-in_err-rows-clause-calls
returns-in_err-rows-clause-calls g c =
    let from = c.from_residual in
    let p = err_from_is_err_and from.result from.ensures.1 in
    rw p.1 c.in_err-rows.ensures.calls

pub returns-in_err-worst_lines-clause-calls : goal.returns-in_err-worst_lines-clause-calls
returns-in_err-worst_lines-clause-calls g c =
    let from = c.from_residual-in_err-worst_lines in
    let p = err_from_is_err_and from.result from.ensures.1 in
    rw p.1 (makes_begins _ (g.B.Bench.count c.args.bench.now) (g.B.Bench.count c.all_scenarios.new.bench)
    (g.B.Bench.log c.args.bench.now) (g.B.Bench.log c.all_scenarios.new.bench) c.in_ok-rows.ensures.calls)

pub returns-clause-lines : goal.returns-clause-lines
returns-clause-lines g c =
    let worst = rw c.items.ensures at c.in_ok-worst_lines.ensures in
    lines_whole (g.B.Bench.calc c.args.bench.now) (basis_in c.args.market.now c.args.names.now) c.args.script.now
    c.new-lines.result.items c.all_scenarios.new.lines.items c.worst_lines.new.out.items (rows_in c.in_ok-rows.rows)
    c.items-2.result.now c.new-lines.ensures.items c.in_ok-rows.ensures.lines c.in_ok-rows.ensures.rows c.items-2.ensures worst

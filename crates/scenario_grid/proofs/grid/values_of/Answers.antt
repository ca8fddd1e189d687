use Rattle.std.proofs.Common.{◌++◌, ℤ, List, Option, ◌∙◌, ap}
use Rattle.std.proofs.lemmas.Result.{err_from_is_err_and}
use Rattle.tool_script.specs.Scenario.{scenario_values}
use Rattle.tool_script.specs.Basis.{basis_in}
use Rattle.scenario_grid.specs.Scenario.{scenario_of}
use Rattle.scenario_grid.proofs.grid.values_of.Goals as goal

pub returns-clause-values : goal.returns-clause-values
returns-clause-values g c =
    c.in_ok-one_scenario.ensures.values
    ∙ ap (λ (l : List (Option ℤ)). l ++ scenario_values (g.B.Bench.calc c.args.bench.now)
    (basis_in c.args.market.now c.args.names.now) c.args.asks.now (scenario_of c.args.moves.now)) c.new-values.ensures

pub returns-clause-calls : goal.returns-clause-calls
returns-clause-calls g c = record { count = c.in_ok-one_scenario.ensures.count; log = c.in_ok-one_scenario.ensures.log }

pub returns-in_err-one_scenario-clause-calls : goal.returns-in_err-one_scenario-clause-calls
returns-in_err-one_scenario-clause-calls g c =
    let from = c.from_residual in
    let p = err_from_is_err_and from.result from.ensures.1 in
    rw p.1 c.in_err-one_scenario.ensures.begins

use Rattle.desk_model.proofs.Bounds.{fresh_steps}
use Rattle.desk_model.proofs.Paths.{seen_steps, input_steps, runs_steps}
use Rattle.desk_model.proofs.laws.no_bound_matters.Goals as goal

pub returns-clause-fresh : goal.returns-clause-fresh
returns-clause-fresh c = fresh_steps

pub returns-clause-seen : goal.returns-clause-seen
returns-clause-seen c = seen_steps

pub returns-clause-inputs : goal.returns-clause-inputs
returns-clause-inputs c = input_steps

pub returns-clause-runs : goal.returns-clause-runs
returns-clause-runs c = runs_steps

use Rattle.tool_runs.proofs.Sums.{add_up}
use Rattle.tool_runs.proofs.explain_laws.gains_add_up.Goals as goal

pub returns : goal.returns
returns c = add_up

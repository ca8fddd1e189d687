use Rattle.tool_runs.proofs.SoFar.{are_steps}
use Rattle.tool_runs.proofs.explain_laws.steps_are_priced_afresh.Goals as goal

pub returns : goal.returns
returns c = λ calc basis asks steps are_moves are_asks. are_steps calc basis asks are_asks steps are_moves

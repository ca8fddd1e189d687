use Rattle.tool_script.proofs.Moved.{are_afresh}
use Rattle.tool_script.proofs.grid_laws.scenarios_are_priced_afresh.Goals as goal

pub returns : goal.returns
returns c = are_afresh

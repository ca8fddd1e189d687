use Rattle.tool_script.proofs.Least.{tells_worst}
use Rattle.tool_script.proofs.grid_laws.a_worst_value_is_the_least.Goals as goal

pub returns : goal.returns
returns c = tells_worst

use Rattle.tool_script.proofs.Alone.{stand_alone}
use Rattle.tool_script.proofs.grid_laws.scenarios_stand_alone.Goals as goal

pub returns : goal.returns
returns c = stand_alone

use Rattle.tool_script.proofs.Names.{other_names}
use Rattle.tool_script.proofs.grid_laws.other_names_change_no_scenario.Goals as goal

pub returns : goal.returns
returns c = other_names

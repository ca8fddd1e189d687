use Rattle.tool_script.proofs.Sheets.{numbers_nothing}
use Rattle.tool_script.proofs.grid_laws.numbers_of_names_change_no_scenario.Goals as goal

pub returns : goal.returns
returns c = numbers_nothing

use Rattle.tool_script.proofs.Sheets.{parts_make}
use Rattle.tool_script.proofs.grid_laws.a_grid_is_that_of_its_parts.Goals as goal

pub returns : goal.returns
returns c = parts_make

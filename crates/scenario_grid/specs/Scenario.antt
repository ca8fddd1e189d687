-- The scenario of a block.
use Rattle.std.specs.Prelude.{List, None}
use Rattle.desk_terms.specs.Reading.{Calc}
use Rattle.session_commands.specs.declared.command.Command.{Command}
use Rattle.tool_script.specs.Scenario.{Basis, Scenario, scenario_values}
use Rattle.tool_script.specs.Grid.{Row}
use Rattle.tool_script.specs.Block.{block_of}

-- its lines, its values and its computations are those of any name
abbrev pub scenario_of : List Command → Scenario
scenario_of moves = block_of None moves

-- what it shows
abbrev pub row_of : Calc → Basis → List Command → Scenario → Row
row_of calc basis asks scenario = record { name = scenario.name; values = scenario_values calc basis asks scenario }

-- A block of a script.
use Rattle.std.specs.Prelude.{ℕ, List, Option}
use Rattle.session_commands.specs.declared.command.Command.{Command}
use Rattle.tool_script.specs.Scenario.{Scenario}

-- a block by its name, none of what has no moves, and its moves
abbrev pub block_of : Option ℕ → List Command → Scenario
block_of name moves = record { name = name; moves = moves }

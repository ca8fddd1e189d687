-- The rounds of commands, one after the other.
use Rattle.std.specs.Prelude.{ℕ, Bool, List, [], ◌∷◌, Option}
use Rattle.desk_terms.specs.Reading.{Calc}
use Rattle.session_commands.specs.declared.command.Command.{Command}
use Rattle.watch_rounds.specs.declared.picker.Order.{Order}
use Rattle.session_model.specs.Course.{Running, Course, quiet, and_then, round_of}
use Rattle.session_rounds.specs.Goes.{Output}
use Rattle.tool_script.specs.Scenario.{ordered}

unfoldable pub course_of : Calc → List Command → Running Order → Course Order
course_of calc [] r = quiet r
course_of calc (command ∷ commands) r = and_then (round_of (ordered calc) r command) (course_of calc commands)

-- what a session has put out
abbrev pub output : List ℕ → ℕ → Option (List (ℕ × Bool)) → Output
output lines count log = record { lines = lines; count = count; log = log }

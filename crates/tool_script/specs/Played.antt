-- A script that is played for the session behind it (this project's profile).
use Rattle.std.specs.Prelude.{ℕ, Bool, List}
use Rattle.desk_terms.specs.Reading.{Calc}
use Rattle.session_model.specs.Course.{Running, running}
use Rattle.session_model.specs.Rounds.{calls_of}
use Rattle.session_model.specs.Standing.{start_with}
use Rattle.watch_rounds.specs.declared.picker.Order.{Order}
use Rattle.watch_rounds.specs.declared.picker.Order.TheVariants.{First}
use Rattle.tool_script.specs.Scenario.{ordered, after}
use Rattle.tool_script.specs.Verdict.{ScriptRun}

-- the session of a script before its first command: it has the market's objects, and due watchers run in the order
-- `first`
abbrev pub script_start : ScriptRun → Running Order
script_start run = running First (start_with run.today run.names run.made run.script.actions)

-- and behind its last command
abbrev pub script_end : Calc → ScriptRun → Running Order
script_end calc run = after calc run.script.commands (script_start run)

-- the computations of its commands
abbrev pub script_calls : Calc → ScriptRun → List (ℕ × Bool)
script_calls calc run = calls_of (ordered calc) (script_start run) run.script.commands

-- The session that a script begins with.
use Rattle.std.specs.Prelude.{ℕ, ℤ, List, Result, Ok, Err}
use Rattle.desk_terms.specs.declared.terms.Terms.{Terms}
use Rattle.session_commands.specs.declared.command.Command.{Command}
use Rattle.session_commands.specs.declared.script.Script.{Script}
use Rattle.session_commands.specs.declared.script_kind.ScriptKind.{ScriptKind}
use Rattle.session_lang.specs.Reading.{script_meaning}
use Rattle.session_model.specs.Course.{Running, running}
use Rattle.session_model.specs.Standing.{start_with}

-- a script over a market's objects, with the names after it: the session of these names and of the script's actions, and the
-- script's commands, which are still to be done (this project's profile)
abbrev pub opened_by : {P : Type 0} → P → ℤ → List (ℕ × Terms) → Script × List (List ℕ) → Running P × List Command
opened_by picker today made read =
    (running picker (start_with today read.1 made read.0.actions), read.0.commands)

abbrev pub opened_from : {P : Type 0} → P → ℤ → List (ℕ × Terms) → Result (Script × List (List ℕ)) (ℕ × ScriptKind)
    → Result (Running P × List Command) (ℕ × ScriptKind)
opened_from picker today made (Ok read) = Ok (opened_by picker today made read)
opened_from picker today made (Err fault) = Err fault

-- the same of a text, or the text's first fault
abbrev pub opened : {P : Type 0} → P → List (List ℕ) → ℤ → List (ℕ × Terms) → List ℕ
    → Result (Running P × List Command) (ℕ × ScriptKind)
opened picker names today made text = opened_from picker today made (script_meaning names text)

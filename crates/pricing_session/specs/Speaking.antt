-- A session that is spoken to line by line, with its bench.
use Rattle.std.specs.Prelude.{ℕ, ℤ, List, [], map, Result, Ok, Err}
use Rattle.desk_terms.specs.declared.terms.Terms.{Terms}
use Rattle.session_commands.specs.declared.command.Command.{Command}
use Rattle.session_commands.specs.declared.script.Script.{Script}
use Rattle.session_commands.specs.declared.script_kind.ScriptKind.{ScriptKind}
use Rattle.session_commands.specs.Whole.{name_text}
use Rattle.session_lang.specs.Reading.{script_meaning}
use Rattle.session_model.specs.Course.{running}
use Rattle.session_model.specs.Standing.{start_with}
use Rattle.live_model.specs.Live.{Live, live_from}
use Rattle.live_model.specs.Log.{scripted}
use Rattle.live_session.specs.Lines.{Lines, live_of}
use Rattle.pricing_session.specs.Pricing.{Pricing}

-- the session with what was said to it
abbrev pub as_live : {P B : Type 0} → Pricing P B Lines → Live P
as_live s = live_of s.running s.beside

-- the session of a market's objects, to which nothing was said yet
abbrev pub live_market : {P : Type 0} → P → List (List ℕ) → ℤ → List (ℕ × Terms) → Live P
live_market picker names today made = live_from (running picker (start_with today names made [])) []

-- a script over a market's objects, with the names after it: the session of these names and of the script's actions, to
-- which nothing was said yet, and the script's commands, which are still to be done (this project's profile)
abbrev pub live_by : {P : Type 0} → P → ℤ → List (ℕ × Terms) → Script × List (List ℕ) → Live P × List Command
live_by picker today made read =
    (live_from (scripted picker today made read) (map (name_text read.1) read.0.action_names), read.0.commands)

abbrev pub live_by_meaning : {P : Type 0} → P → ℤ → List (ℕ × Terms) → Result (Script × List (List ℕ)) (ℕ × ScriptKind)
    → Result (Live P × List Command) (ℕ × ScriptKind)
live_by_meaning picker today made (Ok read) = Ok (live_by picker today made read)
live_by_meaning picker today made (Err fault) = Err fault

-- the same of a text, or the text's first fault
abbrev pub live_opened : {P : Type 0} → P → List (List ℕ) → ℤ → List (ℕ × Terms) → List ℕ
    → Result (Live P × List Command) (ℕ × ScriptKind)
live_opened picker names today made text = live_by_meaning picker today made (script_meaning names text)

-- What is written and computed for lines (this project's profile).
use Rattle.std.specs.Prelude.{ℕ, Bool, List, ◌++◌, map}
use Rattle.std.specs.Str.Lines.{lines}
use Rattle.desk_terms.specs.Reading.{Calc}
use Rattle.session_commands.specs.declared.command.Command.{Command}
use Rattle.session_commands.specs.Whole.{name_text}
use Rattle.session_model.specs.Course.{Meaning}
use Rattle.session_model.specs.Rounds.{transcript, calls_of}
use Rattle.watch_rounds.specs.Order.{order_at, order_after}
use Rattle.watch_rounds.specs.declared.picker.Order.{Order}
use Rattle.live_model.specs.Live.{Live, live_from, spoken, conversation}
use Rattle.live_model.specs.Log.{done, scripted}
use Rattle.tool_live.specs.Verdict.{LiveRun}

-- what is written for lines, to the end of the input, and the computations that are made for them
pub record Replies : Type 0 where
  pub lines : List (List ℕ) → List ℕ
  pub calls : List (List ℕ) → List (ℕ × Bool)

-- THE REPLIES OF A SESSION, which tells each line as done or not
abbrev pub replies_of : {P : Type 0} → Meaning P → Bool → Live P → Replies
replies_of m ready s = record { lines = conversation m ready s; calls = λ input. (spoken m ready s input).calls }

-- behind lines and computations that come first
abbrev pub behind : List ℕ → List (ℕ × Bool) → Replies → Replies
behind first calls r = record { lines = λ input. first ++ r.lines input; calls = λ input. calls ++ r.calls input }

-- the session behind commands
abbrev pub played : {P : Type 0} → Meaning P → Live P → List Command → Live P
played m s commands = record s { running = done m s.running commands }

-- the transcript of commands, and then the replies of the session behind them
abbrev pub replies_behind : {P : Type 0} → Meaning P → Bool → Live P → List Command → Replies
replies_behind m ready s commands =
    behind (transcript m s.running commands) (calls_of m s.running commands) (replies_of m ready (played m s commands))

-- what the bench computes, and how an order picks
abbrev pub ordered : Calc → Meaning Order
ordered calc = record { calc = calc; at = order_at; after = order_after }

-- the session over a market and a script, before the first command: the script's actions are known from the first line on
abbrev pub start_of : LiveRun → Live Order
start_of asked =
    live_from (scripted asked.order asked.run.today asked.run.made (asked.run.script, asked.run.names))
    (map (name_text asked.run.names) asked.run.script.action_names)

-- THE REPLIES to lines over a market and a script: the script's commands are done first
abbrev pub replies_in : Calc → LiveRun → Replies
replies_in calc asked = replies_behind (ordered calc) asked.ready (start_of asked) asked.run.script.commands

-- what is written for an input, however it is cut, and what is computed for it
abbrev pub output_in : Calc → List ℕ → LiveRun → List ℕ
output_in calc input asked = (replies_in calc asked).lines (lines input)

abbrev pub computed_in : Calc → List ℕ → LiveRun → List (ℕ × Bool)
computed_in calc input asked = (replies_in calc asked).calls (lines input)

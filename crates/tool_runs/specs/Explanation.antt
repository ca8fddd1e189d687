-- The explanation of a script over a market, byte by byte (this project's profile).
use Rattle.std.specs.Prelude.{ℕ, ◌+◌, ℤ, Bool, List, [], ◌∷◌, ◌++◌, codes, Option, Some, None}
use Rattle.fixed_amount.specs.Decimal.{decimal_text}
use Rattle.desk_terms.specs.Reading.{Calc}
use Rattle.session_commands.specs.declared.command.Command.{Command}
use Rattle.session_commands.specs.declared.script.Script.{Script}
use Rattle.watch_rounds.specs.declared.picker.Order.{Order}
use Rattle.session_model.specs.Course.{Running}
use Rattle.tool_script.specs.Kinds.{asked_name}
use Rattle.tool_script.specs.Scenario.{Basis, Scenario, first_of}
use Rattle.tool_script.specs.Grid.{Row, column, label_text, asked_text, scenarios_of}
use Rattle.tool_runs.specs.declared.told.Told.{Told}
use Rattle.tool_runs.specs.declared.told.Told.TheVariants.{Nothing, Value, Gain}
use Rattle.tool_runs.specs.Gains.{told_by, amounts, total_of}
use Rattle.tool_runs.specs.Steps.{step_texts, step_rows, step_calls}

-- `none`, `value AMOUNT` or `gain AMOUNT`, with six places
abbrev pub told_text : Told → List ℕ
told_text Nothing = codes "none"
told_text (Value amount) = codes "value " ++ decimal_text amount 6
told_text (Gain amount) = codes "gain " ++ decimal_text amount 6

-- `none`, or the amount with six places
abbrev pub total_text : Option ℤ → List ℕ
total_text None = codes "none"
total_text (Some amount) = decimal_text amount 6

-- `explain NAME STEP` and what the step tells
unfoldable pub told_line : List (List ℕ) → Option ℕ → Option ℕ → Told → List ℕ
told_line names asked step told =
    codes "explain " ++ asked_text names asked ++ codes " " ++ label_text names step ++ codes " " ++ told_text told ++ codes "\n"

unfoldable pub told_lines : List (List ℕ) → Option ℕ → List (Option ℕ × Told) → List ℕ
told_lines names asked [] = []
told_lines names asked (entry ∷ entries) = told_line names asked entry.0 entry.1 ++ told_lines names asked entries

-- `explain NAME total` and the total
unfoldable pub total_line : List (List ℕ) → Option ℕ → Option ℤ → List ℕ
total_line names asked total = codes "explain " ++ asked_text names asked ++ codes " total " ++ total_text total ++ codes "\n"

-- THE LINES OF AN ASK, by what each step shows for it: of each step what it tells, and the total
abbrev pub ask_lines : List (List ℕ) → Option ℕ → List (Option ℕ × Option ℤ) → List ℕ
ask_lines names asked entries = told_lines names asked (told_by [] entries) ++ total_line names asked (total_of (amounts entries))

-- those of each ask, from the one at place k on
unfoldable pub gain_lines : List (List ℕ) → List Row → ℕ → List Command → List ℕ
gain_lines names rows k [] = []
gain_lines names rows k (ask ∷ asks) =
    ask_lines names (asked_name ask) (column k rows) ++ gain_lines names rows (k + 1) asks

-- THE STEPS of a script: what is asked before the first block, and each block
abbrev pub steps_of : Script → List Scenario
steps_of script = scenarios_of script

-- the text of each step, from a session on, and then what each step gains
abbrev pub explanation_from : Calc → List (List ℕ) → Script → Running Order → List ℕ
explanation_from calc names script r =
    step_texts calc names script.commands (steps_of script) r
    ++ gain_lines names (step_rows calc script.commands (steps_of script) r) 0 script.commands

-- THE EXPLANATION of a script: its steps in one session over the market, and what each gains
abbrev pub explanation : Calc → Basis → Script → List ℕ
explanation calc basis script = explanation_from calc basis.names script (first_of basis)

-- and its computations
abbrev pub explanation_calls : Calc → Basis → Script → List (ℕ × Bool)
explanation_calls calc basis script = step_calls calc script.commands (steps_of script) (first_of basis)

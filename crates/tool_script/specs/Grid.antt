-- The grid of a script over a market, byte by byte (this project's profile).
use Rattle.std.specs.Prelude.{ℕ, ◌+◌, ℤ, Bool, List, [], ◌∷◌, ◌++◌, codes, slice_index_or, Option, Some, None}
use Rattle.fixed_amount.specs.Decimal.{decimal_text}
use Rattle.desk_terms.specs.Reading.{Calc}
use Rattle.price_report.specs.Namer.{name_text}
use Rattle.session_commands.specs.declared.command.Command.{Command}
use Rattle.session_commands.specs.declared.script.Script.{Script}
use Rattle.tool_script.specs.Kinds.{asked_name}
use Rattle.tool_script.specs.Scenario.{Basis, Scenario, scenario_lines, scenario_calls, scenario_values}
use Rattle.tool_script.specs.Worst.{Worst, worst_of}

-- the name of a scenario: that of its block, or `base`
abbrev pub label_text : List (List ℕ) → Option ℕ → List ℕ
label_text names None = codes "base"
label_text names (Some name) = name_text names name

-- the scenario without moves
abbrev pub base : Scenario
base = record { name = None; moves = [] }

-- each block with its name, in order
abbrev pub blocks : List ℕ → List (List Command) → List Scenario
blocks [] actions = []
blocks (name ∷ others) [] = []
blocks (name ∷ others) (moves ∷ actions) = record { name = Some name; moves = moves } ∷ blocks others actions

-- THE SCENARIOS of a script: that without moves, and each block
abbrev pub scenarios_of : Script → List Scenario
scenarios_of script = base ∷ blocks script.action_names script.actions

-- `scenario NAME`, and the lines of the scenario
abbrev pub scenario_text : Calc → Basis → List Command → Scenario → List ℕ
scenario_text calc basis asks scenario =
    codes "scenario " ++ label_text basis.names scenario.name ++ codes "\n" ++ scenario_lines calc basis asks scenario

unfoldable pub scenario_texts : Calc → Basis → List Command → List Scenario → List ℕ
scenario_texts calc basis asks [] = []
scenario_texts calc basis asks (scenario ∷ scenarios) =
    scenario_text calc basis asks scenario ++ scenario_texts calc basis asks scenarios

-- the computations of scenarios, one after the other
unfoldable pub scenarios_calls : Calc → Basis → List Command → List Scenario → List (ℕ × Bool)
scenarios_calls calc basis asks [] = []
scenarios_calls calc basis asks (scenario ∷ scenarios) =
    scenario_calls calc basis asks scenario ++ scenarios_calls calc basis asks scenarios

-- a scenario's name, and the values that it shows
pub record Row : Type 0 where
  pub name : Option ℕ
  pub values : List (Option ℤ)

unfoldable pub rows_of : Calc → Basis → List Command → List Scenario → List Row
rows_of calc basis asks [] = []
rows_of calc basis asks (scenario ∷ scenarios) =
    record { name = scenario.name; values = scenario_values calc basis asks scenario } ∷ rows_of calc basis asks scenarios

-- what each scenario shows for one ask
abbrev pub column : ℕ → List Row → List (Option ℕ × Option ℤ)
column k [] = []
column k (row ∷ rows) = (row.name, slice_index_or row.values k None) ∷ column k rows

-- the name that is asked for
abbrev pub asked_text : List (List ℕ) → Option ℕ → List ℕ
asked_text names (Some name) = name_text names name
asked_text names None = []

-- the scenario's name and the amount with six places, or `none`
abbrev pub worst_text : List (List ℕ) → Option Worst → List ℕ
worst_text names (Some worst) = label_text names worst.name ++ codes " " ++ decimal_text worst.amount 6
worst_text names None = codes "none"

-- `worst NAME SCENARIO AMOUNT` or `worst NAME none`
unfoldable pub worst_line : List (List ℕ) → Option ℕ → Option Worst → List ℕ
worst_line names name worst = codes "worst " ++ asked_text names name ++ codes " " ++ worst_text names worst ++ codes "\n"

-- the line of each ask, from the one at place k on
unfoldable pub worst_lines : List (List ℕ) → List Row → ℕ → List Command → List ℕ
worst_lines names rows k [] = []
worst_lines names rows k (ask ∷ asks) =
    worst_line names (asked_name ask) (worst_of (column k rows)) ++ worst_lines names rows (k + 1) asks

-- THE GRID over some scenarios: the text of each, and then the worst of each ask
abbrev pub grid_over : Calc → Basis → List Command → List Scenario → List ℕ
grid_over calc basis asks scenarios =
    scenario_texts calc basis asks scenarios ++ worst_lines basis.names (rows_of calc basis asks scenarios) 0 asks

-- THE GRID of a script, and its computations
abbrev pub grid : Calc → Basis → Script → List ℕ
grid calc basis script = grid_over calc basis script.commands (scenarios_of script)

abbrev pub grid_calls : Calc → Basis → Script → List (ℕ × Bool)
grid_calls calc basis script = scenarios_calls calc basis script.commands (scenarios_of script)

-- What is proved of the definitions, for every bench and every market.
use Rattle.std.specs.Prelude.{◌≡◌, ℕ, ℤ, Bool, true, int_le, if◌then◌else◌, List, ◌∷◌, ◌++◌, codes, length, Option, Some, None, option_map, slice_get}
use Rattle.std.specs.List.{All}
use Rattle.desk_names.specs.Names.{has_text}
use Rattle.desk_terms.specs.Reading.{Calc}
use Rattle.session_commands.specs.declared.command.Command.{Command}
use Rattle.session_commands.specs.declared.script.Script.{Script}
use Rattle.session_commands.specs.Whole.{IsCommand}
use Rattle.session_model.specs.Afresh.{AreAskedAfresh}
use Rattle.session_model.specs.Moments.{moments}
use Rattle.session_model.specs.Wider.{AreNamed}
use Rattle.tool_script.specs.Kinds.{is_move, is_ask}
use Rattle.tool_script.specs.Scenario.{Basis, Scenario, ordered, first_of, scenario_lines, scenario_calls, scenario_values}
use Rattle.tool_script.specs.Grid.{label_text, blocks, scenario_text, scenario_texts, scenarios_calls, rows_of, column, grid_over}
use Rattle.tool_script.specs.Renumbered.{Sheet, among, IsSheet, Hold}
use Rattle.tool_script.specs.Worst.{Worst, worst_of, IsWorst}

-- two scripts agree in one block of each, and in what they ask for
pub record Agree (one other : Script) (i j : ℕ) : Type 0 where
  pub asks : one.commands ≡ other.commands
  pub name : slice_get one.action_names i ≡ slice_get other.action_names j
  pub moves : slice_get one.actions i ≡ slice_get other.actions j

-- the scenario of a script's block
abbrev pub scenario_at : Script → ℕ → Option Scenario
scenario_at script i = slice_get (blocks script.action_names script.actions) i

-- a scenario is the same in both
pub record IsAlike (calc : Calc) (basis : Basis) (one other : Script) (i j : ℕ) : Type 0 where
  pub text : option_map (scenario_text calc basis one.commands) (scenario_at one i)
      ≡ option_map (scenario_text calc basis other.commands) (scenario_at other j)
  pub calls : option_map (scenario_calls calc basis one.commands) (scenario_at one i)
      ≡ option_map (scenario_calls calc basis other.commands) (scenario_at other j)
  pub values : option_map (scenario_values calc basis one.commands) (scenario_at one i)
      ≡ option_map (scenario_values calc basis other.commands) (scenario_at other j)

-- A SCENARIO STANDS ALONE: two scripts over the same names that agree in a block and in the asks have the same text for
-- it, whatever their other blocks hold and wherever the block stands
abbrev pub ScenariosStandAlone : Type 0
ScenariosStandAlone = (calc : Calc) (basis : Basis) (one other : Script) (i j : ℕ) → Agree one other i j
    → IsAlike calc basis one other i j

-- the same market in sessions of more names
abbrev pub with_names : Basis → List (List ℕ) → Basis
with_names basis more = record basis { names = basis.names ++ more }

-- a scenario writes, computes and shows the same in both
pub record IsSame (calc : Calc) (one other : Basis) (asks : List Command) (scenario : Scenario) : Type 0 where
  pub lines : scenario_lines calc one asks scenario ≡ scenario_lines calc other asks scenario
  pub calls : scenario_calls calc one asks scenario ≡ scenario_calls calc other asks scenario
  pub values : scenario_values calc one asks scenario ≡ scenario_values calc other asks scenario

-- OTHER NAMES CHANGE NOTHING: whatever names two scripts have behind those of which a scenario and its asks speak, `today`
-- and those of the market among them
abbrev pub OtherNamesChangeNothing : Type 0
OtherNamesChangeNothing = (calc : Calc) (basis : Basis) (one other : List (List ℕ)) (asks : List Command) (scenario : Scenario)
    → has_text basis.names (codes "today") ≡ true → AreNamed (length basis.names) basis.made
    → All (IsCommand (length basis.names) 0) scenario.moves → All (IsCommand (length basis.names) 0) asks
    → IsSame calc (with_names basis one) (with_names basis other) asks scenario

-- what a sheet writes, and its computations
abbrev pub sheet_texts : Calc → Sheet → List ℕ
sheet_texts calc sheet = scenario_texts calc sheet.basis sheet.asks sheet.scenarios

abbrev pub sheet_calls : Calc → Sheet → List (ℕ × Bool)
sheet_calls calc sheet = scenarios_calls calc sheet.basis sheet.asks sheet.scenarios

abbrev pub sheet_grid : Calc → Sheet → List ℕ
sheet_grid calc sheet = grid_over calc sheet.basis sheet.asks sheet.scenarios

-- a sheet writes and computes the same in sessions of these names and of those
pub record IsSameAmong (calc : Calc) (sheet : Sheet) (one other : List (List ℕ)) : Type 0 where
  pub grid : sheet_grid calc (among one sheet) ≡ sheet_grid calc (among other sheet)
  pub texts : sheet_texts calc (among one sheet) ≡ sheet_texts calc (among other sheet)
  pub calls : sheet_calls calc (among one sheet) ≡ sheet_calls calc (among other sheet)

-- NUMBERS OF NAMES CHANGE NOTHING: two scripts that have blocks and asks of the same texts have the same text and computations
-- for them, whatever else stands in the scripts and however that numbers their names
abbrev pub NumbersChangeNothing : Type 0
NumbersChangeNothing = (calc : Calc) (sheet : Sheet) (one other : List (List ℕ)) → IsSheet sheet
    → Hold one sheet.basis.names → Hold other sheet.basis.names → IsSameAmong calc sheet one other

-- the same market and asks with these scenarios
abbrev pub with_scenarios : Sheet → List Scenario → Sheet
with_scenarios sheet scenarios = record sheet { scenarios = scenarios }

-- the worst value of the ask at a place, with the text of its scenario
abbrev pub told_worst : List (List ℕ) → Option Worst → Option (List ℕ × ℤ)
told_worst names None = None
told_worst names (Some worst) = Some (label_text names worst.name, worst.amount)

abbrev pub sheet_worst : Calc → Sheet → ℕ → Option (List ℕ × ℤ)
sheet_worst calc sheet k = told_worst sheet.basis.names (worst_of (column k (rows_of calc sheet.basis sheet.asks sheet.scenarios)))

-- the less of two, of equal ones the first
abbrev pub less_of : Option (List ℕ × ℤ) → Option (List ℕ × ℤ) → Option (List ℕ × ℤ)
less_of None second = second
less_of (Some one) None = Some one
less_of (Some one) (Some other) = if int_le one.1 other.1 then Some one else Some other

-- a sheet, and two parts of it that begin with the same scenario, each in sessions of names of its own
pub record IsJoined (calc : Calc) (sheet : Sheet) (head : Scenario) (first second : List Scenario) (whole one other : List (List ℕ)) : Type 0 where
  pub texts : sheet_texts calc (among whole (with_scenarios sheet (head ∷ first ++ second)))
      ≡ sheet_texts calc (among one (with_scenarios sheet (head ∷ first))) ++ sheet_texts calc (among other (with_scenarios sheet second))
  pub calls : sheet_calls calc (among whole (with_scenarios sheet (head ∷ first ++ second)))
      ≡ sheet_calls calc (among one (with_scenarios sheet (head ∷ first))) ++ sheet_calls calc (among other (with_scenarios sheet second))
  pub worst : (k : ℕ) → sheet_worst calc (among whole (with_scenarios sheet (head ∷ first ++ second))) k
      ≡ less_of (sheet_worst calc (among one (with_scenarios sheet (head ∷ first))) k)
      (sheet_worst calc (among other (with_scenarios sheet (head ∷ second))) k)

-- A GRID CUT IN PARTS IS THE GRID: its text is that of the first part and of what follows in the second, and of each ask the
-- worst is the less of both parts' worst
abbrev pub PartsMakeTheGrid : Type 0
PartsMakeTheGrid = (calc : Calc) (sheet : Sheet) (head : Scenario) (first second : List Scenario) (whole one other : List (List ℕ))
    → IsSheet (with_scenarios sheet (head ∷ first ++ second))
    → Hold whole sheet.basis.names → Hold one sheet.basis.names → Hold other sheet.basis.names
    → IsJoined calc sheet head first second whole one other

-- EACH ASK IS ANSWERED AFRESH: a move neither freezes nor defers
abbrev pub ScenariosAreAfresh : Type 0
ScenariosAreAfresh = (calc : Calc) (basis : Basis) (asks : List Command) (scenario : Scenario)
    → All (λ c. is_move c ≡ true) scenario.moves → All (λ c. is_ask c ≡ true) asks
    → All (λ moment. AreAskedAfresh calc moment.standing) (moments (ordered calc) (first_of basis) (scenario.moves ++ asks))

-- no amount is shown
abbrev pub ShowsNone : List (Option ℕ × Option ℤ) → Type 0
ShowsNone entries = (i : ℕ) (name : Option ℕ) (amount : ℤ) → slice_get entries i ≡ Some (name, Some amount) → ⊥

abbrev pub TellsWorst : List (Option ℕ × Option ℤ) → Type 0
TellsWorst entries = (worst : Worst) → worst_of entries ≡ Some worst → IsWorst entries worst

abbrev pub WorstIsLeast : Type 0
WorstIsLeast = (entries : List (Option ℕ × Option ℤ)) → TellsWorst entries

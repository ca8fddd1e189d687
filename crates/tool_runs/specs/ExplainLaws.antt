-- What is proved of the definitions, for every bench and every market.
use Rattle.std.specs.Prelude.{◌≡◌, ◌<◌, ℕ, suc, ℤ, true, List, [], ◌∷◌, ◌++◌, length, map, take, Option, Some, None, option_map, slice_get}
use Rattle.std.specs.List.{All}
use Rattle.desk_terms.specs.Reading.{Calc}
use Rattle.session_commands.specs.declared.command.Command.{Command}
use Rattle.session_commands.specs.declared.script.Script.{Script}
use Rattle.session_model.specs.Afresh.{AreAskedAfresh}
use Rattle.session_model.specs.Moments.{moments}
use Rattle.tool_script.specs.Kinds.{is_move, is_ask}
use Rattle.tool_script.specs.Scenario.{Basis, Scenario, ordered, first_of, scenario_values}
use Rattle.tool_script.specs.Grid.{Row}
use Rattle.tool_script.specs.Renumbered.{Sheet, basis_among, among, IsSheet, Hold}
use Rattle.tool_runs.specs.declared.told.Told.TheVariants.{Nothing}
use Rattle.tool_runs.specs.Explanation.{steps_of}
use Rattle.tool_runs.specs.Gains.{told_by, amounts, total_of, gains_in}
use Rattle.tool_runs.specs.Steps.{all_commands, step_texts, step_rows, step_calls}

-- the gains of an ask, whatever steps show for it and whatever was refused on the way
pub record AddUp (entries : List (Option ℕ × Option ℤ)) : Type 0 where
  pub sum : (total : ℤ) → total_of (amounts entries) ≡ Some total → gains_in (told_by [] entries) ≡ total
  pub none : total_of (amounts entries) ≡ None → All (λ entry. entry.1 ≡ Nothing) (told_by [] entries)

-- THE GAINS ADD UP to the total, without a remainder; and where there is no total nothing is told
abbrev pub GainsAddUp : Type 0
GainsAddUp = (entries : List (Option ℕ × Option ℤ)) → AddUp entries

-- the moves of steps, in order
abbrev pub moves_of : List Scenario → List Command
moves_of [] = []
moves_of (step ∷ steps) = step.moves ++ moves_of steps

abbrev pub values_in : Row → List (Option ℤ)
values_in row = row.values

-- a scenario of all moves up to the step at a place, that one with it
abbrev pub so_far : List Scenario → ℕ → Scenario
so_far steps k = record { name = None; moves = moves_of (take (suc k) steps) }

-- what holds of steps that move, over what is asked
pub record AreSteps (calc : Calc) (basis : Basis) (asks : List Command) (steps : List Scenario) : Type 0 where
  -- EACH ASK IS ANSWERED AFRESH from the market of its moment: no step freezes or defers
  pub afresh : All (λ moment. AreAskedAfresh calc moment.standing) (moments (ordered calc) (first_of basis) (all_commands asks steps))
  -- EACH STEP SHOWS what a session of its own shows behind all moves so far, in which nothing was asked before
  pub shown : (k : ℕ) → k < length steps
      → option_map values_in (slice_get (step_rows calc asks steps (first_of basis)) k)
      ≡ Some (scenario_values calc basis asks (so_far steps k))

-- so of all steps that hold moves alone, over asks
abbrev pub StepsAreAfresh : Type 0
StepsAreAfresh = (calc : Calc) (basis : Basis) (asks : List Command) (steps : List Scenario)
    → All (λ step. All (λ c. is_move c ≡ true) step.moves) steps → All (λ c. is_ask c ≡ true) asks
    → AreSteps calc basis asks steps

-- two scripts agree in what they ask for and in so many first blocks
pub record Agree (one other : Script) (k : ℕ) : Type 0 where
  pub asks : one.commands ≡ other.commands
  pub names : take k one.action_names ≡ take k other.action_names
  pub moves : take k one.actions ≡ take k other.actions

-- the first steps of a script: that before the first block, and those of so many blocks
abbrev pub front : Script → ℕ → List Scenario
front script k = take (suc k) (steps_of script)

-- a front of the steps is the same in both, and stands first in each
pub record IsAlike (calc : Calc) (basis : Basis) (one other : Script) (k : ℕ) : Type 0 where
  pub texts : step_texts calc basis.names one.commands (front one k) (first_of basis)
      ≡ step_texts calc basis.names other.commands (front other k) (first_of basis)
  pub rows : step_rows calc one.commands (front one k) (first_of basis) ≡ step_rows calc other.commands (front other k) (first_of basis)
  pub calls : step_calls calc one.commands (front one k) (first_of basis)
      ≡ step_calls calc other.commands (front other k) (first_of basis)
  pub stands : (rest : List ℕ) × (step_texts calc basis.names one.commands (steps_of one) (first_of basis)
      ≡ step_texts calc basis.names one.commands (front one k) (first_of basis) ++ rest)

-- A FRONT OF THE STEPS depends on the blocks of that front and on the asks alone
abbrev pub FrontsStandAlone : Type 0
FrontsStandAlone = (calc : Calc) (basis : Basis) (one other : Script) (k : ℕ) → Agree one other k → IsAlike calc basis one other k

-- the front of a script whose names these are: it stands on the sheet, by their numbers
pub record IsFront (sheet : Sheet) (names : List (List ℕ)) (script : Script) (k : ℕ) : Type 0 where
  pub asks : script.commands ≡ (among names sheet).asks
  pub steps : front script k ≡ (among names sheet).scenarios

-- a front of the steps of both writes, shows and computes the same, and stands first in that
pub record IsAlikeAmong (calc : Calc) (basis further : Basis) (one other : Script) (k : ℕ) : Type 0 where
  pub texts : step_texts calc basis.names one.commands (front one k) (first_of basis)
      ≡ step_texts calc further.names other.commands (front other k) (first_of further)
  pub values : map values_in (step_rows calc one.commands (front one k) (first_of basis))
      ≡ map values_in (step_rows calc other.commands (front other k) (first_of further))
  pub calls : step_calls calc one.commands (front one k) (first_of basis)
      ≡ step_calls calc other.commands (front other k) (first_of further)
  pub stands : (rest : List ℕ) × (step_texts calc basis.names one.commands (steps_of one) (first_of basis)
      ≡ step_texts calc basis.names one.commands (front one k) (first_of basis) ++ rest)

-- WHATEVER NAMES STAND BEHIND IT: the same of two scripts in which the front and the asks are the same texts, whatever else stands
-- in the scripts and however that numbers their names
abbrev pub FrontsLeaveNumbers : Type 0
FrontsLeaveNumbers = (calc : Calc) (sheet : Sheet) (ones others : List (List ℕ)) (one other : Script) (k : ℕ)
    → IsSheet sheet → Hold ones sheet.basis.names → Hold others sheet.basis.names
    → IsFront sheet ones one k → IsFront sheet others other k
    → IsAlikeAmong calc (basis_among ones sheet.basis) (basis_among others sheet.basis) one other k

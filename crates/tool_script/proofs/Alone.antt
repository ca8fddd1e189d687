-- A scenario is that of its own block.
use Rattle.std.proofs.Common.{◌≡◌, ℕ, zero, suc, List, [], ◌∷◌, Option, Some, None, refl, sym, ◌∙◌, ap, slice_get}
use Rattle.std.specs.Prelude.{option_map}
use Rattle.desk_terms.specs.Reading.{Calc}
use Rattle.session_commands.specs.declared.command.Command.{Command}
use Rattle.session_commands.specs.declared.script.Script.{Script}
use Rattle.tool_script.specs.Scenario.{Basis, Scenario, scenario_calls, scenario_values}
use Rattle.tool_script.specs.Grid.{blocks, scenario_text}
use Rattle.tool_script.specs.GridLaws.{Agree, IsAlike, scenario_at}

-- a name and moves, where both are there
abbrev with_moves : ℕ → Option (List Command) → Option Scenario
with_moves name None = None
with_moves name (Some moves) = Some (record { name = Some name; moves = moves })

abbrev scenario_by : Option ℕ → Option (List Command) → Option Scenario
scenario_by None moves = None
scenario_by (Some name) moves = with_moves name moves

none_by : (name : Option ℕ) → scenario_by name None ≡ None
none_by None = refl
none_by (Some name) = refl

block_at : (names : List ℕ) (actions : List (List Command)) (i : ℕ)
    → slice_get (blocks names actions) i ≡ scenario_by (slice_get names i) (slice_get actions i)
block_at [] actions i = refl
block_at (name ∷ others) [] i = sym (none_by (slice_get (name ∷ others) i))
block_at (name ∷ others) (moves ∷ actions) zero = refl
block_at (name ∷ others) (moves ∷ actions) (suc i) = block_at others actions i

module _ (one other : Script) (i j : ℕ) (agree : Agree one other i j) where
  same_scenario : scenario_at one i ≡ scenario_at other j
  same_scenario =
      block_at one.action_names one.actions i
      ∙ ap (λ (name : Option ℕ). scenario_by name (slice_get one.actions i)) agree.name
      ∙ ap (λ (moves : Option (List Command)). scenario_by (slice_get other.action_names j) moves) agree.moves
      ∙ sym (block_at other.action_names other.actions j)

  -- what asks and a scenario give is the same
  same_of : {X : Type 0} → (f : List Command → Scenario → X)
      → option_map (f one.commands) (scenario_at one i) ≡ option_map (f other.commands) (scenario_at other j)
  same_of f =
      ap (λ (asks : List Command). option_map (f asks) (scenario_at one i)) agree.asks
      ∙ ap (λ (scenario : Option Scenario). option_map (f other.commands) scenario) same_scenario

pub stand_alone : (calc : Calc) (basis : Basis) (one other : Script) (i j : ℕ) → Agree one other i j
    → IsAlike calc basis one other i j
stand_alone calc basis one other i j agree = record {
  text = same_of one other i j agree (scenario_text calc basis);
  calls = same_of one other i j agree (scenario_calls calc basis);
  values = same_of one other i j agree (scenario_values calc basis);
}

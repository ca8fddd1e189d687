-- Scripts whose shape a hand tells.
use Rattle.std.specs.Prelude.{◌≡◌, ℕ, List, [], ◌∷◌, codes, replicate, ℤ, pos, Some, None}
use Rattle.session_commands.specs.declared.command.Command.{Command}
use Rattle.session_commands.specs.declared.command.Command.TheVariants.{Quote, Member, Set, Unset, Link, Unlink, Engine, Today, Fixing, Freeze, Ask, Df}
use Rattle.session_commands.specs.declared.script.Script.{Script}
use Rattle.tool_script.specs.declared.shape.Blocks.TheVariants.{Scenarios, Steps}
use Rattle.tool_script.specs.Shape.{shape_of}

abbrev pub some_names : List (List ℕ)
some_names = codes "today" ∷ codes "r" ∷ codes "up" ∷ codes "base" ∷ codes "total" ∷ []

abbrev pub script : List (List Command) → List ℕ → List Command → Script
script actions action_names commands = record { actions = actions; commands = commands; action_names = action_names }

abbrev pub moves : List Command
moves = Set 1 (pos 5) ∷ Unset 1 ∷ Link 1 1 ∷ Unlink 1 ∷ Engine 1 None ∷ Today (pos 9) ∷ Member 1 1 (pos 1) ∷ Fixing 1 (pos 1) (pos 1) ∷ []

pub record AreShaped : Type 0 where
  pub nothing : shape_of Scenarios some_names (script [] [] []) ≡ None
  pub moved : shape_of Scenarios some_names (script (moves ∷ [] ∷ []) (2 ∷ 1 ∷ []) (Ask 1 ∷ Ask 9 ∷ [])) ≡ None
  pub command : shape_of Scenarios some_names (script [] [] (Set 1 (pos 5) ∷ [])) ≡ Some 2
  pub discount : shape_of Scenarios some_names (script [] [] (Ask 1 ∷ Df 1 (pos 5) ∷ [])) ≡ Some 2
  pub block : shape_of Scenarios some_names (script (moves ∷ (Ask 1 ∷ []) ∷ []) (2 ∷ 3 ∷ []) (Set 1 (pos 5) ∷ [])) ≡ Some 1
  pub frozen : shape_of Scenarios some_names (script ((Freeze 1 ∷ []) ∷ []) (2 ∷ []) []) ≡ Some 1
  pub made : shape_of Scenarios some_names (script ((Quote 2 None ∷ []) ∷ []) (2 ∷ []) []) ≡ Some 1
  pub name : shape_of Scenarios some_names (script ([] ∷ []) (3 ∷ []) []) ≡ Some 3
  pub second : shape_of Scenarios some_names (script ([] ∷ []) (3 ∷ []) (Unset 1 ∷ [])) ≡ Some 2
  pub many : shape_of Scenarios some_names (script [] [] (replicate 1001 (Ask 1))) ≡ Some 4
  pub most : shape_of Scenarios some_names (script [] [] (replicate 1000 (Ask 1))) ≡ None
  pub total : shape_of Scenarios some_names (script ([] ∷ []) (4 ∷ []) []) ≡ None
  pub step : shape_of Steps some_names (script (moves ∷ [] ∷ []) (2 ∷ 4 ∷ []) (Ask 1 ∷ [])) ≡ Some 3
  pub base_step : shape_of Steps some_names (script ([] ∷ []) (3 ∷ []) []) ≡ Some 3
  pub many_steps : shape_of Steps some_names (script ([] ∷ []) (4 ∷ []) (replicate 1001 (Ask 1))) ≡ Some 4
  pub moved_steps : shape_of Steps some_names (script (moves ∷ [] ∷ []) (2 ∷ 1 ∷ []) (Ask 1 ∷ Ask 9 ∷ [])) ≡ None

-- What is proved of the shape of a script.
use Rattle.std.specs.Prelude.{◌≡◌, ◌≤◌, ℕ, true, List, length, None}
use Rattle.std.specs.List.{All}
use Rattle.session_commands.specs.declared.script.Script.{Script}
use Rattle.tool_script.specs.declared.shape.Blocks.{Blocks}
use Rattle.tool_script.specs.Kinds.{is_move, is_ask}
use Rattle.tool_script.specs.Shape.{shape_of}

-- A SCRIPT THAT IS TAKEN: its blocks hold moves alone, its other commands are asks, and there are at most 1,000 of each
pub record IsTaken (script : Script) : Type 0 where
  pub moves : All (λ block. All (λ c. is_move c ≡ true) block) script.actions
  pub asks : All (λ c. is_ask c ≡ true) script.commands
  pub blocks : length script.actions ≤ 1000
  pub few : length script.commands ≤ 1000

abbrev pub ShapesAreTaken : Type 0
ShapesAreTaken = (blocks : Blocks) (names : List (List ℕ)) (script : Script) → shape_of blocks names script ≡ None → IsTaken script

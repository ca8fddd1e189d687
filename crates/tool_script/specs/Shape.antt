-- The shape of a script of blocks: the first thing in it that does not fit (this project's profile).
use Rattle.std.specs.Prelude.{ℕ, Bool, not, ◌&&◌, ◌||◌, ◌==◌, nat_lt, if◌then◌else◌, List, length, Option, Some, None}
use Rattle.std.specs.List.{list_all, list_any}
use Rattle.desk_names.specs.Names.{has_text, place_of}
use Rattle.session_commands.specs.declared.command.Command.{Command}
use Rattle.session_commands.specs.declared.script.Script.{Script}
use Rattle.tool_script.specs.declared.shape.Blocks.{Blocks}
use Rattle.tool_script.specs.declared.shape.Blocks.TheVariants.{Scenarios, Steps}
use Rattle.tool_script.specs.declared.shape.TheConstants.{BASE, TOTAL, MOST_EACH}
use Rattle.tool_script.specs.Kinds.{is_move, is_ask}

-- each command of a block is a move
abbrev pub are_moves : List Command → Bool
are_moves block = list_all is_move block

-- a block has this name: since names are there once each, it has that name's number
abbrev pub is_block_name : List (List ℕ) → List ℕ → List ℕ → Bool
is_block_name names blocks text = has_text names text && list_any (λ name. name == place_of names text) blocks

-- there are more blocks, or more commands outside of blocks, than there may be
abbrev pub is_over : Script → Bool
is_over script = nat_lt MOST_EACH (length script.actions) || nat_lt MOST_EACH (length script.commands)

-- of scenarios: 1 for a command of a block that is no move, 2 for one outside of blocks that is no ask, 3 for a block of the
-- name `base`, 4 for too many blocks or asks
unfoldable pub scenarios_shape : List (List ℕ) → Script → Option ℕ
scenarios_shape names script =
    if not (list_all are_moves script.actions)
    then Some 1
    else if not (list_all is_ask script.commands)
    then Some 2
    else if is_block_name names script.action_names BASE.now
    then Some 3
    else if is_over script
    then Some 4
    else None

abbrev pub unless_total : Bool → Option ℕ → Option ℕ
unless_total is_total (Some fault) = Some fault
unless_total is_total None = if is_total then Some 3 else None

-- of steps: the same, and then 3 for a block of the name `total`
unfoldable pub steps_shape : List (List ℕ) → Script → Option ℕ
steps_shape names script = unless_total (is_block_name names script.action_names TOTAL.now) (scenarios_shape names script)

-- THE SHAPE of a script whose blocks are the one or the other
abbrev pub shape_of : Blocks → List (List ℕ) → Script → Option ℕ
shape_of Scenarios names script = scenarios_shape names script
shape_of Steps names script = steps_shape names script

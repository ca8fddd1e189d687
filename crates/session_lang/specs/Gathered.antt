-- What is gathered of lines while they are read: the commands outside of blocks, and the statements that are asked for later.
use Rattle.std.specs.Prelude.{◌≡◌, ℕ, Bool, true, false, ◌||◌, if◌then◌else◌, List, [], ◌∷◌, ◌++◌, map, Option, Some, None, is_some, Result, Ok, Err}
use Rattle.std.specs.List.{find}
use Rattle.session_commands.specs.declared.script_kind.ScriptKind.{ScriptKind}
use Rattle.session_commands.specs.declared.script_kind.ScriptKind.TheVariants as fault
use Rattle.session_commands.specs.declared.command.Command.{Command}
use Rattle.session_commands.specs.declared.script.Script.{Script}
use Rattle.session_lang.specs.declared.fault.ScriptFault.{ScriptFault}
use Rattle.session_lang.specs.declared.statement.Statement.{Statement}
use Rattle.session_lang.specs.declared.statement.Statement.TheVariants.{Blank, Begin, End, Run}
use Rattle.session_lang.specs.declared.steps.Step.{Step}
use Rattle.session_lang.specs.Given.{FailsAt}
use Rattle.session_lang.specs.Statement.{Known}
use Rattle.session_lang.specs.Reading.{Said, action_of, lacks, line_of, linked, actions_of, action_names_of, inside_after, unless_lacking}

-- whether a statement is asked for after all lines: one that begins or ends a block, one inside a block, or one that names
-- an action
abbrev pub is_later : Bool → Statement → Bool
is_later inside (Run command) = inside || is_some (action_of command)
is_later inside Blank = false
is_later inside (Begin name) = true
is_later inside End = true

-- a statement in front of those that are kept for later
abbrev pub later_with : Bool → Step → List Step → List Step
later_with inside step more = if is_later inside step.what then step ∷ more else more

-- the statements that are kept for later
unfoldable pub later : Bool → List Step → List Step
later inside [] = []
later inside (step ∷ steps) = later_with inside step (later (inside_after step.what inside) steps)

-- a statement in front of the commands outside of blocks, as their lines say them
abbrev pub outside_with : Bool → Statement → List Command → List Command
outside_with true statement more = more
outside_with false (Run command) more = command ∷ more
outside_with false Blank more = more
outside_with false (Begin name) more = more
outside_with false End more = more

-- the commands outside of blocks, as their lines say them
unfoldable pub outside : Bool → List Step → List Command
outside inside [] = []
outside inside (step ∷ steps) = outside_with inside step.what (outside (inside_after step.what inside) steps)

-- what is gathered of lines, with the names after them and the line of a block that stands open
pub record Gathered : Type 0 where
  pub steps : List Step
  pub commands : List Command
  pub known : Known
  pub open_at : Option ℕ

-- what is gathered of lines behind what was gathered before them, inside a block or not
abbrev pub gathered_behind : List Step → List Command → Bool → Result Said (ℕ × ScriptKind) → Result Gathered (ℕ × ScriptKind)
gathered_behind steps commands inside (Ok said) =
    Ok (record { steps = steps ++ later inside said.steps; commands = commands ++ outside inside said.steps; known = said.known; open_at = said.open_at })
gathered_behind steps commands inside (Err e) = Err e

-- one line was taken: what is gathered goes on with what follows it, or the line's fault is told
abbrev pub Takes : Result (Option ℕ) ScriptFault → (Option ℕ → Result Gathered (ℕ × ScriptKind)) → Result Gathered (ℕ × ScriptKind) → Type 0
Takes (Ok open_at) next told = told ≡ next open_at
Takes (Err e) next told = FailsAt e told

-- the script of what is gathered
abbrev pub script_of_gathered : Known → List Step → List Command → Script
script_of_gathered known steps commands =
    record { actions = actions_of known steps; commands = map (linked known) commands; action_names = action_names_of steps }

-- what was gathered says together: a block must not stand open, and then each action must be defined
abbrev pub together_gathered : Known → List Step → List Command → Option ℕ → Result (Script × List (List ℕ)) (ℕ × ScriptKind)
together_gathered known steps commands (Some number) = Err (number, fault.Unclosed)
together_gathered known steps commands None =
    unless_lacking (line_of (find (λ step. lacks known step.what) steps)) (script_of_gathered known steps commands, known.names)

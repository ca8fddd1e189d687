-- A whole script: what its lines say, one after another, and what they say together.
use Rattle.std.specs.Prelude.{◌≡◌, ℕ, ◌+◌, Bool, true, false, nat_lt, if◌then◌else◌, List, [], ◌∷◌, ◌++◌, length, slice_index_or, Option, Some, None, is_some, Result, Ok, Err}
use Rattle.std.specs.List.{find}
use Rattle.std.specs.Str.Lines.{lines}
use Rattle.desk_names.specs.Names.{has_text, place_of}
use Rattle.session_commands.specs.declared.script_kind.ScriptKind.{ScriptKind}
use Rattle.session_commands.specs.declared.script_kind.ScriptKind.TheVariants as fault
use Rattle.session_lang.specs.declared.fault.ScriptFault.{ScriptFault}
use Rattle.session_lang.specs.declared.fault.ScriptFault.TheVariants as script
use Rattle.session_commands.specs.declared.command.Command.{Command}
use Rattle.session_commands.specs.declared.command.Command.TheVariants as command
use Rattle.session_commands.specs.Field.{action_in}
use Rattle.session_commands.specs.Parts.{parts_of}
use Rattle.session_lang.specs.declared.statement.Statement.{Statement}
use Rattle.session_lang.specs.declared.statement.Statement.TheVariants.{Blank, Begin, End, Run}
use Rattle.session_lang.specs.declared.steps.Step.{Step}
use Rattle.session_commands.specs.declared.script.Script.{Script}
use Rattle.script_words.specs.Given.{◌>>=◌}
use Rattle.session_lang.specs.Statement.{Known, line_meaning}
use Rattle.text_limits.specs.declared.limit.TheConstants.{MOST_BYTES}

-- the most bytes of a script (this project's profile)
abbrev pub most_bytes : ℕ
most_bytes = MOST_BYTES

-- a fault at its line
abbrev pub at_line : {A : Type 0} → ℕ → Result A ScriptKind → Result A (ℕ × ScriptKind)
at_line number (Ok x) = Ok x
at_line number (Err k) = Err (number, k)

-- the line of the block that stands open after a statement
abbrev pub opened : Statement → ℕ → Option ℕ → Option ℕ
opened (Begin name) number open_at = Some number
opened End number open_at = None
opened Blank number open_at = open_at
opened (Run command) number open_at = open_at

-- the statements with this one in front; a blank line is none
abbrev pub kept : ℕ → Statement → List Step → List Step
kept number Blank steps = steps
kept number (Begin name) steps = record { line = number; what = Begin name } ∷ steps
kept number End steps = record { line = number; what = End } ∷ steps
kept number (Run command) steps = record { line = number; what = Run command } ∷ steps

-- what lines say: their statements, the names after them, and the line of a block that stands open
pub record Said : Type 0 where
  pub steps : List Step
  pub known : Known
  pub open_at : Option ℕ

-- a statement in front of what the lines behind it say
abbrev pub said_before : ℕ → Statement → Said → Said
said_before number statement said = record { steps = kept number statement said.steps; known = said.known; open_at = said.open_at }

-- the lines from this number on, up to the first that has a fault
unfoldable pub lines_meaning : Known → Option ℕ → ℕ → List (List ℕ) → Result Said (ℕ × ScriptKind)
lines_meaning known open_at number [] = Ok (record { steps = []; known = known; open_at = open_at })
lines_meaning known open_at number (line ∷ rest) =
    at_line number (line_meaning known (is_some open_at) line) >>= (λ said.
    lines_meaning said.1 (opened said.0 number open_at) (number + 1) rest >>= (λ others.
    Ok (said_before number said.0 others)))

-- the name of the action that a watch names
abbrev pub action_of : Command → Option ℕ
action_of command = action_in (parts_of command).second

-- the first words of a text, up to this rest of it, say this command, which names no action and no new name, where they are a line
pub record IsSaidFirst (names : List (List ℕ)) (text : List ℕ) (command : Command) (behind : List ℕ) : Type 0 where
  pub line : List ℕ
  pub whole : text ≡ line ++ behind
  pub alone : (after : List ℕ) → lines (line ++ 10 ∷ after) ≡ line ∷ lines after
  pub says : (begun : List (List ℕ)) (inside : Bool) → line_meaning (record { names = names; begun = begun }) inside line
      ≡ Ok (Run command, record { names = names; begun = begun })
  pub unlinked : action_of command ≡ None

-- what a line leaves to those behind it, or the names as they were where it has a fault
abbrev pub after_line : List (List ℕ) → (Statement × Known → List (List ℕ)) → Result (Statement × Known) ScriptKind → List (List ℕ)
after_line names go (Ok said) = go said
after_line names go (Err k) = names

-- the names that the lines from this number on leave, up to the first that has a fault
unfoldable pub names_left : Known → Option ℕ → ℕ → List (List ℕ) → List (List ℕ)
names_left known open_at number [] = known.names
names_left known open_at number (line ∷ rest) =
    after_line known.names (λ said. names_left said.1 (opened said.0 number open_at) (number + 1) rest)
    (line_meaning known (is_some open_at) line)

-- one line was taken: the names that the lines leave are those that the lines behind it leave, or these after its fault
abbrev pub Leaves : Result (Option ℕ) ScriptFault → List (List ℕ) → (Option ℕ → List (List ℕ)) → List (List ℕ) → Type 0
Leaves (Ok open_at) names next left = left ≡ next open_at
Leaves (Err script.NoMemory) names next left = Unit {0}
Leaves (Err (script.At line k)) names next left = left ≡ names

-- the names are those, unless memory ran out
abbrev pub AreLeft : {X : Type 0} → Result X ScriptFault → List (List ℕ) → List (List ℕ) → Type 0
AreLeft (Ok x) names left = names ≡ left
AreLeft (Err script.NoMemory) names left = Unit {0}
AreLeft (Err (script.At line k)) names left = names ≡ left

-- the text of a name that was read
abbrev pub text_of : Known → ℕ → List ℕ
text_of known name = slice_index_or known.names name []

-- whether no block defines the action that a command names
abbrev pub lacks_action : Known → Option ℕ → Bool
lacks_action known None = false
lacks_action known (Some name) = if has_text known.begun (text_of known name) then false else true

-- the same of a statement
abbrev pub lacks : Known → Statement → Bool
lacks known (Run command) = lacks_action known (action_of command)
lacks known Blank = false
lacks known (Begin name) = false
lacks known End = false

-- the line of a step
abbrev pub line_of : Option Step → Option ℕ
line_of (Some step) = Some step.line
line_of None = None

-- a watch names its action by the place of its block among the blocks
abbrev pub linked : Known → Command → Command
linked known (command.Watch watcher action) = command.Watch watcher (place_of known.begun (text_of known action))
linked known c = c

-- the commands of a block, up to its `end`
abbrev pub block_with : Known → Statement → List Command → List Command
block_with known (Run command) more = linked known command ∷ more
block_with known Blank more = more
block_with known (Begin name) more = more
block_with known End more = []

-- the commands from here to the `end` of the block
unfoldable pub block_of : Known → List Step → List Command
block_of known [] = []
block_of known (step ∷ steps) = block_with known step.what (block_of known steps)

-- the blocks, in order
abbrev pub action_with : Statement → List Command → List (List Command) → List (List Command)
action_with (Begin name) block more = block ∷ more
action_with Blank block more = more
action_with End block more = more
action_with (Run command) block more = more

-- the commands of each block, in order
unfoldable pub actions_of : Known → List Step → List (List Command)
actions_of known [] = []
actions_of known (step ∷ steps) = action_with step.what (block_of known steps) (actions_of known steps)

-- the names of the blocks, in order
abbrev pub name_with : Statement → List ℕ → List ℕ
name_with (Begin name) more = name ∷ more
name_with Blank more = more
name_with End more = more
name_with (Run command) more = more

-- the name of each block, in order
unfoldable pub action_names_of : List Step → List ℕ
action_names_of [] = []
action_names_of (step ∷ steps) = name_with step.what (action_names_of steps)

-- whether a block stands open behind a statement
abbrev pub inside_after : Statement → Bool → Bool
inside_after (Begin name) inside = true
inside_after End inside = false
inside_after Blank inside = inside
inside_after (Run command) inside = inside

-- a statement in front of the commands outside of blocks
abbrev pub command_with : Known → Bool → Statement → List Command → List Command
command_with known true statement more = more
command_with known false (Run command) more = linked known command ∷ more
command_with known false Blank more = more
command_with known false (Begin name) more = more
command_with known false End more = more

-- the commands outside of blocks
unfoldable pub commands_of : Known → Bool → List Step → List Command
commands_of known inside [] = []
commands_of known inside (step ∷ steps) = command_with known inside step.what (commands_of known (inside_after step.what inside) steps)

-- the script of statements that have no fault
abbrev pub script_of : Known → List Step → Script
script_of known steps = record { actions = actions_of known steps; commands = commands_of known false steps; action_names = action_names_of steps }

-- unless a line names an action that no block defines: the first such
abbrev pub unless_lacking : Option ℕ → Script × List (List ℕ) → Result (Script × List (List ℕ)) (ℕ × ScriptKind)
unless_lacking (Some number) script = Err (number, fault.NoAction)
unless_lacking None script = Ok script

-- what statements say together: a block must not stand open, and then each action must be defined
abbrev pub together_of : Known → List Step → Option ℕ → Result (Script × List (List ℕ)) (ℕ × ScriptKind)
together_of known steps (Some number) = Err (number, fault.Unclosed)
together_of known steps None = unless_lacking (line_of (find (λ step. lacks known step.what) steps)) (script_of known steps, known.names)

-- the script that a text says, with the names after it, or its first fault with the line (this project's profile)
unfoldable pub script_meaning : List (List ℕ) → List ℕ → Result (Script × List (List ℕ)) (ℕ × ScriptKind)
script_meaning names text =
    if nat_lt most_bytes (length text) then Err (0, fault.TooLong)
    else (lines_meaning (record { names = names; begun = [] }) None 1 (lines text) >>= (λ said.
    together_of said.known said.steps said.open_at))

-- the names that a text leaves: those of its lines up to the first that has a fault
abbrev pub script_left : List (List ℕ) → List ℕ → List (List ℕ)
script_left names text =
    if nat_lt most_bytes (length text) then names
    else names_left (record { names = names; begun = [] }) None 1 (lines text)

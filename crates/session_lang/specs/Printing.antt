-- The text of a script.
use Rattle.std.specs.Prelude.{ℕ, ◌+◌, List, [], ◌∷◌, ◌++◌, codes}
use Rattle.std.specs.List.{flat_map}
use Rattle.session_commands.specs.declared.command.Command.{Command}
use Rattle.session_commands.specs.declared.parts.Parts.{Parts}
use Rattle.session_commands.specs.declared.script.Script.{Script}
use Rattle.session_commands.specs.Table.{Row, row_of}
use Rattle.session_commands.specs.Parts.{parts_of}
use Rattle.script_words.specs.WordText.{action_text, word_text}

-- the words of a row with these fields
abbrev pub row_text : List (List ℕ) → List ℕ → Row → Parts → List ℕ
row_text names action_names r p =
    r.word ++ word_text names action_names r.first p.first
    ++ word_text names action_names r.second p.second
    ++ word_text names action_names r.third p.third

-- the line of a command, with its newline (this project's profile)
unfoldable pub command_text : List (List ℕ) → List ℕ → Command → List ℕ
command_text names action_names command = row_text names action_names (row_of (parts_of command).verb) (parts_of command) ++ 10 ∷ []

-- the lines of commands
abbrev pub commands_text : List (List ℕ) → List ℕ → List Command → List ℕ
commands_text names action_names commands = flat_map (command_text names action_names) commands

-- the lines of a block, from `action A` to `end`
unfoldable pub block_text : List (List ℕ) → List ℕ → ℕ → List Command → List ℕ
block_text names action_names action commands =
    codes "action " ++ action_text names action_names action ++ 10 ∷ commands_text names action_names commands ++ codes "end" ++ 10 ∷ []

-- the blocks in order, from this number on
unfoldable pub blocks_text : List (List ℕ) → List ℕ → ℕ → List (List Command) → List ℕ
blocks_text names action_names action [] = []
blocks_text names action_names action (block ∷ blocks) = block_text names action_names action block ++ blocks_text names action_names (action + 1) blocks

-- the text of a script: its blocks, and then its commands (this project's profile)
unfoldable pub script_text : List (List ℕ) → Script → List ℕ
script_text names script = blocks_text names script.action_names 0 script.actions ++ commands_text names script.action_names script.commands

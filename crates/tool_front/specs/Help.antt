-- The texts that are made of the table (this project's profile).
use Rattle.std.specs.Prelude.{ℕ, List, ◌++◌, codes, length, drop}
use Rattle.std.specs.List.{flat_map}
use Rattle.tool_front.specs.declared.command.Command.{Command}
use Rattle.tool_front.specs.Table.{Row, row_of, commands}

-- spaces up to the column of what a command does
abbrev pub gap : List ℕ → List ℕ
gap name = drop (length name) (codes "         ")

-- a command in the list
abbrev pub row_line : Row → List ℕ
row_line row = codes "  " ++ row.name ++ gap row.name ++ row.summary ++ codes "\n"

abbrev pub line_text : Command → List ℕ
line_text c = row_line (row_of c)

abbrev pub lines_text : List Command → List ℕ
lines_text listed = flat_map line_text listed

-- the list of commands
abbrev pub list_text : List ℕ
list_text =
    codes "usage: doqs COMMAND ARGUMENTS\n\ncommands:\n" ++ lines_text commands
    ++ codes "  help     Shows this list, or how one command is used.\n\ndoqs help COMMAND shows its arguments and an example. doqs --version shows the version.\n"

-- how a command is used, in one line
abbrev pub usage_line : Row → List ℕ
usage_line row = codes "usage: doqs " ++ row.name ++ codes " " ++ row.arguments ++ codes "\n"

unfoldable pub example_head : List ℕ
example_head = codes "\n\nexample: "

-- what a command does, and a call of it
abbrev pub about_text : Row → List ℕ
about_text row = codes "\n" ++ row.about ++ example_head ++ row.example ++ codes "\n"

abbrev pub row_help : Row → List ℕ
row_help row = usage_line row ++ about_text row

-- how a command is used, what it does, and a call of it
abbrev pub help_text : Command → List ℕ
help_text c = row_help (row_of c)

abbrev pub version : List ℕ
version = codes "0.18"

-- the sum of the logic in which the proofs were checked
abbrev pub build : List ℕ
build = codes "logic dac8208d650f15bf"

abbrev pub version_text : List ℕ
version_text = codes "doqs " ++ version ++ codes "\n" ++ build ++ codes "\n"

-- what is said of a word that is no command
abbrev pub unknown_text : List ℕ → List ℕ
unknown_text word = codes "doqs: no command " ++ word ++ codes "\n" ++ list_text

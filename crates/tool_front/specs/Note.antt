-- The lines on standard error of a command that is not done (this project's profile).
use Rattle.std.specs.Prelude.{◌≡◌, ◌⊎◌, ◌<◌, ◌-◌, ℕ, Bool, true, false, ◌==◌, ◌||◌, if◌then◌else◌, List, [], ◌∷◌, ◌++◌, codes, length, take, Option, None, Some}
use Rattle.std.specs.Str.{bytes_eq}
use Rattle.desk_edge.specs.Count.{Rose}
use Rattle.desk_edge.specs.Sink.{appended}
use Rattle.tool_frame.specs.Words.{is_word}
use Rattle.tool_front.specs.declared.command.Command.{Command}
use Rattle.tool_front.specs.declared.command.Command.TheVariants as command
use Rattle.tool_front.specs.Help.{usage_line}
use Rattle.tool_front.specs.Table.{Row, row_of}

-- the most paths that the reader of faults takes of a command's words: a market, and a script where the command reads one; none of a load
abbrev pub paths_of : Command → ℕ
paths_of command.Run = 2
paths_of command.Check = 1
paths_of command.Load = 0
paths_of command.Live = 2
paths_of command.Why = 2
paths_of command.Explain = 2
paths_of command.Grid = 2
paths_of command.Bump = 1
paths_of command.Risk = 1
paths_of command.Curve = 1
paths_of command.Graph = 2
paths_of command.Yield = 1
paths_of command.Measure = 1

-- the first words that are no option and no order of one, a space before each: so many at most
abbrev pub path_words : ℕ → Bool → List (List ℕ) → List ℕ
path_words most waits [] = []
path_words most true (word ∷ words) = path_words most false words
path_words most false (word ∷ words) =
    if most == 0 then []
    else (if bytes_eq word (codes "--order") then path_words most true words
    else (if is_word word then codes " " ++ word ++ path_words (most - 1) false words else path_words most false words))

-- what the reader of faults adds
unfoldable pub fault_tail : List ℕ
fault_tail = codes " says in which line, and what would be taken\n"

-- where to look for the place of a fault
abbrev pub fault_line : Command → List (List ℕ) → List ℕ
fault_line c words = codes "desk_fault" ++ path_words (paths_of c) false words ++ fault_tail

-- what helps at an exit status: how the command is used, or where a fault is
abbrev pub advice : Command → List (List ℕ) → ℕ → List ℕ
advice c words code =
    if code == 2 then usage_line (row_of c) else (if code == 3 || code == 4 then fault_line c words else [])

-- the line of a command
abbrev pub said_line : Row → List ℕ → List ℕ
said_line row said = codes "doqs " ++ row.name ++ codes ": " ++ said ++ codes "\n"

-- the lines of a run that ended with this status and this line: none where it has no line
abbrev pub note_text : Command → List (List ℕ) → ℕ → Option (List ℕ) → List ℕ
note_text c words code None = []
note_text c words code (Some said) = said_line (row_of c) said ++ advice c words code

-- WHAT WAS NOTED of these lines, where it is told: all, or where a fault of it was counted a front
abbrev pub Notes : List ℕ → Option (List ℕ) → Option (List ℕ) → ℕ → ℕ → Type 0
Notes lines old new before now =
    (new ≡ appended lines old) ⊎ (Rose before now × (n : ℕ) × (n < length lines) × (new ≡ appended (take n lines) old))

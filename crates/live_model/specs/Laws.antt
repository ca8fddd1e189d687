-- What is proved of each line that is said to a live session.
use Rattle.std.specs.Prelude.{◌≡◌, ℕ, ◌<◌, Bool, List, [], length, None, is_some, Ok, Err}
use Rattle.session_commands.specs.declared.command.Command.{Command}
use Rattle.session_commands.specs.declared.script_kind.ScriptKind.{ScriptKind}
use Rattle.session_commands.specs.declared.script_kind.ScriptKind.TheVariants.{TooLong}
use Rattle.session_lang.specs.declared.statement.Statement.TheVariants.{Run}
use Rattle.session_lang.specs.Statement.{Known}
use Rattle.session_lang.specs.Reading.{linked}
use Rattle.session_model.specs.Course.{Meaning, Course, round_of}
use Rattle.live_model.specs.declared.limits.TheConstants.{MOST_LINE}
use Rattle.live_model.specs.Live.{Live, known_of, meaning, fault_line, knowing, counted, Saying, said}

-- a line does what this round does, and nothing else
pub record DoesRound (P : Type 0) (told : Saying P) (s : Live P) (course : Course P) : Type 0 where
  pub lines : told.lines ≡ course.lines
  pub calls : told.calls ≡ course.calls
  pub next : told.next ≡ record s { running = course.next }

-- A COMMAND OUTSIDE OF A BLOCK IS ITS ROUND, in the session that knows the names of its line
abbrev pub CommandsAreRounds : Type 0 → Type 0
CommandsAreRounds P = (m : Meaning P) (s : Live P) (line : List ℕ) (c : Command) (known : Known)
    → s.block ≡ None → meaning (known_of s) (is_some s.block) line ≡ Ok (Run c, known)
    → DoesRound P (said m s line) (knowing known (counted s)) (round_of m (knowing known s).running (linked known c))

-- A FAULT CHANGES NOTHING: its line is counted and told, no name is learnt, and a block that stands open stays open
abbrev pub FaultsChangeNothing : Type 0 → Type 0
FaultsChangeNothing P = (m : Meaning P) (s : Live P) (line : List ℕ) (kind : ScriptKind)
    → meaning (known_of s) (is_some s.block) line ≡ Err kind
    → said m s line ≡ record { lines = fault_line (counted s).line kind; calls = []; next = counted s }

-- A LONG LINE is a fault, whatever it says
abbrev pub LongLinesAreFaults : Type 0
LongLinesAreFaults = (known : Known) (inside : Bool) (line : List ℕ) → MOST_LINE < length line
    → meaning known inside line ≡ Err TooLong

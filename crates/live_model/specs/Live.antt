-- A session that is spoken to line by line (this project's profile).
use Rattle.std.specs.Prelude.{ℕ, ◌+◌, Bool, nat_lt, if◌then◌else◌, List, [], ◌∷◌, ◌++◌, codes, decimal, drop, length, Option, Some, None, is_some, Result, Ok, Err}
use Rattle.session_commands.specs.declared.command.Command.{Command}
use Rattle.session_commands.specs.declared.script_kind.ScriptKind.{ScriptKind}
use Rattle.session_commands.specs.declared.script_kind.ScriptKind.TheVariants as fault
use Rattle.session_commands.specs.ScriptKind.{kind_text}
use Rattle.script_words.specs.Given.{◌>>=◌}
use Rattle.session_lang.specs.declared.statement.Statement.{Statement}
use Rattle.session_lang.specs.declared.statement.Statement.TheVariants.{Blank, Begin, End, Run}
use Rattle.session_lang.specs.Statement.{Known, line_meaning}
use Rattle.session_lang.specs.Reading.{lacks, linked}
use Rattle.session_model.specs.Course.{Running, Meaning, round_of}
use Rattle.session_model.specs.Growing.{with_action}
use Rattle.session_model.specs.Grown.{learn_in}
use Rattle.session_model.specs.Turn.{TurnOf}
use Rattle.live_model.specs.declared.limits.TheConstants.{MOST_LINE}

-- the block that stands open: the number of the line at which it began, and its commands
pub record Block : Type 0 where
  pub line : ℕ
  pub commands : List Command

-- a live session: the session, the names of its actions in order, the block that stands open, and how many lines were
-- said
pub record Live (P : Type 0) : Type 0 where
  pub running : Running P
  pub begun : List (List ℕ)
  pub block : Option Block
  pub line : ℕ

-- what a line of script finds: the session's names, and the names of its actions
abbrev pub known_of : {P : Type 0} → Live P → Known
known_of s = record { names = s.running.standing.names; begun = s.begun }

-- no line was said to this session of these actions yet
abbrev pub live_from : {P : Type 0} → Running P → List (List ℕ) → Live P
live_from r begun = record { running = r; begun = begun; block = None; line = 0 }

-- unless a watch names an action that neither the script nor a line above begins
abbrev pub unless_lacking : Statement × Known → Result (Statement × Known) ScriptKind
unless_lacking read = if lacks read.1 read.0 then Err fault.NoAction else Ok read

-- WHAT A LINE SAYS, inside a block or not: what a line of a script says, where it is not too long and each action that
-- it names was begun
unfoldable pub meaning : Known → Bool → List ℕ → Result (Statement × Known) ScriptKind
meaning known inside line =
    if nat_lt MOST_LINE (length line) then Err fault.TooLong else line_meaning known inside line >>= unless_lacking

-- what lines give: what they write, the computations that they make, and the session after them
abbrev pub Saying : Type 0 → Type 0
Saying P = TurnOf (Live P)

abbrev pub silent : {P : Type 0} → Live P → Saying P
silent s = record { lines = []; calls = []; next = s }

-- `fault LINE KIND`
unfoldable pub fault_line : ℕ → ScriptKind → List ℕ
fault_line line kind = codes "fault " ++ decimal line ++ codes " " ++ kind_text kind ++ codes "\n"

abbrev pub faulty : {P : Type 0} → Live P → ℕ → ScriptKind → Saying P
faulty s line kind = record { lines = fault_line line kind; calls = []; next = s }

-- a session learns names, in order
unfoldable pub learnt : {P : Type 0} → List (List ℕ) → Running P → Running P
learnt [] r = r
learnt (text ∷ texts) r = learnt texts (learn_in text r)

-- the session with the names and the actions' names that a line leaves
abbrev pub knowing : {P : Type 0} → Known → Live P → Live P
knowing known s = record s {
  running = learnt (drop (length s.running.standing.names) known.names) s.running;
  begun = known.begun;
}

-- a block begins at this line
abbrev pub block_begun : {P : Type 0} → Live P → Live P
block_begun s = record s { block = Some (record { line = s.line; commands = [] }) }

-- the open block ends: it is an action from now on
abbrev pub block_ended : {P : Type 0} → Option Block → Live P → Live P
block_ended None s = s
block_ended (Some block) s = record s {
  running = record s.running { standing = with_action block.commands s.running.standing };
  block = None;
}

-- a command: outside of a block its round, inside it is put into the block
abbrev pub commanded : {P : Type 0} → Meaning P → Option Block → Live P → Command → Saying P
commanded m None s c = record {
  lines = (round_of m s.running c).lines;
  calls = (round_of m s.running c).calls;
  next = record s { running = (round_of m s.running c).next };
}
commanded m (Some block) s c =
    silent (record s { block = Some (record block { commands = block.commands ++ c ∷ [] }) })

-- what a statement does in a session that knows what its line leaves
abbrev pub stated : {P : Type 0} → Meaning P → Known → Statement → Live P → Saying P
stated m known Blank s = silent s
stated m known (Begin name) s = silent (block_begun s)
stated m known End s = silent (block_ended s.block s)
stated m known (Run c) s = commanded m s.block s (linked known c)

-- a line that has a fault writes it, and changes nothing
abbrev pub answered : {P : Type 0} → Meaning P → Live P → Result (Statement × Known) ScriptKind → Saying P
answered m s (Err kind) = faulty s s.line kind
answered m s (Ok read) = stated m read.1 read.0 (knowing read.1 s)

abbrev pub counted : {P : Type 0} → Live P → Live P
counted s = record s { line = s.line + 1 }

-- WHAT A LINE DOES that is said to a session
unfoldable pub said : {P : Type 0} → Meaning P → Live P → List ℕ → Saying P
said m s line = answered m (counted s) (meaning (known_of s) (is_some s.block) line)

-- `ready LINE`, where that is asked for
abbrev pub ready_text : Bool → ℕ → List ℕ
ready_text ready line = if ready then codes "ready " ++ decimal line ++ codes "\n" else []

-- one after the other
unfoldable pub spoken : {P : Type 0} → Meaning P → Bool → Live P → List (List ℕ) → Saying P
spoken m ready s [] = silent s
spoken m ready s (line ∷ lines) = record {
  lines = ((said m s line).lines ++ ready_text ready (said m s line).next.line)
      ++ (spoken m ready (said m s line).next lines).lines;
  calls = (said m s line).calls ++ (spoken m ready (said m s line).next lines).calls;
  next = (spoken m ready (said m s line).next lines).next;
}

-- a block that stands open at the end is told
abbrev pub unclosed : Option Block → List ℕ
unclosed None = []
unclosed (Some block) = fault_line block.line fault.Unclosed

-- ALL THAT LINES WRITE, to the end of the input
abbrev pub conversation : {P : Type 0} → Meaning P → Bool → Live P → List (List ℕ) → List ℕ
conversation m ready s lines = (spoken m ready s lines).lines ++ unclosed (spoken m ready s lines).next.block

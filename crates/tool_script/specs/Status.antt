-- The exit codes and the lines on standard error (this project's profile).
use Rattle.std.proofs.Common.{refl}
use Rattle.std.specs.Prelude.{◌≡◌, ℕ, List, [], ◌++◌, codes, decimal, Option, None, Some}
use Rattle.market_file.specs.Fault.{section_text}
use Rattle.market_tables.specs.MarketKind.{kind_text as market_kind_text}
use Rattle.session_commands.specs.ScriptKind.{kind_text}
use Rattle.tool_frame.specs.Endings.{Endings, AreEndings}
use Rattle.tool_frame.specs.Stage.{Stage, IsHalted}
use Rattle.tool_frame.specs.Stage as stage
use Rattle.tool_script.specs.declared.status.FileRole.{FileRole}
use Rattle.tool_script.specs.declared.status.FileRole as role
use Rattle.tool_script.specs.declared.status.Status.{Status}
use Rattle.tool_script.specs.declared.status.Status.TheVariants.{Done, Usage, Market, Script, ReadFault, WriteFault, NoMemory, Absent}

abbrev pub code_of : Status → ℕ
code_of Done = 0
code_of Usage = 2
code_of (Market section entry why) = 3
code_of (Script line why) = 4
code_of ReadFault = 5
code_of WriteFault = 6
code_of NoMemory = 7
code_of (Absent role) = 8

abbrev pub role_text : FileRole → List ℕ
role_text role.TheVariants.Market = codes "market"
role_text role.TheVariants.Quotes = codes "quotes"
role_text role.TheVariants.Fixings = codes "fixings"
role_text role.TheVariants.Script = codes "script"

-- the words of the line on standard error behind the program's name
abbrev pub words_of : Status → List ℕ
words_of Done = []
words_of Usage = codes "usage"
words_of (Market section entry why) =
    codes "market " ++ section_text section ++ codes " " ++ decimal entry ++ codes " " ++ market_kind_text why
words_of (Script line why) = codes "script " ++ decimal line ++ codes " " ++ kind_text why
words_of ReadFault = codes "read fault"
words_of WriteFault = codes "write fault"
words_of NoMemory = codes "no memory"
words_of (Absent role) = codes "no file " ++ role_text role

-- the line on standard error after the program's name: Done has none
abbrev pub said_of : Status → Option (List ℕ)
said_of Done = None
said_of Usage = Some (words_of Usage)
said_of (Market section entry why) = Some (words_of (Market section entry why))
said_of (Script line why) = Some (words_of (Script line why))
said_of ReadFault = Some (words_of ReadFault)
said_of WriteFault = Some (words_of WriteFault)
said_of NoMemory = Some (words_of NoMemory)
said_of (Absent role) = Some (words_of (Absent role))

abbrev pub line_of : Status → List ℕ
line_of status = codes "desk: " ++ words_of status

-- the line of `desk`, without its newline
abbrev pub status_text : Status → List ℕ
status_text Done = []
status_text Usage = line_of Usage
status_text (Market section entry why) = line_of (Market section entry why)
status_text (Script line why) = line_of (Script line why)
status_text ReadFault = line_of ReadFault
status_text WriteFault = line_of WriteFault
status_text NoMemory = line_of NoMemory
status_text (Absent role) = line_of (Absent role)

-- how far a run came that ended so
abbrev pub stage_of : Status → Stage
stage_of Done = stage.Done
stage_of Usage = stage.Refused
stage_of (Market section entry why) = stage.Refused
stage_of (Script line why) = stage.Refused
stage_of (Absent role) = stage.Missing
stage_of ReadFault = stage.Failed
stage_of WriteFault = stage.Cut
stage_of NoMemory = stage.Halted

-- how far each came, and those that every tool has
abbrev pub script_ends : Endings Status
script_ends = record { stage_of = stage_of; done = Done; usage = Usage; cut = WriteFault; halted = NoMemory }

script_memory : (status : Status) → IsHalted (stage_of status) → status ≡ NoMemory
script_memory NoMemory halted = refl
script_memory Done halted = absurd halted
script_memory Usage halted = absurd halted
script_memory (Market section entry why) halted = absurd halted
script_memory (Script line why) halted = absurd halted
script_memory ReadFault halted = absurd halted
script_memory WriteFault halted = absurd halted
script_memory (Absent role) halted = absurd halted

pub script_ends_sound : AreEndings script_ends
script_ends_sound = record { done = refl; usage = refl; cut = refl; halted = refl; memory = script_memory }

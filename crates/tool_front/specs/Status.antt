-- The exit status of the program, and its line where it has one (this project's profile).
use Rattle.std.specs.Prelude.{ℕ, List, codes, Option, None, Some}
use Rattle.tool_front.specs.declared.status.FrontStatus.{FrontStatus}
use Rattle.tool_front.specs.declared.status.FrontStatus.TheVariants.{Ended, Usage, WriteFault, NoMemory}
use Rattle.tool_front.specs.declared.status.FrontWords as line

abbrev pub code_of : FrontStatus → ℕ
code_of (Ended code) = code
code_of Usage = 2
code_of WriteFault = 6
code_of NoMemory = 7

abbrev pub words_text : line.FrontWords → List ℕ
words_text line.TheVariants.Usage = codes "usage"
words_text line.TheVariants.WriteFault = codes "write fault"
words_text line.TheVariants.NoMemory = codes "no memory"

-- the line on standard error after the program's name: none where all lines were written
abbrev pub said_of : FrontStatus → Option (List ℕ)
said_of (Ended code) = None
said_of Usage = Some (codes "usage")
said_of WriteFault = Some (codes "write fault")
said_of NoMemory = Some (codes "no memory")

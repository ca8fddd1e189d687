-- The exit codes, and the words on standard error behind the program's name (this project's profile).
use Rattle.std.proofs.Common.{refl}
use Rattle.std.specs.Prelude.{◌≡◌, ℕ, List, [], ◌++◌, codes, decimal, Option, None, Some}
use Rattle.market_file.specs.Fault.{section_text}
use Rattle.market_tables.specs.MarketKind.{kind_text}
use Rattle.market_loader.specs.Faults.{role_text}
use Rattle.market_loader.specs.declared.faults.LoadFault as fault
use Rattle.tool_frame.specs.declared.status.MarketStatus.{MarketStatus}
use Rattle.tool_frame.specs.declared.status.MarketStatus.TheVariants.{Done, Usage, Market, ReadFault, WriteFault, NoMemory, Absent}
use Rattle.tool_frame.specs.Endings.{Endings, AreEndings}
use Rattle.tool_frame.specs.Stage.{Stage, IsHalted}
use Rattle.tool_frame.specs.Stage as stage

abbrev pub code_of : MarketStatus → ℕ
code_of Done = 0
code_of Usage = 2
code_of (Market section entry why) = 3
code_of ReadFault = 5
code_of WriteFault = 6
code_of NoMemory = 7
code_of (Absent role) = 8

abbrev pub words_of : MarketStatus → List ℕ
words_of Done = []
words_of Usage = codes "usage"
words_of (Market section entry why) =
    codes "market " ++ section_text section ++ codes " " ++ decimal entry ++ codes " " ++ kind_text why
words_of ReadFault = codes "read fault"
words_of WriteFault = codes "write fault"
words_of NoMemory = codes "no memory"
words_of (Absent role) = codes "no file " ++ role_text role

-- the line on standard error after the program's name: Done has none
abbrev pub said_of : MarketStatus → Option (List ℕ)
said_of Done = None
said_of Usage = Some (words_of Usage)
said_of (Market section entry why) = Some (words_of (Market section entry why))
said_of ReadFault = Some (words_of ReadFault)
said_of WriteFault = Some (words_of WriteFault)
said_of NoMemory = Some (words_of NoMemory)
said_of (Absent role) = Some (words_of (Absent role))

-- the status of a market that was not read
abbrev pub load_status : fault.LoadFault → MarketStatus
load_status (fault.TheVariants.Fault section entry why) = Market section entry why
load_status fault.TheVariants.Read = ReadFault
load_status (fault.TheVariants.Absent role) = Absent role
load_status fault.TheVariants.NoMemory = NoMemory

-- how far a run came that ended so
abbrev pub stage_of : MarketStatus → Stage
stage_of Done = stage.Done
stage_of Usage = stage.Refused
stage_of (Market section entry why) = stage.Refused
stage_of (Absent role) = stage.Missing
stage_of ReadFault = stage.Failed
stage_of WriteFault = stage.Cut
stage_of NoMemory = stage.Halted

-- how far each came, and those that every tool has
abbrev pub market_ends : Endings MarketStatus
market_ends = record { stage_of = stage_of; done = Done; usage = Usage; cut = WriteFault; halted = NoMemory }

market_memory : (status : MarketStatus) → IsHalted (stage_of status) → status ≡ NoMemory
market_memory NoMemory halted = refl
market_memory Done halted = absurd halted
market_memory Usage halted = absurd halted
market_memory (Market section entry why) halted = absurd halted
market_memory ReadFault halted = absurd halted
market_memory WriteFault halted = absurd halted
market_memory (Absent role) halted = absurd halted

pub market_ends_sound : AreEndings market_ends
market_ends_sound = record { done = refl; usage = refl; cut = refl; halted = refl; memory = market_memory }

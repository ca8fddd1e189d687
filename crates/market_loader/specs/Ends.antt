-- How a reading ends that gives nothing.
use Rattle.std.specs.Prelude.{Result, Ok, Err}
use Rattle.market_loader.specs.declared.faults.FileFault.{FileFault}
use Rattle.market_loader.specs.declared.faults.FileFault.TheVariants as file
use Rattle.market_loader.specs.declared.faults.LoadFault.{LoadFault}
use Rattle.market_loader.specs.declared.faults.LoadFault.TheVariants.{Fault, Read, Absent, NoMemory}

-- what the files hold is refused; there is no such file; a call of the shelf failed; memory ran out
pub data End : Type 0 where
  Refused : End
  Missing : End
  Failed : End
  Halted : End

abbrev pub file_end : FileFault → End
file_end file.Absent = Missing
file_end file.TooLong = Refused
file_end file.Read = Failed
file_end file.NoMemory = Halted

abbrev pub load_end : LoadFault → End
load_end (Fault section entry why) = Refused
load_end (Absent role) = Missing
load_end Read = Failed
load_end NoMemory = Halted

-- a result with another fault in the place of its own
abbrev pub with_fault : {X E F : Type 0} → (E → F) → Result X E → Result X F
with_fault change (Ok x) = Ok x
with_fault change (Err e) = Err (change e)

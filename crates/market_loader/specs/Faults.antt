-- Why a market was not read: the failure of one of its files, or the first fault of its texts (this project's profile).
use Rattle.std.specs.Prelude.{ℕ, List, codes}
use Rattle.desk_edge.specs.declared.reading.ReadFault as read
use Rattle.market_file.specs.declared.fault.MarketFault as refused
use Rattle.market_file.specs.declared.fault.Section.TheVariants as section
use Rattle.market_tables.specs.declared.fault.MarketKind.TheVariants as kind
use Rattle.market_loader.specs.declared.faults.FileFault as file
use Rattle.market_loader.specs.declared.faults.LoadFault.{LoadFault}
use Rattle.market_loader.specs.declared.faults.LoadFault.TheVariants.{Fault, Read, Absent, NoMemory}
use Rattle.market_loader.specs.declared.faults.MarketRole.{MarketRole}
use Rattle.market_loader.specs.declared.faults.MarketRole.TheVariants as role

abbrev pub role_text : MarketRole → List ℕ
role_text role.Market = codes "market"
role_text role.Quotes = codes "quotes"
role_text role.Fixings = codes "fixings"

-- the fault of a read of a file
abbrev pub file_fault : read.ReadFault → file.FileFault
file_fault read.TheVariants.Failed = file.TheVariants.Read
file_fault read.TheVariants.TooLong = file.TheVariants.TooLong
file_fault read.TheVariants.NoMemory = file.TheVariants.NoMemory

-- the fault of a file that is longer than the most bytes
abbrev pub too_long_of : MarketRole → LoadFault
too_long_of role.Market = Fault section.Top 0 kind.TooLong
too_long_of role.Quotes = Fault section.Quotes 0 kind.TooLong
too_long_of role.Fixings = Fault section.Fixings 0 kind.TooLong

-- the fault of one of a market's files
abbrev pub role_fault : MarketRole → file.FileFault → LoadFault
role_fault role file.TheVariants.Absent = Absent role
role_fault role file.TheVariants.TooLong = too_long_of role
role_fault role file.TheVariants.Read = Read
role_fault role file.TheVariants.NoMemory = NoMemory

-- the fault of a market's texts
abbrev pub load_fault : refused.MarketFault → LoadFault
load_fault (refused.TheVariants.At section entry why) = Fault section entry why
load_fault refused.TheVariants.NoMemory = NoMemory

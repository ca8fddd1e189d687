-- The status of a reading that gives nothing (this project's profile).
use Rattle.market_file.specs.declared.fault.MarketFault as untaken
use Rattle.market_loader.specs.Ends.{End}
use Rattle.market_loader.specs.declared.faults.FileFault as file
use Rattle.market_loader.specs.declared.faults.MarketRole as part
use Rattle.session_commands.specs.declared.script_kind.ScriptKind.TheVariants.{TooLong}
use Rattle.session_lang.specs.declared.fault.ScriptFault as unread
use Rattle.tool_frame.specs.declared.status.MarketStatus.{MarketStatus}
use Rattle.tool_frame.specs.declared.status.MarketStatus.TheVariants as market
use Rattle.tool_frame.specs.Stage.{stage_end}
use Rattle.tool_script.specs.declared.status.FileRole.{FileRole}
use Rattle.tool_script.specs.declared.status.FileRole.TheVariants as role
use Rattle.tool_script.specs.declared.status.Status.{Status}
use Rattle.tool_script.specs.declared.status.Status.TheVariants.{Done, Usage, Market, Script, ReadFault, WriteFault, NoMemory, Absent}
use Rattle.tool_script.specs.Status.{stage_of}

-- a file of a market, as a status tells it
abbrev pub role_of : part.MarketRole → FileRole
role_of part.TheVariants.Market = role.Market
role_of part.TheVariants.Quotes = role.Quotes
role_of part.TheVariants.Fixings = role.Fixings

-- the status of a market that was not read
abbrev pub as_status : MarketStatus → Status
as_status market.Done = Done
as_status market.Usage = Usage
as_status (market.Market section entry why) = Market section entry why
as_status market.ReadFault = ReadFault
as_status market.WriteFault = WriteFault
as_status market.NoMemory = NoMemory
as_status (market.Absent which) = Absent (role_of which)

-- the status of a script's file that was not read
abbrev pub file_status : file.FileFault → Status
file_status file.TheVariants.Absent = Absent role.Script
file_status file.TheVariants.TooLong = Script 0 TooLong
file_status file.TheVariants.Read = ReadFault
file_status file.TheVariants.NoMemory = NoMemory

-- the status of texts that are no market
abbrev pub market_status : untaken.MarketFault → Status
market_status (untaken.TheVariants.At section entry why) = Market section entry why
market_status untaken.TheVariants.NoMemory = NoMemory

-- the status of a text that is no script
abbrev pub script_status : unread.ScriptFault → Status
script_status (unread.TheVariants.At line why) = Script line why
script_status unread.TheVariants.NoMemory = NoMemory

-- how a reading ended that has this status
abbrev pub status_end : Status → End
status_end status = stage_end (stage_of status)

-- The exit codes and the lines on standard error, written by hand.
use Rattle.std.specs.Prelude.{◌≡◌, ℕ, List, codes}
use Rattle.market_file.specs.declared.fault.Section.TheVariants.{Objects}
use Rattle.market_tables.specs.declared.fault.MarketKind.TheVariants.{Taken}
use Rattle.session_commands.specs.declared.script_kind.ScriptKind.TheVariants.{NoAction}
use Rattle.tool_script.specs.declared.status.FileRole.TheVariants as role
use Rattle.tool_script.specs.declared.status.Status.{Status}
use Rattle.tool_script.specs.declared.status.Status.TheVariants.{Done, Usage, Market, Script, ReadFault, WriteFault, NoMemory, Absent}
use Rattle.tool_script.specs.Status.{code_of, status_text}

-- the status ends the program with this number and these words
pub record Ends (status : Status) (number : ℕ) (words : List ℕ) : Type 0 where
  pub code : code_of status ≡ number
  pub line : status_text status ≡ words

pub record AreStated : Type 0 where
  pub done : Ends Done 0 (codes "")
  pub usage : Ends Usage 2 (codes "desk: usage")
  pub market : Ends (Market Objects 12 Taken) 3 (codes "desk: market objects 12 taken")
  pub script : Ends (Script 7 NoAction) 4 (codes "desk: script 7 noaction")
  pub read : Ends ReadFault 5 (codes "desk: read fault")
  pub write : Ends WriteFault 6 (codes "desk: write fault")
  pub memory : Ends NoMemory 7 (codes "desk: no memory")
  pub absent_market : Ends (Absent role.Market) 8 (codes "desk: no file market")
  pub absent_quotes : Ends (Absent role.Quotes) 8 (codes "desk: no file quotes")
  pub absent_fixings : Ends (Absent role.Fixings) 8 (codes "desk: no file fixings")
  pub absent_script : Ends (Absent role.Script) 8 (codes "desk: no file script")

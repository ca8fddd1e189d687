-- What is read of files, as a status tells it: the first failure in reading order is the answer (this project's profile).
use Rattle.std.specs.Prelude.{ℕ, List, Result, Ok, Err}
use Rattle.market_file.specs.Fault.{Fault}
use Rattle.market_file.specs.Market.{Market}
use Rattle.market_loader.specs.Ends.{with_fault}
use Rattle.market_loader.specs.Files.{Files, file_of}
use Rattle.session_commands.specs.declared.script_kind.ScriptKind.{ScriptKind}
use Rattle.tool_frame.specs.Market as tool
use Rattle.tool_script.specs.declared.status.Status.{Status}
use Rattle.tool_script.specs.declared.status.Status.TheVariants as status
use Rattle.tool_script.specs.Refusals.{as_status, file_status}

-- the market at a path, with the tables that it names
abbrev pub market_at : List ℕ → Files → Result Market Status
market_at path files = with_fault as_status (tool.market_at path files)

-- the text of the script at a path
abbrev pub script_at : List ℕ → Files → Result (List ℕ) Status
script_at path files = with_fault file_status (file_of path files)

-- what is read of a market, or its first fault as a status
abbrev pub or_market : {X : Type 0} → Result X Fault → Result X Status
or_market (Ok x) = Ok x
or_market (Err fault) = Err (status.Market fault.0 fault.1 fault.2)

-- what is read of a script, or its first fault as a status
abbrev pub or_script : {X : Type 0} → Result X (ℕ × ScriptKind) → Result X Status
or_script (Ok x) = Ok x
or_script (Err fault) = Err (status.Script fault.0 fault.1)

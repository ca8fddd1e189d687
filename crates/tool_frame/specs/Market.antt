-- The market of a tool.
use Rattle.std.specs.Prelude.{ℕ, List, Option, Result, Ok}
use Rattle.market_file.specs.Market.{Market}
use Rattle.market_tables.specs.Given.{◌>>=◌}
use Rattle.market_loader.specs.Ends.{End, with_fault}
use Rattle.market_loader.specs.Files.{Files}
use Rattle.market_loader.specs.Market.{market_of, market_calls}
use Rattle.tool_frame.specs.declared.finding.Found.{Found}
use Rattle.tool_frame.specs.declared.market.OpenMarket.{OpenMarket}
use Rattle.tool_frame.specs.declared.status.MarketStatus.{MarketStatus}
use Rattle.tool_frame.specs.declared.status.MarketStatus.TheVariants as status
use Rattle.tool_frame.specs.Stage.{stage_end}
use Rattle.tool_frame.specs.Status.{load_status, stage_of}
use Rattle.tool_frame.specs.Tool.{Asking}

-- a market of the code, as the definition sees it
abbrev pub market_in : OpenMarket → Market
market_in market = record { today = market.today; made = market.made.items; names = market.names }

-- the market at a path, or why it was not read
abbrev pub market_at : List ℕ → Files → Result Market MarketStatus
market_at path files = with_fault load_status (market_of path files)

-- what is wanted of a tool that reads a market: a market, and what is asked of it
pub record Wanted (Request : Type 0) : Type 0 where
  pub market : Market
  pub request : Request

-- what was found in the code, as the definition sees it
abbrev pub wanted_in : {Given Request : Type 0} → (Given → Request) → Found Given → Wanted Request
wanted_in view found = record { market = market_in found.market; request = view found.request }

-- what a request asks for: of the market at its path
abbrev pub wanted_from : {Request : Type 0} → (Request → List ℕ) → Request → Files → Result (Wanted Request) MarketStatus
wanted_from path request files = market_at (path request) files >>= (λ market. Ok (record { market = market; request = request }))

-- the most calls of a shelf for it
abbrev pub calls_from : {Request : Type 0} → (Request → List ℕ) → Request → Files → ℕ
calls_from path request files = market_calls (path request) files

-- WHAT IS ASKED OF FILES by a tool that reads a market and nothing else
abbrev pub market_asks : {Request : Type 0} → (List (List ℕ) → Option Request) → (Request → List ℕ) → Asking Request (Wanted Request) MarketStatus
market_asks request_of path = record {
  request_of = request_of;
  path_of = path;
  wanted_of = wanted_from path;
  calls_of = calls_from path;
}

-- how a reading ended that has this status
abbrev pub status_end : MarketStatus → End
status_end status = stage_end (stage_of status)

-- a status that the reading of files may end with
abbrev pub IsRefusal : MarketStatus → Type 0
IsRefusal (status.Market section entry why) = Unit {0}
IsRefusal (status.Absent role) = Unit {0}
IsRefusal status.ReadFault = Unit {0}
IsRefusal status.NoMemory = Unit {0}
IsRefusal status.Usage = ⊥
IsRefusal status.Done = ⊥
IsRefusal status.WriteFault = ⊥

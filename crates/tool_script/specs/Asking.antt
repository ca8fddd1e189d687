-- What is asked of files by a tool that runs a script over a market (this project's profile).
use Rattle.std.specs.Prelude.{ℕ, List, Option, Result, Ok}
use Rattle.tool_script.specs.declared.finding.FoundRun.{FoundRun}
use Rattle.tool_script.specs.declared.status.Status.{Status}
use Rattle.tool_script.specs.Found.{run_in}
use Rattle.tool_script.specs.Verdict.{ScriptRun, run_at, run_calls}
use Rattle.market_loader.specs.Files.{Files}
use Rattle.market_tables.specs.Given.{◌>>=◌}
use Rattle.tool_frame.specs.Tool.{Asking}

-- what is wanted: a script over a market, and what is asked of it
pub record Wanted (Request : Type 0) : Type 0 where
  pub run : ScriptRun
  pub request : Request

-- what was found in the code, as the definition sees it
abbrev pub found_in : {Given Request : Type 0} → (Given → Request) → FoundRun Given → Wanted Request
found_in view found = record { run = run_in found.run; request = view found.request }

module _ {Request : Type 0} (market script : Request → List ℕ) where
  -- what a request asks for: of the script at its path over the market at its path
  abbrev pub wanted_from : Request → Files → Result (Wanted Request) Status
  wanted_from request files =
      run_at (market request) (script request) files >>= (λ run. Ok (record { run = run; request = request }))

  -- the most calls of a shelf for it
  abbrev pub calls_from : Request → Files → ℕ
  calls_from request files = run_calls (market request) (script request) files

-- WHAT IS ASKED OF FILES by words that name a market and a script
abbrev pub script_asks : {Request : Type 0} → (List (List ℕ) → Option Request) → (Request → List ℕ) → (Request → List ℕ) → Asking Request (Wanted Request) Status
script_asks request_of market script = record {
  request_of = request_of;
  path_of = market;
  wanted_of = wanted_from market script;
  calls_of = calls_from market script;
}

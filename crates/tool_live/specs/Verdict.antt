-- Whether words and files are accepted, and what is done then (this project's profile).
use Rattle.std.specs.Prelude.{ℕ, Bool, List, [], Option, None, Some, Result, Ok}
use Rattle.market_file.specs.Market.{Market}
use Rattle.market_loader.specs.Files.{Files}
use Rattle.market_loader.specs.Market.{market_calls}
use Rattle.market_tables.specs.Given.{◌>>=◌}
use Rattle.session_commands.specs.declared.script.Script.{Script}
use Rattle.watch_rounds.specs.declared.picker.Order.{Order}
use Rattle.tool_frame.specs.Run.{asked, calls_for}
use Rattle.tool_script.specs.declared.status.Status.{Status}
use Rattle.tool_script.specs.declared.status.Status.TheVariants as status
use Rattle.tool_script.specs.Found.{run_in}
use Rattle.tool_script.specs.Reading.{market_at}
use Rattle.tool_script.specs.Verdict.{ScriptRun, run_of, run_at, run_calls}
use Rattle.tool_live.specs.declared.wanted.Wanted.{Wanted}
use Rattle.tool_live.specs.Words.{Request, request_of}

-- a script over a market, whose commands are done before the lines; the order in which due watchers run; and whether each
-- line is told as done
pub record LiveRun : Type 0 where
  pub run : ScriptRun
  pub order : Order
  pub ready : Bool

-- what is wanted in the code, as the definition sees it
abbrev pub live_in : Wanted → LiveRun
live_in wanted = record { run = run_in wanted.run; order = wanted.order; ready = wanted.ready }

-- the script that has no line
abbrev pub no_script : Script
no_script = record { actions = []; commands = []; action_names = [] }

-- a market with no script before its lines
abbrev pub bare : Market → ScriptRun
bare market = run_of market (no_script, market.names)

-- the market at a path, and the script at another, where one is named
abbrev pub run_for : List ℕ → Option (List ℕ) → Files → Result ScriptRun Status
run_for market None files = market_at market files >>= (λ m. Ok (bare m))
run_for market (Some script) files = run_at market script files

-- what a request asks for, over these files
abbrev pub wanted_of : Request → Files → Result LiveRun Status
wanted_of request files =
    run_for request.market request.script files >>= (λ run. Ok (record { run = run; order = request.order; ready = request.ready }))

-- what is to be done for words, or the status with which it is refused
unfoldable pub verdict_of : Files → List (List ℕ) → Result LiveRun Status
verdict_of files words = asked status.Usage wanted_of (request_of words) files

abbrev pub run_calls_for : List ℕ → Option (List ℕ) → Files → ℕ
run_calls_for market None files = market_calls market files
run_calls_for market (Some script) files = run_calls market script files

abbrev pub wanted_calls : Request → Files → ℕ
wanted_calls request files = run_calls_for request.market request.script files

-- the most calls of a shelf for them
unfoldable pub reading_calls : Files → List (List ℕ) → ℕ
reading_calls files words = calls_for wanted_calls (request_of words) files

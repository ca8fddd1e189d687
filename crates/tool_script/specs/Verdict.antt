-- Whether words and files are accepted, and what is to be done then: the first failure in the order in which files are read
-- (this project's profile).
use Rattle.std.specs.Prelude.{ℕ, List, [], length, ℤ, Option, None, Some, Result, Ok, Err}
use Rattle.desk_terms.specs.declared.terms.Terms.{Terms}
use Rattle.desk_words.specs.Words.{Request, Run as RunOf, Load as LoadOf, Check as CheckOf, request_of}
use Rattle.load_maker.specs.Texts.{market_text, quotes_text, script_text}
use Rattle.market_file.specs.Market.{Market, read_market}
use Rattle.market_loader.specs.Files.{Files, file_calls}
use Rattle.market_loader.specs.Market.{market_calls, and_then}
use Rattle.market_tables.specs.Given.{◌>>=◌}
use Rattle.session_commands.specs.declared.script.Script.{Script}
use Rattle.session_lang.specs.Reading.{script_meaning}
use Rattle.tool_frame.specs.Run.{asked, calls_for}
use Rattle.tool_frame.specs.Run as tool
use Rattle.watch_rounds.specs.declared.picker.Order.{Order}
use Rattle.tool_script.specs.declared.status.Status.{Status}
use Rattle.tool_script.specs.declared.status.Status.TheVariants as status
use Rattle.tool_script.specs.Fixings.{fixings_in}
use Rattle.tool_script.specs.Reading.{market_at, script_at, or_market, or_script}

-- a script to be run: the names of its session, the evaluation date and the objects of its market, and the script
pub record ScriptRun : Type 0 where
  pub names : List (List ℕ)
  pub today : ℤ
  pub made : List (ℕ × Terms)
  pub script : Script

-- what is to be done: a script to be run, and its due watchers in an order; the script of a load of a size to be run, and
-- what it writes to be summed up; or the report of a market with so many objects and so many stored fixings
pub data Plan : Type 0 where
  Run : ScriptRun → Order → Plan
  Load : ℕ → ScriptRun → Plan
  Check : (objects fixings : ℕ) → Plan

-- a script and the names after it, over a market
abbrev pub run_of : Market → Script × List (List ℕ) → ScriptRun
run_of market read = record { names = read.1; today = market.today; made = market.made; script = read.0 }

-- the script of a text, over a market
abbrev pub scripted : Market → List ℕ → Result ScriptRun Status
scripted market text = or_script (script_meaning market.names text) >>= (λ read. Ok (run_of market read))

-- the script at a path, over a market
abbrev pub run_over : Market → List ℕ → Files → Result ScriptRun Status
run_over market path files = script_at path files >>= scripted market

-- the script at a path, over the market at another: it is read behind the market
abbrev pub run_at : List ℕ → List ℕ → Files → Result ScriptRun Status
run_at market script files = market_at market files >>= (λ m. run_over m script files)

-- THE SCRIPT OF A LOAD over its market: the texts stand for the files
abbrev pub load_run : ℕ → Result ScriptRun Status
load_run size =
    or_market (read_market (market_text size) (quotes_text size) []) >>= (λ m. scripted m (script_text size))

-- the report of a market
abbrev pub check_of : Market → Plan
check_of market = Check (length market.made) (fixings_in market.made)

-- what a request asks for, over these files
abbrev pub plan_of : Request → Files → Result Plan Status
plan_of (RunOf market script order) files = run_at market script files >>= (λ run. Ok (Run run order))
plan_of (LoadOf size) files = load_run size >>= (λ run. Ok (Load size run))
plan_of (CheckOf market) files = market_at market files >>= (λ m. Ok (check_of m))

-- what is to be done, or the status with which it is refused
unfoldable pub verdict_of : Files → List (List ℕ) → Result Plan Status
verdict_of files words = asked status.Usage plan_of (request_of words) files

-- the most calls of a shelf for a script over a market: the script's file is not looked at where the market is refused
abbrev pub run_calls : List ℕ → List ℕ → Files → ℕ
run_calls market script files =
    and_then (market_calls market files) (market_at market files) (λ m. file_calls script files)

-- for a request: a load looks at no file
abbrev pub plan_calls : Request → Files → ℕ
plan_calls (RunOf market script order) files = run_calls market script files
plan_calls (LoadOf size) files = 0
plan_calls (CheckOf market) files = market_calls market files

-- the most calls of a shelf for what words ask for: none where they are no request
unfoldable pub reading_calls : Files → List (List ℕ) → ℕ
reading_calls files words = calls_for plan_calls (request_of words) files

-- the words ask for a check
abbrev pub IsCheck : Option Request → Type 0
IsCheck None = ⊥
IsCheck (Some (RunOf market script order)) = ⊥
IsCheck (Some (LoadOf size)) = ⊥
IsCheck (Some (CheckOf market)) = Unit {0}

-- the report of a market is to be done
abbrev pub IsReport : Plan → Type 0
IsReport (Run run order) = ⊥
IsReport (Load size run) = ⊥
IsReport (Check objects fixings) = Unit {0}

-- the words and the files are accepted
abbrev pub IsAccepted : Result Plan Status → Type 0
IsAccepted verdict = tool.IsAccepted verdict

-- the status that words and files decide
abbrev pub status_of : Result Plan Status → Status
status_of verdict = tool.status_of status.Done verdict

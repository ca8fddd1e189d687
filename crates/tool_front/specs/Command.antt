-- WHAT A COMMAND DOES: what its run does on the words after it, and its lines on standard error (this project's profile).
use Rattle.std.specs.Prelude.{◌≡◌, ◌⊎◌, ℕ, Bool, List, Option}
use Rattle.tool_script.specs.declared.status.Status.{Status}
use Rattle.tool_script.specs.Status as script
use Rattle.desk_terms.specs.Reading.{Calc}
use Rattle.tool_script.specs.declared.blocks_status.BlocksStatus.{BlocksStatus}
use Rattle.tool_script.specs.BlocksStatus as blocks
use Rattle.curve_run.specs.declared.status.CurveStatus.{CurveStatus}
use Rattle.curve_run.specs.Status as curve
use Rattle.tool_frame.specs.declared.status.MarketStatus.{MarketStatus}
use Rattle.tool_frame.specs.Idle.{no_bench}
use Rattle.tool_frame.specs.Status as market
use Rattle.tool_frame.specs.Tool.{Tool, ShelfTurn, SinkTurn, BenchTurn, IsRun}
use Rattle.tool_bond.specs.Verdict as bond
use Rattle.bump_ladder.specs.Verdict.{bump_tool}
use Rattle.tool_runs.specs.ExplainTool.{explain_tool}
use Rattle.tool_runs.specs.Drawing.{graph_tool}
use Rattle.scenario_grid.specs.Verdict.{grid_tool}
use Rattle.tool_bond.specs.MeasureVerdict.{measure_tool}
use Rattle.tool_frame.specs.declared.named_run_status.NamedStatus.{NamedStatus}
use Rattle.tool_frame.specs.Named_runRun.{IsNamedRun}
use Rattle.tool_frame.specs.Named_runStatus as named
use Rattle.tool_risk.specs.Named as risk
use Rattle.tool_risk.specs.Verdict.{risk_tool}
use Rattle.why_run.specs.Answering.{why_tool}
use Rattle.why_run.specs.Answering as why
use Rattle.tool_bond.specs.YieldVerdict.{yield_tool}
use Rattle.tool_front.specs.declared.command.Command.{Command}
use Rattle.tool_front.specs.declared.command.Command.TheVariants as command
use Rattle.tool_front.specs.declared.status.FrontStatus.{FrontStatus}
use Rattle.tool_front.specs.declared.status.FrontStatus.TheVariants.{Ended, NoMemory}
use Rattle.tool_front.specs.Front.{Front, Listing, Version, Help, Nothing, Unknown, Run}
use Rattle.tool_front.specs.Note.{Notes, note_text}
use Rattle.tool_front.specs.Session.{IsDesk, IsLive, IsCurve}

-- what is around a command: files, the input, standard output, standard error, and a bench
pub record Around (K N B : Type 0) : Type 0 where
  pub shelf : ShelfTurn
  pub input : Option (List ℕ)
  pub sink : SinkTurn K
  pub notes : SinkTurn N
  pub bench : BenchTurn B

-- THE PROGRAM ENDS with the exit status of a run, whose lines it noted; or memory ran out for these lines, and none was noted
abbrev pub Ends : {N : Type 0} → Command → List (List ℕ) → ℕ → Option (List ℕ) → FrontStatus → SinkTurn N → Type 0
Ends c words code said result notes =
    ((result ≡ Ended code) × Notes (note_text c words code said) (notes.bytes notes.old) (notes.bytes notes.new) (notes.faults notes.old) (notes.faults notes.new))
    ⊎ ((result ≡ NoMemory) × (notes.new ≡ notes.old))

module _ {K N B : Type 0} (whole : List (List ℕ)) (result : FrontStatus) (a : Around K N B) (words : List (List ℕ)) where
  -- a run, a check or a load: it takes the command as its first word
  abbrev pub EndsDesk : Command → Type 0
  EndsDesk c = (status : Status) × IsDesk whole status a.shelf a.sink a.bench
      × Ends c words (script.code_of status) (script.said_of status) result a.notes

  abbrev pub EndsLive : Type 0
  EndsLive = (status : Status) × IsLive words a.input status a.shelf a.sink a.bench
      × Ends command.Live words (script.code_of status) (script.said_of status) result a.notes

  -- the lines of the curves that are refused are noted before its own
  abbrev pub EndsCurve : Type 0
  EndsCurve = (status : CurveStatus) × (between : N) × IsCurve words status a.shelf a.sink (record a.notes { new = between }) a.bench
      × Ends command.Curve words (curve.code_of status) (curve.said_of status) result (record a.notes { old = between })

  abbrev pub EndsScript : {Request Wanted : Type 0} → Command → Tool Request Wanted Status → Type 0
  EndsScript c tool = (status : Status) × IsRun script.script_ends tool words status a.shelf a.sink a.bench
      × Ends c words (script.code_of status) (script.said_of status) result a.notes

  -- the same of a run that tells a wrong name
  abbrev pub EndsNamed : {Request Wanted : Type 0} → Command → Tool Request Wanted Status → (Calc → Wanted → Bool) → Type 0
  EndsNamed c tool refuses = (status : NamedStatus Status) × IsNamedRun script.script_ends tool refuses words status a.shelf a.sink a.bench
      × Ends c words (named.code_of script.code_of status) (named.said_of script.said_of status) result a.notes

  abbrev pub EndsBlocks : {Request Wanted : Type 0} → Command → Tool Request Wanted BlocksStatus → Type 0
  EndsBlocks c tool = (status : BlocksStatus) × IsRun blocks.blocks_ends tool words status a.shelf a.sink a.bench
      × Ends c words (blocks.code_of status) (blocks.said_of status) result a.notes

  abbrev pub EndsMarket : {Request Wanted : Type 0} → Command → Tool Request Wanted MarketStatus → Type 0
  EndsMarket c tool = (status : MarketStatus) × IsRun market.market_ends tool words status a.shelf a.sink a.bench
      × Ends c words (market.code_of status) (market.said_of status) result a.notes

  -- the same of a run that tells a wrong name
  abbrev pub EndsNamedMarket : {Request Wanted : Type 0} → Command → Tool Request Wanted MarketStatus → (Calc → Wanted → Bool) → Type 0
  EndsNamedMarket c tool refuses = (status : NamedStatus MarketStatus) × IsNamedRun market.market_ends tool refuses words status a.shelf a.sink a.bench
      × Ends c words (named.code_of market.code_of status) (named.said_of market.said_of status) result a.notes

  -- what computes no price leaves the bench alone
  abbrev pub EndsBond : {Request Wanted : Type 0} → Command → Tool Request Wanted MarketStatus → Type 0
  EndsBond c tool = (status : MarketStatus) × IsRun market.market_ends tool words status a.shelf a.sink no_bench × (a.bench.new ≡ a.bench.old)
      × Ends c words (market.code_of status) (market.said_of status) result a.notes

  -- the same of a run that tells a wrong name
  abbrev pub EndsNamedBond : {Request Wanted : Type 0} → Command → Tool Request Wanted MarketStatus → (Calc → Wanted → Bool) → Type 0
  EndsNamedBond c tool refuses = (status : NamedStatus MarketStatus) × IsNamedRun market.market_ends tool refuses words status a.shelf a.sink no_bench
      × (a.bench.new ≡ a.bench.old)
      × Ends c words (named.code_of market.code_of status) (named.said_of market.said_of status) result a.notes

  -- FROM A COMMAND TO ITS RUN
  abbrev pub IsCommand : Command → Type 0
  IsCommand command.Run = EndsDesk command.Run
  IsCommand command.Check = EndsDesk command.Check
  IsCommand command.Load = EndsDesk command.Load
  IsCommand command.Live = EndsLive
  IsCommand command.Why = EndsNamed command.Why why_tool why.refuses_in
  IsCommand command.Explain = EndsBlocks command.Explain explain_tool
  IsCommand command.Grid = EndsBlocks command.Grid grid_tool
  IsCommand command.Bump = EndsMarket command.Bump bump_tool
  IsCommand command.Risk = EndsNamedMarket command.Risk risk_tool risk.refuses_in
  IsCommand command.Curve = EndsCurve
  IsCommand command.Graph = EndsScript command.Graph graph_tool
  IsCommand command.Yield = EndsBond command.Yield yield_tool
  IsCommand command.Measure = EndsNamedBond command.Measure measure_tool bond.refuses_in

-- a command that words ask for; of other words nothing is said here
abbrev pub Commands : {K N B : Type 0} → List (List ℕ) → FrontStatus → Around K N B → Front → Type 0
Commands whole result a (Run c words) = IsCommand whole result a words c
Commands whole result a Listing = Unit {0}
Commands whole result a Version = Unit {0}
Commands whole result a (Help c) = Unit {0}
Commands whole result a Nothing = Unit {0}
Commands whole result a (Unknown word) = Unit {0}

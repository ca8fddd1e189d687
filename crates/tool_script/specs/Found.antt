-- What the reading of words and files gives, as the definitions see it, and the statuses with which it ends.
use Rattle.std.specs.Prelude.{ℕ}
use Rattle.market_file.specs.Standing.{IsReady}
use Rattle.session_commands.specs.Whole.{IsScript}
use Rattle.tool_frame.specs.Stage as counted
use Rattle.tool_script.specs.declared.status.Status.{Status}
use Rattle.tool_script.specs.declared.status.Status.TheVariants.{Done, Usage, Market as OfMarket, Script, ReadFault, WriteFault, NoMemory, Absent}
use Rattle.tool_script.specs.declared.plan.Plan as planned
use Rattle.tool_script.specs.declared.plan.ScriptRun as scripted
use Rattle.tool_script.specs.Status.{stage_of}
use Rattle.tool_script.specs.Verdict.{ScriptRun, Plan, Run, Load, Check}

-- a script to be run, as the definition sees it
abbrev pub run_in : scripted.ScriptRun → ScriptRun
run_in run =
    record { names = run.market.names; today = run.market.today; made = run.market.made.items; script = run.script }

-- a plan of the code, as the definition sees it
abbrev pub plan_in : planned.Plan → Plan
plan_in (planned.TheVariants.Run run order) = Run (run_in run) order
plan_in (planned.TheVariants.Load size run) = Load size (run_in run)
plan_in (planned.TheVariants.Check objects fixings) = Check objects fixings

-- a session can be made of the objects, and the script is whole
abbrev pub CanRun : scripted.ScriptRun → Type 0
CanRun run = IsReady run.market.names run.market.made.items × IsScript run.market.names run.script

-- the same of a plan: a report needs nothing
abbrev pub CanDo : planned.Plan → Type 0
CanDo (planned.TheVariants.Run run order) = CanRun run
CanDo (planned.TheVariants.Load size run) = CanRun run
CanDo (planned.TheVariants.Check objects fixings) = Unit {0}

-- a status that the reading of files may end with
abbrev pub IsRefusal : Status → Type 0
IsRefusal Done = ⊥
IsRefusal Usage = ⊥
IsRefusal WriteFault = ⊥
IsRefusal (OfMarket section entry why) = Unit {0}
IsRefusal (Script line why) = Unit {0}
IsRefusal ReadFault = Unit {0}
IsRefusal NoMemory = Unit {0}
IsRefusal (Absent role) = Unit {0}

-- the count of faults of a shelf where this is the status: a call that failed is the answer, and is counted once
abbrev pub faults_then : Status → ℕ → ℕ
faults_then status faults = counted.faults_then (stage_of status) faults

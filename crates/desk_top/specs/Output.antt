-- What is written and computed of a plan, and its rounds (this project's profile).
use Rattle.std.specs.Prelude.{◌≡◌, ◌⊎◌, ℕ, Bool, List, [], ◌∷◌, pos, Result, Ok, Err}
use Rattle.desk_terms.specs.Reading.{Calc}
use Rattle.session_model.specs.Course.{Meaning, Course, running}
use Rattle.session_model.specs.Rounds.{rounds, transcript, calls_of}
use Rattle.session_model.specs.Moments.{moments}
use Rattle.session_model.specs.Standing.{Standing, start_of, start_with}
use Rattle.watch_rounds.specs.Order.{order_at, order_after}
use Rattle.watch_rounds.specs.declared.picker.Order.{Order}
use Rattle.watch_rounds.specs.declared.picker.Order.TheVariants.{First}
use Rattle.desk_top.specs.Summary.{tally_of, summary}
use Rattle.tool_script.specs.declared.status.Status.{Status}
use Rattle.tool_script.specs.Verdict.{ScriptRun, Plan, Run, Load, Check}
use Rattle.desk_top.specs.Early.{Outside, IsToldSoFar}
use Rattle.desk_top.specs.Report.{check_line}

-- the session before the first command: it has the market's objects
abbrev pub first_standing : ScriptRun → Standing
first_standing run = start_with run.today run.names run.made run.script.actions

-- what the bench computes, and how an order picks
abbrev pub ordered : Calc → Meaning Order
ordered calc = record { calc = calc; at = order_at; after = order_after }

-- the transcript of a script whose due watchers run in an order, and its computations
abbrev pub written_by : Calc → Order → ScriptRun → List ℕ
written_by calc order run =
    transcript (ordered calc) (running order (first_standing run)) run.script.commands

abbrev pub made_by : Calc → Order → ScriptRun → List (ℕ × Bool)
made_by calc order run = calls_of (ordered calc) (running order (first_standing run)) run.script.commands

-- the bytes that a plan writes
abbrev pub output_in : Calc → Plan → List ℕ
output_in calc (Run run order) = written_by calc order run
output_in calc (Load size run) = summary size (tally_of (written_by calc First run))
output_in calc (Check objects fixings) = check_line objects fixings

-- the same of a verdict: nothing where words and files are refused
abbrev pub output_of : Calc → Result Plan Status → List ℕ
output_of calc (Ok plan) = output_in calc plan
output_of calc (Err status) = []

-- the computations that it makes: a report makes none
abbrev pub computed_in : Calc → Plan → List (ℕ × Bool)
computed_in calc (Run run order) = made_by calc order run
computed_in calc (Load size run) = made_by calc First run
computed_in calc (Check objects fixings) = []

-- the same of a verdict
abbrev pub computed_by : Calc → Result Plan Status → List (ℕ × Bool)
computed_by calc (Ok plan) = computed_in calc plan
computed_by calc (Err status) = []

-- lines and computations as one round of a session that has no object
abbrev pub as_round : List ℕ → List (ℕ × Bool) → Course Order
as_round lines calls = record { lines = lines; calls = calls; next = running First (start_of (pos 0) [] []) }

-- the rounds of a plan; a load counts as one, and so does a report
abbrev pub rounds_in : Calc → Plan → List (Course Order)
rounds_in calc (Run run order) = rounds (ordered calc) (running order (first_standing run)) run.script.commands
rounds_in calc (Load size run) = as_round (summary size (tally_of (written_by calc First run))) (made_by calc First run) ∷ []
rounds_in calc (Check objects fixings) = as_round (check_line objects fixings) [] ∷ []

-- the same of a verdict
abbrev pub rounds_of : Calc → Result Plan Status → List (Course Order)
rounds_of calc (Ok plan) = rounds_in calc plan
rounds_of calc (Err status) = []

-- Where memory ran out in a script: before its session began, or in one of its moments. A load and a report are written by
-- one put each, of which nothing more is said.
abbrev pub IsToldIn : Calc → Plan → Outside → Outside → Type 0
IsToldIn calc (Run run order) old new =
    (new ≡ old) ⊎ IsToldSoFar calc (moments (ordered calc) (running order (first_standing run)) run.script.commands) old new
IsToldIn calc (Load size run) old new = Unit {0}
IsToldIn calc (Check objects fixings) old new = Unit {0}

-- the same of a verdict
abbrev pub IsToldOf : Calc → Result Plan Status → Outside → Outside → Type 0
IsToldOf calc (Ok plan) old new = IsToldIn calc plan old new
IsToldOf calc (Err status) old new = new ≡ old

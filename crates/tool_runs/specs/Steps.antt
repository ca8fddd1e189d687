-- Steps: the blocks of a script one after the other in one session, each with what is asked for behind its moves (this
-- project's profile). A step is a block by its name, none of what is asked before the first, and its moves.
use Rattle.std.specs.Prelude.{ℕ, Bool, List, [], ◌∷◌, ◌++◌, codes}
use Rattle.desk_terms.specs.Reading.{Calc}
use Rattle.session_commands.specs.declared.command.Command.{Command}
use Rattle.watch_rounds.specs.declared.picker.Order.{Order}
use Rattle.session_model.specs.Course.{Running}
use Rattle.session_model.specs.Rounds.{transcript, calls_of}
use Rattle.tool_script.specs.Scenario.{Scenario, ordered, after, values_of}
use Rattle.tool_script.specs.Grid.{Row, label_text}

-- the commands of a step: its moves, and then what is asked for
abbrev pub commands_of : List Command → Scenario → List Command
commands_of asks step = step.moves ++ asks

-- the commands of steps, in the order in which the session does them
unfoldable pub all_commands : List Command → List Scenario → List Command
all_commands asks [] = []
all_commands asks (step ∷ steps) = commands_of asks step ++ all_commands asks steps

-- the session behind a step
abbrev pub behind : Calc → List Command → Scenario → Running Order → Running Order
behind calc asks step r = after calc (commands_of asks step) r

-- `step NAME`, and the transcript of the step in the session that the steps before it left
abbrev pub step_text : Calc → List (List ℕ) → List Command → Scenario → Running Order → List ℕ
step_text calc names asks step r =
    codes "step " ++ label_text names step.name ++ codes "\n" ++ transcript (ordered calc) r (commands_of asks step)

unfoldable pub step_texts : Calc → List (List ℕ) → List Command → List Scenario → Running Order → List ℕ
step_texts calc names asks [] r = []
step_texts calc names asks (step ∷ steps) r =
    step_text calc names asks step r ++ step_texts calc names asks steps (behind calc asks step r)

-- what a step shows for each ask, behind its moves
abbrev pub step_row : Calc → List Command → Scenario → Running Order → Row
step_row calc asks step r = record { name = step.name; values = values_of calc asks (after calc step.moves r) }

unfoldable pub step_rows : Calc → List Command → List Scenario → Running Order → List Row
step_rows calc asks [] r = []
step_rows calc asks (step ∷ steps) r = step_row calc asks step r ∷ step_rows calc asks steps (behind calc asks step r)

-- THE COMPUTATIONS OF STEPS are those of the session that does their commands
abbrev pub step_calls : Calc → List Command → List Scenario → Running Order → List (ℕ × Bool)
step_calls calc asks steps r = calls_of (ordered calc) r (all_commands asks steps)

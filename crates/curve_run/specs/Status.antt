-- The exit codes, and the words on standard error behind the program's name (this project's profile).
use Rattle.std.specs.Prelude.{◌≡◌, ◌⊎◌, ◌<◌, ℕ, List, length, take, codes, Option, Some, Result, Ok, Err}
use Rattle.desk_edge.specs.Count.{Rose}
use Rattle.desk_edge.specs.Sink.{appended}
use Rattle.tool_frame.specs.declared.status.MarketStatus.TheVariants as ended
use Rattle.tool_frame.specs.Stage.{Stage, Done}
use Rattle.tool_frame.specs.Status as market
use Rattle.curve_run.specs.declared.status.CurveStatus.{CurveStatus}
use Rattle.curve_run.specs.declared.status.CurveStatus.TheVariants.{Of, Refused}

abbrev pub code_of : CurveStatus → ℕ
code_of (Of status) = market.code_of status
code_of Refused = 10

abbrev pub words_of : CurveStatus → List ℕ
words_of (Of status) = market.words_of status
words_of Refused = codes "refused"

-- the line on standard error after the program's name: one that is done has none
abbrev pub said_of : CurveStatus → Option (List ℕ)
said_of (Of status) = market.said_of status
said_of Refused = Some (words_of Refused)

-- how far a run came that ended so: where it is refused, all is computed, and the text to be written is none
abbrev pub stage_of : CurveStatus → Stage
stage_of (Of status) = market.stage_of status
stage_of Refused = Done

-- how a run ended that was to write a text, or to note lines
abbrev pub status_for : Result (List ℕ) (List ℕ) → CurveStatus
status_for (Ok text) = Of ended.Done
status_for (Err lines) = Refused

-- it is not for the names that it ended
abbrev pub IsOf : CurveStatus → Type 0
IsOf (Of status) = Unit {0}
IsOf Refused = ⊥

-- WHAT WAS NOTED on standard error, where it is told: of a refusal the lines, but a front of them where a fault of it was counted; else
-- nothing
abbrev pub Notes : Option (List ℕ) → Option (List ℕ) → ℕ → ℕ → List ℕ → CurveStatus → Type 0
Notes old new before now lines (Of status) = new ≡ old
Notes old new before now lines Refused =
    (new ≡ appended lines old) ⊎ (Rose before now × (n : ℕ) × (n < length lines) × (new ≡ appended (take n lines) old))

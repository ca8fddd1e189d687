-- Whether words and files are accepted, and what is done then (this project's profile).
use Rattle.std.specs.Prelude.{ℕ, List, [], Result, Ok, Err}
use Rattle.desk_terms.specs.Reading.{Outcome, Calc}
use Rattle.market_desk.specs.Standing.{standing_of}
use Rattle.market_loader.specs.Files.{Files}
use Rattle.tool_frame.specs.declared.status.MarketStatus.{MarketStatus}
use Rattle.tool_frame.specs.declared.status.MarketStatus.TheVariants.{Usage}
use Rattle.tool_frame.specs.Market.{wanted_from, calls_from}
use Rattle.tool_frame.specs.Market as tool
use Rattle.tool_frame.specs.Run.{asked, calls_for}
use Rattle.curve_run.specs.declared.status.CurveStatus.{CurveStatus}
use Rattle.curve_run.specs.declared.status.CurveStatus.TheVariants.{Of}
use Rattle.curve_run.specs.Lines.{Sheet, Shown, curve_text, curve_calls, AreNamed}
use Rattle.curve_run.specs.Status.{status_for}
use Rattle.curve_run.specs.Words.{Request, request_of}

-- a market, and what is asked of it: whether a table is wanted, and the names of the curves that are wanted
abbrev pub Wanted : Type 0
Wanted = tool.Wanted Request

-- what is to be done for words, or the status with which it is refused
abbrev pub verdict_of : Files → List (List ℕ) → Result Wanted MarketStatus
verdict_of files words = asked Usage (wanted_from (λ (request : Request). request.market)) (request_of words) files

-- the most calls of a shelf for them
abbrev pub reading_calls : Files → List (List ℕ) → ℕ
reading_calls files words = calls_for (calls_from (λ (request : Request). request.market)) (request_of words) files

-- a table or a picture, and what is drawn
abbrev pub sheet_of : Wanted → Sheet
sheet_of wanted =
    record { as_table = wanted.request.as_table; plot = wanted.request.plot; today = wanted.market.today }

-- the picture or the table, or the lines of what stands against it
abbrev pub shown_in : Calc → Wanted → Shown
shown_in calc wanted =
    curve_text calc (standing_of wanted.market) (sheet_of wanted) wanted.request.curves

-- what is written to standard output: the picture or the table, and else nothing
abbrev pub text_of : Shown → List ℕ
text_of (Ok text) = text
text_of (Err lines) = []

abbrev pub output_in : Calc → Wanted → List ℕ
output_in calc wanted = text_of (shown_in calc wanted)

-- what is noted on standard error: the lines of what stands against it
abbrev pub lines_of : Shown → List ℕ
lines_of (Ok text) = []
lines_of (Err lines) = lines

abbrev pub notes_in : Calc → Wanted → List ℕ
notes_in calc wanted = lines_of (shown_in calc wanted)

-- how a run ends, where nothing fails outside
abbrev pub ending_of : Calc → Result Wanted MarketStatus → CurveStatus
ending_of calc (Ok wanted) = status_for (shown_in calc wanted)
ending_of calc (Err status) = Of status

-- the computations that are made
abbrev pub computed_in : Calc → Wanted → List (ℕ × Outcome)
computed_in calc wanted = curve_calls calc (standing_of wanted.market) wanted.request.curves

-- the names are curves', so that the bench is called
abbrev pub HasCurves : Wanted → Type 0
HasCurves wanted = AreNamed (standing_of wanted.market) wanted.request.curves

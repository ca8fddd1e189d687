-- The headline: what a run writes, and what that shows (this project's profile).
use Rattle.std.specs.Prelude.{◌≡◌, ℕ, List, Option, Result, Ok, Err}
use Rattle.desk_edge.specs.Sink.{appended}
use Rattle.desk_terms.specs.Reading.{Calc}
use Rattle.session_model.specs.Course.{running}
use Rattle.session_model.specs.Ends.{names_of_watchers}
use Rattle.session_model.specs.Shows.{Shows}
use Rattle.watch_rounds.specs.declared.picker.Order.{Order}
use Rattle.watch_rounds.specs.declared.picker.Order.TheVariants.{First}
use Rattle.desk_top.specs.Summary.{tally_of, summary}
use Rattle.tool_script.specs.declared.status.Status.{Status}
use Rattle.tool_script.specs.Verdict.{ScriptRun, Plan, Run, Load, Check}
use Rattle.desk_top.specs.Output.{first_standing, ordered, written_by}

-- THE HEADLINE, of a script over a market, whose due watchers run in an order: these bytes are written, and the session shows
-- what `Shows` says
pub record Headline (calc : Calc) (order : Order) (run : ScriptRun) (bytes : List ℕ) (old new : Option (List ℕ)) : Type 0 where
  pub written : new ≡ appended bytes old
  pub shows : Shows (ordered calc) (names_of_watchers run.script.actions run.script.commands) (running order (first_standing run)) run.script.commands

-- A run writes the transcript, a load the summary of its own. A check has no session.
abbrev pub IsHeadline : Calc → Result Plan Status → Option (List ℕ) → Option (List ℕ) → Type 0
IsHeadline calc (Ok (Run run order)) old new = Headline calc order run (written_by calc order run) old new
IsHeadline calc (Ok (Load size run)) old new = Headline calc First run (summary size (tally_of (written_by calc First run))) old new
IsHeadline calc (Ok (Check objects fixings)) old new = Unit {0}
IsHeadline calc (Err status) old new = Unit {0}

-- What is done of a plan shows what the headline says.
use Rattle.std.proofs.Common.{◌≡◌, ℕ, List, Option, Result, Ok, refl, sym, subst}
use Rattle.std.specs.Prelude.{IfSome}
use Rattle.desk_edge.specs.Sink.{appended}
use Rattle.desk_terms.specs.Reading.{Calc}
use Rattle.market_loader.specs.Files.{Files}
use Rattle.market_loader.proofs.Steps.{told_map, told_any}
use Rattle.session_commands.specs.Whole.{IsScript}
use Rattle.session_model.proofs.Shown.{every_session}
use Rattle.watch_rounds.specs.Order.{order_below}
use Rattle.watch_rounds.specs.declared.picker.Order.{Order}
use Rattle.watch_rounds.specs.declared.picker.Order.TheVariants.{First}
use Rattle.tool_script.specs.declared.plan.Plan as planned
use Rattle.tool_script.specs.declared.status.Status.{Status}
use Rattle.tool_script.specs.declared.status.Status.TheVariants as status
use Rattle.tool_script.specs.Found.{CanDo, plan_in, run_in}
use Rattle.tool_script.specs.Status.{stage_of}
use Rattle.tool_script.specs.Verdict.{ScriptRun, verdict_of}
use Rattle.desk_top.specs.Output.{ordered, output_in}
use Rattle.desk_top.specs.Written.{IsLate}
use Rattle.tool_frame.specs.Stage.{IsBefore}
use Rattle.desk_top.specs.Headline.{Headline, IsHeadline}

shows : (calc : Calc) (order : Order) (run : ScriptRun) (bytes : List ℕ) (old new : Option (List ℕ)) → IsScript run.names run.script
    → new ≡ appended bytes old → Headline calc order run bytes old new
shows calc order run bytes old new whole written = record {
  written = written;
  shows = every_session (ordered calc) order_below order run.today run.names run.made run.script.actions run.script.commands
      whole.actions whole.commands;
}

headline_in : (calc : Calc) (plan : planned.Plan) (old new : Option (List ℕ)) → CanDo plan
    → new ≡ appended (output_in calc (plan_in plan)) old → IsHeadline calc (Ok (plan_in plan)) old new
headline_in calc (planned.TheVariants.Run run order) old new can written = shows calc order (run_in run) _ old new can.1 written
headline_in calc (planned.TheVariants.Load size run) old new can written = shows calc First (run_in run) _ old new can.1 written
headline_in calc (planned.TheVariants.Check objects fixings) old new can written = tt

-- what was done of a plan was done of the verdict
pub told_headline : (told : Option Files) (words : List (List ℕ)) (calc : Calc) (plan : planned.Plan) (old new : Option (List ℕ)) (s : Status)
    → CanDo plan → IfSome told (λ files. verdict_of files words ≡ Ok (plan_in plan))
    → (s ≡ status.Done → new ≡ appended (output_in calc (plan_in plan)) old)
    → IfSome told (λ files. s ≡ status.Done → IsHeadline calc (verdict_of files words) old new)
told_headline told words calc plan old new s can is written = told_map told
    (λ files e done. subst (λ v. IsHeadline calc v old new) (sym e) (headline_in calc plan old new can (written done))) is

-- what ends before a plan is there is not Done
pub no_headline : (told : Option Files) (words : List (List ℕ)) (calc : Calc) (old new : Option (List ℕ)) (s : Status) → IsBefore (stage_of s)
    → IfSome told (λ files. s ≡ status.Done → IsHeadline calc (verdict_of files words) old new)
no_headline told words calc old new s before = told_any told (λ files. λ done. absurd (subst (λ t. IsBefore (stage_of t)) done before))

pub late_headline : (s : Status) (old new : Option (List ℕ)) (bytes : List ℕ) → IsLate s → s ≡ status.Done → new ≡ appended bytes old
late_headline s old new bytes late done = absurd (subst IsLate done late)

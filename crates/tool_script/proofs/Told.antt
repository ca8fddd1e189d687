-- The plan that words and files give, against the verdict of the definition.
use Rattle.std.proofs.Common.{◌≡◌, ℕ, ◌+◌, ◌≤◌, List, Option, Some, None, Result, Ok, Err, refl, sym, ap, subst}
use Rattle.std.specs.Prelude.{IfSome}
use Rattle.desk_words.specs.Answers.{Answers, request_in}
use Rattle.desk_words.specs.Words.{Request, request_of}
use Rattle.desk_words.specs.declared.words.Request as code
use Rattle.desk_words.specs.declared.words.WordsFault.TheVariants as untaken
use Rattle.market_loader.specs.Files.{Files}
use Rattle.market_loader.specs.Reads.{Tells as TellsOf}
use Rattle.tool_frame.specs.Run.{Tells}
use Rattle.tool_frame.proofs.Asking.{told_request, told_usage, told_calls, told_uncalled}
use Rattle.tool_frame.proofs.Opening.{told_of}
use Rattle.tool_script.specs.declared.plan.Plan as planned
use Rattle.tool_script.specs.declared.status.Status.{Status}
use Rattle.tool_script.specs.declared.status.Status.TheVariants as status
use Rattle.tool_script.specs.Found.{plan_in}
use Rattle.tool_script.specs.Refusals.{status_end}
use Rattle.tool_script.specs.Status.{stage_of}
use Rattle.tool_script.specs.Verdict.{plan_of, plan_calls, verdict_of, reading_calls, IsCheck}

-- what words ask for, where they are a request, and where they are none
pub asked_some : (request : code.Request) (asked : Option Request) → Answers (Ok request) asked
    → asked ≡ Some (request_in request)
asked_some request None answers = absurd answers
asked_some request (Some asked) answers = ap (λ (r : Request). Some r) (sym answers)

pub asked_none : (asked : Option Request) → Answers (Err untaken.Usage) asked → asked ≡ None
asked_none None answers = refl
asked_none (Some asked) answers = absurd answers

-- a check is asked for by its words
pub asked_check : (request : Request) (asked : Option Request) → asked ≡ Some request → IsCheck asked → IsCheck (Some request)
asked_check request asked is check = subst (λ (o : Option Request). IsCheck o) is check

module _ (told : Option Files) (words : List (List ℕ)) where
  -- the plan of a request is the verdict of its words
  pub told_plan : (request : Request) (result : Result planned.Plan Status) → request_of words ≡ Some request
      → IfSome told (λ files. TellsOf status_end plan_in result (plan_of request files))
      → IfSome told (λ files. Tells stage_of plan_in result (verdict_of files words))
  unfolding verdict_of
  told_plan request result is t =
      told_request stage_of plan_in status.Usage plan_of told (request_of words) request result is
      (told_of stage_of plan_in told (plan_of request) result t)

  pub told_refused : request_of words ≡ None → IfSome told (λ files. Tells stage_of plan_in (Err status.Usage) (verdict_of files words))
  unfolding verdict_of
  told_refused none = told_usage stage_of plan_in status.Usage plan_of told (request_of words) none

  -- the calls for a request are those for its words
  pub told_reading : (request : Request) (old new : ℕ) → request_of words ≡ Some request
      → IfSome told (λ files. new ≤ old + plan_calls request files) → IfSome told (λ files. new ≤ old + reading_calls files words)
  unfolding reading_calls
  told_reading request old new is h = told_calls plan_calls told (request_of words) request old new is h

  -- where nothing was called
  pub told_idle : (calls : ℕ) → IfSome told (λ files. calls ≤ calls + reading_calls files words)
  unfolding reading_calls
  told_idle calls = told_uncalled plan_calls told (request_of words) calls

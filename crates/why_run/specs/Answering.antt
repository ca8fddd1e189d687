-- What is answered, and what is computed for it (this project's profile).
use Rattle.std.specs.Prelude.{ℕ, Bool, true, false, List, ◌++◌, Result, Ok, Err}
use Rattle.desk_terms.specs.Reading.{Calc}
use Rattle.desk_model.specs.Visit.{log_of}
use Rattle.tool_script.specs.Asking.{Wanted, script_asks}
use Rattle.tool_script.specs.declared.status.Status.{Status}
use Rattle.tool_script.specs.Played.{script_end, script_calls}
use Rattle.session_commands.specs.declared.refusal.Refusal.{Refusal}
use Rattle.session_model.specs.Standing.{Standing}
use Rattle.session_why.specs.Computed.{why_asking}
use Rattle.tool_frame.specs.Tool.{Tool}
use Rattle.why_model.specs.Answer.{priced_object, why_text}
use Rattle.why_run.specs.Words.{Triple, triple_of}

-- THE ANSWER for the name over the session of the script as it stands behind its last command
abbrev pub output_in : Calc → Wanted Triple → List ℕ
output_in calc wanted = why_text calc (script_end calc wanted.run).standing wanted.request.name

-- no object was found
abbrev pub is_refused : Result ℕ Refusal → Bool
is_refused (Ok o) = false
is_refused (Err refusal) = true

-- NO PRICED OBJECT HAS THE NAME, over a session
abbrev pub refuses_name : Standing → List ℕ → Bool
refuses_name p name = is_refused (priced_object p name)

-- the same of what is wanted
abbrev pub refuses_in : Calc → Wanted Triple → Bool
refuses_in calc wanted = refuses_name (script_end calc wanted.run).standing wanted.request.name

-- the computations of the commands, and then those of the answer
abbrev pub computed_in : Calc → Wanted Triple → List (ℕ × Bool)
computed_in calc wanted =
    script_calls calc wanted.run ++ log_of (why_asking calc (script_end calc wanted.run).standing wanted.request.name).calls

-- THE TOOL: its words are `MARKET SCRIPT NAME`
abbrev pub why_tool : Tool Triple (Wanted Triple) Status
why_tool = record {
  asks = script_asks triple_of (λ triple. triple.market) (λ triple. triple.script);
  output = output_in;
  computed = computed_in;
  NeedsBench = λ wanted. Unit {0};
}

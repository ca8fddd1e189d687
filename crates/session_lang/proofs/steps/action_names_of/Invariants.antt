use Rattle.std.proofs.Common.{◌≡◌, ◌++◌, drop}
use Rattle.session_lang.specs.Reading.{action_names_of}
use Rattle.session_lang.proofs.steps.action_names_of.Given as goal

abbrev pub invariant-loop-step : goal.invariant-loop-step
invariant-loop-step l = l.names ++ action_names_of (drop l.step-index l.steps) ≡ action_names_of l.steps

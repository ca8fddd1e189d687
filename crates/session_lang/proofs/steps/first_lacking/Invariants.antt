use Rattle.std.proofs.Common.{◌≡◌, drop}
use Rattle.std.specs.List.{find}
use Rattle.session_lang.specs.Reading.{lacks, line_of}
use Rattle.session_lang.proofs.steps.first_lacking.Given as goal

abbrev pub invariant-loop-step : goal.invariant-loop-step
invariant-loop-step l = line_of (find (λ step. lacks (record { names = l.names; begun = l.begun }) step.what) (drop l.step-index l.steps)) ≡ line_of (find (λ step. lacks (record { names = l.names; begun = l.begun }) step.what) l.steps)

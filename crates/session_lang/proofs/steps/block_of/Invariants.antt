use Rattle.std.proofs.Common.{◌≡◌, ◌++◌, drop}
use Rattle.session_lang.specs.Reading.{block_of}
use Rattle.session_lang.proofs.steps.block_of.Given as goal

abbrev pub invariant-loop-step : goal.invariant-loop-step
invariant-loop-step l = l.block ++ block_of (record { names = l.names; begun = l.begun }) (drop l.step-index l.steps) ≡ block_of (record { names = l.names; begun = l.begun }) l.steps

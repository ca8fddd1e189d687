use Rattle.std.proofs.Common.{◌≡◌, ◌++◌, drop}
use Rattle.session_lang.specs.Reading.{actions_of}
use Rattle.session_lang.proofs.steps.actions_of.Given as goal

abbrev pub invariant-loop-at : goal.invariant-loop-at
invariant-loop-at l = l.actions ++ actions_of (record { names = l.names; begun = l.begun }) (drop l.at l.steps) ≡ actions_of (record { names = l.names; begun = l.begun }) l.steps

use Rattle.std.proofs.Common.{◌≡◌, ◌++◌, drop, map}
use Rattle.session_lang.specs.Reading.{linked}
use Rattle.session_lang.proofs.steps.linked_each.Given as goal

abbrev pub invariant-loop-command : goal.invariant-loop-command
invariant-loop-command l = l.list ++ map (linked (record { names = l.names; begun = l.begun })) (drop l.command-index l.commands) ≡ map (linked (record { names = l.names; begun = l.begun })) l.commands

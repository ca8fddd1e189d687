use Rattle.std.proofs.Common.{◌≡◌, ◌++◌, drop}
use Rattle.session_lang.proofs.steps.push_each.Given as goal

abbrev pub invariant-loop-command : goal.invariant-loop-command
invariant-loop-command l = l.commands ++ drop l.command-index l.more ≡ l.fn.commands ++ l.more

use Rattle.std.proofs.Common.{◌≡◌, ◌++◌, drop}
use Rattle.live_session.proofs.blocks.copied.Given as goal

abbrev pub invariant-loop-command : goal.invariant-loop-command
invariant-loop-command l = l.list ++ drop l.command-index l.commands ≡ l.commands

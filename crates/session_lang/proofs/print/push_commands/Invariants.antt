use Rattle.std.proofs.Common.{◌≡◌, ◌++◌, drop}
use Rattle.session_lang.specs.Printing.{commands_text}
use Rattle.session_lang.proofs.print.push_commands.Given as goal

abbrev pub invariant-loop-command : goal.invariant-loop-command
invariant-loop-command l = l.out.items ++ commands_text l.names l.actions (drop l.command-index l.commands) ≡ l.fn.out.items ++ commands_text l.names l.actions l.commands

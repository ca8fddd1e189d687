use Rattle.std.proofs.Common.{◌≡◌, ◌++◌, drop}
use Rattle.session_lang.specs.Printing.{blocks_text}
use Rattle.session_lang.proofs.print.push_blocks.Given as goal

abbrev pub invariant-loop-at : goal.invariant-loop-at
invariant-loop-at l = l.out.items ++ blocks_text l.names l.action_names l.at (drop l.at l.actions) ≡ l.fn.out.items ++ blocks_text l.names l.action_names 0 l.actions

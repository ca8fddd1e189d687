use Rattle.std.proofs.Common.{drop}
use Rattle.pricing_session.specs.Speaking.{as_live}
use Rattle.desk_c.proofs.Progress.{Progress}
use Rattle.desk_c.proofs.playing.play_all.Given as goal

abbrev pub invariant-loop-command : goal.invariant-loop-command
invariant-loop-command l = Progress l.commands (as_live l.initial.session) l.initial.text.items (drop l.command-index l.commands) (as_live l.session) l.text.items

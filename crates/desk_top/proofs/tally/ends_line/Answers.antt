use Rattle.desk_top.proofs.Tallies.{ends_at}
use Rattle.desk_top.proofs.tally.ends_line.Goals as goal

pub returns-in-len1-up : goal.returns-in-len1-up
returns-in-len1-up c = ends_at c.args.text.now c.in-len1-up.len_at_least

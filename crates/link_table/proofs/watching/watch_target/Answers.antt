use Rattle.link_table.proofs.Fitting.{joins_one}
use Rattle.link_table.proofs.watching.watch_target.Goals as goal

pub returns-in-Some-clause-joins : goal.returns-in-Some-clause-joins
returns-in-Some-clause-joins c = joins_one c.args.graph.now c.watch_spare.new.self c.args.holder c.in-Some.target
    c.args.target c.in-Some.is c.watch_spare.ensures.pair

use Rattle.std.proofs.Common.{Ok, Err}
use Rattle.desk_edge.specs.Shelf.{files_of}
use Rattle.tool_script.proofs.ReadingSteps.{market_read}
use Rattle.tool_script.proofs.There.{market_halts}
use Rattle.tool_script.proofs.reading.open_market.Goals as goal

pub returns-in-Ok-clause-reads : goal.returns-in-Ok-clause-reads
returns-in-Ok-clause-reads g c = market_read c.args.path.now _ _ (Ok c.in-Ok.market) c.in-Ok.ensures.reads

pub returns-in-Err-clause-reads : goal.returns-in-Err-clause-reads
returns-in-Err-clause-reads g c =
    rw c.from.ensures (market_read c.args.path.now _ _ (Err c.in-Err.status) c.in-Err.ensures.reads)

pub returns-in-Err-clause-there : goal.returns-in-Err-clause-there
returns-in-Err-clause-there g c =
    rw c.from.ensures (market_halts (files_of (g.H.Shelf.contents c.args.shelf.now)) c.args.path.now c.in-Err.status c.in-Err.ensures.there)

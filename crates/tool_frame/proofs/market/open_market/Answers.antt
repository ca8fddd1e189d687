use Rattle.std.proofs.Common.{refl}
use Rattle.desk_edge.specs.Shelf.{files_of}
use Rattle.tool_frame.proofs.Opening.{market_found, market_lost}
use Rattle.tool_frame.proofs.There.{market_there}
use Rattle.tool_frame.proofs.market.open_market.Goals as goal

pub returns-in-Ok-clause-reads : goal.returns-in-Ok-clause-reads
returns-in-Ok-clause-reads g c =
    market_found c.load_market.new.names c.args.path.now _ _ c.in-Ok.market _ refl c.in-Ok.ensures.reads

pub returns-in-Err-clause-reads : goal.returns-in-Err-clause-reads
returns-in-Err-clause-reads g c =
    rw c.from.ensures (market_lost c.load_market.new.names c.args.path.now _ _ c.in-Err.fault c.in-Err.ensures.reads)

pub returns-in-Err-clause-there : goal.returns-in-Err-clause-there
returns-in-Err-clause-there g c =
    rw c.from.ensures (market_there _ _ (files_of (g.H.Shelf.contents c.args.shelf.now)) c.args.path.now c.in-Err.fault c.in-Err.ensures.there)

use Rattle.desk_edge.specs.Shelf.{files_of}
use Rattle.tool_script.specs.Refusals.{as_status}
use Rattle.tool_script.proofs.There.{market_halts, lost_there}
use Rattle.tool_live.proofs.wanted.open_bare.Goals as goal

pub returns-in-Err-clause-there : goal.returns-in-Err-clause-there
returns-in-Err-clause-there g c =
    let told = files_of (g.H.Shelf.contents c.args.shelf.now) in
    rw c.from.ensures (lost_there told c.args.market.now (as_status c.in-Err.status)
    (market_halts told c.args.market.now c.in-Err.status c.in-Err.ensures.there))

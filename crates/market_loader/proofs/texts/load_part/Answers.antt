use Rattle.desk_edge.specs.Shelf.{files_of}
use Rattle.market_loader.proofs.There.{part_halts}
use Rattle.market_loader.proofs.texts.load_part.Goals as goal

pub returns-in-Err-clause-there : goal.returns-in-Err-clause-there
returns-in-Err-clause-there g c =
    rw c.role_fault.ensures (part_halts _ _ (files_of (g.H.Shelf.contents c.args.shelf.now)) c.args.path.now c.args.role c.in-Err.fault
    c.in-Err.ensures.there)

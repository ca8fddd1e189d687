use Rattle.desk_edge.specs.Shelf.{files_of}
use Rattle.market_loader.specs.Market.{texts_in, market_in}
use Rattle.market_loader.proofs.Opening.{texts_found}
use Rattle.market_loader.proofs.Steps.{told_map}
use Rattle.market_loader.proofs.There.{texts_there}
use Rattle.market_loader.proofs.market.load_market.Goals as goal

pub returns-clause-reads : goal.returns-clause-reads
returns-clause-reads g c =
    texts_found (market_in c.market.new.names) c.args.path.now c.in_ok-texts.texts c.in_ok-texts.ensures.reads c.market.ensures.says

pub returns-clause-there : goal.returns-clause-there
returns-clause-there g c =
    told_map (files_of (g.H.Shelf.contents c.args.shelf.now))
    (λ files t. λ _. texts_there c.args.path.now files (texts_in c.in_ok-texts.texts) t) c.in_ok-texts.ensures.reads.tells

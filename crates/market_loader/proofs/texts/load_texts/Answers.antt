use Rattle.desk_edge.specs.Shelf.{files_of}
use Rattle.market_loader.specs.declared.faults.MarketRole.TheVariants.{Market}
use Rattle.market_loader.specs.Market.{texts_in}
use Rattle.market_loader.proofs.Opening.{market_found}
use Rattle.market_loader.proofs.Steps.{told_map}
use Rattle.market_loader.proofs.There.{part_there}
use Rattle.market_loader.proofs.texts.load_texts.Goals as goal

pub returns-clause-reads : goal.returns-clause-reads
returns-clause-reads g c = market_found texts_in c.args.path.now c.in_ok-text.ensures.reads c.with_text.ensures

pub returns-clause-there : goal.returns-clause-there
returns-clause-there g c =
    told_map (files_of (g.H.Shelf.contents c.args.shelf.now))
    (λ files t. λ _. part_there Market c.args.path.now files c.in_ok-text.text.items t) c.in_ok-text.ensures.reads.tells

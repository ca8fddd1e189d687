use Rattle.std.proofs.lemmas.Result.{err_from_is_err_and}
use Rattle.desk_edge.specs.Shelf.{files_of}
use Rattle.tool_frame.specs.Market.{market_in}
use Rattle.tool_script.proofs.ReadingSteps.{run_found, run_lost}
use Rattle.tool_script.proofs.There.{found_there, lost_there}
use Rattle.tool_script.proofs.reading.open_run.Goals as goal

pub returns-in_err-market-clause-reads : goal.returns-in_err-market-clause-reads
returns-in_err-market-clause-reads g c =
    let p = err_from_is_err_and c.from_residual.result c.from_residual.ensures.1 in
    rw (p.1, p.2) (run_lost c.args.market.now c.args.script.now _ _ _ c.in_err-market.ensures.reads)

pub returns-clause-reads : goal.returns-clause-reads
returns-clause-reads g c =
    run_found c.args.market.now c.args.script.now _ _ _ c.in_ok-market.market c.open_script.result c.in_ok-market.ensures.reads
    c.open_script.ensures.reads

pub returns-in_err-market-clause-there : goal.returns-in_err-market-clause-there
returns-in_err-market-clause-there g c =
    let p = err_from_is_err_and c.from_residual.result c.from_residual.ensures.1 in
    rw (p.1, p.2) (lost_there (files_of (g.H.Shelf.contents c.args.shelf.now)) c.args.market.now _ c.in_err-market.ensures.there)

pub returns-clause-there : goal.returns-clause-there
returns-clause-there g c =
    found_there _ (files_of (g.H.Shelf.contents c.args.shelf.now)) c.args.market.now (market_in c.in_ok-market.market)
    c.in_ok-market.ensures.reads.tells

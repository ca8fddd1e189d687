use Rattle.market_loader.proofs.Opening.{texts_ok, texts_err}
use Rattle.market_loader.proofs.texts.paths_of.Goals as goal

pub returns-in-Ok : goal.returns-in-Ok
returns-in-Ok c = texts_ok _ _ c.in-Ok.ensures

pub returns-in-Err : goal.returns-in-Err
returns-in-Err c = rw c.load_fault.ensures (texts_err c.in-Err.fault _ c.in-Err.ensures)

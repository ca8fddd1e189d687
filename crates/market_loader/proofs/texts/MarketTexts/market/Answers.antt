use Rattle.market_loader.proofs.Opening.{texts_ok, texts_err}
use Rattle.market_loader.proofs.texts.MarketTexts.market.Goals as goal

pub returns-in-Ok-clause-says : goal.returns-in-Ok-clause-says
returns-in-Ok-clause-says c =
    texts_ok _ _ (rw (c.deref.ensures.value, c.deref-2.ensures.value, c.deref-3.ensures.value) at c.in-Ok.ensures.market)

pub returns-in-Err-clause-says : goal.returns-in-Err-clause-says
returns-in-Err-clause-says c =
    let says = rw (c.deref.ensures.value, c.deref-2.ensures.value, c.deref-3.ensures.value) at c.in-Err.ensures.market in
    rw c.load_fault.ensures (texts_err c.in-Err.fault _ says)

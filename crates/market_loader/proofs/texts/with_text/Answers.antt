use Rattle.std.proofs.Common.{refl}
use Rattle.market_loader.specs.Market.{texts_in}
use Rattle.market_loader.proofs.Opening.{paths_found, quotes_found, fixings_found}
use Rattle.market_loader.proofs.texts.with_text.Goals as goal

pub returns : goal.returns
returns g c =
    let text = c.args.text.items in
    let paths = c.in_ok-paths.paths in
    let named = rw c.deref.ensures.value at c.in_ok-paths.ensures in
    paths_found texts_in text paths named
    (quotes_found texts_in text paths c.in_ok-quotes.ensures
    (fixings_found text paths c.in_ok-quotes.quotes.items _ c.in_ok-fixings.ensures refl))

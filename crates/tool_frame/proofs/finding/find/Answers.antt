use Rattle.std.proofs.Common.{refl, sym}
use Rattle.std.specs.Prelude.{map}
use Rattle.std.specs.String.{string_bytes}
use Rattle.desk_edge.specs.Shelf.{files_of}
use Rattle.market_file.specs.Market.{Market}
use Rattle.tool_frame.specs.Market.{market_in, market_at, market_asks, wanted_in}
use Rattle.tool_frame.specs.Status.{market_ends, market_ends_sound}
use Rattle.tool_frame.proofs.Finds.{finds_none, finds_found, finds_lost}
use Rattle.tool_frame.proofs.Refusals.{refusal_before, refusal_usage}
use Rattle.tool_frame.proofs.There.{read_there, halted_there}
use Rattle.tool_frame.proofs.finding.find.Goals as goal

pub returns-in_default-clause-found : goal.returns-in_default-clause-found
returns-in_default-clause-found g c =
    let request = g.R.MarketRequest in
    finds_none market_ends (market_asks request.request_of request.path) (wanted_in request.meaning) (map string_bytes c.args.words.now) _
    market_ends_sound (sym c.in_default.ensures.request)

pub returns-in-Ok-clause-found : goal.returns-in-Ok-clause-found
returns-in-Ok-clause-found g c =
    let request = g.R.MarketRequest in
    let asked = request.meaning c.in-Some.request in
    finds_found market_ends (market_asks request.request_of request.path) (wanted_in request.meaning) (map string_bytes c.args.words.now) _ _
    asked (sym c.in-Some.ensures.request) market_in (market_at (request.path asked))
    (λ (market : Market). record { market = market; request = asked }) (λ files. refl)
    c.in-Ok.market _ refl (λ files market is. read_there (request.path asked) files market is)
    (rw c.market.ensures at c.in-Ok.ensures.reads)

pub returns-in-Err-clause-found : goal.returns-in-Err-clause-found
returns-in-Err-clause-found g c =
    let request = g.R.MarketRequest in
    let asked = request.meaning c.in-Some.request in
    let refusal = c.in-Err.ensures.refusal in
    finds_lost market_ends (market_asks request.request_of request.path) (wanted_in request.meaning) (map string_bytes c.args.words.now) _ _
    asked (sym c.in-Some.ensures.request) market_in (market_at (request.path asked))
    (λ (market : Market). record { market = market; request = asked }) (λ files. refl)
    c.in-Err.status (refusal_before c.in-Err.status refusal) (refusal_usage c.in-Err.status refusal)
    (halted_there (files_of (g.H.Shelf.contents c.args.shelf.now)) (request.path asked) c.in-Err.status
    (rw c.market.ensures at c.in-Err.ensures.there))
    (rw c.market.ensures at c.in-Err.ensures.reads)

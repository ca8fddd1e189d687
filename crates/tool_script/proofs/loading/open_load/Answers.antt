use Rattle.std.proofs.Common.{[]}
use Rattle.std.proofs.lemmas.Result.{err_from_is_err_and}
use Rattle.load_maker.specs.Texts.{market_text, quotes_text, script_text}
use Rattle.market_file.specs.Market.{read_market}
use Rattle.tool_frame.specs.Market.{market_in}
use Rattle.tool_script.specs.Found.{run_in}
use Rattle.tool_script.specs.Reading.{or_market}
use Rattle.tool_script.specs.Verdict.{scripted}
use Rattle.tool_script.proofs.ReadingSteps.{says_on, says_fails}
use Rattle.tool_script.proofs.loading.open_load.Goals as goal

pub returns-in_err-market-clause-says : goal.returns-in_err-market-clause-says
returns-in_err-market-clause-says c =
    let p = err_from_is_err_and c.from_residual-in_err-market.result c.from_residual-in_err-market.ensures.1 in
    let texts = c.in_ok-texts.ensures in
    let says = rw (c.bytes.ensures, c.bytes-2.ensures, texts.market, texts.quotes) at c.in_err-market.ensures.says in
    rw (p.1, p.2) (says_fails market_in run_in (or_market (read_market (market_text c.args.size) (quotes_text c.args.size) []))
    (λ m. scripted m (script_text c.args.size)) c.in_err-market.field-0.0 says)

pub returns-clause-says : goal.returns-clause-says
returns-clause-says c =
    let texts = c.in_ok-texts.ensures in
    let says = rw (c.bytes.ensures, c.bytes-2.ensures, texts.market, texts.quotes) at c.in_ok-market.ensures.says in
    let reads = rw (c.bytes-3.ensures, texts.script) at c.scripted.ensures.says in
    says_on market_in run_in (or_market (read_market (market_text c.args.size) (quotes_text c.args.size) []))
    (λ m. scripted m (script_text c.args.size)) c.in_ok-market.market c.scripted.result says reads

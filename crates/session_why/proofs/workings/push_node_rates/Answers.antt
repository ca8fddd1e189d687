use Rattle.why_model.specs.Answer.{named}
use Rattle.session_why.proofs.Pieces.{rates_step, quotes_end, rates_end}
use Rattle.session_why.proofs.workings.push_node_rates.Goals as goal

pub loop-at-preserved : goal.loop-at-preserved
loop-at-preserved c =
    rates_step c.args.session.now (named c.args.session.now c.args.object) c.args.nodes.now c.args.quotes.now
    c.args.rates.now c.loop-at.at
    c.index-nodes-at.result c.index-quotes-at.result c.index-rates-at.result _ _ _ c.loop-at-test.true
    c.if-at-quotes.true c.if-at-rates.true
    c.index-nodes-at.is c.index-quotes-at.is c.index-rates-at.is c.in_ok-push_node_rate.ensures c.loop-at.invariant

pub returns-else-at-quotes : goal.returns-else-at-quotes
returns-else-at-quotes c =
    quotes_end c.args.session.now (named c.args.session.now c.args.object) c.args.nodes.now c.args.quotes.now
    c.args.rates.now c.loop-at.at
    _ _ c.loop-at.invariant c.if-at-quotes.false

pub returns-else-at-rates : goal.returns-else-at-rates
returns-else-at-rates c =
    rates_end c.args.session.now (named c.args.session.now c.args.object) c.args.nodes.now c.args.quotes.now
    c.args.rates.now c.loop-at.at
    _ _ c.loop-at.invariant c.if-at-rates.false

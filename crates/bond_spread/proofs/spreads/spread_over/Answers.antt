use Rattle.std.proofs.Common.{◌∙◌, ap}
use Rattle.bond_yield.proofs.YieldLemmas.{answer_at}
use Rattle.bond_spread.specs.Spread.{met}
use Rattle.bond_spread.proofs.spreads.spread_over.Goals as goal

pub returns : goal.returns
returns c =
    c.met.ensures
    ∙ ap met (answer_at c.args.flows.now c.args.settle c.args.price c.yield_at.result c.yield_at.ensures.fault c.yield_at.ensures.least)

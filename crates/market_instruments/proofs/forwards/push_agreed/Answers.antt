use Rattle.market_instruments.proofs.forwards.push_agreed.Goals as goal

pub returns-clause-range : goal.returns-clause-range
returns-clause-range c = c.push_settlement.ensures.range _

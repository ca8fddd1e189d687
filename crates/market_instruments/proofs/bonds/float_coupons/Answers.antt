use Rattle.market_instruments.proofs.bonds.float_coupons.Goals as goal

pub returns-clause-range : goal.returns-clause-range
returns-clause-range c = c.push_float.ensures.range _

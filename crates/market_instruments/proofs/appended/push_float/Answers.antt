use Rattle.market_instruments.proofs.AppendLemmas.{refused_leg, stay_on}
use Rattle.market_instruments.proofs.appended.push_float.Goals as goal

pub returns-clause-flows : goal.returns-clause-flows
returns-clause-flows c = c.ranged.ensures.flows _ _ _ c.float_leg.ensures.flows

pub returns-clause-told : goal.returns-clause-told
returns-clause-told c = rw c.ranged.ensures.fault (refused_leg _ _ _ c.float_leg.ensures.day)

pub returns-clause-range : goal.returns-clause-range
returns-clause-range c = stay_on c.float_leg.ensures.range

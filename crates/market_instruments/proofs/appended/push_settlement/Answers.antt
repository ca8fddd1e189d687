use Rattle.market_instruments.proofs.AppendLemmas.{refused, stay_on}
use Rattle.market_instruments.proofs.appended.push_settlement.Goals as goal

pub returns-clause-flows : goal.returns-clause-flows
returns-clause-flows c = c.ranged.ensures.flows _ _ _ c.forward_flow.ensures.flows

pub returns-clause-told : goal.returns-clause-told
returns-clause-told c = rw c.ranged.ensures.fault (refused _ _ _ c.forward_flow.ensures.day)

pub returns-clause-range : goal.returns-clause-range
returns-clause-range c = stay_on c.forward_flow.ensures.range

use Rattle.holiday_calendars.specs.Calendar.{is_business_day}
use Rattle.market_instruments.proofs.AppendLemmas.{refused, stay_known}
use Rattle.market_instruments.proofs.KnownLemmas.{redemption_known}
use Rattle.market_instruments.proofs.appended.push_redemption.Goals as goal

pub returns-clause-flows : goal.returns-clause-flows
returns-clause-flows c = c.ranged.ensures.flows _ _ _ c.redemption.ensures.flows

pub returns-clause-told : goal.returns-clause-told
returns-clause-told c = rw c.ranged.ensures.fault (refused _ _ _ c.redemption.ensures.day)

pub returns-clause-range : goal.returns-clause-range
returns-clause-range c =
    let known = redemption_known (is_business_day c.args.cal.now) c.args.lag c.args.end c.args.notional in
    stay_known _ _ _ _ known c.redemption.ensures.flows c.redemption.ensures.range

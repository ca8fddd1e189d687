use Rattle.holiday_calendars.specs.Calendar.{is_business_day}
use Rattle.cash_flow_legs.specs.Legs.{fixed_flow}
use Rattle.market_instruments.proofs.AppendLemmas.{refused_leg, stay_known}
use Rattle.market_instruments.proofs.KnownLemmas.{fixed_known, each_known}
use Rattle.market_instruments.proofs.appended.push_fixed.Goals as goal

pub returns-clause-flows : goal.returns-clause-flows
returns-clause-flows c = c.ranged.ensures.flows _ _ _ c.fixed_leg.ensures.flows

pub returns-clause-told : goal.returns-clause-told
returns-clause-told c = rw c.ranged.ensures.fault (refused_leg _ _ _ c.fixed_leg.ensures.day)

pub returns-clause-range : goal.returns-clause-range
returns-clause-range c =
    let business = is_business_day c.args.cal.now in
    let flow = fixed_flow business c.args.lag c.args.notional c.args.rate c.args.counter in
    let known = fixed_known business c.args.lag c.args.notional c.args.rate c.args.counter in
    stay_known _ _ _ _ (each_known flow known c.args.schedule.now) c.fixed_leg.ensures.flows c.fixed_leg.ensures.range

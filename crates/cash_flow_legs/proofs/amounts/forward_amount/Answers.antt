use Rattle.std.proofs.Common.{◌∙◌, sym, subst, arith}
use Rattle.std.proofs.lemmas.Int.{ints}
use Rattle.day_number.specs.Day.{IsDayNumber}
use Rattle.holiday_calendars.specs.Calendar.{is_business_day}
use Rattle.cash_flow_legs.proofs.PartsLemmas.{parts_bound, period_parts}
use Rattle.cash_flow_legs.proofs.amounts.forward_amount.Goals as goal

pub settlement-requires-clause-parts : goal.settlement-requires-clause-parts
settlement-requires-clause-parts c =
    let parts = period_parts c.args.index.now.object c.args.index.now.terms.now c.args.day (c.in_ok-value.value, c.in_ok-value.maturity, c.in_ok-value.parts) (sym c.period.ensures.value ∙ c.in_ok-value.was) in
    let few = parts_bound c.args.index.now.terms.now.counter (is_business_day c.args.index.now.terms.now.cal) c.in_ok-value.value c.in_ok-value.maturity (subst IsDayNumber c.number.ensures.value c.number.ensures.range) (subst IsDayNumber c.number-2.ensures.value c.number-2.ensures.range) in
    omega (arith, ints, parts, few)

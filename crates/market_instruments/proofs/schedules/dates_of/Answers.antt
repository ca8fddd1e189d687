use Rattle.std.proofs.Common.{◌∙◌, sym, ap, subst}
use Rattle.holiday_calendars.specs.Calendar.{is_business_day}
use Rattle.schedule_rules.specs.Schedule.{schedule}
use Rattle.schedule_rules.proofs.EndsLaw.{schedules_go_by_the_days}
use Rattle.market_tables.specs.Given.{Fails}
use Rattle.market_instruments.specs.Schedules.{plan_of, planned, span_seen}
use Rattle.market_instruments.proofs.PlanLemmas.{fails}
use Rattle.market_instruments.proofs.schedules.dates_of.Goals as goal

pub returns-in-Ok : goal.returns-in-Ok
returns-in-Ok c =
    let span = span_seen c.args.span.now in
    let plan = plan_of span c.args.rules c.args.tenor c.args.first c.args.last in
    ap planned (sym (schedules_go_by_the_days (is_business_day span.cal) plan c.args.span.now.cal) ∙ c.in-Ok.ensures.dates)

pub returns-in-Err : goal.returns-in-Err
returns-in-Err c =
    let span = span_seen c.args.span.now in
    let plan = plan_of span c.args.rules c.args.tenor c.args.first c.args.last in
    subst (λ f. Fails f (planned (schedule (is_business_day span.cal) plan))) (sym c.plan_fault.ensures)
    (fails (is_business_day span.cal) plan c.args.span.now.cal c.in-Err.fault c.in-Err.ensures.fault)

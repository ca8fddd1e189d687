use Rattle.std.proofs.Common.{inr, sym, ◌∙◌}
use Rattle.day_number.specs.Day.{IsDayNumber}
use Rattle.holiday_calendars.specs.Calendar.{is_business_day}
use Rattle.schedule_rules.proofs.DatedLemmas.{schedule-fault, dated-ok, dated-err}
use Rattle.schedule_rules.proofs.EndsLaw.{first-ok, last-ok, days-ok}
use Rattle.schedule_rules.proofs.making.make.Goals.{After-dated}
use Rattle.schedule_rules.proofs.making.make.Goals as goal

pub returns-in-Some-clause-fault : goal.returns-in-Some-clause-fault
returns-in-Some-clause-fault c =
    inr (schedule-fault (is_business_day c.args.plan.now.cal.now) c.args.plan.now c.in-Some.fault (sym c.fault_of_terms.ensures ∙ c.in-Some.is))

pub returns-in-None-clause-dates : goal.returns-in-None-clause-dates
returns-in-None-clause-dates c =
    dated-ok (is_business_day c.args.plan.now.cal.now) c.args.plan.now c.dated.result (sym c.fault_of_terms.ensures ∙ c.in-None.is) c.dated.ensures

pub returns-in-None-clause-fault : goal.returns-in-None-clause-fault
returns-in-None-clause-fault c =
    dated-err (is_business_day c.args.plan.now.cal.now) c.args.plan.now c.dated.result (sym c.fault_of_terms.ensures ∙ c.in-None.is) c.dated.ensures

first : (c : After-dated) → IsDayNumber c.args.plan.now.start
first c = rw c.number.ensures.value at c.number.ensures.range

last : (c : After-dated) → IsDayNumber c.args.plan.now.end
last c = rw c.number-2.ensures.value at c.number-2.ensures.range

pub returns-in-None-clause-first : goal.returns-in-None-clause-first
returns-in-None-clause-first c =
    first-ok (is_business_day c.args.plan.now.cal.now) c.args.plan.now c.dated.result (first c) (last c) (returns-in-None-clause-dates c)

pub returns-in-None-clause-last : goal.returns-in-None-clause-last
returns-in-None-clause-last c =
    last-ok (is_business_day c.args.plan.now.cal.now) c.args.plan.now c.dated.result (first c) (last c) (returns-in-None-clause-dates c)

pub returns-in-None-clause-days : goal.returns-in-None-clause-days
returns-in-None-clause-days c =
    days-ok (is_business_day c.args.plan.now.cal.now) c.args.plan.now c.dated.result (first c) (last c) (returns-in-None-clause-dates c)

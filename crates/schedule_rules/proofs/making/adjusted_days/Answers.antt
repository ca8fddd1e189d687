use Rattle.std.proofs.Common.{sym, ap, ◌∙◌}
use Rattle.std.specs.Map.Iter.{deref}
use Rattle.std.proofs.lemmas.Map.Iter.{rest_more, rest_all}
use Rattle.holiday_calendars.specs.Calendar.{is_business_day}
use Rattle.schedule_rules.specs.Schedule.{adjusted_raw, each_of}
use Rattle.schedule_rules.proofs.DatedLemmas.{put_each, put_each-more, put_each-stop, put_each-end}
use Rattle.schedule_rules.proofs.making.adjusted_days.Goals as goal

pub loop-day-preserved : goal.loop-day-preserved
loop-day-preserved c =
    let makes = adjusted_raw (is_business_day c.args.plan.now.cal.now) c.args.plan.now in
    let turn = rest_more deref c.loop-day.day-iterator c.next.new.self c.next.result c.in-Some.day c.in-Some.is c.next.ensures.steps in
    let rest = each_of makes c.next.new.self in
    record {
      rest = ap (λ days. put_each days rest) c.in_ok-insert.ensures.keys
          ∙ sym (put_each-more makes c.loop-day.days.keys c.next.new.self c.in-Some.day.now c.in-Some-adjusted_raw.found (sym c.adjusted_raw.ensures ∙ c.in-Some-adjusted_raw.is))
          ∙ ap (λ days. put_each c.loop-day.days.keys (each_of makes days)) (sym turn)
          ∙ c.loop-day.invariant.rest;
    }

pub returns-in_default : goal.returns-in_default
returns-in_default c =
    let makes = adjusted_raw (is_business_day c.args.plan.now.cal.now) c.args.plan.now in
    let turn = rest_more deref c.loop-day.day-iterator c.next.new.self c.next.result c.in-Some.day c.in-Some.is c.next.ensures.steps in
    sym c.loop-day.invariant.rest
    ∙ ap (λ days. put_each c.loop-day.days.keys (each_of makes days)) turn
    ∙ put_each-stop makes c.loop-day.days.keys c.next.new.self c.in-Some.day.now (sym c.adjusted_raw.ensures ∙ c.in_default.is)

pub returns : goal.returns
returns c =
    let makes = adjusted_raw (is_business_day c.args.plan.now.cal.now) c.args.plan.now in
    let end = rest_all deref c.loop-day.day-iterator c.next.new.self c.next.result c.in-None.is c.next.ensures.steps in
    sym c.loop-day.invariant.rest
    ∙ ap (λ days. put_each c.loop-day.days.keys (each_of makes days)) end
    ∙ put_each-end makes c.loop-day.days.keys

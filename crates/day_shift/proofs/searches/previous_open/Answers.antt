use Rattle.std.proofs.Common.{◌≡◌, Some, None, ◌-ℤ◌, pos, sym, ◌∙◌, ap}
use Rattle.holiday_calendars.specs.Calendar.{is_business_day}
use Rattle.day_shift.specs.Business.{day_at, previous}
use Rattle.day_shift.proofs.SearchLemmas.{previous-here, previous-behind, previous-before_first, day_at-found}
use Rattle.day_shift.proofs.searches.previous_open.Goals as goal

pub returns-in_err-there : goal.returns-in_err-there
returns-in_err-there c =
    let business = is_business_day c.args.calendar.now in
    let end = c.closed_since.result in
    let within = c.shifted.ensures.range in
    let holiday = sym c.is_open.ensures.value ∙ c.loop-there-test.true in
    let none : day_at (end -ℤ pos 1) ≡ None = sym c.shifted.ensures.value ∙ c.in_err-there.was in
    let on = previous-behind business c.loop-there.there end c.is_open.ensures.range within holiday c.closed_since.ensures.order c.closed_since.ensures.holidays in
    c.from_residual.ensures ∙ sym (previous-before_first business end within none) ∙ sym on ∙ c.loop-there.invariant

pub loop-there-preserved : goal.loop-there-preserved
loop-there-preserved c =
    let business = is_business_day c.args.calendar.now in
    let end = c.closed_since.result in
    let within = c.shifted.ensures.range in
    let holiday = sym c.is_open.ensures.value ∙ c.loop-there-test.true in
    let some : day_at (end -ℤ pos 1) ≡ Some c.in_ok-there.there = sym c.shifted.ensures.value ∙ c.in_ok-there.was in
    let is = (day_at-found (end -ℤ pos 1) c.in_ok-there.there some).1 in
    let on = previous-behind business c.loop-there.there end c.is_open.ensures.range within holiday c.closed_since.ensures.order c.closed_since.ensures.holidays in
    ap (previous business) is ∙ sym on ∙ c.loop-there.invariant

pub returns : goal.returns
returns c =
    let business = is_business_day c.args.calendar.now in
    let open_day = sym c.is_open.ensures.value ∙ c.loop-there-test.false in
    sym (previous-here business c.loop-there.there c.is_open.ensures.range open_day) ∙ c.loop-there.invariant

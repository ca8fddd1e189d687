use Rattle.std.proofs.Common.{◌≡◌, suc, ◌-◌, arith, sym, ◌∙◌, Some, None, ◌+ℤ◌, pos}
use Rattle.holiday_calendars.specs.Calendar.{is_business_day}
use Rattle.day_shift.specs.Business.{next}
use Rattle.day_shift.proofs.AdvanceLemmas.{days_after-none_left, days_after-step, days_after-stop}
use Rattle.day_shift.proofs.advancing.days_after.Goals as goal

pub returns-in_err-there : goal.returns-in_err-there
returns-in_err-there c =
    let business = is_business_day c.args.calendar.now in
    let one : c.loop-left.left ≡ suc (c.loop-left.left - 1) = omega arith in
    let none : next business (c.loop-left.there +ℤ pos 1) ≡ None = sym c.open_after.ensures ∙ c.in_err-there.was in
    c.from_residual.ensures ∙ sym (days_after-stop business c.loop-left.there c.loop-left.left (c.loop-left.left - 1) one none) ∙ c.loop-left.invariant

pub loop-left-preserved : goal.loop-left-preserved
loop-left-preserved c =
    let business = is_business_day c.args.calendar.now in
    let one : c.loop-left.left ≡ suc (c.loop-left.left - 1) = omega arith in
    let some : next business (c.loop-left.there +ℤ pos 1) ≡ Some c.in_ok-there.there = sym c.open_after.ensures ∙ c.in_ok-there.was in
    sym (days_after-step business c.loop-left.there c.in_ok-there.there c.loop-left.left (c.loop-left.left - 1) one some) ∙ c.loop-left.invariant

pub returns : goal.returns
returns c =
    let business = is_business_day c.args.calendar.now in
    sym (days_after-none_left business c.loop-left.there c.loop-left.left (omega arith)) ∙ c.loop-left.invariant

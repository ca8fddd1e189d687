use Rattle.std.proofs.Common.{◌≡◌, None, ◌-ℤ◌, pos, sym, ◌∙◌}
use Rattle.holiday_calendars.specs.Calendar.{is_business_day}
use Rattle.day_shift.specs.Business.{day_at}
use Rattle.day_shift.proofs.SearchLemmas.{previous-before_first}
use Rattle.day_shift.proofs.searches.open_before.Goals as goal

pub returns-in_err-shifted : goal.returns-in_err-shifted
returns-in_err-shifted c =
    let business = is_business_day c.args.calendar.now in
    let none : day_at (c.args.day -ℤ pos 1) ≡ None = sym c.shifted.ensures.value ∙ c.in_err-shifted.was in
    c.from_residual.ensures ∙ sym (previous-before_first business c.args.day c.shifted.ensures.range none)

use Rattle.std.proofs.Common.{ap, ◌∙◌, arith, pos, w32, FitsSigned, to_z-of_z}
use Rattle.jiff_core.proofs.SignedLemmas.{signed_arith}
use Rattle.holiday_calendars.specs.Calendar.{is_business_day}
use Rattle.day_shift.proofs.ListedLemmas.{count_is_of_the_days}
use Rattle.day_shift.proofs.counting.business_days_between.Goals as goal

pub returns : goal.returns
returns c =
    let fits : FitsSigned w32 c.business_days.result = omega (arith, signed_arith, c.business_days.ensures.value, c.business_days.ensures.high) in
    let value = to_z-of_z fits ∙ c.business_days.ensures.value in
    let listed = count_is_of_the_days (is_business_day c.args.calendar.now) c.args.from c.args.to c.requires in
    record { days = (listed.0, listed.1, value ∙ ap pos listed.2); value = value }

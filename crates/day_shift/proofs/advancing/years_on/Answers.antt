use Rattle.std.proofs.Common.{◌≡◌, None, ap, sym, ◌&&◌, ◌*ℤ◌, pos, arith}
use Rattle.jiff_core.proofs.SignedLemmas.{signed_arith}
use Rattle.holiday_calendars.specs.Calendar.{is_business_day}
use Rattle.day_number.specs.Day.{IsDayNumber}
use Rattle.day_shift.specs.Month.{month_at}
use Rattle.day_shift.specs.MonthEnd.{is_from, last_open}
use Rattle.day_shift.specs.Advanced.{and_then, month_day}
use Rattle.day_shift.proofs.MonthLemmas.{month_at-early, month_at-late}
use Rattle.day_shift.proofs.advancing.years_on.Goals as goal
use Rattle.day_shift.proofs.advancing.years_on.Goals.{then-n-ltminus1000-via-then-n-ltminus1000, then-n-ltminus1000-via-else-n-ltminus1000+then-n-gt1000}

pub returns-then-n-ltminus1000 : goal.returns-then-n-ltminus1000
returns-then-n-ltminus1000 c =
    let business = is_business_day c.args.calendar.now in
    let range : IsDayNumber c.args.day = rw c.number-number.ensures.value at c.number-number.ensures.range in
    let none : month_at c.args.day (c.args.n *ℤ pos 12) ≡ None =
    elim c.then-n-ltminus1000.branch [
      | then-n-ltminus1000-via-then-n-ltminus1000 w ↦ month_at-early c.args.day c.args.n range (omega (arith, signed_arith))
      | then-n-ltminus1000-via-else-n-ltminus1000+then-n-gt1000 w ↦ month_at-late c.args.day c.args.n range (omega (arith, signed_arith))
    ] in
    sym (ap (λ o. and_then o (month_day business c.args.convention (c.args.month_end && is_from c.args.day (last_open business c.args.day)))) none)

use Rattle.std.proofs.Common.{◌≡◌, pos, ◌-ℤ◌, unsigned_abs}
use Rattle.holiday_calendars.specs.Calendar.{is_business_day}
use Rattle.day_shift.specs.Business.{next}
use Rattle.day_shift.proofs.searches.next_open.Given as goal

abbrev pub invariant-loop-there : goal.invariant-loop-there
invariant-loop-there l =
    next (is_business_day l.calendar) l.there ≡ next (is_business_day l.calendar) l.fn.day

abbrev pub decreases-loop-there : goal.decreases-loop-there
decreases-loop-there l = unsigned_abs (pos 84_006 -ℤ l.there)

use Rattle.std.proofs.Common.{◌≡◌}
use Rattle.holiday_calendars.specs.Calendar.{is_business_day}
use Rattle.day_shift.specs.Advanced.{days_before}
use Rattle.day_shift.proofs.advancing.days_before.Given as goal

abbrev pub invariant-loop-left : goal.invariant-loop-left
invariant-loop-left l =
    days_before l.left (is_business_day l.calendar) l.there ≡ days_before l.fn.n (is_business_day l.calendar) l.fn.day

abbrev pub decreases-loop-left : goal.decreases-loop-left
decreases-loop-left l = l.left

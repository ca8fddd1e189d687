use Rattle.std.proofs.Common.{◌≡◌, pos, ◌≤ℤ◌, unsigned_abs}
use Rattle.holiday_calendars.specs.Calendar.{is_business_day}
use Rattle.holiday_calendars.specs.Counted.{business_days}
use Rattle.holiday_calendars.proofs.counting.business_days.Given as goal

abbrev pub invariant-loop-step : goal.invariant-loop-step
invariant-loop-step l = record {
  counted : l.count ≡ pos (business_days (unsigned_abs l.step) (is_business_day l.calendar) l.from);
  low : pos 0 ≤ℤ l.step;
  within : l.step ≤ℤ l.days;
  small : l.count ≤ℤ l.step;
}

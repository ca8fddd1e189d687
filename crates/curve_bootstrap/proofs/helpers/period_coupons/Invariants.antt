use Rattle.std.proofs.Common.{◌≡◌, take}
use Rattle.holiday_calendars.specs.Calendar.{is_business_day}
use Rattle.curve_bootstrap.specs.Built.{periods}
use Rattle.curve_bootstrap.proofs.helpers.period_coupons.Given as goal

abbrev pub invariant-loop-at : goal.invariant-loop-at
invariant-loop-at l = l.coupons.items ≡ periods l.counter (is_business_day l.calendar) (take l.at l.dates)

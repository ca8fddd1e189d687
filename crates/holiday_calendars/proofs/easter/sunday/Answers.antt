use Rattle.std.proofs.Common.{refl}
use Rattle.holiday_calendars.specs.Easter.{sunday_days}
use Rattle.holiday_calendars.proofs.easter.sunday.Goals as goal

pub returns-clause-value : goal.returns-clause-value
unfolding sunday_days
returns-clause-value c = rw c.moon.ensures.value refl

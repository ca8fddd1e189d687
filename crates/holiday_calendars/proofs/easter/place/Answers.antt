use Rattle.std.proofs.Common.{refl}
use Rattle.holiday_calendars.specs.Easter.{early_weeks, easter_place}
use Rattle.holiday_calendars.proofs.easter.place.Goals as goal

pub returns-clause-value : goal.returns-clause-value
unfolding easter_place early_weeks
returns-clause-value c = rw (c.moon-moon.ensures.value, c.sunday-sunday.ensures.value) refl

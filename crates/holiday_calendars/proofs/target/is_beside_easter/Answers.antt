use Rattle.std.proofs.Common.{ap, ◌∙◌, to_z-of_z}
use Rattle.holiday_calendars.specs.Easter.{easter_day}
use Rattle.holiday_calendars.proofs.CastLemmas.{beside}
use Rattle.holiday_calendars.proofs.target.is_beside_easter.Goals as goal

pub returns-else-number-easter : goal.returns-else-number-easter
returns-else-number-easter c =
    let sunday = c.number-easter.ensures.value ∙ c.in-Some.ensures.value ∙ ap easter_day (to_z-of_z c.ranges.year) in
    let day = c.number.ensures.value in
    beside c.args.day (easter_day c.args.year) _ _ _ day c.number-else-number-easter.ensures.value sunday (rw day at c.number.ensures.range) (rw sunday at c.number-easter.ensures.range) c.if-number-easter.false

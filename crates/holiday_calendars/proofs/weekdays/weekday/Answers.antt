use Rattle.std.proofs.Common.{ap, ◌∙◌, w32, to_z, of_z, ◌+ℤ◌, pos}
use Rattle.std.specs.Int.{int_rem_euclid}
use Rattle.holiday_calendars.proofs.CastLemmas.{weekday_cast}
use Rattle.holiday_calendars.proofs.weekdays.weekday.Goals as goal

pub returns-clause-value : goal.returns-clause-value
returns-clause-value c =
    let day = c.number.ensures.value in
    weekday_cast c.args.day c.rem_euclid.result (rw day at c.number.ensures.range)
    (c.rem_euclid.ensures.value ∙ ap (λ z. int_rem_euclid (to_z w32 (of_z w32 (to_z w32 (of_z w32 z) +ℤ pos 3))) (pos 7)) day)

use Rattle.std.proofs.Common.{ap, ◌∙◌}
use Rattle.holiday_calendars.specs.Calendar.{is_business_day}
use Rattle.day_number.specs.Day.{IsDayNumber}
use Rattle.day_shift.specs.Adjusted.{IsAdjusted, adjusted, day_or_fault}
use Rattle.day_shift.proofs.FoundLemmas.{answers}
use Rattle.day_shift.proofs.AdjustedLemmas.{adjusted_is_the_day}
use Rattle.day_shift.proofs.adjusting.adjust.Goals as goal

pub returns-clause-found : goal.returns-clause-found
returns-clause-found c =
    let business = is_business_day c.args.calendar.now in
    let range : IsDayNumber c.args.day = rw c.number-number.ensures.value at c.number-number.ensures.range in
    let value = c.ok_or.ensures.value ∙ ap day_or_fault c.adjusted_day.ensures in
    (answers c.ok_or.result (adjusted business c.args.convention c.args.day) (IsAdjusted business c.args.convention c.args.day) value
    (λ x. adjusted_is_the_day business c.args.convention c.args.day x range)).found

pub returns-clause-fault : goal.returns-clause-fault
returns-clause-fault c =
    let business = is_business_day c.args.calendar.now in
    let range : IsDayNumber c.args.day = rw c.number-number.ensures.value at c.number-number.ensures.range in
    let value = c.ok_or.ensures.value ∙ ap day_or_fault c.adjusted_day.ensures in
    (answers c.ok_or.result (adjusted business c.args.convention c.args.day) (IsAdjusted business c.args.convention c.args.day) value
    (λ x. adjusted_is_the_day business c.args.convention c.args.day x range)).fault

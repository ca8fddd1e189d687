use Rattle.std.proofs.Common.{ap, ◌∙◌, w32, FitsSigned, to_z-of_z}
use Rattle.holiday_calendars.specs.Calendar.{is_business_day}
use Rattle.day_number.specs.Day.{IsDayNumber}
use Rattle.day_shift.specs.Adjusted.{day_or_fault}
use Rattle.day_shift.specs.Advanced.{IsAdvanced, advanced}
use Rattle.day_shift.proofs.FoundLemmas.{answers}
use Rattle.day_shift.proofs.AdvancedLemmas.{advanced_is_the_day}
use Rattle.day_shift.proofs.advancing.advance.Goals as goal

pub returns-clause-found : goal.returns-clause-found
returns-clause-found c =
    let business = is_business_day c.args.calendar.now in
    let range : IsDayNumber c.args.day = rw c.number-number.ensures.value at c.number-number.ensures.range in
    let fits : FitsSigned w32 c.args.n = c.ranges.n in
    let value = c.ok_or.ensures.value ∙ ap day_or_fault (c.advanced_day.ensures ∙ ap (advanced business c.args.unit c.args.convention c.args.month_end c.args.day) (to_z-of_z fits)) in
    (answers c.ok_or.result (advanced business c.args.unit c.args.convention c.args.month_end c.args.day c.args.n) (IsAdvanced business c.args.unit c.args.convention c.args.month_end c.args.day c.args.n) value
    (λ x. advanced_is_the_day business c.args.unit c.args.convention c.args.month_end c.args.day c.args.n x range)).found

pub returns-clause-fault : goal.returns-clause-fault
returns-clause-fault c =
    let business = is_business_day c.args.calendar.now in
    let range : IsDayNumber c.args.day = rw c.number-number.ensures.value at c.number-number.ensures.range in
    let fits : FitsSigned w32 c.args.n = c.ranges.n in
    let value = c.ok_or.ensures.value ∙ ap day_or_fault (c.advanced_day.ensures ∙ ap (advanced business c.args.unit c.args.convention c.args.month_end c.args.day) (to_z-of_z fits)) in
    (answers c.ok_or.result (advanced business c.args.unit c.args.convention c.args.month_end c.args.day c.args.n) (IsAdvanced business c.args.unit c.args.convention c.args.month_end c.args.day c.args.n) value
    (λ x. advanced_is_the_day business c.args.unit c.args.convention c.args.month_end c.args.day c.args.n x range)).fault

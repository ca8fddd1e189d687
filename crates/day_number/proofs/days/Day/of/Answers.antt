use Rattle.std.proofs.Common.{◌≡◌, arith, ◌∙◌, ap, pos, w32, to_z, of_z, FitsSigned, to_z-of_z}
use Rattle.jiff_core.proofs.SignedLemmas.{signed_arith}
use Rattle.jiff_core.specs.Calendar.{IsBetween}
use Rattle.jiff_core.specs.Date.{epoch_day}
use Rattle.day_number.specs.Day.{IsCivil, civil_number}
use Rattle.day_number.proofs.DayLemmas.{cast_date, civil_number-range}
use Rattle.day_number.proofs.days.Day.of.Goals as goal

-- jiff's date is the one that was asked for
asked : (c : goal.After-to_unix_epoch_day) → IsCivil c.args.year c.args.month c.args.day × (to_z w32 (of_z w32 c.to_unix_epoch_day.result) ≡ civil_number c.args.year c.args.month c.args.day)
asked c =
    let fits : FitsSigned w32 c.to_unix_epoch_day.result = omega (arith, signed_arith, c.to_unix_epoch_day.ensures.bound) in
    let back = to_z-of_z c.ranges.year in
    let years : IsBetween (pos 1901) (pos 2199) c.args.year = (omega (arith, signed_arith, c.if-year-lt1901.false), omega (arith, signed_arith, c.if-year-gt2199.false)) in
    let it = cast_date c.in-Ok.date c.args.year c.args.month c.args.day years c.if-month-gt12.false c.if-day-gt31.false c.in-Ok.ensures.value in
    (it.0, to_z-of_z fits ∙ c.to_unix_epoch_day.ensures.value ∙ ap epoch_day c.to_plain.ensures ∙ it.1)

pub invariant_of-result : goal.invariant_of-result
invariant_of-result c =
    let it = asked c in
    rw it.1 (civil_number-range c.args.year c.args.month c.args.day it.0)

pub returns-in-Ok-clause-value : goal.returns-in-Ok-clause-value
returns-in-Ok-clause-value c = (asked c).1

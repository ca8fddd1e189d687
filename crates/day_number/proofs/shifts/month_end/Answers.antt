use Rattle.std.proofs.Common.{◌≡◌, ◌+ℤ◌, arith, ap, ◌∙◌, to_z, of_z, w16, w32, FitsSigned, to_z-of_z}
use Rattle.jiff_core.specs.Calendar.{days_in_month}
use Rattle.jiff_core.proofs.SignedLemmas.{signed_arith}
use Rattle.jiff_core.proofs.CalendarLemmas.{days_in_month_bounds}
use Rattle.jiff_core.proofs.DateLemmas.{days_from_civil-day}
use Rattle.day_number.specs.Day.{civil_number}
use Rattle.day_number.specs.Shift.{last_of_month}
use Rattle.day_number.proofs.DayLemmas.{civil_number-range}
use Rattle.day_number.proofs.shifts.month_end.Goals as goal

-- the last day of the month, by its date
end_is : (c : goal.After-from) → to_z w32 (of_z w32 (to_z w32 (of_z w32 c.number.result) +ℤ to_z w32 (of_z w32 c.from.result))) ≡ civil_number c.parts-year.result.0 c.parts-year.result.1 (days_in_month c.parts-year.result.0 c.parts-year.result.1)
unfolding civil_number
end_is c =
    let year = c.parts-year.result.0 in
    let month = c.parts-year.result.1 in
    let date = c.parts-year.result.2 in
    let civil = c.parts-year.ensures.civil in
    let wide : FitsSigned w32 year = omega (arith, signed_arith) in
    let narrow : FitsSigned w16 year = omega (arith, signed_arith) in
    let cast : to_z w16 (of_z w16 (to_z w32 (of_z w32 year))) ≡ year = ap (λ z. to_z w16 (of_z w16 z)) (to_z-of_z wide) ∙ to_z-of_z narrow in
    let long = days_in_month_bounds year month in
    let last : c.days_in_month-last.result ≡ days_in_month year month = c.days_in_month-last.ensures.value ∙ ap (λ y. days_in_month y month) cast in
    let moved = days_from_civil-day year month date (days_in_month year month) civil.2.0 (omega arith) in
    omega (arith, signed_arith, moved, last, c.parts-year.ensures.number, c.number.ensures.value, c.number.ensures.range, c.from.ensures)

pub invariant_of-result : goal.invariant_of-result
invariant_of-result c =
    let year = c.parts-year.result.0 in
    let month = c.parts-year.result.1 in
    let civil = c.parts-year.ensures.civil in
    let long = days_in_month_bounds year month in
    let is = end_is c in
    rw is (civil_number-range year month (days_in_month year month) (civil.0, civil.1, (omega arith, omega arith)))

pub returns : goal.returns
unfolding last_of_month
returns c =
    let date = c.parts-year.ensures.date in
    rw (← date.0, ← date.1) (end_is c)

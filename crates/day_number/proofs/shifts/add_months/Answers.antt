use Rattle.std.proofs.Common.{◌≡◌, ◌+◌, pos, ◌+ℤ◌, arith, ap, ◌∙◌, to_z, of_z, w32, w64, FitsSigned, to_z-of_z, unsigned_abs}
use Rattle.std.specs.Int.{int_div_euclid, int_rem_euclid}
use Rattle.jiff_core.proofs.SignedLemmas.{signed_arith, int_rem_euclid-parts, int_div_euclid-parts}
use Rattle.day_number.specs.Day.{date_of}
use Rattle.day_number.specs.Shift.{month_number, date_months_later, months_later}
use Rattle.day_number.proofs.shifts.add_months.Goals as goal

-- the month asked for, counted from January of the year 0
months_are : (c : goal.After-clipped) → c.months_after-months.result ≡ month_number (date_of c.args.day) +ℤ c.args.n
months_are c =
    let years = c.parts-year.ensures.civil.0 in
    let date = c.parts-year.ensures.date in
    let wide : FitsSigned w32 c.parts-year.result.0 = omega (arith, signed_arith) in
    let own : FitsSigned w32 c.args.n = c.ranges.n in
    let value = rw (to_z-of_z wide, to_z-of_z own) at c.months_after-months.ensures.value in
    rw (← date.0, ← date.1) value

months_cast : (c : goal.After-clipped) → to_z w64 (of_z w64 c.months_after-months.result) ≡ c.months_after-months.result
months_cast c =
    let fits : FitsSigned w64 c.months_after-months.result = omega (arith, signed_arith, c.months_after-months.ensures.range) in
    to_z-of_z fits

year_is : (c : goal.After-clipped) → to_z w64 (of_z w64 c.div_euclid.result) ≡ (date_months_later (date_of c.args.day) c.args.n).year
year_is c =
    let months = months_cast c in
    let value = rw months at c.div_euclid.ensures in
    let bounds = int_div_euclid-parts c.months_after-months.result 12 (omega arith) in
    let fits : FitsSigned w64 c.div_euclid.result = omega (arith, signed_arith, value, c.months_after-months.ensures.range) in
    to_z-of_z fits ∙ value ∙ ap (λ m. int_div_euclid m (pos 12)) (months_are c)

month_is : (c : goal.After-clipped) → unsigned_abs (to_z w64 (of_z w64 c.rem_euclid.result)) + 1 ≡ (date_months_later (date_of c.args.day) c.args.n).month
month_is c =
    let months = months_cast c in
    let value = rw months at c.rem_euclid.ensures.value in
    let bounds = int_rem_euclid-parts c.months_after-months.result 12 (omega arith) in
    let fits : FitsSigned w64 c.rem_euclid.result = omega (arith, signed_arith, value) in
    ap (λ z. unsigned_abs z + 1) (to_z-of_z fits ∙ value ∙ ap (λ m. int_rem_euclid m (pos 12)) (months_are c))

pub returns-clause-found : goal.returns-clause-found
returns-clause-found c = rw (← year_is c) c.clipped.ensures.found

pub returns-clause-value : goal.returns-clause-value
unfolding months_later
returns-clause-value c =
    let date = c.parts-year.ensures.date in
    rw (← year_is c, ← month_is c, ← date.2) c.clipped.ensures.value

use Rattle.std.proofs.Common.{pos, ◌+ℤ◌, arith, to_z, of_z, w32}
use Rattle.jiff_core.proofs.SignedLemmas.{signed_arith, unsigned_abs-parts, int_rem_euclid-parts}
use Rattle.jiff_core.proofs.CalendarLemmas.{weekday_number-parts}
use Rattle.day_number.proofs.shifts.weekday.Goals as goal

pub returns : goal.returns
returns c =
    let parts = weekday_number-parts c.args.day in
    let rem = int_rem_euclid-parts (to_z w32 (of_z w32 (to_z w32 (of_z w32 c.number.result) +ℤ pos 3))) 7 (omega arith) in
    let size = unsigned_abs-parts (to_z w32 (of_z w32 c.rem_euclid.result)) in
    omega (arith, signed_arith, c.rem_euclid.ensures.value)

use Rattle.std.proofs.Common.{arith, ap, ◌∙◌, pos, ◌≡◌, ◌+ℤ◌, ◌-ℤ◌, ◌*ℤ◌}
use Rattle.jiff_core.proofs.SignedLemmas.{signed_arith}
use Rattle.day_counters.proofs.ThirtyLemmas.{bond_day_bounds}
use Rattle.jiff_core.proofs.CalendarLemmas.{days_in_month_bounds}
use Rattle.day_counters.proofs.CastLemmas.{cast_gap, cast_count}
use Rattle.day_counters.specs.CivilDate.{at_least_zero, bond_basis_days}
use Rattle.day_number.specs.Day.{date_of}
use Rattle.day_counters.proofs.thirty.bond_basis_days.Goals as goal

pub whole_days-requires-clause-days : goal.whole_days-requires-clause-days
whole_days-requires-clause-days c =
    let first = days_in_month_bounds c.parts-year.result.0 c.parts-year.result.1 in
    let last = days_in_month_bounds c.parts-last_year.result.0 c.parts-last_year.result.1 in
    let day = bond_day_bounds c.min-day.result c.parts-last_year.result.2 in
    let days = cast_gap c.from-3.result c.from-4.result (omega (arith, signed_arith), omega (arith, signed_arith)) (omega (arith, signed_arith), omega (arith, signed_arith)) in
    rw days (omega (arith, signed_arith), omega (arith, signed_arith))

pub returns-clause-value : goal.returns-clause-value
returns-clause-value c =
    let first = days_in_month_bounds c.parts-year.result.0 c.parts-year.result.1 in
    let last = days_in_month_bounds c.parts-last_year.result.0 c.parts-last_year.result.1 in
    let years = cast_gap c.parts-last_year.result.0 c.parts-year.result.0 (omega (arith, signed_arith), omega (arith, signed_arith)) (omega (arith, signed_arith), omega (arith, signed_arith)) in
    let months = cast_gap c.from.result c.from-2.result (omega (arith, signed_arith), omega (arith, signed_arith)) (omega (arith, signed_arith), omega (arith, signed_arith)) in
    let day = bond_day_bounds c.min-day.result c.parts-last_year.result.2 in
    let days = cast_gap c.from-3.result c.from-4.result (omega (arith, signed_arith), omega (arith, signed_arith)) (omega (arith, signed_arith), omega (arith, signed_arith)) in
    let value = rw (years, months, days) at c.whole_days.ensures.value in
    let own = c.parts-year.ensures.date in
    let far = c.parts-last_year.ensures.date in
    let taken = rw c.min-day.ensures at c.bond_day.ensures in
    let same : (c.parts-last_year.result.0 -ℤ c.parts-year.result.0) *ℤ pos 360 +ℤ (c.from.result -ℤ c.from-2.result) *ℤ pos 30 +ℤ (c.from-3.result -ℤ c.from-4.result) ≡ bond_basis_days (date_of c.args.from) (date_of c.args.to) =
    rw (← own.0, ← own.1, ← own.2, ← far.0, ← far.1, ← far.2) (omega (arith, signed_arith, taken)) in
    cast_count c.whole_days.result _ (value ∙ ap (λ z. pos (at_least_zero z)) same) c.whole_days.ensures.high

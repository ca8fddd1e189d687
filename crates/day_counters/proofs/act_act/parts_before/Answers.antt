use Rattle.std.proofs.Common.{arith, ap, sym, ◌∙◌, pos, ◌≡◌, ◌+ℤ◌, ◌≤ℤ◌, ◌<ℤ◌, to_z, of_z, w32}
use Rattle.jiff_core.proofs.SignedLemmas.{signed_arith}
use Rattle.year_parts.specs.Basis.{parts_in_day}
use Rattle.day_number.specs.Day.{civil_number, IsDayNumber}
use Rattle.day_counters.specs.Day.{basis_of_year}
use Rattle.day_counters.proofs.CastLemmas.{cast_small, IsScaled, scaled}
use Rattle.day_counters.proofs.YearLemmas.{new_year_bounds, counted, weight, weight_bound}
use Rattle.day_counters.proofs.act_act.parts_before.Goals as goal

pub overflow_sub-days : goal.overflow_sub-days
overflow_sub-days c =
    let year = c.parts-year.result.0 in
    let years = c.parts-year.ensures.civil.0 in
    let bounds = new_year_bounds year years in
    let cast = cast_small year (omega (arith, signed_arith), omega (arith, signed_arith)) in
    let first = rw cast at c.new_year.ensures in
    let one = cast_small c.number.result (omega (arith, signed_arith), omega (arith, signed_arith)) in
    let other = cast_small c.new_year.result (omega (arith, signed_arith), omega (arith, signed_arith)) in
    rw (one, other) (omega (arith, signed_arith))

-- what the code makes of the day's year
day_range : (c : goal.After-parts_in_day) → IsDayNumber c.args.day
day_range c = (omega (arith, signed_arith, c.number.ensures.value, c.number.ensures.range), omega (arith, signed_arith, c.number.ensures.value, c.number.ensures.range))

year_cast : (c : goal.After-parts_in_day) → to_z w32 (of_z w32 c.parts-year.result.0) ≡ c.parts-year.result.0
year_cast c =
    let years = c.parts-year.ensures.civil.0 in
    cast_small c.parts-year.result.0 (omega (arith, signed_arith), omega (arith, signed_arith))

first_is : (c : goal.After-parts_in_day) → c.new_year.result ≡ civil_number c.parts-year.result.0 1 1
first_is c = let cast = year_cast c in rw cast at c.new_year.ensures

weight_is : (c : goal.After-parts_in_day) → c.parts_in_day.result ≡ pos (weight c.parts-year.result.0)
weight_is c =
    let basis = c.basis_of.ensures ∙ ap basis_of_year (year_cast c) in
    c.parts_in_day.ensures ∙ ap (λ b. pos (parts_in_day b)) basis

scaled_here : (c : goal.After-parts_in_day) → IsScaled c.parts-year.result.0 c.number.result c.new_year.result c.from.result c.from-2.result c.parts_in_day.result
scaled_here c =
    let year = c.parts-year.result.0 in
    let years = c.parts-year.ensures.civil.0 in
    let range = c.number.ensures.range in
    let bounds = new_year_bounds year years in
    let first = first_is c in
    let heavy = weight_is c in
    let bound = weight_bound year in
    let at = counted c.args.day (day_range c) in
    let same = c.parts-year.ensures.date.0 in
    let begins : civil_number year 1 1 ≤ℤ c.args.day = rw same at.begins in
    let within : c.args.day <ℤ (civil_number year 1 1 +ℤ pos 366) = rw same at.within in
    let number = c.number.ensures.value in
    scaled year c.number.result c.new_year.result c.from.result c.from-2.result c.parts_in_day.result years (omega (arith, signed_arith), omega (arith, signed_arith)) (omega (arith, signed_arith), omega (arith, signed_arith)) (omega (arith, signed_arith), omega (arith, signed_arith)) (omega (arith, signed_arith), omega (arith, signed_arith)) c.from.ensures c.from-2.ensures

pub overflow_mul-result-2 : goal.overflow_mul-result-2
overflow_mul-result-2 c = (scaled_here c).product

pub overflow_add-result : goal.overflow_add-result
overflow_add-result c = (scaled_here c).sum

pub returns : goal.returns
returns c =
    let first = first_is c in
    let heavy = weight_is c in
    let at = counted c.args.day (day_range c) in
    let same = c.parts-year.ensures.date.0 in
    let number = c.number.ensures.value in
    record {
      value = (scaled_here c).value ∙ rw (first, heavy, number, same) (sym at.parts);
      range = day_range c;
    }

-- The part of the year of an index's period is small.
use Rattle.std.proofs.Common.{◌≡◌, ℕ, ◌≤◌, arith, refl, subst, Bool, true, false, if◌then◌else◌, min, ℤ, pos, negsuc, ◌-ℤ◌, ◌≤ℤ◌, unsigned_abs, int_lt, Option, Some, None, Ok, option_and_then}
use Rattle.std.proofs.lemmas.Int.{ints}
use Rattle.jiff_core.proofs.SignedLemmas.{signed_arith, unsigned_abs-parts, one_part}
use Rattle.jiff_core.proofs.CalendarLemmas.{days_in_month_bounds}
use Rattle.day_number.specs.Day.{IsDayNumber, CivilDate, IsCivil, date_of}
use Rattle.day_number.proofs.DayLemmas.{date_of-is}
use Rattle.year_parts.specs.declared.counters.Counter.{Counter}
use Rattle.year_parts.specs.declared.counters.Counter.TheVariants.{Act360, Act365, ActAct, Thirty360, ThirtyE360, Bus252}
use Rattle.year_parts.specs.Basis.{most_of_a_period}
use Rattle.holiday_calendars.specs.Calendar.{is_business_day}
use Rattle.holiday_calendars.proofs.CountLemmas.{business_days-bound}
use Rattle.day_counters.specs.CivilDate.{at_least_zero, bond_basis_days, european_days}
use Rattle.day_counters.specs.Counter.{frac}
use Rattle.day_counters.proofs.ThirtyLemmas.{bond_day_bounds}
use Rattle.day_counters.proofs.YearLemmas.{act_act_bound}
use Rattle.flow_terms.specs.declared.indexes.IndexTerms.{IndexTerms}
use Rattle.rate_indexes.specs.Period.{Period, value_day, period_between, period_from, period_at, or_date_range, period_of}

-- a count of days of the range
count_bound : (z : ℤ) → z ≤ℤ pos 110_000 → at_least_zero z ≤ 110_000
count_bound (pos n) h = omega (arith, ints, h)
count_bound (negsuc n) h = omega arith

-- between dates of the range lie few months of 30 days
bond_bound : (a b : CivilDate) → IsCivil a.year a.month a.day → IsCivil b.year b.month b.day → bond_basis_days a b ≤ℤ pos 110_000
bond_bound a b first last =
    let from = days_in_month_bounds a.year a.month in
    let to = days_in_month_bounds b.year b.month in
    let day = bond_day_bounds (min a.day 30) b.day in
    omega (arith, signed_arith)

european_bound : (a b : CivilDate) → IsCivil a.year a.month a.day → IsCivil b.year b.month b.day → european_days a b ≤ℤ pos 110_000
european_bound a b first last =
    let from = days_in_month_bounds a.year a.month in
    let to = days_in_month_bounds b.year b.month in
    omega (arith, signed_arith)

-- between days of the range the parts of the year are few
pub parts_bound : (counter : Counter) (business : ℤ → Bool) (from to : ℤ) → IsDayNumber from → IsDayNumber to → frac counter business from to ≤ most_of_a_period
unfolding frac
parts_bound Act360 business from to first last = let count = count_bound (to -ℤ from) (omega (arith, ints, first, last)) in omega (arith, count)
parts_bound Act365 business from to first last = let count = count_bound (to -ℤ from) (omega (arith, ints, first, last)) in omega (arith, count)
parts_bound ActAct business from to first last =
    let count = count_bound (to -ℤ from) (omega (arith, ints, first, last)) in
    let parts = act_act_bound from (at_least_zero (to -ℤ from)) in
    omega (arith, count, parts)
parts_bound Thirty360 business from to first last =
    let count = count_bound (bond_basis_days (date_of from) (date_of to)) (bond_bound (date_of from) (date_of to) (date_of-is from first).0 (date_of-is to last).0) in
    omega (arith, count)
parts_bound ThirtyE360 business from to first last =
    let count = count_bound (european_days (date_of from) (date_of to)) (european_bound (date_of from) (date_of to) (date_of-is from first).0 (date_of-is to last).0) in
    omega (arith, count)
parts_bound Bus252 business from to first last =
    let count = business_days-bound (unsigned_abs (to -ℤ from)) business from in
    let days : unsigned_abs (to -ℤ from) ≤ 110_000 = omega (arith, signed_arith, first, last, unsigned_abs-parts (to -ℤ from), one_part (to -ℤ from)) in
    omega (arith, count, days)

some_is : {A : Type 0} (a b : A) → Some a ≡ Some b → a ≡ b
some_is {A} a b is = cc

-- a period has the parts between its days
between_parts : (counter : Counter) (business : ℤ → Bool) (value maturity : ℤ) (later : Bool) (found : Period) → (if later then Some (value, maturity, pos (frac counter business value maturity)) else None) ≡ Some found → found.2 ≡ pos (frac counter business found.0 found.1)
between_parts counter business value maturity true found is =
    subst (λ (p : Period). p.2 ≡ pos (frac counter business p.0 p.1)) (some_is (value, maturity, pos (frac counter business value maturity)) found is) refl
between_parts counter business value maturity false found is = absurd cc

from_parts : (counter : Counter) (business : ℤ → Bool) (value : ℤ) (maturity : Option ℤ) (found : Period) → option_and_then (period_between counter business value) maturity ≡ Some found → found.2 ≡ pos (frac counter business found.0 found.1)
from_parts counter business value None found is = absurd cc
from_parts counter business value (Some maturity) found is = between_parts counter business value maturity (int_lt value maturity) found is

at_parts : (terms : IndexTerms) (value : Option ℤ) (found : Period) → option_and_then (period_from terms) value ≡ Some found → found.2 ≡ pos (frac terms.counter (is_business_day terms.cal) found.0 found.1)
at_parts terms None found is = absurd cc
at_parts terms (Some value) found is = from_parts terms.counter (is_business_day terms.cal) value _ found is

period_there : (x : ℕ) (period : Option Period) (found : Period) → or_date_range x period ≡ Ok found → period ≡ Some found
period_there x None found is = absurd cc
period_there x (Some period) found is = cc

pub period_parts : (x : ℕ) (terms : IndexTerms) (day : ℤ) (found : Period) → period_of x terms day ≡ Ok found → found.2 ≡ pos (frac terms.counter (is_business_day terms.cal) found.0 found.1)
unfolding period_of
period_parts x terms day found is = at_parts terms (value_day terms day) found (period_there x (period_at terms day) found is)

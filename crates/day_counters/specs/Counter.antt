-- Year fractions by the day counters.
use Rattle.std.specs.Prelude.{ℕ, ◌*◌, Bool, ℤ, ◌-ℤ◌}
use Rattle.day_number.specs.Day.{date_of}
use Rattle.year_parts.specs.declared.bases.Basis.TheVariants.{D360, D365, D252}
use Rattle.year_parts.specs.declared.counters.Counter.{Counter}
use Rattle.year_parts.specs.declared.counters.Counter.TheVariants.{Act360, Act365, ActAct, Thirty360, ThirtyE360, Bus252}
use Rattle.year_parts.specs.Basis.{parts_in_day}
use Rattle.holiday_calendars.specs.Counted.{business_days_from}
use Rattle.day_counters.specs.Day.{act_act}
use Rattle.day_counters.specs.CivilDate.{bond_basis_days, european_days, at_least_zero}

-- the parts of the year from a day to one not before it, by the business days of a calendar, which play a part for
-- Business/252 alone (that counter is QuantLib's, the others are ISDA's, and the parts this project's)
unfoldable pub frac : Counter → (ℤ → Bool) → ℤ → ℤ → ℕ
frac Act360 business from to = at_least_zero (to -ℤ from) * parts_in_day D360
frac Act365 business from to = at_least_zero (to -ℤ from) * parts_in_day D365
frac ActAct business from to = act_act from (at_least_zero (to -ℤ from))
frac Thirty360 business from to =
    at_least_zero (bond_basis_days (date_of from) (date_of to)) * parts_in_day D360
frac ThirtyE360 business from to =
    at_least_zero (european_days (date_of from) (date_of to)) * parts_in_day D360
frac Bus252 business from to = business_days_from business from to * parts_in_day D252

-- The stored rates of an index: the days with their rates, in the order of time (QuantLib's TimeSeries).
use Rattle.std.specs.Prelude.{ℤ, List, Option}
use Rattle.std.specs.Ordering.{int_cmp, int_eq}
use Rattle.std.specs.List.Sorted.{IsStrictlySortedBy}
use Rattle.std.specs.Map.{keys_of, lookup}
use Rattle.std.specs.BTreeMap.{insert_entry}
use Rattle.jiff_core.specs.Calendar.{IsWithin}
use Rattle.flow_terms.specs.declared.limits.TheConstants.{MOST_RATE}

-- days with their rates
abbrev pub Stored : Type 0
Stored = List (ℤ × ℤ)

-- a rate within 10 either way (this project's limit)
abbrev pub IsRate : ℤ → Type 0
IsRate rate = IsWithin MOST_RATE rate

-- the days rise strictly, so that each is there once
abbrev pub AreByDay : Stored → Type 0
AreByDay fixings = IsStrictlySortedBy int_cmp (keys_of fixings)

-- the rate that is stored for a day
abbrev pub fixing_on : Stored → ℤ → Option ℤ
fixing_on fixings day = lookup (int_eq day) fixings

-- the stored rates with that of one day more, at its place in the order of time
abbrev pub with_fixing : Stored → ℤ → ℤ → Stored
with_fixing fixings day rate = insert_entry int_cmp fixings day rate

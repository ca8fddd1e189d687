-- The holidays of a calendar of one's own (QuantLib's BespokeCalendar).
use Rattle.std.specs.Prelude.{Bool, false, ◌||◌, List, ℤ, slice_index_or}
use Rattle.std.specs.List.{list_any}
use Rattle.std.specs.FinSet as set
use Rattle.std.specs.Ordering.{int_cmp, int_eq}
use Rattle.jiff_core.specs.Calendar.{weekday_number}

-- which weekdays are holidays, from Monday on, and the days that are, in the order of time and each once
pub record Closed : Type 0 where
  pub weekend : List Bool
  pub days : List ℤ

-- the days of a list in the order of time, each once
unfoldable pub in_order : List ℤ → List ℤ
in_order days = set.items (set.from_list {R = int_cmp} days)

-- closed on some weekdays and on the days of a list, whatever their order there
abbrev pub closed_on : List Bool → List ℤ → Closed
closed_on weekend days = record { weekend = weekend; days = in_order days }

-- a day whose weekday is a holiday, or which is one itself
unfoldable pub is_closed : Closed → ℤ → Bool
is_closed closed day =
    slice_index_or closed.weekend (weekday_number day) false || list_any (int_eq day) closed.days

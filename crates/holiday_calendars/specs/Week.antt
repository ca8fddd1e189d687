-- Days of the week, counted from Monday, which is 0 (jiff's day of the week).
use Rattle.std.specs.Prelude.{Bool, nat_lt, ℤ}
use Rattle.jiff_core.specs.Calendar.{weekday_number}

-- Monday to Friday
abbrev pub is_weekday : ℤ → Bool
is_weekday day = nat_lt (weekday_number day) 5

-- Stretches of holidays.
use Rattle.std.specs.Prelude.{◌≡◌, Bool, true, false, ℤ, ◌≤ℤ◌, ◌<ℤ◌}
use Rattle.holiday_calendars.specs.declared.closures.Closure.{Closure}
use Rattle.holiday_calendars.specs.Closed.{Closed, is_closed}

-- each day after a day, up to another, which counts, is a holiday
abbrev pub AreHolidaysAfter : (ℤ → Bool) → ℤ → ℤ → Type 0
AreHolidaysAfter business day last = (x : ℤ) → day <ℤ x → x ≤ℤ last → business x ≡ false

-- each day before a day, down to another, which counts, is a holiday
abbrev pub AreHolidaysBefore : (ℤ → Bool) → ℤ → ℤ → Type 0
AreHolidaysBefore business day first = (x : ℤ) → x <ℤ day → first ≤ℤ x → business x ≡ false

-- each day from the first to the last of a closure is closed
abbrev pub IsClosure : Closed → Closure → Type 0
IsClosure closed closure = (x : ℤ) → closure.first ≤ℤ x → x ≤ℤ closure.last → is_closed closed x ≡ true

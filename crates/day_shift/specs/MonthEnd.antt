-- The last business day of a month.
use Rattle.std.specs.Prelude.{◌≡◌, ◌↔◌, Bool, false, Option, Some, None, ℤ, ◌≤ℤ◌}
use Rattle.std.specs.Int.Signed.{le_z}
use Rattle.day_number.specs.Day.{IsDayNumber}
use Rattle.day_number.specs.Shift.{last_of_month}
use Rattle.day_shift.specs.Business.{IsBusinessDay, previous}
use Rattle.day_shift.specs.Month.{IsInMonth, is_same_month}
use Rattle.day_shift.specs.Adjusted.{kept_or}

-- the greatest business day of a day's month
abbrev pub IsLastOpen : (ℤ → Bool) → ℤ → ℤ → Type 0
IsLastOpen business day found =
    IsBusinessDay business found × IsInMonth day found
    × ((x : ℤ) → IsBusinessDay business x → IsInMonth day x → x ≤ℤ found)

-- a day is the last business day of its month, which has one, or comes after it (QuantLib's isEndOfMonth)
abbrev pub IsAtMonthEnd : (ℤ → Bool) → ℤ → Type 0
IsAtMonthEnd business day = (last : ℤ) × IsLastOpen business day last × (last ≤ℤ day)

-- the last business day of a day's month as a value, where it has one
abbrev pub last_open : (ℤ → Bool) → ℤ → Option ℤ
last_open business day =
    kept_or (is_same_month day) (previous business (last_of_month day)) None

-- a day on or after another that is there
abbrev pub is_from : ℤ → Option ℤ → Bool
is_from day None = false
is_from day (Some other) = le_z other day

-- law: the value is the greatest business day of the month
abbrev pub LastOpenIsGreatest : Type 0
LastOpenIsGreatest =
    (business : ℤ → Bool) (day found : ℤ)
    → IsDayNumber day → (last_open business day ≡ Some found) ↔ IsLastOpen business day found

-- law: there is none exactly where the month has no business day
abbrev pub NoLastOpenIsNoBusinessDay : Type 0
NoLastOpenIsNoBusinessDay =
    (business : ℤ → Bool) (day : ℤ)
    → IsDayNumber day
    → (last_open business day ≡ None)
    ↔ ((x : ℤ) → IsBusinessDay business x → ¬ (IsInMonth day x))

-- Business days before, on and after a day, by any test that says which days are business days.
use Rattle.std.specs.Prelude.{◌≡◌, ◌↔◌, ℕ, zero, suc, Bool, true, false, ◌&&◌, if◌then◌else◌, Option, Some, None, ℤ, pos, neg_ℤ, ◌+ℤ◌, ◌-ℤ◌, ◌≤ℤ◌, unsigned_abs}
use Rattle.std.specs.Int.Signed.{le_z}
use Rattle.day_number.specs.Day.{IsDayNumber}

-- a business day of the range, from 1901-01-01 to 2199-12-31 (this project's range)
abbrev pub IsBusinessDay : (ℤ → Bool) → ℤ → Type 0
IsBusinessDay business day = IsDayNumber day × (business day ≡ true)

-- the least business day at or after a day (QuantLib's Following)
abbrev pub IsNext : (ℤ → Bool) → ℤ → ℤ → Type 0
IsNext business day found =
    IsBusinessDay business found × (day ≤ℤ found)
    × ((x : ℤ) → IsBusinessDay business x → day ≤ℤ x → found ≤ℤ x)

-- the greatest business day at or before a day (QuantLib's Preceding)
abbrev pub IsPrevious : (ℤ → Bool) → ℤ → ℤ → Type 0
IsPrevious business day found =
    IsBusinessDay business found × (found ≤ℤ day)
    × ((x : ℤ) → IsBusinessDay business x → x ≤ℤ day → x ≤ℤ found)

-- the day of a number, and none outside the range
abbrev pub day_at : ℤ → Option ℤ
day_at number =
    if le_z (neg_ℤ (pos 25_202)) number && le_z number (pos 84_005) then Some number else None

-- the first business day among a number of days from a day on
unfoldable pub first_from : ℕ → (ℤ → Bool) → ℤ → Option ℤ
first_from zero business day = None
first_from (suc more) business day =
    elim (business day) as (λ _. Option ℤ)
    [ true ↦ Some day | false ↦ first_from more business (day +ℤ pos 1) ]

-- the last business day among a number of days up to a day
unfoldable pub last_to : ℕ → (ℤ → Bool) → ℤ → Option ℤ
last_to zero business day = None
last_to (suc more) business day =
    elim (business day) as (λ _. Option ℤ)
    [ true ↦ Some day | false ↦ last_to more business (day -ℤ pos 1) ]

-- the next business day as a value, sought among the days up to the end of the range
unfoldable pub next : (ℤ → Bool) → ℤ → Option ℤ
next business day = first_from (unsigned_abs (pos 84_006 -ℤ day)) business day

-- the previous business day as a value, sought among the days down to the start of the range
unfoldable pub previous : (ℤ → Bool) → ℤ → Option ℤ
previous business day = last_to (unsigned_abs (day +ℤ pos 25_203)) business day

-- law: the next business day is the least at or after the day
abbrev pub NextIsLeast : Type 0
NextIsLeast =
    (business : ℤ → Bool) (day found : ℤ)
    → IsDayNumber day → (next business day ≡ Some found) ↔ IsNext business day found

-- law: the previous business day is the greatest at or before the day
abbrev pub PreviousIsGreatest : Type 0
PreviousIsGreatest =
    (business : ℤ → Bool) (day found : ℤ)
    → IsDayNumber day → (previous business day ≡ Some found) ↔ IsPrevious business day found

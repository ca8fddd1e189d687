-- How many days are business days.
use Rattle.std.specs.Prelude.{◌≡◌, ◌↔◌, ℕ, zero, suc, ◌+◌, Bool, true, if◌then◌else◌, List, length, Contains, AllPairs, ℤ, pos, ◌+ℤ◌, ◌-ℤ◌, ◌≤ℤ◌, ◌<ℤ◌, unsigned_abs}

-- the business days from a day on, which counts, to another, which does not, as a rising list of exactly these
abbrev pub AreBusinessDays : (ℤ → Bool) → ℤ → ℤ → List ℤ → Type 0
AreBusinessDays business from to days =
    AllPairs (λ x y. x <ℤ y) days
    × ((x : ℤ) → Contains days x ↔ ((business x ≡ true) × (from ≤ℤ x) × (x <ℤ to)))

-- how many of a number of days from a day on are business days
unfoldable pub business_days : ℕ → (ℤ → Bool) → ℤ → ℕ
business_days zero business day = 0
business_days (suc more) business day =
    business_days more business day + (if business (day +ℤ pos more) then 1 else 0)

-- how many days from a day on, which counts, to another, which does not, are business days (QuantLib's businessDaysBetween)
abbrev pub business_days_from : (ℤ → Bool) → ℤ → ℤ → ℕ
business_days_from business from to = business_days (unsigned_abs (to -ℤ from)) business from

-- law: they are as many as the list has
abbrev pub CountIsOfTheDays : Type 0
CountIsOfTheDays =
    (business : ℤ → Bool) (from to : ℤ)
    → from ≤ℤ to
    → (days : List ℤ) × AreBusinessDays business from to days
    × (business_days_from business from to ≡ length days)

-- Days moved by a count of days, weeks, months or years (QuantLib's Calendar::advance).
use Rattle.std.specs.Prelude.{◌≡◌, ◌↔◌, ◌<◌, ℕ, zero, suc, Bool, true, false, ◌&&◌, if◌then◌else◌, Option, Some, None, ℤ, pos, negsuc, ◌+ℤ◌, ◌-ℤ◌, ◌*ℤ◌, ◌<ℤ◌, ◌≤ℤ◌}
use Rattle.std.specs.Ordering.{int_eq}
use Rattle.day_number.specs.declared.conventions.Convention.{Convention}
use Rattle.day_number.specs.declared.conventions.Convention.TheVariants.{Unadjusted}
use Rattle.day_number.specs.declared.tenors.Unit.{Unit as TimeUnit}
use Rattle.day_number.specs.declared.tenors.Unit.TheVariants.{Days, Weeks, Months, Years}
use Rattle.day_number.specs.Day.{IsDayNumber}
use Rattle.day_number.specs.Shift.{months_later}
use Rattle.day_shift.specs.Business.{IsBusinessDay, day_at, next, previous}
use Rattle.holiday_calendars.specs.Counted.{business_days_from}
use Rattle.day_shift.specs.Month.{IsMonthInRange, month_at}
use Rattle.day_shift.specs.Adjusted.{IsAdjusted, adjusted}
use Rattle.day_shift.specs.MonthEnd.{IsLastOpen, IsAtMonthEnd, last_open, is_from}

-- the business day after a day with exactly n business days from the day after it up to itself
abbrev pub IsDaysAfter : (ℤ → Bool) → ℕ → ℤ → ℤ → Type 0
IsDaysAfter business n day found =
    IsBusinessDay business found × (day <ℤ found)
    × (business_days_from business (day +ℤ pos 1) (found +ℤ pos 1) ≡ n)

-- the business day before a day with exactly n business days from itself on to the day
abbrev pub IsDaysBefore : (ℤ → Bool) → ℕ → ℤ → ℤ → Type 0
IsDaysBefore business n day found =
    IsBusinessDay business found × (found <ℤ day)
    × (business_days_from business found day ≡ n)

-- the business day n of them on, or back where n is negative
abbrev pub IsDaysOn : (ℤ → Bool) → ℤ → ℤ → ℤ → Type 0
IsDaysOn business day (pos n) found = IsDaysAfter business n day found
IsDaysOn business day (negsuc n) found = IsDaysBefore business (suc n) day found

-- n months on: the last business day of that month where month ends are kept and the day is at its month's end, else the day of that month, clipped to its last, adjusted
abbrev pub IsMonthsOn : (ℤ → Bool) → Convention → Bool → ℤ → ℤ → ℤ → Type 0
IsMonthsOn business convention month_end day n found =
    IsMonthInRange day n
    × ((month_end ≡ true) × IsAtMonthEnd business day → IsLastOpen business (months_later day n) found)
    × (¬ ((month_end ≡ true) × IsAtMonthEnd business day)
    → IsAdjusted business convention (months_later day n) found)

-- a count of a unit on, which is not 0
abbrev pub IsMoved : (ℤ → Bool) → TimeUnit → Convention → Bool → ℤ → ℤ → ℤ → Type 0
IsMoved business Days convention month_end day n found = IsDaysOn business day n found
IsMoved business Weeks convention month_end day n found =
    IsDayNumber (day +ℤ n *ℤ pos 7) × IsAdjusted business convention (day +ℤ n *ℤ pos 7) found
IsMoved business Months convention month_end day n found =
    IsMonthsOn business convention month_end day n found
IsMoved business Years convention month_end day n found =
    IsMonthsOn business convention month_end day (n *ℤ pos 12) found

-- a count of a unit on, over the business days as a set; a count of 0 adjusts the day, whatever the unit
unfoldable pub IsAdvanced : (ℤ → Bool) → TimeUnit → Convention → Bool → ℤ → ℤ → ℤ → Type 0
IsAdvanced business unit convention month_end day n found =
    (n ≡ pos 0 → IsAdjusted business convention day found)
    × (¬ (n ≡ pos 0) → IsMoved business unit convention month_end day n found)

-- what a step makes of a day that is there
abbrev pub and_then : Option ℤ → (ℤ → Option ℤ) → Option ℤ
and_then None step = None
and_then (Some day) step = step day

-- n business days after a day as a value: the next one after it, n times over
unfoldable pub days_after : ℕ → (ℤ → Bool) → ℤ → Option ℤ
days_after zero business day = Some day
days_after (suc n) business day =
    and_then (next business (day +ℤ pos 1)) (days_after n business)

-- n business days before a day as a value: the previous one before it, n times over
unfoldable pub days_before : ℕ → (ℤ → Bool) → ℤ → Option ℤ
days_before zero business day = Some day
days_before (suc n) business day =
    and_then (previous business (day -ℤ pos 1)) (days_before n business)

-- n business days on as a value, or back where n is negative
abbrev pub days_on : (ℤ → Bool) → ℤ → ℤ → Option ℤ
days_on business day (pos n) = days_after n business day
days_on business day (negsuc n) = days_before (suc n) business day

-- the month's last business day, or the adjusted day
abbrev pub month_day : (ℤ → Bool) → Convention → Bool → ℤ → Option ℤ
month_day business convention true target = last_open business target
month_day business convention false target = adjusted business convention target

-- n months on as a value
abbrev pub months_on : (ℤ → Bool) → Convention → Bool → ℤ → ℤ → Option ℤ
months_on business convention month_end day n =
    and_then (month_at day n)
    (month_day business convention (month_end && is_from day (last_open business day)))

-- a count of a unit on as a value, the count not 0
abbrev pub moved : (ℤ → Bool) → TimeUnit → Convention → Bool → ℤ → ℤ → Option ℤ
moved business Days convention month_end day n = days_on business day n
moved business Weeks convention month_end day n =
    and_then (day_at (day +ℤ n *ℤ pos 7)) (adjusted business convention)
moved business Months convention month_end day n = months_on business convention month_end day n
moved business Years convention month_end day n =
    months_on business convention month_end day (n *ℤ pos 12)

-- a count of a unit on as a value, where there is one in range
unfoldable pub advanced : (ℤ → Bool) → TimeUnit → Convention → Bool → ℤ → ℤ → Option ℤ
advanced business unit convention month_end day n =
    if int_eq n (pos 0) then adjusted business convention day
    else moved business unit convention month_end day n

-- law: n business days after a day is the day with exactly n business days behind it
abbrev pub DaysAfterAreCounted : Type 0
DaysAfterAreCounted =
    (business : ℤ → Bool) (n : ℕ) (day found : ℤ)
    → IsDayNumber day → 0 < n
    → (days_after n business day ≡ Some found) ↔ IsDaysAfter business n day found

-- law: the same before a day
abbrev pub DaysBeforeAreCounted : Type 0
DaysBeforeAreCounted =
    (business : ℤ → Bool) (n : ℕ) (day found : ℤ)
    → IsDayNumber day → 0 < n
    → (days_before n business day ≡ Some found) ↔ IsDaysBefore business n day found

-- law: the value is the day that a count of a unit leads to
abbrev pub AdvancedIsTheDay : Type 0
AdvancedIsTheDay =
    (business : ℤ → Bool) (unit : TimeUnit) (convention : Convention) (month_end : Bool) (day n found : ℤ)
    → IsDayNumber day
    → (advanced business unit convention month_end day n ≡ Some found)
    ↔ IsAdvanced business unit convention month_end day n found

-- law: a count of a unit leads to a business day, by each convention but Unadjusted
abbrev pub AdvancedIsOpen : Type 0
AdvancedIsOpen =
    (business : ℤ → Bool) (unit : TimeUnit) (convention : Convention) (month_end : Bool) (day n found : ℤ)
    → IsDayNumber day → ¬ (convention ≡ Unadjusted)
    → advanced business unit convention month_end day n ≡ Some found → IsBusinessDay business found

-- law: from a business day no count of a unit on leads back
abbrev pub AdvancedIsNotBefore : Type 0
AdvancedIsNotBefore =
    (business : ℤ → Bool) (unit : TimeUnit) (convention : Convention) (month_end : Bool) (day n found : ℤ)
    → IsBusinessDay business day → pos 0 ≤ℤ n
    → advanced business unit convention month_end day n ≡ Some found → day ≤ℤ found

-- Days adjusted to business days by a convention (QuantLib's Calendar::adjust).
use Rattle.std.specs.Prelude.{◌≡◌, ◌↔◌, ◌≤◌, Bool, ◌&&◌, not, if◌then◌else◌, Option, Some, None, Result, ℤ, ◌-ℤ◌, ◌≤ℤ◌, unsigned_abs}
use Rattle.std.specs.Option.{ok_or}
use Rattle.std.specs.Int.Signed.{le_z}
use Rattle.day_number.specs.declared.conventions.Convention.{Convention}
use Rattle.day_number.specs.declared.conventions.Convention.TheVariants.{Unadjusted, Following, Preceding, ModifiedFollowing, ModifiedPreceding, HalfMonthModifiedFollowing, Nearest}
use Rattle.day_shift.specs.declared.faults.ShiftFault.{ShiftFault}
use Rattle.day_shift.specs.declared.faults.ShiftFault.TheVariants.{DateRange}
use Rattle.day_number.specs.Day.{IsDayNumber}
use Rattle.day_shift.specs.Business.{IsBusinessDay, IsNext, IsPrevious, next, previous}
use Rattle.day_shift.specs.Month.{IsInMonth, IsAcrossMiddle, is_same_month, is_across_middle}

-- the business day of the range at the least distance, the later of two
abbrev pub IsNearest : (ℤ → Bool) → ℤ → ℤ → Type 0
IsNearest business day found =
    IsBusinessDay business found
    × ((x : ℤ) → IsBusinessDay business x → unsigned_abs (found -ℤ day) ≤ unsigned_abs (x -ℤ day))
    × ((x : ℤ)
    → IsBusinessDay business x → unsigned_abs (x -ℤ day) ≡ unsigned_abs (found -ℤ day) → x ≤ℤ found)

-- the day of one kind, which is there, where it passes, and else the day of another kind
abbrev pub IsKeptOr : (ℤ → Type 0) → (ℤ → Type 0) → (ℤ → Type 0) → ℤ → Type 0
IsKeptOr Passes IsOne IsOther found =
    (one : ℤ) × IsOne one × (Passes one → found ≡ one) × (¬ (Passes one) → IsOther found)

-- the adjusted day of a day by a convention, over the business days as a set
unfoldable pub IsAdjusted : (ℤ → Bool) → Convention → ℤ → ℤ → Type 0
IsAdjusted business Unadjusted day found = found ≡ day
IsAdjusted business Following day found = IsNext business day found
IsAdjusted business Preceding day found = IsPrevious business day found
IsAdjusted business ModifiedFollowing day found =
    IsKeptOr (IsInMonth day) (IsNext business day) (IsPrevious business day) found
IsAdjusted business ModifiedPreceding day found =
    IsKeptOr (IsInMonth day) (IsPrevious business day) (IsNext business day) found
IsAdjusted business HalfMonthModifiedFollowing day found =
    IsKeptOr (λ later. IsInMonth day later × ¬ (IsAcrossMiddle day later))
    (IsNext business day) (IsPrevious business day) found
IsAdjusted business Nearest day found = IsNearest business day found

-- a day where it passes a test, and another in its place where it does not
abbrev pub kept_or : (ℤ → Bool) → Option ℤ → Option ℤ → Option ℤ
kept_or passes None other = None
kept_or passes (Some day) other = if passes day then Some day else other

-- the one of a later and an earlier day that is nearer to a day, the later at equal distance
abbrev pub nearer : ℤ → Option ℤ → Option ℤ → Option ℤ
nearer day None earlier = earlier
nearer day (Some later) None = Some later
nearer day (Some later) (Some earlier) =
    if le_z (later -ℤ day) (day -ℤ earlier) then Some later else Some earlier

-- the adjusted day as a value, where there is one in range
unfoldable pub adjusted : (ℤ → Bool) → Convention → ℤ → Option ℤ
adjusted business Unadjusted day = Some day
adjusted business Following day = next business day
adjusted business Preceding day = previous business day
adjusted business ModifiedFollowing day =
    kept_or (is_same_month day) (next business day) (previous business day)
adjusted business ModifiedPreceding day =
    kept_or (is_same_month day) (previous business day) (next business day)
adjusted business HalfMonthModifiedFollowing day =
    kept_or (λ later. is_same_month day later && not (is_across_middle day later))
    (next business day) (previous business day)
adjusted business Nearest day = nearer day (next business day) (previous business day)

-- a day that is there, and `DateRange` where there is none
abbrev pub day_or_fault : Option ℤ → Result ℤ ShiftFault
day_or_fault found = ok_or found DateRange

-- law: the value is the adjusted day
abbrev pub AdjustedIsTheDay : Type 0
AdjustedIsTheDay =
    (business : ℤ → Bool) (convention : Convention) (day found : ℤ)
    → IsDayNumber day
    → (adjusted business convention day ≡ Some found) ↔ IsAdjusted business convention day found

-- law: a business day stays where it is, by each convention
abbrev pub BusinessDaysStay : Type 0
BusinessDaysStay =
    (business : ℤ → Bool) (convention : Convention) (day : ℤ)
    → IsBusinessDay business day → adjusted business convention day ≡ Some day

-- law: the adjusted day is a business day, by each convention but Unadjusted
abbrev pub AdjustedIsOpen : Type 0
AdjustedIsOpen =
    (business : ℤ → Bool) (convention : Convention) (day found : ℤ)
    → IsDayNumber day → ¬ (convention ≡ Unadjusted)
    → adjusted business convention day ≡ Some found → IsBusinessDay business found

-- law: a later day is not adjusted to an earlier one
abbrev pub AdjustedKeepsOrder : Type 0
AdjustedKeepsOrder =
    (business : ℤ → Bool) (convention : Convention) (day later found then_found : ℤ)
    → IsDayNumber day → IsDayNumber later → day ≤ℤ later
    → adjusted business convention day ≡ Some found
    → adjusted business convention later ≡ Some then_found → found ≤ℤ then_found

-- The schedule of a plan (QuantLib's Schedule).
use Rattle.std.specs.Prelude.{◌≡◌, ◌↔◌, ◌⊎◌, ◌<ℤ◌, ◌≤ℤ◌, ◌-◌, length, slice_get, Bool, true, not, if◌then◌else◌, List, [], ◌∷◌, ◌++◌, Option, Some, None, Result, Ok, Err, ℤ}
use Rattle.std.specs.Borrow.{Bor}
use Rattle.std.specs.Int.Signed.{le_z}
use Rattle.std.specs.List.{filter, list_any}
use Rattle.std.specs.List.Sorted.{IsStrictlySortedBy}
use Rattle.std.specs.Ordering.{int_cmp, int_eq}
use Rattle.day_number.specs.Day.{IsDayNumber}
use Rattle.holiday_calendars.specs.declared.calendars.Calendar.{Calendar}
use Rattle.day_shift.specs.Adjusted.{adjusted}
use Rattle.schedule_rules.specs.declared.plans.Plan.{Plan}
use Rattle.schedule_rules.specs.declared.faults.PlanFault.{PlanFault}
use Rattle.schedule_rules.specs.declared.faults.PlanFault.TheVariants.{Order, Tenor as TenorFault, Stub, TooMany, DateRange, Collapsed, NoMemory}
use Rattle.schedule_rules.specs.Raw.{rising, raw_or_fault, IsRaw}
use Rattle.schedule_rules.specs.Step.{seed_by}
use Rattle.schedule_rules.specs.Terms.{fault_of_terms}

-- a raw day adjusted: the end with its own convention
abbrev pub adjusted_raw : (ℤ → Bool) → Plan → ℤ → Option ℤ
adjusted_raw business plan day =
    adjusted business (if int_eq day plan.end then plan.end_conv else plan.conv) day

-- a day in front of others, where both are there
abbrev pub day_and : Option ℤ → Option (List ℤ) → Option (List ℤ)
day_and (Some day) (Some days) = Some (day ∷ days)
day_and (Some day) None = None
day_and None days = None

-- what is made of each day, where there is a day for each
unfoldable pub each_of : (ℤ → Option ℤ) → List ℤ → Option (List ℤ)
each_of makes [] = Some []
each_of makes (day ∷ days) = day_and (makes day) (each_of makes days)

-- the days of a list in the order of time and each once, and `DateRange` where there is none
abbrev pub rising_or_fault : Option (List ℤ) → Result (List ℤ) PlanFault
rising_or_fault (Some days) = Ok (rising days)
rising_or_fault None = Err DateRange

-- the adjusted days, in the order of time and each once
abbrev pub adjusted_or_fault : (ℤ → Bool) → Plan → List ℤ → Result (List ℤ) PlanFault
adjusted_or_fault business plan raw = rising_or_fault (each_of (adjusted_raw business plan) raw)

-- the days before the end, followed by the end
abbrev pub ended : ℤ → List ℤ → List ℤ
ended end days = filter (λ day. not (le_z end day)) days ++ end ∷ []

-- a schedule's days from its adjusted days, its adjusted start and its adjusted end
abbrev pub ended_or_fault : List ℤ → Option ℤ → Option ℤ → Result (List ℤ) PlanFault
ended_or_fault days (Some start) (Some end) = if le_z end start then Err Collapsed else Ok (ended end days)
ended_or_fault days (Some start) None = Err DateRange
ended_or_fault days None end = Err DateRange

-- days that are there, taken further; a fault stays
abbrev pub on_ok : Result (List ℤ) PlanFault → (List ℤ → Result (List ℤ) PlanFault) → Result (List ℤ) PlanFault
on_ok (Ok days) next = next days
on_ok (Err fault) next = Err fault

-- the schedule of a plan whose terms have no fault
abbrev pub dated : (ℤ → Bool) → Plan → Result (List ℤ) PlanFault
dated business plan =
    on_ok (raw_or_fault plan) (λ raw.
    on_ok (adjusted_or_fault business plan raw) (λ days.
    ended_or_fault days (adjusted_raw business plan plan.start) (adjusted_raw business plan plan.end)))

-- a fault of the terms, or else what comes after them
abbrev pub unless : Option PlanFault → Result (List ℤ) PlanFault → Result (List ℤ) PlanFault
unless (Some fault) dates = Err fault
unless None dates = dates

-- the schedule of a plan over a calendar's business days, or the first of its faults (QuantLib's Schedule; the faults are this project's)
unfoldable pub schedule : (ℤ → Bool) → Plan → Result (List ℤ) PlanFault
schedule business plan = unless (fault_of_terms plan) (dated business plan)

-- what a call answers that gives a definition's days or fault, or is refused for want of memory
abbrev pub Gives : {X : Type 0} → (X → List ℤ) → Result (List ℤ) PlanFault → Result X PlanFault → Type 0
Gives days due (Ok x) = due ≡ Ok (days x)
Gives days due (Err NoMemory) = Unit {0}
Gives days due (Err Order) = due ≡ Err Order
Gives days due (Err TenorFault) = due ≡ Err TenorFault
Gives days due (Err Stub) = due ≡ Err Stub
Gives days due (Err TooMany) = due ≡ Err TooMany
Gives days due (Err DateRange) = due ≡ Err DateRange
Gives days due (Err Collapsed) = due ≡ Err Collapsed

-- want of memory
abbrev pub IsMemory : PlanFault → Type 0
IsMemory fault = fault ≡ NoMemory

-- a day that a raw day is adjusted to
abbrev pub IsAdjusted : (ℤ → Bool) → Plan → ℤ → Type 0
IsAdjusted business plan day =
    (raw : ℤ) × IsRaw plan raw × (adjusted_raw business plan raw ≡ Some day)

-- the days of a plan as a set: they rise strictly from the adjusted start to the adjusted end, and they are that end and the days before it that a raw day is adjusted to
pub record AreDaysOf (business : ℤ → Bool) (plan : Plan) (dates : List ℤ) : Type 0 where
  pub start : ℤ
  pub end : ℤ
  pub start_is : adjusted_raw business plan plan.start ≡ Some start
  pub end_is : adjusted_raw business plan plan.end ≡ Some end
  pub rising : IsStrictlySortedBy int_cmp dates
  pub within : (day : ℤ) → list_any (int_eq day) dates ≡ true → (start ≤ℤ day) × (day ≤ℤ end)
  pub set : (day : ℤ)
      → (list_any (int_eq day) dates ≡ true)
      ↔ ((day ≡ end) ⊎ ((day <ℤ end) × IsAdjusted business plan day))

-- law: a schedule is the adjusted end and the adjusted days before it, in the order of time
abbrev pub SchedulesAreAdjustedDays : Type 0
SchedulesAreAdjustedDays =
    (business : ℤ → Bool) (plan : Plan) (dates : List ℤ) (end : ℤ)
    → IsDayNumber (seed_by plan.rule plan)
    → schedule business plan ≡ Ok dates
    → adjusted_raw business plan plan.end ≡ Some end
    → IsStrictlySortedBy int_cmp dates
    × ((day : ℤ)
    → (list_any (int_eq day) dates ≡ true)
    ↔ ((day ≡ end) ⊎ ((day <ℤ end) × IsAdjusted business plan day)))

-- law: the first day of a schedule is the adjusted start, and the last is the adjusted end
abbrev pub SchedulesBeginAndEnd : Type 0
SchedulesBeginAndEnd =
    (business : ℤ → Bool) (plan : Plan) (dates : List ℤ)
    → IsDayNumber plan.start → IsDayNumber plan.end
    → schedule business plan ≡ Ok dates
    → (slice_get dates 0 ≡ adjusted_raw business plan plan.start)
    × (slice_get dates (length dates - 1) ≡ adjusted_raw business plan plan.end)

-- law: a schedule goes by the business days and not by the reference that a plan holds to its calendar
abbrev pub SchedulesGoByTheDays : Type 0
SchedulesGoByTheDays =
    (business : ℤ → Bool) (plan : Plan) (cal : Bor Calendar)
    → schedule business (record plan { cal = cal }) ≡ schedule business plan

-- The days of a schedule before they are adjusted.
use Rattle.std.specs.Prelude.{◌≡◌, ◌↔◌, ◌⊎◌, ◌≤◌, ℕ, List, [], ◌∷◌, ◌++◌, length, nat_lt, if◌then◌else◌, Some, None, Result, Ok, Err, ℤ, true}
use Rattle.std.specs.BTreeSet.{insert_key}
use Rattle.std.specs.List.{cons_option, list_any}
use Rattle.std.specs.List.Sorted.{IsStrictlySortedBy}
use Rattle.std.specs.Ordering.{int_cmp, int_eq}
use Rattle.day_number.specs.Day.{IsDayNumber}
use Rattle.schedule_rules.specs.declared.plans.Plan.{Plan}
use Rattle.schedule_rules.specs.declared.faults.PlanFault.{PlanFault}
use Rattle.schedule_rules.specs.declared.faults.PlanFault.TheVariants.{TooMany}
use Rattle.schedule_rules.specs.declared.schedules.TheConstants.{MOST_DAYS}
use Rattle.schedule_rules.specs.Step.{seed_by, step, steps_from, most_steps}
use Rattle.schedule_rules.specs.Terms.{fault_of_terms}

-- days put into a list in the order of time, each at its place unless it is there
unfoldable pub put_into : List ℤ → List ℤ → List ℤ
put_into days [] = days
put_into days (day ∷ more) = put_into (insert_key int_cmp days day) more

-- the days of a list in the order of time, each once
abbrev pub rising : List ℤ → List ℤ
rising days = put_into [] days

-- the days that a plan names: start, end, and those of its stubs
abbrev pub named_days : Plan → List ℤ
named_days plan = plan.start ∷ plan.end ∷ cons_option plan.first (cons_option plan.last [])

-- the days that a plan names, and each step from the seed that is inside the bound, in the order of time
unfoldable pub raw_days : Plan → List ℤ
raw_days plan = rising (named_days plan ++ steps_from plan 1 (most_steps plan))

-- days, of which there are not too many (this project's limit)
abbrev pub few_or_fault : List ℤ → Result (List ℤ) PlanFault
few_or_fault days = if nat_lt MOST_DAYS (length days) then Err TooMany else Ok days

-- the raw days, where there are not too many
abbrev pub raw_or_fault : Plan → Result (List ℤ) PlanFault
raw_or_fault plan = few_or_fault (raw_days plan)

-- a day that a step of any count of tenors leads to
abbrev pub IsStep : Plan → ℤ → Type 0
IsStep plan day = (k : ℕ) × (1 ≤ k) × (step plan k ≡ Some day)

-- a raw day, as a set
abbrev pub IsRaw : Plan → ℤ → Type 0
IsRaw plan day =
    (day ≡ plan.start) ⊎ ((day ≡ plan.end) ⊎ ((plan.first ≡ Some day) ⊎ ((plan.last ≡ Some day) ⊎ IsStep plan day)))

-- law: the raw days of a plan are start, end, the stubs' days and the steps of any count, in the order of time
abbrev pub RawDaysAreSteps : Type 0
RawDaysAreSteps =
    (plan : Plan) → IsDayNumber (seed_by plan.rule plan) → fault_of_terms plan ≡ None
    → IsStrictlySortedBy int_cmp (raw_days plan)
    × ((day : ℤ) → (list_any (int_eq day) (raw_days plan) ≡ true) ↔ IsRaw plan day)

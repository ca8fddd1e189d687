-- Lemmas on the schedule of a swap whose terms are in range.
use Rattle.std.proofs.Common.{◌≡◌, ℕ, zero, suc, ◌*◌, ◌/◌, ◌≤◌, arith, refl, sym, ap, subst, ◌∙◌, ◌⊎◌, inl, inr, ℤ, pos, negsuc, ◌+ℤ◌, ◌-ℤ◌, ◌*ℤ◌, ◌<ℤ◌, ◌≤ℤ◌, unsigned_abs, true, false, Bool, if◌then◌else◌, List, [], ◌++◌, length, length-append, Option, Some, None, is_some, Ok, Err, w32, FitsSigned}
use Rattle.std.proofs.lemmas.Int.{ints}
use Rattle.std.proofs.Math.Nat.{div-le_of_le-mul}
use Rattle.std.specs.List.{cons_option}
use Rattle.std.specs.Int.Signed.{le_z}
use Rattle.day_number.specs.Day.{IsDayNumber}
use Rattle.day_number.specs.Tenor.{IsTenor, unit_limit}
use Rattle.day_number.specs.declared.tenors.Unit.{Unit as TimeUnit}
use Rattle.day_number.specs.declared.tenors.Unit.TheVariants.{Days, Weeks, Months, Years}
use Rattle.day_number.specs.declared.tenors.Tenor.{Tenor}
use Rattle.day_shift.proofs.SearchLemmas.{le_z-true, le_z-false}
use Rattle.day_shift.specs.Month.{month_at}
use Rattle.schedule_rules.specs.declared.plans.Plan.{Plan}
use Rattle.schedule_rules.specs.declared.plans.Rule.TheVariants.{Backward}
use Rattle.schedule_rules.specs.declared.faults.PlanFault.{PlanFault}
use Rattle.schedule_rules.specs.declared.faults.PlanFault.TheVariants.{Collapsed, DateRange, NoMemory}
use Rattle.schedule_rules.specs.Step.{units_on, least_days, most_steps, step, steps_from}
use Rattle.schedule_rules.specs.Raw.{rising, raw_days, raw_or_fault, named_days}
use Rattle.schedule_rules.proofs.EndsLaw.{schedules_go_by_the_days}
use Rattle.std.specs.Borrow.{Bor}
use Rattle.holiday_calendars.specs.declared.calendars.Calendar.{Calendar}
use Rattle.curve_terms.specs.declared.terms.Helper.{Helper}
use Rattle.schedule_rules.specs.Terms.{fault_of_terms}
use Rattle.schedule_rules.specs.Schedule.{schedule, on_ok, rising_or_fault, each_of, adjusted_raw, ended_or_fault, ended}
use Rattle.schedule_rules.proofs.MoveLemmas.{moved-far_on, months_most}
use Rattle.schedule_rules.proofs.RawLemmas.{length-put_most, few}
use Rattle.curve_terms.specs.Terms.{IsOfMonths, CountsMonths}
use Rattle.std.specs.Ordering.{int_eq}
use Rattle.curve_bootstrap.specs.declared.faults.HelperFault.TheVariants as helper_fault
use Rattle.curve_bootstrap.specs.Built.{Comes, plan_of, swap_to, swap_over, where_adjusted, swap_end}
use Rattle.day_number.specs.declared.conventions.Convention.{Convention}
use Rattle.holiday_calendars.specs.Calendar.{is_business_day}
use Rattle.day_shift.specs.Adjusted.{adjusted}

-- the count of a tenor fits its type
pub tenor_fits : (tenor : Tenor) → IsTenor tenor → FitsSigned w32 tenor.count
tenor_fits tenor range = by_unit tenor.unit range where
  by_unit : (unit : TimeUnit) → (pos 1 ≤ℤ tenor.count) × (tenor.count ≤ℤ pos (unit_limit unit)) → FitsSigned w32 tenor.count
  by_unit Days h = omega (arith, ints, h.0, h.1)
  by_unit Weeks h = omega (arith, ints, h.0, h.1)
  by_unit Months h = omega (arith, ints, h.0, h.1)
  by_unit Years h = omega (arith, ints, h.0, h.1)

-- the same of a count of months
month_count : (reference end count : ℤ) → IsDayNumber reference → pos 1 ≤ℤ count → count ≤ℤ pos 720 → month_at reference count ≡ Some end
    → (reference <ℤ end) × (end ≤ℤ (reference +ℤ pos 22323))
month_count reference end (pos zero) day low high is = absurd (omega (arith, ints))
month_count reference end (pos (suc n)) day low high is =
    let far = moved-far_on false Months reference end n day is in
    let most = months_most reference end (suc n) day is in
    (omega (arith, ints, far), omega (arith, ints, most))
month_count reference end (negsuc n) day low high is = absurd (omega (arith, ints))

-- how far a tenor of months leads: forward, and no farther than 60 years of months of 31 days
pub end_within : (unit : TimeUnit) (reference end count : ℤ) → IsDayNumber reference → CountsMonths unit → pos 1 ≤ℤ count → count ≤ℤ pos (unit_limit unit) → units_on unit reference count ≡ Some end
    → (reference <ℤ end) × (end ≤ℤ (reference +ℤ pos 22323))
end_within Days reference end count day months low high is = absurd months
end_within Weeks reference end count day months low high is = absurd months
end_within Months reference end count day months low high is = month_count reference end count day low high is
end_within Years reference end count day months low high is =
    month_count reference end (count *ℤ pos 12) day (omega (arith, ints)) (omega (arith, ints)) is

-- no more steps than fit between
length-steps : (plan : Plan) (k n : ℕ) → length (steps_from plan k n) ≤ n
unfolding steps_from
length-steps plan k zero = omega arith
length-steps plan k (suc n) = by_step (step plan k) (length-steps plan (suc k) n) where
  by_step : (o : Option ℤ) → length (steps_from plan (suc k) n) ≤ n → length (cons_option o (steps_from plan (suc k) n)) ≤ suc n
  by_step None h = omega arith
  by_step (Some day) h = omega arith

-- a plan of a swap in range
pub record IsSwapPlan (plan : Plan) : Type 0 where
  pub rule : plan.rule ≡ Backward
  pub first : plan.first ≡ None
  pub last : plan.last ≡ None
  pub order : plan.start <ℤ plan.end
  pub near : plan.end ≤ℤ (plan.start +ℤ pos 22323)
  pub every : IsOfMonths plan.tenor

-- its terms have no fault
pub no_fault : (plan : Plan) → IsSwapPlan plan → fault_of_terms plan ≡ None
no_fault plan swap =
    let order = le_z-false plan.end plan.start swap.order in
    let low = le_z-true (pos 1) plan.tenor.count swap.every.0.0 in
    let high = le_z-true plan.tenor.count (pos (unit_limit plan.tenor.unit)) swap.every.0.1 in
    rw (order, swap.rule, low, high, swap.first, swap.last) refl

-- its days are not too many
steps_few : (unit : TimeUnit) (count : ℤ) (far : ℕ) → CountsMonths unit → pos 1 ≤ℤ count → far ≤ 22323 → far / (unsigned_abs count * least_days unit) ≤ 798
steps_few Days count far months low near = absurd months
steps_few Weeks count far months low near = absurd months
steps_few Months count far months low near = div-le_of_le-mul (unsigned_abs count * 28) (omega (arith, ints))
steps_few Years count far months low near = div-le_of_le-mul (unsigned_abs count * 336) (omega (arith, ints))

pub raw_few : (plan : Plan) → IsSwapPlan plan → length (raw_days plan) ≤ 801
unfolding raw_days
raw_few plan swap =
    let steps = length-steps plan 1 (most_steps plan) in
    let near = steps_few plan.tenor.unit plan.tenor.count (unsigned_abs (plan.end -ℤ plan.start)) swap.every.1 swap.every.0.0 (omega (arith, ints, swap.near, swap.order)) in
    let all = length-put_most (named_days plan ++ steps_from plan 1 (most_steps plan)) [] in
    let named : length (named_days plan) ≡ 2 = rw (swap.first, swap.last) refl in
    omega (arith, all, named, steps, near, length-append (named_days plan) (steps_from plan 1 (most_steps plan)))

-- only two faults come behind the days before they are adjusted
comes_by : (o : Option (List ℤ)) (start end : Option ℤ) (fault : PlanFault) → on_ok (rising_or_fault o) (λ days. ended_or_fault days start end) ≡ Err fault → Comes fault
comes_by None start end fault is = let same : DateRange ≡ fault = cc in subst Comes same tt
comes_by (Some days) None end fault is = let same : DateRange ≡ fault = cc in subst Comes same tt
comes_by (Some days) (Some start) None fault is = let same : DateRange ≡ fault = cc in subst Comes same tt
comes_by (Some days) (Some start) (Some end) fault is = by_test (le_z end start) is where
  by_test : (b : Bool) → (if b then Err Collapsed else Ok (ended end (rising days))) ≡ Err fault → Comes fault
  by_test true e = let same : Collapsed ≡ fault = cc in subst Comes same tt
  by_test false e = absurd cc

-- and none of the terms
pub comes : (business : ℤ → Bool) (plan : Plan) (fault : PlanFault) → IsSwapPlan plan → (fault ≡ NoMemory) ⊎ (schedule business plan ≡ Err fault) → Comes fault
unfolding schedule
comes business plan fault swap (inl memory) = rw memory tt
comes business plan fault swap (inr is) =
    let none = no_fault plan swap in
    let raw : raw_or_fault plan ≡ Ok (raw_days plan) = few (raw_days plan) (raw_few plan swap) in
    comes_by (each_of (adjusted_raw business plan) (raw_days plan)) (adjusted_raw business plan plan.start) (adjusted_raw business plan plan.end) fault (rw (none, raw) at is)

-- the plan of a swap whose tenors are in range
pub swap_plan : (calendar : Calendar) (reference : ℤ) (helper : Helper) (every : Tenor) (end : ℤ) → IsDayNumber reference → IsOfMonths helper.tenor → IsOfMonths every
    → units_on helper.tenor.unit reference helper.tenor.count ≡ Some end → IsSwapPlan (plan_of calendar reference helper every end)
swap_plan calendar reference helper every end day tenor often is =
    let within = end_within helper.tenor.unit reference end helper.tenor.count day tenor.1 tenor.0.0 tenor.0.1 is in
    record { rule = refl; first = refl; last = refl; order = within.0; near = within.1; every = often }

-- what a call says of a schedule, by the plan that holds no reference
pub fault_by : (business : ℤ → Bool) (plan : Plan) (cal : Bor Calendar) (fault : PlanFault) → (fault ≡ NoMemory) ⊎ (schedule business (record plan { cal = cal }) ≡ Err fault)
    → (fault ≡ NoMemory) ⊎ (schedule business plan ≡ Err fault)
fault_by business plan cal fault (inl memory) = inl memory
fault_by business plan cal fault (inr is) = inr (sym (schedules_go_by_the_days business plan cal) ∙ is)

pub not_memory : (business : ℤ → Bool) (plan : Plan) (fault : PlanFault) → (fault ≡ NoMemory) ⊎ (schedule business plan ≡ Err fault) → ¬ (fault ≡ NoMemory) → schedule business plan ≡ Err fault
not_memory business plan fault (inl memory) other = absurd (other memory)
not_memory business plan fault (inr is) other = is

-- the coupons of a swap by its schedule
pub swap_due : (calendar : Calendar) (reference : ℤ) (helper : Helper) (every : Tenor) (end : ℤ) → Some end ≡ units_on helper.tenor.unit reference helper.tenor.count
    → swap_to calendar reference helper every (units_on helper.tenor.unit reference helper.tenor.count)
    ≡ swap_over helper.counter (is_business_day calendar) (schedule (is_business_day calendar) (plan_of calendar reference helper every end))
swap_due calendar reference helper every end is = ap (swap_to calendar reference helper every) (sym is)

-- one convention, whichever of two alike is taken
pub alike : (business : ℤ → Bool) (convention : Convention) (b : Bool) (day : ℤ) → adjusted business (if b then convention else convention) day ≡ adjusted business convention day
alike business convention true day = refl
alike business convention false day = refl

no_end_by : (o : Option (List ℤ)) (start : Option ℤ) → on_ok (rising_or_fault o) (λ days. ended_or_fault days start None) ≡ Err DateRange
no_end_by None start = refl
no_end_by (Some days) None = refl
no_end_by (Some days) (Some start) = refl

-- where the end is adjusted to no day there is no schedule
no_end : (business : ℤ → Bool) (plan : Plan) → IsSwapPlan plan → adjusted_raw business plan plan.end ≡ None → schedule business plan ≡ Err DateRange
unfolding schedule
no_end business plan swap is =
    let none = no_fault plan swap in
    let raw : raw_or_fault plan ≡ Ok (raw_days plan) = few (raw_days plan) (raw_few plan swap) in
    rw (none, raw, is) (no_end_by (each_of (adjusted_raw business plan) (raw_days plan)) (adjusted_raw business plan plan.start))

kept_end : (adjusts : ℤ → Option ℤ) (found : Option ℤ) (end : ℤ) → Some end ≡ where_adjusted adjusts found → Some end ≡ found
kept_end adjusts None end is = absurd cc
kept_end adjusts (Some day) end is = by_test (is_some (adjusts day)) is where
  by_test : (b : Bool) → Some end ≡ (if b then Some day else None) → Some end ≡ Some day
  by_test true e = e
  by_test false e = absurd cc

-- the end of a swap is the day that its tenor leads to
pub end_there : (calendar : Calendar) (reference : ℤ) (helper : Helper) (end : ℤ) → Some end ≡ swap_end calendar reference helper → Some end ≡ units_on helper.tenor.unit reference helper.tenor.count
end_there calendar reference helper end is = kept_end (adjusted (is_business_day calendar) helper.conv) (units_on helper.tenor.unit reference helper.tenor.count) end is

-- where it has no end it has no coupons
pub no_coupons : (calendar : Calendar) (reference : ℤ) (helper : Helper) (every : Tenor) → IsDayNumber reference → IsOfMonths helper.tenor → IsOfMonths every
    → swap_end calendar reference helper ≡ None → swap_to calendar reference helper every (units_on helper.tenor.unit reference helper.tenor.count) ≡ Err helper_fault.DateRange
no_coupons calendar reference helper every day tenor often is = by_end (units_on helper.tenor.unit reference helper.tenor.count) refl is where
  by_test : (end : ℤ) → units_on helper.tenor.unit reference helper.tenor.count ≡ Some end → (o : Option ℤ) → adjusted (is_business_day calendar) helper.conv end ≡ o
      → (if is_some o then Some end else None) ≡ None → swap_to calendar reference helper every (Some end) ≡ Err helper_fault.DateRange
  by_test end led (Some d) e none = absurd cc
  by_test end led None e none =
      let plan = plan_of calendar reference helper every end in
      let raw : adjusted_raw (is_business_day calendar) plan end ≡ None = alike (is_business_day calendar) helper.conv (int_eq end end) end ∙ e in
      ap (swap_over helper.counter (is_business_day calendar)) (no_end (is_business_day calendar) plan (swap_plan calendar reference helper every end day tenor often led) raw)

  by_end : (o : Option ℤ) → units_on helper.tenor.unit reference helper.tenor.count ≡ o → where_adjusted (adjusted (is_business_day calendar) helper.conv) o ≡ None
      → swap_to calendar reference helper every o ≡ Err helper_fault.DateRange
  by_end None led none = refl
  by_end (Some end) led none = by_test end led (adjusted (is_business_day calendar) helper.conv end) refl none

-- A schedule begins with the adjusted start and ends with the adjusted end, whatever holds its calendar.
use Rattle.std.proofs.Common.{◌≡◌, ℕ, zero, suc, ◌-◌, Bool, true, false, not, ◌⊎◌, inl, inr, List, [], ◌∷◌, ◌++◌, length, slice_get, if◌then◌else◌, Option, Some, None, Result, Ok, Err, IfOk, Bor, refl, sym, ap, ◌∙◌, arith, ℤ, ◌<ℤ◌, ◌≤ℤ◌}
use Rattle.std.proofs.lemmas.Int.{ints}
use Rattle.std.proofs.lemmas.List.{length_push}
use Rattle.std.specs.Int.Signed.{le_z}
use Rattle.std.specs.List.{cons_option, filter}
use Rattle.std.specs.Ordering.{int_cmp, int_eq}
use Rattle.std.specs.declared.cmp.Ordering.TheVariants.{Less}
use Rattle.std.specs.List.Sorted.{IsStrictlySortedBy}
use Rattle.jiff_core.proofs.SignedLemmas.{signed_arith}
use Rattle.day_number.specs.Day.{IsDayNumber}
use Rattle.holiday_calendars.specs.declared.calendars.Calendar.{Calendar}
use Rattle.day_shift.specs.Adjusted.{kept_or, adjusted}
use Rattle.day_shift.proofs.OrderLemmas.{adjusted_keeps_order}
use Rattle.day_shift.proofs.SetLemmas.{by_test}
use Rattle.schedule_rules.specs.declared.plans.Plan.{Plan}
use Rattle.schedule_rules.specs.declared.plans.Rule.{Rule}
use Rattle.schedule_rules.specs.declared.plans.Rule.TheVariants.{Backward, Forward, Zero}
use Rattle.schedule_rules.specs.declared.faults.PlanFault.{PlanFault}
use Rattle.schedule_rules.specs.declared.faults.PlanFault.TheVariants.{Collapsed}
use Rattle.schedule_rules.specs.Raw.{IsRaw, raw_or_fault, raw_days, rising, named_days, few_or_fault}
use Rattle.schedule_rules.specs.Schedule.{adjusted_raw, adjusted_or_fault, ended, ended_or_fault, on_ok, dated, unless, schedule, IsAdjusted, AreDaysOf, SchedulesBeginAndEnd, SchedulesGoByTheDays}
use Rattle.schedule_rules.specs.Step.{moved as at, seed_by, count_by, is_inside, step, steps_from, most_steps}
use Rattle.schedule_rules.specs.Terms.{is_stub, fault_of_terms}
use Rattle.schedule_rules.proofs.PlanLemmas.{InOrder, in_order, step-room, seed-in_range}
use Rattle.schedule_rules.proofs.RisingLemmas.{Rises, AllAfter, has, or_cases, or_left, same_day, day_itself}
use Rattle.schedule_rules.proofs.ScheduleLaw.{Days, behind, in_terms, ended-is, schedules_are_adjusted_days}

-- the least of rising days is the first
after-has : (days : List ℤ) (x day : ℤ) → AllAfter x days → has days day ≡ true → int_cmp x day ≡ Less
after-has [] x day h is = absurd (cc)
after-has (y ∷ days) x day h is =
    elim (or_cases (int_eq day y) (has days day) is) [
      | inl same ↦ ap (int_cmp x) (same_day day y same) ∙ h.0
      | inr later ↦ after-has days x day h.1 later
    ]

not_less : (x day : ℤ) → day ≤ℤ x → int_cmp x day ≡ Less → ⊥
not_less x day le e = grind (arith, ints)

first-least : (days : List ℤ) (first : ℤ) → Rises days → has days first ≡ true → ((day : ℤ) → has days day ≡ true → first ≤ℤ day) → slice_get days 0 ≡ Some first
unfolding IsStrictlySortedBy
first-least [] first rises is least = absurd (cc)
first-least (x ∷ days) first rises is least =
    elim (or_cases (int_eq first x) (has days first) is) [
      | inl same ↦ ap Some (sym (same_day first x same))
      | inr later ↦ absurd (not_less x first (least x (or_left (int_eq x x) (has days x) (day_itself x))) (after-has days x first rises.0 later))
    ]

-- what comes last is the last
last-pushed : (days : List ℤ) (day : ℤ) → slice_get (days ++ day ∷ []) (length days) ≡ Some day
last-pushed [] day = refl
last-pushed (x ∷ days) day = last-pushed days day

last-ended : (days : List ℤ) (end : ℤ) → slice_get (ended end days) (length (ended end days) - 1) ≡ Some end
last-ended days end =
    let kept = filter (λ day. not (le_z end day)) days in
    let place : length (kept ++ end ∷ []) - 1 ≡ length kept = omega (arith, length_push kept end) in
    ap (slice_get (kept ++ end ∷ [])) place ∙ last-pushed kept end

-- a raw day lies between start and end
between : (plan : Plan) (day : ℤ) → InOrder plan → IsDayNumber (seed_by plan.rule plan) → IsRaw plan day → (plan.start ≤ℤ day) × (day ≤ℤ plan.end)
between plan day terms seed (inl e) =
    (omega (arith, signed_arith, e), omega (arith, signed_arith, e, terms.order))
between plan day terms seed (inr (inl e)) =
    (omega (arith, signed_arith, e, terms.order), omega (arith, signed_arith, e))
between plan day terms seed (inr (inr (inl e))) =
    let stub = terms.first day e in (omega (arith, signed_arith, stub.0), omega (arith, signed_arith, stub.1))
between plan day terms seed (inr (inr (inr (inl e)))) =
    let stub = terms.last day e in (omega (arith, signed_arith, stub.0), omega (arith, signed_arith, stub.1))
between plan day terms seed (inr (inr (inr (inr is)))) =
    let room = step-room plan is.0 day terms seed is.1 is.2 in (room.low, room.high)

-- the convention of a raw day is the end's for the end and the plan's for any other day
by_conv : (business : ℤ → Bool) (plan : Plan) (raw found : ℤ) → adjusted_raw business plan raw ≡ Some found → (raw ≡ plan.end) ⊎ (adjusted business plan.conv raw ≡ Some found)
by_conv business plan raw found e =
    by_test (int_eq raw plan.end)
    (λ holds. inl (same_day raw plan.end holds))
    (λ fails. inr (sym (ap (λ b. adjusted business (if b then plan.end_conv else plan.conv) raw) fails) ∙ e))

-- the adjusted start and the adjusted end, the one before the other
record Ends (o p : Option ℤ) : Type 0 where
  start : ℤ
  end : ℤ
  start_is : o ≡ Some start
  end_is : p ≡ Some end
  before : start <ℤ end

ends-by : (b : Bool) (start end : ℤ) (days dates : List ℤ) → b ≡ le_z end start → ◌≡◌ {A = Days} (if b then Err Collapsed else Ok days) (Ok dates) → start <ℤ end
ends-by true start end days dates is e = absurd (cc)
ends-by false start end days dates is e = grind (arith, ints)

ends : (days : List ℤ) (o p : Option ℤ) (dates : List ℤ) → ended_or_fault days o p ≡ Ok dates → Ends o p
ends days (Some start) (Some end) dates e =
    record { start = start; end = end; start_is = refl; end_is = refl; before = ends-by (le_z end start) start end (ended end days) dates refl e }
ends days (Some start) None dates e = absurd (cc)
ends days None p dates e = absurd (cc)

module _ (business : ℤ → Bool) (plan : Plan) (start end : ℤ) (first : IsDayNumber plan.start) (last : IsDayNumber plan.end) (terms : InOrder plan) (start_is : adjusted_raw business plan plan.start ≡ Some start) (end_is : adjusted_raw business plan plan.end ≡ Some end) (before : start <ℤ end) where
  start_not_after : (day : ℤ) → (day ≡ end) ⊎ ((day <ℤ end) × IsAdjusted business plan day) → start ≤ℤ day
  start_not_after day (inl e) = omega (arith, signed_arith, e, before)
  start_not_after day (inr is) =
      let raw = is.1.0 in
      let seed = seed-in_range plan terms first last in
      let range = between plan raw terms seed is.1.1 in
      elim (by_conv business plan raw day is.1.2) [
        | inl e ↦
            let same = sym (ap (adjusted_raw business plan) e) ∙ is.1.2 in
            let own : end ≡ day = let is_end = end_is in cc in
            omega (arith, signed_arith, own, before)
        | inr own ↦ elim (by_conv business plan plan.start start start_is) [
          | inl e ↦ absurd (omega (arith, signed_arith, e, terms.order))
          | inr begun ↦ adjusted_keeps_order business plan.conv plan.start raw start day first (omega (arith, signed_arith, range.0, first.0), omega (arith, signed_arith, range.1, last.1)) range.0 begun own
        ]
      ]

pub schedules_begin_and_end : SchedulesBeginAndEnd
unfolding schedule
schedules_begin_and_end business plan dates first last e =
    let terms = in_terms (fault_of_terms plan) (dated business plan) dates e in
    let order = in_order plan terms.none in
    let makes = adjusted_raw business plan in
    let seed = seed-in_range plan order first last in
    let raw = behind (raw_or_fault plan) (λ raw. on_ok (adjusted_or_fault business plan raw) (λ days. ended_or_fault days (makes plan.start) (makes plan.end))) dates terms.is in
    let days = behind (adjusted_or_fault business plan raw.days) (λ days. ended_or_fault days (makes plan.start) (makes plan.end)) dates raw.then_is in
    let both = ends days.days (makes plan.start) (makes plan.end) dates days.then_is in
    let is = schedules_are_adjusted_days business plan dates both.end seed e both.end_is in
    let own = ap (ended_or_fault days.days (makes plan.start)) (sym both.end_is) ∙ days.then_is in
    let same = ended-is days.days (makes plan.start) both.end dates own in
    let begun = (is.1 both.start).1 (inr (both.before, (plan.start, inl refl, both.start_is))) in
    let least = λ (day : ℤ) (h : has dates day ≡ true). start_not_after business plan both.start both.end first last order both.start_is both.end_is both.before day ((is.1 day).0 h) in (
      first-least dates both.start is.0 begun least ∙ sym both.start_is,
      ap (λ ds. slice_get ds (length ds - 1)) (sym same) ∙ last-ended days.days both.end ∙ sym both.end_is,
    )

-- not after the end is what is the end or before it
not_after_end : (business : ℤ → Bool) (plan : Plan) (end day : ℤ) → (day ≡ end) ⊎ ((day <ℤ end) × IsAdjusted business plan day) → day ≤ℤ end
not_after_end business plan end day (inl e) = omega (arith, signed_arith, e)
not_after_end business plan end day (inr is) = let less = is.0 in omega (arith, signed_arith, less)

-- the days of a schedule as a set
are_days : (business : ℤ → Bool) (plan : Plan) (dates : List ℤ) → IsDayNumber plan.start → IsDayNumber plan.end → schedule business plan ≡ Ok dates → AreDaysOf business plan dates
unfolding schedule
are_days business plan dates first last e =
    let terms = in_terms (fault_of_terms plan) (dated business plan) dates e in
    let order = in_order plan terms.none in
    let makes = adjusted_raw business plan in
    let seed = seed-in_range plan order first last in
    let raw = behind (raw_or_fault plan) (λ raw. on_ok (adjusted_or_fault business plan raw) (λ days. ended_or_fault days (makes plan.start) (makes plan.end))) dates terms.is in
    let days = behind (adjusted_or_fault business plan raw.days) (λ days. ended_or_fault days (makes plan.start) (makes plan.end)) dates raw.then_is in
    let both = ends days.days (makes plan.start) (makes plan.end) dates days.then_is in
    let is = schedules_are_adjusted_days business plan dates both.end seed e both.end_is in
    record {
      start = both.start;
      end = both.end;
      start_is = both.start_is;
      end_is = both.end_is;
      rising = is.0;
      within = λ (day : ℤ) (h : has dates day ≡ true). (
        start_not_after business plan both.start both.end first last order both.start_is both.end_is both.before day ((is.1 day).0 h),
        not_after_end business plan both.end day ((is.1 day).0 h),
      );
      set = is.1;
    }

pub days-ok : (business : ℤ → Bool) (plan : Plan) (r : Result (List ℤ) PlanFault) → IsDayNumber plan.start → IsDayNumber plan.end → IfOk r (λ dates. schedule business plan ≡ Ok dates) → IfOk r (AreDaysOf business plan)
days-ok business plan (Ok dates) first last e = are_days business plan dates first last e
days-ok business plan (Err fault) first last e = tt

-- the first and the last day of an answer
pub first-ok : (business : ℤ → Bool) (plan : Plan) (r : Result (List ℤ) PlanFault) → IsDayNumber plan.start → IsDayNumber plan.end → IfOk r (λ dates. schedule business plan ≡ Ok dates) → IfOk r (λ dates. slice_get dates 0 ≡ adjusted_raw business plan plan.start)
first-ok business plan (Ok dates) first last e = (schedules_begin_and_end business plan dates first last e).0
first-ok business plan (Err fault) first last e = tt

pub last-ok : (business : ℤ → Bool) (plan : Plan) (r : Result (List ℤ) PlanFault) → IsDayNumber plan.start → IsDayNumber plan.end → IfOk r (λ dates. schedule business plan ≡ Ok dates) → IfOk r (λ dates. slice_get dates (length dates - 1) ≡ adjusted_raw business plan plan.end)
last-ok business plan (Ok dates) first last e = (schedules_begin_and_end business plan dates first last e).1
last-ok business plan (Err fault) first last e = tt

-- nothing of a schedule reads the reference
abbrev held : Plan → Bor Calendar → Plan
held plan cal = record plan { cal = cal }

abbrev step_by : Rule → Plan → ℕ → Option ℤ
step_by rule plan k =
    kept_or (is_inside rule plan) (at plan.eom plan.tenor.unit (seed_by rule plan) (count_by rule plan.tenor k)) None

step-by_same : (rule : Rule) (plan : Plan) (cal : Bor Calendar) (k : ℕ) → step_by rule (held plan cal) k ≡ step_by rule plan k
step-by_same Backward plan cal k = refl
step-by_same Forward plan cal k = refl
step-by_same Zero plan cal k = refl

step-same : (plan : Plan) (cal : Bor Calendar) (k : ℕ) → step (held plan cal) k ≡ step plan k
unfolding step
step-same plan cal k = step-by_same plan.rule plan cal k

steps-same : (n : ℕ) (plan : Plan) (cal : Bor Calendar) (k : ℕ) → steps_from (held plan cal) k n ≡ steps_from plan k n
unfolding steps_from
steps-same zero plan cal k = refl
steps-same (suc n) plan cal k =
    ap (λ o. cons_option o (steps_from (held plan cal) (suc k) n)) (step-same plan cal k)
    ∙ ap (cons_option (step plan k)) (steps-same n plan cal (suc k))

raw-same : (plan : Plan) (cal : Bor Calendar) → raw_days (held plan cal) ≡ raw_days plan
unfolding raw_days
raw-same plan cal = ap (λ steps. rising (named_days plan ++ steps)) (steps-same (most_steps plan) plan cal 1)

stub-same : (plan : Plan) (cal : Bor Calendar) (stub : Option ℤ) → is_stub (held plan cal) stub ≡ is_stub plan stub
stub-same plan cal None = refl
stub-same plan cal (Some day) = refl

fault-same : (plan : Plan) (cal : Bor Calendar) → fault_of_terms (held plan cal) ≡ fault_of_terms plan
fault-same plan cal =
    rw (stub-same plan cal plan.first, stub-same plan cal plan.last) refl

pub schedules_go_by_the_days : SchedulesGoByTheDays
unfolding schedule
schedules_go_by_the_days business plan cal =
    let makes = adjusted_raw business plan in
    let rest = λ (raw : List ℤ). on_ok (few_or_fault raw) (λ raw. on_ok (adjusted_or_fault business plan raw) (λ days. ended_or_fault days (makes plan.start) (makes plan.end))) in
    ap (λ raw. unless (fault_of_terms (held plan cal)) (rest raw)) (raw-same plan cal)
    ∙ ap (λ o. unless o (dated business plan)) (fault-same plan cal)

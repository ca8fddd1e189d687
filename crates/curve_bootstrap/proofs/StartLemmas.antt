-- Lemmas on the days of a swap that starts on any day, which may be a holiday.
use Rattle.std.proofs.Common.{◌≡◌, inl, inr, sym, ap, ◌∙◌, arith, Bool, true, if◌then◌else◌, Option, Some, None, ℤ, ◌-ℤ◌, ◌<ℤ◌, List}
use Rattle.std.proofs.lemmas.Int.{ints, by_lt_z}
use Rattle.std.proofs.lemmas.Option.{none-some, same_Some}
use Rattle.std.specs.Borrow.{Bor}
use Rattle.std.specs.Int.Signed.{le_z}
use Rattle.std.specs.List.{list_any}
use Rattle.std.specs.Ordering.{int_eq}
use Rattle.jiff_core.proofs.SignedLemmas.{signed_arith}
use Rattle.day_number.specs.Day.{IsDayNumber}
use Rattle.day_number.specs.declared.conventions.Convention.{Convention}
use Rattle.day_number.specs.declared.conventions.Convention.TheVariants.{Unadjusted, Following, Preceding, ModifiedFollowing, ModifiedPreceding, HalfMonthModifiedFollowing, Nearest}
use Rattle.holiday_calendars.specs.declared.calendars.Calendar.{Calendar}
use Rattle.day_shift.specs.Business.{IsBusinessDay, next, previous}
use Rattle.day_shift.specs.Adjusted.{kept_or, nearer, adjusted}
use Rattle.day_shift.proofs.OpenLemmas.{adjusted_is_open}
use Rattle.day_shift.proofs.SetLemmas.{by_test, next-is, previous-is}
use Rattle.schedule_rules.specs.declared.plans.Plan.{Plan}
use Rattle.schedule_rules.specs.Raw.{IsRaw}
use Rattle.schedule_rules.specs.Schedule.{adjusted_raw, AreDaysOf}
use Rattle.schedule_rules.proofs.PlanLemmas.{in_order, step-room, seed-in_range}
use Rattle.curve_bootstrap.proofs.SwapLemmas.{IsSwapPlan, no_fault, alike}

-- what holds of both kinds holds of the one that is kept
kept_either : (P : ℤ → Type 0) (passes : ℤ → Bool) (one other : Option ℤ) (found : ℤ) → ((x : ℤ) → one ≡ Some x → P x) → ((x : ℤ) → other ≡ Some x → P x) → kept_or passes one other ≡ Some found → P found
kept_either P passes None other found a b e = absurd (none-some found e)
kept_either P passes (Some x) other found a b e =
    by_test (passes x)
    (λ holds. a found (sym (ap (λ v. if v then Some x else other) holds) ∙ e))
    (λ fails. b found (sym (ap (λ v. if v then Some x else other) fails) ∙ e))

nearer_either : (P : ℤ → Type 0) (day : ℤ) (one other : Option ℤ) (found : ℤ) → ((x : ℤ) → one ≡ Some x → P x) → ((x : ℤ) → other ≡ Some x → P x) → nearer day one other ≡ Some found → P found
nearer_either P day None other found a b e = b found e
nearer_either P day (Some later) None found a b e = a found e
nearer_either P day (Some later) (Some earlier) found a b e =
    by_test (le_z (later -ℤ day) (day -ℤ earlier))
    (λ holds. a found (sym (ap (λ v. if v then Some later else Some earlier) holds) ∙ e))
    (λ fails. b found (sym (ap (λ v. if v then Some later else Some earlier) fails) ∙ e))

-- no business day lies after what was found and up to the day
abbrev Passes : (ℤ → Bool) → ℤ → ℤ → Type 0
Passes business day found = (x : ℤ) → IsBusinessDay business x → found <ℤ x → day <ℤ x

next_passes : (business : ℤ → Bool) (day found : ℤ) → IsDayNumber day → next business day ≡ Some found → Passes business day found
next_passes business day found h e x is_open less = let from = (next-is business day found h e).1 in omega (arith, ints, from, less)

previous_passes : (business : ℤ → Bool) (day found : ℤ) → IsDayNumber day → previous business day ≡ Some found → Passes business day found
previous_passes business day found h e x is_open less =
    by_lt_z day x
    (λ lt. lt)
    (λ ge. let up = (previous-is business day found h e).2 x is_open ge in absurd (omega (arith, ints, up, less)))

-- no business day lies between a day and the day that it is adjusted to
none_between : (business : ℤ → Bool) (convention : Convention) (day found : ℤ) → IsDayNumber day → adjusted business convention day ≡ Some found → Passes business day found
unfolding adjusted
none_between business Unadjusted day found h e = λ x is_open less. let same = same_Some day found e in omega (arith, ints, same, less)
none_between business Following day found h e = next_passes business day found h e
none_between business Preceding day found h e = previous_passes business day found h e
none_between business ModifiedFollowing day found h e =
    kept_either (Passes business day) _ (next business day) (previous business day) found (λ x. next_passes business day x h) (λ x. previous_passes business day x h) e
none_between business ModifiedPreceding day found h e =
    kept_either (Passes business day) _ (previous business day) (next business day) found (λ x. previous_passes business day x h) (λ x. next_passes business day x h) e
none_between business HalfMonthModifiedFollowing day found h e =
    kept_either (Passes business day) _ (next business day) (previous business day) found (λ x. next_passes business day x h) (λ x. previous_passes business day x h) e
none_between business Nearest day found h e =
    nearer_either (Passes business day) day (next business day) (previous business day) found (λ x. next_passes business day x h) (λ x. previous_passes business day x h) e

-- an unadjusted day stays
unmoved : (business : ℤ → Bool) (day found x : ℤ) → adjusted business Unadjusted day ≡ Some found → found <ℤ x → day <ℤ x
unfolding adjusted
unmoved business day found x a less = let same = same_Some day found a in omega (arith, ints, same, less)

-- a day that is adjusted to a later one than another is adjusted to is later than that other
later_than : (business : ℤ → Bool) (convention : Convention) (day found raw x : ℤ) → IsDayNumber day → IsDayNumber raw
    → adjusted business convention day ≡ Some found → adjusted business convention raw ≡ Some x → found <ℤ x → day <ℤ x
later_than business Unadjusted day found raw x h k a b less = unmoved business day found x a less
later_than business Following day found raw x h k a b less = none_between business Following day found h a x (adjusted_is_open business Following raw x k (λ e. cc) b) less
later_than business Preceding day found raw x h k a b less = none_between business Preceding day found h a x (adjusted_is_open business Preceding raw x k (λ e. cc) b) less
later_than business ModifiedFollowing day found raw x h k a b less = none_between business ModifiedFollowing day found h a x (adjusted_is_open business ModifiedFollowing raw x k (λ e. cc) b) less
later_than business ModifiedPreceding day found raw x h k a b less = none_between business ModifiedPreceding day found h a x (adjusted_is_open business ModifiedPreceding raw x k (λ e. cc) b) less
later_than business HalfMonthModifiedFollowing day found raw x h k a b less = none_between business HalfMonthModifiedFollowing day found h a x (adjusted_is_open business HalfMonthModifiedFollowing raw x k (λ e. cc) b) less
later_than business Nearest day found raw x h k a b less = none_between business Nearest day found h a x (adjusted_is_open business Nearest raw x k (λ e. cc) b) less

-- a plan of a swap is one whatever holds its calendar
pub with_cal : (plan : Plan) (cal : Bor Calendar) → IsSwapPlan plan → IsSwapPlan (record plan { cal = cal })
with_cal plan cal swap = record { rule = swap.rule; first = swap.first; last = swap.last; order = swap.order; near = swap.near; every = swap.every }

-- a raw day of a swap is a day of the range
raw_in_range : (plan : Plan) (raw : ℤ) → IsSwapPlan plan → IsDayNumber plan.start → IsDayNumber plan.end → IsRaw plan raw → IsDayNumber raw
raw_in_range plan raw swap first last (inl e) = rw e first
raw_in_range plan raw swap first last (inr (inl e)) = rw e last
raw_in_range plan raw swap first last (inr (inr (inl e))) = absurd (none-some raw (sym swap.first ∙ e))
raw_in_range plan raw swap first last (inr (inr (inr (inl e)))) = absurd (none-some raw (sym swap.last ∙ e))
raw_in_range plan raw swap first last (inr (inr (inr (inr is)))) =
    let terms = in_order plan (no_fault plan swap) in
    let room = step-room plan is.0 raw terms (seed-in_range plan terms first last) is.1 is.2 in
    let low = room.low in
    let high = room.high in
    (omega (arith, signed_arith, low, first.0), omega (arith, signed_arith, high, last.1))

raw_by : (business : ℤ → Bool) (plan : Plan) (day : ℤ) → plan.end_conv ≡ plan.conv → adjusted_raw business plan day ≡ adjusted business plan.conv day
raw_by business plan day same = rw same (alike business plan.conv (int_eq day plan.end) day)

-- the days of a swap behind its first are after the day that it starts on
pub later_days : (business : ℤ → Bool) (plan : Plan) (dates : List ℤ) → IsSwapPlan plan → plan.end_conv ≡ plan.conv → IsDayNumber plan.start → IsDayNumber plan.end
    → (are : AreDaysOf business plan dates) (x : ℤ) → list_any (int_eq x) dates ≡ true → are.start <ℤ x → plan.start <ℤ x
later_days business plan dates swap same first last are x there less =
    let begun = sym (raw_by business plan plan.start same) ∙ are.start_is in
    elim ((are.set x).0 there) [
      | inl e ↦
          let ended = sym (raw_by business plan plan.end same) ∙ (are.end_is ∙ ap Some (sym e)) in
          later_than business plan.conv plan.start are.start plan.end x first last begun ended less
      | inr is ↦
          let own = sym (raw_by business plan is.1.0 same) ∙ is.1.2 in
          later_than business plan.conv plan.start are.start is.1.0 x first (raw_in_range plan is.1.0 swap first last is.1.1) begun own less
    ]

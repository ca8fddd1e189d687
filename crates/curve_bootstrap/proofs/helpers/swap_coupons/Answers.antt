use Rattle.std.proofs.Common.{Vec, Global, ◌≡◌, ◌⊎◌, ◌∙◌, refl, sym, ap, subst, ℤ, List, slice_get, Ok, Err}
use Rattle.day_number.specs.Day.{IsDayNumber}
use Rattle.holiday_calendars.specs.Calendar.{is_business_day}
use Rattle.schedule_rules.specs.declared.faults.PlanFault.TheVariants.{NoMemory}
use Rattle.schedule_rules.specs.Schedule.{schedule, AreDaysOf}
use Rattle.schedule_rules.proofs.EndsLaw.{schedules_go_by_the_days}
use Rattle.curve_bootstrap.specs.declared.coupons.Coupon.{Coupon}
use Rattle.curve_bootstrap.specs.Coupon.{AreCoupons}
use Rattle.curve_bootstrap.specs.Built.{plan_of, swap_over, periods, end_of}
use Rattle.curve_bootstrap.proofs.CouponLemmas.{periods_are}
use Rattle.curve_bootstrap.proofs.GivenLemmas.{gives_by, given_fits, gives_fault}
use Rattle.curve_bootstrap.proofs.StartLemmas.{with_cal, later_days}
use Rattle.curve_bootstrap.proofs.SwapLemmas.{IsSwapPlan, swap_plan, comes, fault_by, not_memory, swap_due, end_there, no_coupons}
use Rattle.curve_bootstrap.proofs.helpers.swap_coupons.Goals as goal
use Rattle.curve_bootstrap.proofs.helpers.swap_coupons.Goals.{In-Err}

swap : (c : In-Err) → IsSwapPlan (plan_of c.args.calendar.now c.args.reference c.args.helper.now c.args.every c.in-Some.end)
swap c = swap_plan c.args.calendar.now c.args.reference c.args.helper.now c.args.every c.in-Some.end (subst (λ (d : ℤ). IsDayNumber d) c.number-start.ensures.value c.number-start.ensures.range) c.requires.tenor c.requires.every (sym (end_there c.args.calendar.now c.args.reference c.args.helper.now c.in-Some.end c.in-Some.ensures))

due_fault : (c : In-Err) → (c.in-Err.fault ≡ NoMemory) ⊎ (schedule (is_business_day c.args.calendar.now) (plan_of c.args.calendar.now c.args.reference c.args.helper.now c.args.every c.in-Some.end) ≡ Err c.in-Err.fault)
due_fault c = fault_by (is_business_day c.args.calendar.now) (plan_of c.args.calendar.now c.args.reference c.args.helper.now c.args.every c.in-Some.end) c.args.calendar c.in-Err.fault c.in-Err.ensures.fault

pub refused_by-requires : goal.refused_by-requires
refused_by-requires c = comes (is_business_day c.args.calendar.now) _ c.in-Err.fault (swap c) (due_fault c)

pub returns-in-Err-clause-given : goal.returns-in-Err-clause-given
returns-in-Err-clause-given c =
    gives_fault {X = Vec Coupon Global} {Y = List Coupon} (λ cs. cs.items) _ c.in-Err.fault c.refused_by.result (refused_by-requires c.before)
    (λ other. swap_due c.args.calendar.now c.args.reference c.args.helper.now c.args.every c.in-Some.end (end_there c.args.calendar.now c.args.reference c.args.helper.now c.in-Some.end c.in-Some.ensures)
    ∙ ap (swap_over c.args.helper.now.counter (is_business_day c.args.calendar.now)) (not_memory (is_business_day c.args.calendar.now) _ c.in-Err.fault (due_fault c.before) other)) c.refused_by.ensures

pub returns-in-Ok-clause-given : goal.returns-in-Ok-clause-given
returns-in-Ok-clause-given c =
    let plan = plan_of c.args.calendar.now c.args.reference c.args.helper.now c.args.every c.in-Some.end in
    let days : schedule (is_business_day c.args.calendar.now) plan ≡ Ok c.dates.result.now =
    sym (schedules_go_by_the_days (is_business_day c.args.calendar.now) plan c.args.calendar) ∙ (c.in-Ok.ensures.dates ∙ ap Ok (sym c.dates.ensures.days)) in
    gives_by _ _ _ _ (sym (swap_due c.args.calendar.now c.args.reference c.args.helper.now c.args.every c.in-Some.end (end_there c.args.calendar.now c.args.reference c.args.helper.now c.in-Some.end c.in-Some.ensures) ∙ ap (swap_over c.args.helper.now.counter (is_business_day c.args.calendar.now)) days)) c.period_coupons.ensures

pub returns-in-Ok-clause-fits : goal.returns-in-Ok-clause-fits
returns-in-Ok-clause-fits c =
    let begins : IsDayNumber c.args.reference = subst (λ (d : ℤ). IsDayNumber d) c.number-start.ensures.value c.number-start.ensures.range in
    let ends : IsDayNumber c.in-Some.end = subst (λ (d : ℤ). IsDayNumber d) c.number-end.ensures.value c.number-end.ensures.range in
    let plan = record (plan_of c.args.calendar.now c.args.reference c.args.helper.now c.args.every c.in-Some.end) { cal = c.args.calendar } in
    let plain = swap_plan c.args.calendar.now c.args.reference c.args.helper.now c.args.every c.in-Some.end begins c.requires.tenor c.requires.every (sym (end_there c.args.calendar.now c.args.reference c.args.helper.now c.in-Some.end c.in-Some.ensures)) in
    let swap = with_cal (plan_of c.args.calendar.now c.args.reference c.args.helper.now c.args.every c.in-Some.end) c.args.calendar plain in
    let are = subst (λ (ds : List ℤ). AreDaysOf (is_business_day c.args.calendar.now) plan ds) (sym c.dates.ensures.days) c.in-Ok.ensures.days in
    let first = ap (λ (ds : List ℤ). slice_get ds 0) c.dates.ensures.days ∙ (c.in-Ok.ensures.first ∙ are.start_is) in
    given_fits _ (periods c.args.helper.now.counter (is_business_day c.args.calendar.now) c.dates.result.now) (λ (cs : List Coupon). AreCoupons c.args.reference (end_of c.args.reference cs) cs) c.period_coupons.result
    (periods_are c.args.helper.now.counter (is_business_day c.args.calendar.now) c.args.reference are.start c.dates.result.now c.dates.ensures.rising first
    (later_days (is_business_day c.args.calendar.now) plan c.dates.result.now swap refl begins ends are) c.dates.ensures.count.1) c.period_coupons.ensures

pub returns-in_default-clause-given : goal.returns-in_default-clause-given
returns-in_default-clause-given c = no_coupons c.args.calendar.now c.args.reference c.args.helper.now c.args.every (subst (λ (d : ℤ). IsDayNumber d) c.number-start.ensures.value c.number-start.ensures.range) c.requires.tenor c.requires.every (sym c.swap_end.ensures ∙ c.in_default.is)

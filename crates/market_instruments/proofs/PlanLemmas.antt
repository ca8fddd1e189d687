-- Faults of plans.
use Rattle.std.proofs.Common.{◌≡◌, ◌⊎◌, inl, inr, ◌∙◌, sym, refl, subst, List, ℤ, Bool, Err}
use Rattle.std.specs.Borrow.{Bor}
use Rattle.holiday_calendars.specs.declared.calendars.Calendar.{Calendar}
use Rattle.schedule_rules.specs.declared.plans.Plan.{Plan}
use Rattle.schedule_rules.specs.declared.faults.PlanFault.{PlanFault}
use Rattle.schedule_rules.specs.declared.faults.PlanFault.TheVariants.{Order, Tenor as TenorFault, Stub, TooMany, DateRange, Collapsed, NoMemory}
use Rattle.schedule_rules.specs.Schedule.{schedule}
use Rattle.schedule_rules.proofs.EndsLaw.{schedules_go_by_the_days}
use Rattle.market_tables.specs.declared.fault.MarketKind.TheVariants as fault
use Rattle.market_tables.specs.Given.{Fails}
use Rattle.market_instruments.specs.Schedules.{planned, plan_fault}

is_plan : (e : PlanFault) → Fails {Y = List ℤ} (plan_fault e) (Err fault.Plan)
is_plan Order = refl
is_plan TenorFault = refl
is_plan Stub = refl
is_plan TooMany = refl
is_plan DateRange = refl
is_plan Collapsed = refl
is_plan NoMemory = tt

-- the fault that a plan is refused with, by any reference to its calendar
pub fails : (business : ℤ → Bool) (plan : Plan) (cal : Bor Calendar) (e : PlanFault)
    → (e ≡ NoMemory) ⊎ (schedule business (record plan { cal = cal }) ≡ Err e)
    → Fails (plan_fault e) (planned (schedule business plan))
fails business plan cal e (inl memory) = subst (λ f. Fails (plan_fault f) (planned (schedule business plan))) (sym memory) tt
fails business plan cal e (inr is) =
    subst (λ days. Fails (plan_fault e) (planned days)) (sym (sym (schedules_go_by_the_days business plan cal) ∙ is)) (is_plan e)

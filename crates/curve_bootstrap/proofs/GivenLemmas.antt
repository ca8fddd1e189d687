-- Lemmas on answers that give what is due, or are refused for want of memory.
use Rattle.std.proofs.Common.{◌≡◌, Result, Ok, Err, IfOk, subst}
use Rattle.schedule_rules.specs.declared.faults.PlanFault.{PlanFault}
use Rattle.schedule_rules.specs.declared.faults.PlanFault.TheVariants.{Collapsed, DateRange as PlanRange, Order, Tenor as TenorFault, Stub, TooMany, NoMemory as PlanMemory}
use Rattle.curve_bootstrap.specs.declared.faults.HelperFault.{HelperFault}
use Rattle.curve_bootstrap.specs.Built.{Comes, fault_of, GivesHelper}

-- what gives one thing gives another that it equals
pub gives_by : {X Y : Type 0} (view : X → Y) (a b : Result Y HelperFault) (r : Result X HelperFault) → a ≡ b → GivesHelper view a r → GivesHelper view b r
gives_by view a b r same given = subst (λ (d : Result _ HelperFault). GivesHelper view d r) same given

-- what holds of what is due holds of what is given
pub given_fits : {X Y : Type 0} (view : X → Y) (due : Y) (P : Y → Type 0) (r : Result X HelperFault) → P due → GivesHelper view (Ok due) r → IfOk r (λ x. P (view x))
given_fits view due P (Ok x) holds given = let same : due ≡ view x = cc in subst P same holds
given_fits view due P (Err fault) holds given = tt

-- the fault of a schedule is the helper's
pub gives_fault : {X Y : Type 0} (view : X → Y) (due : Result Y HelperFault) (fault : PlanFault) (found : HelperFault) → Comes fault → (¬ (fault ≡ PlanMemory) → due ≡ Err (fault_of fault)) → found ≡ fault_of fault
    → GivesHelper {X = X} {Y = Y} view due (Err found)
gives_fault view due Order found comes is same = absurd comes
gives_fault view due TenorFault found comes is same = absurd comes
gives_fault view due Stub found comes is same = absurd comes
gives_fault view due TooMany found comes is same = absurd comes
gives_fault view due PlanRange found comes is same = rw same (is (λ e. cc))
gives_fault view due Collapsed found comes is same = rw same (is (λ e. cc))
gives_fault view due PlanMemory found comes is same = rw same tt

-- Whether the terms of a plan are in order.
use Rattle.std.specs.Prelude.{Bool, true, false, not, ◌&&◌, if◌then◌else◌, Option, Some, None, ℤ, pos}
use Rattle.std.specs.Int.Signed.{le_z}
use Rattle.day_number.specs.declared.tenors.Tenor.{Tenor}
use Rattle.day_number.specs.Tenor.{unit_limit}
use Rattle.schedule_rules.specs.declared.plans.Rule.{Rule}
use Rattle.schedule_rules.specs.declared.plans.Rule.TheVariants.{Backward, Forward, Zero}
use Rattle.schedule_rules.specs.declared.plans.Plan.{Plan}
use Rattle.schedule_rules.specs.declared.faults.PlanFault.{PlanFault}
use Rattle.schedule_rules.specs.declared.faults.PlanFault.TheVariants.{Order, Tenor as TenorFault, Stub}

-- a tenor whose count is from 1 to its unit's limit
abbrev pub is_tenor : Tenor → Bool
is_tenor tenor = le_z (pos 1) tenor.count && le_z tenor.count (pos (unit_limit tenor.unit))

-- the rule steps by the tenor
abbrev pub has_steps : Rule → Bool
has_steps Backward = true
has_steps Forward = true
has_steps Zero = false

-- a stub's day that is not given, or is strictly between start and end where there are steps
abbrev pub is_stub : Plan → Option ℤ → Bool
is_stub plan None = true
is_stub plan (Some day) =
    has_steps plan.rule && not (le_z day plan.start) && not (le_z plan.end day)

-- the first stub's day is not after the last one's, where both are given
abbrev pub are_in_order : Option ℤ → Option ℤ → Bool
are_in_order (Some first) (Some last) = le_z first last
are_in_order (Some first) None = true
are_in_order None last = true

-- the first of the faults of a plan's terms (this project's profile, as are their order and the limits)
abbrev pub fault_of_terms : Plan → Option PlanFault
fault_of_terms plan =
    if le_z plan.end plan.start then Some Order
    else (if has_steps plan.rule && not (is_tenor plan.tenor) then Some TenorFault
    else (if is_stub plan plan.first && is_stub plan plan.last && are_in_order plan.first plan.last then None
    else Some Stub))

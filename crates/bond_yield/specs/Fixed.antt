-- The flows of a fixed bond.
use Rattle.std.specs.Prelude.{ℤ, pos, unsigned_abs, int_le, nat_le, Bool, true, false, ◌&&◌, List, [], ◌∷◌}
use Rattle.std.specs.List.{list_all}
use Rattle.flow_terms.specs.declared.flows.FlowTerm.{FlowTerm}
use Rattle.flow_terms.specs.declared.flows.FlowTerm.TheVariants.{Known, Float, Forward}
use Rattle.flow_terms.specs.declared.limits.TheConstants.{MOST_AMOUNT}
use Rattle.flow_terms.specs.Flows.{paid_on}

-- an amount from 0 to 10^22 units
abbrev pub is_payment : ℤ → Bool
is_payment amount = int_le (pos 0) amount && nat_le (unsigned_abs amount) MOST_AMOUNT

-- a flow that is known, whose amount is such a one
abbrev pub is_known : FlowTerm → Bool
is_known (Known paid amount period) = is_payment amount
is_known (Float paid notional spread parts fixing) = false
is_known (Forward paid notional strike fixing) = false

abbrev pub are_known : List FlowTerm → Bool
are_known flows = list_all is_known flows

-- each flow is paid on a day or after it, and on the day of the one in front of it or after it
unfoldable pub rise_from : ℤ → List FlowTerm → Bool
rise_from day [] = true
rise_from day (flow ∷ flows) = int_le day (paid_on flow) && rise_from (paid_on flow) flows

-- no flow is paid before the one in front of it
abbrev pub are_in_order : List FlowTerm → Bool
are_in_order [] = true
are_in_order (flow ∷ flows) = rise_from (paid_on flow) flows

-- the flows of a fixed bond: known amounts from 0 on, in the order of their payments (this project's profile)
abbrev pub is_fixed : List FlowTerm → Bool
is_fixed flows = are_known flows && are_in_order flows

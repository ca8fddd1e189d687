-- The flows that are still to be paid.
use Rattle.std.specs.Prelude.{◌≡◌, ◌≤◌, ℕ, ℤ, Bool, false, not, ◌&&◌, int_le, List, [], ◌∷◌, length, Option, Some, None, Result, Ok, Err}
use Rattle.std.specs.List.{All, filter}
use Rattle.jiff_core.specs.Calendar.{IsWithin}
use Rattle.curve_points.specs.Curve.{Curve}
use Rattle.desk_terms.specs.declared.cause.Cause.{Cause}
use Rattle.flow_terms.specs.declared.flows.FlowTerm.{FlowTerm}
use Rattle.flow_terms.specs.declared.limits.TheConstants.{MOST_AMOUNT}
use Rattle.flow_terms.specs.Flows.{paid_on, needs_forecast}
use Rattle.cash_flow_legs.specs.declared.faults.FlowFault.{FlowFault}
use Rattle.cash_flow_legs.specs.declared.faults.FlowFault.TheVariants.{Refused, NoMemory}
use Rattle.cash_flow_legs.specs.declared.live_flows.Flow.{Flow}
use Rattle.cash_flow_legs.specs.Amount.{IndexView, amount_of}

-- some flow that is paid after today is on the index at a rate that has to be forecast
abbrev pub needs_curve : Option IndexView → List FlowTerm → ℤ → Bool
needs_curve None flows today = false
needs_curve (Some index) flows today = needs_forecast flows index.fixings today

-- a flow that is paid after both days (QuantLib's CashFlow::hasOccurred)
abbrev pub is_live : ℤ → ℤ → FlowTerm → Bool
is_live today after flow = not (int_le (paid_on flow) today) && not (int_le (paid_on flow) after)

-- a flow with its amount in front of others; the first cause decides
abbrev pub flow_or_cause : ℤ → Result ℤ Cause → Result (List Flow) Cause → Result (List Flow) Cause
flow_or_cause paid (Err cause) flows = Err cause
flow_or_cause paid (Ok amount) (Err cause) = Err cause
flow_or_cause paid (Ok amount) (Ok flows) = Ok (record { paid = paid; amount = amount } ∷ flows)

-- flows with their amounts, or the cause of the first that has none
unfoldable pub with_amounts : (FlowTerm → Result ℤ Cause) → List FlowTerm → Result (List Flow) Cause
with_amounts amount [] = Ok []
with_amounts amount (flow ∷ flows) = flow_or_cause (paid_on flow) (amount flow) (with_amounts amount flows)

-- the flows that are paid after both days, in their order, with their amounts, or the cause of the first that has none
abbrev pub live_flows : Option IndexView → ℤ → ℤ → Option Curve → ℕ → List FlowTerm → Result (List Flow) Cause
live_flows index today after curve owner flows =
    with_amounts (amount_of index today curve owner) (filter (is_live today after) flows)

-- why flows have no amounts
abbrev pub cause_of : Result (List Flow) Cause → Option Cause
cause_of (Ok flows) = None
cause_of (Err cause) = Some cause

-- what a call answers that gives the flows or their cause, or is refused for want of memory
abbrev pub Gives : Result (List Flow) Cause → Result (List Flow) FlowFault → Type 0
Gives due (Ok flows) = due ≡ Ok flows
Gives due (Err (Refused cause)) = due ≡ Err cause
Gives due (Err NoMemory) = Unit {0}

-- no more flows than the instrument's, each within the limit of amounts
pub record AreInRange (terms : List FlowTerm) (flows : List Flow) : Type 0 where
  pub count : length flows ≤ length terms
  pub amounts : All (λ flow. IsWithin MOST_AMOUNT flow.amount) flows

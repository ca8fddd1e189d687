-- What flows are worth: the exact sum of amount times discount factor, in the units of both.
use Rattle.std.specs.Prelude.{ℤ, pos, ◌*ℤ◌, ◌+ℤ◌, Bool, if◌then◌else◌, List, [], ◌∷◌, Result, Ok, Err}
use Rattle.curve_points.specs.Curve.{Curve}
use Rattle.curve_points.specs.Point.{discount_at}
use Rattle.desk_terms.specs.declared.cause.Cause.{Cause}
use Rattle.desk_terms.specs.Point.{found_at}
use Rattle.flow_terms.specs.declared.flows.FlowTerm.{FlowTerm}
use Rattle.flow_terms.specs.Flows.{paid_on}
use Rattle.rate_indexes.specs.Forecast.{on_value}

-- the discount factor of a curve at a day, or the cause that names its owner
abbrev pub factor_on : Curve → ℤ → Result ℤ Cause
factor_on curve day = found_at curve.owner day (discount_at curve day)

-- a flow's amount times the discount factor on the day on which it is paid: the amount is asked first, then the factor
abbrev pub discounted : (FlowTerm → Result ℤ Cause) → (ℤ → Result ℤ Cause) → FlowTerm → Result ℤ Cause
discounted amount factor flow =
    on_value (λ units. on_value (λ discount. Ok (units *ℤ discount)) (factor (paid_on flow))) (amount flow)

-- units before a sum that is there
abbrev pub added : ℤ → Result ℤ Cause → Result ℤ Cause
added units (Ok rest) = Ok (units +ℤ rest)
added units (Err cause) = Err cause

-- the sum over flows, nothing rounded; the first cause in their order decides (QuantLib's CashFlows::npv)
unfoldable pub worth : (FlowTerm → Result ℤ Cause) → List FlowTerm → Result ℤ Cause
worth part [] = Ok (pos 0)
worth part (flow ∷ flows) = on_value (λ units. added units (worth part flows)) (part flow)

-- what a flow is worth that is still to be paid; nothing of another
abbrev pub where_live : (FlowTerm → Bool) → (FlowTerm → Result ℤ Cause) → FlowTerm → Result ℤ Cause
where_live live part flow = if live flow then part flow else Ok (pos 0)

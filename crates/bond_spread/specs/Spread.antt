-- The spread of a fixed bond over a curve (QuantLib's BondFunctions::zSpread, which moves the zero rates of the curve; this project's profile).
use Rattle.std.specs.Prelude.{ℤ, pos, ◌*◌, int_le, unsigned_abs, if◌then◌else◌, List, [], ◌∷◌, None, Result, Ok, Err}
use Rattle.fixed_amount.specs.Rounding.{closest}
use Rattle.curve_points.specs.Curve.{Curve}
use Rattle.curve_points.specs.declared.points.PointFault.{PointFault}
use Rattle.curve_points.specs.declared.points.PointFault.TheVariants as point
use Rattle.curve_points.specs.Point.{discount_at}
use Rattle.flow_terms.specs.declared.flows.FlowTerm.{FlowTerm}
use Rattle.flow_terms.specs.declared.flows.FlowTerm.TheVariants.{Known}
use Rattle.flow_terms.specs.declared.limits.TheConstants.{MOST_AMOUNT}
use Rattle.flow_terms.specs.Flows.{paid_on}
use Rattle.bond_yield.specs.declared.bonds.YieldFault.{YieldFault}
use Rattle.bond_yield.specs.declared.bonds.YieldFault.TheVariants as yielded
use Rattle.bond_yield.specs.Price.{amount_of, is_after}
use Rattle.bond_yield.specs.Yield.{price_fault, least_yield, fault_or}
use Rattle.bond_spread.specs.declared.spreads.SpreadFault.{SpreadFault}
use Rattle.bond_spread.specs.declared.spreads.SpreadFault.TheVariants.{Before, Past, TooLarge, Above, Below}

-- a day at which a curve has no factor
abbrev pub off_curve : PointFault → ℤ → SpreadFault
off_curve point.Before day = Before day
off_curve point.Past day = Past day

-- a payment of an amount, which is within the limit of a flow
abbrev pub payment : ℤ → ℤ → Result FlowTerm SpreadFault
payment paid amount = if int_le amount (pos MOST_AMOUNT) then Ok (Known paid amount None) else Err TooLarge

-- a flow by the factors of the settlement day and of its own: its amount times its factor, divided by that of the settlement day and rounded once
abbrev pub by_factor : FlowTerm → ℤ → Result ℤ PointFault → Result FlowTerm SpreadFault
by_factor flow base (Ok factor) = payment (paid_on flow) (closest (pos (amount_of flow * unsigned_abs factor)) (unsigned_abs base))
by_factor flow base (Err fault) = Err (off_curve fault (paid_on flow))

-- a flow by the curve alone: one that is paid on the settlement day or before it is left as it is, and counts for nothing
abbrev pub discounted_flow : Curve → ℤ → ℤ → FlowTerm → Result FlowTerm SpreadFault
discounted_flow curve settle base flow =
    if is_after settle flow then by_factor flow base (discount_at curve (paid_on flow)) else Ok flow

abbrev pub then_flows : Result FlowTerm SpreadFault → Result (List FlowTerm) SpreadFault → Result (List FlowTerm) SpreadFault
then_flows (Err fault) rest = Err fault
then_flows (Ok flow) (Err fault) = Err fault
then_flows (Ok flow) (Ok flows) = Ok (flow ∷ flows)

-- flows by the curve alone, or the first fault in their order
unfoldable pub discounted : Curve → ℤ → ℤ → List FlowTerm → Result (List FlowTerm) SpreadFault
discounted curve settle base [] = Ok []
discounted curve settle base (flow ∷ flows) =
    then_flows (discounted_flow curve settle base flow) (discounted curve settle base flows)

abbrev pub discounted_from : Curve → ℤ → Result ℤ PointFault → List FlowTerm → Result (List FlowTerm) SpreadFault
discounted_from curve settle (Ok base) flows = discounted curve settle base flows
discounted_from curve settle (Err fault) flows = Err (off_curve fault settle)

-- why discounted flows have no yield. (The last two are never so of a price.)
abbrev pub unmet : YieldFault → SpreadFault
unmet (yielded.Above price) = Above price
unmet (yielded.Below price) = Below price
unmet yielded.NotFixed = TooLarge
unmet yielded.NoFlow = TooLarge

abbrev pub met : Result ℤ YieldFault → Result ℤ SpreadFault
met (Ok yield) = Ok yield
met (Err fault) = Err (unmet fault)

-- the spread of discounted flows: their yield at a full price
abbrev pub spread_over : ℤ → ℤ → Result (List FlowTerm) SpreadFault → Result ℤ SpreadFault
spread_over settle price (Err fault) = Err fault
spread_over settle price (Ok flows) = met (fault_or (price_fault flows settle price) (least_yield flows settle price))

-- THE SPREAD of flows over a curve at a full price: the least from 0 to 10 at which the flows by the curve, each divided by what 1 grows to at
-- simple interest from one payment day to the next, are worth no more
abbrev pub spread_of : Curve → List FlowTerm → ℤ → ℤ → Result ℤ SpreadFault
spread_of curve flows settle price =
    spread_over settle price (discounted_from curve settle (discount_at curve settle) flows)

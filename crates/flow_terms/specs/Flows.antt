-- The days of flows, and what their price needs.
use Rattle.std.specs.Prelude.{ℤ, Bool, false, not, ◌&&◌, ◌||◌, int_le, List, Option, Some, None, is_none}
use Rattle.std.specs.List.{list_any, list_all}
use Rattle.flow_terms.specs.declared.flows.FlowTerm.{FlowTerm}
use Rattle.flow_terms.specs.declared.flows.FlowTerm.TheVariants.{Known, Float, Forward}
use Rattle.flow_terms.specs.Fixings.{Stored, fixing_on}

-- the day on which a flow is paid
abbrev pub paid_on : FlowTerm → ℤ
paid_on (Known paid amount period) = paid
paid_on (Float paid notional spread parts fixing) = paid
paid_on (Forward paid notional strike fixing) = paid

-- the day on which the rate of its index is taken; none where it is on no index
abbrev pub fixed_on : FlowTerm → Option ℤ
fixed_on (Known paid amount period) = None
fixed_on (Float paid notional spread parts fixing) = Some fixing
fixed_on (Forward paid notional strike fixing) = Some fixing

-- whether each flow is paid on or before today (QuantLib's `Instrument::isExpired`)
abbrev pub is_expired : List FlowTerm → ℤ → Bool
is_expired flows today = list_all (λ flow. int_le (paid_on flow) today) flows

-- whether a rate that is taken on this day has to be forecast: a later day, or today without a stored rate (QuantLib's
-- `InterestRateIndex::fixing`)
abbrev pub is_forecast : Stored → ℤ → Option ℤ → Bool
is_forecast fixings today None = false
is_forecast fixings today (Some day) = not (int_le day today) || (int_le today day && is_none (fixing_on fixings day))

-- whether some flow is paid after today at a rate that has to be forecast
abbrev pub needs_forecast : List FlowTerm → Stored → ℤ → Bool
needs_forecast flows fixings today =
    list_any (λ flow. not (int_le (paid_on flow) today) && is_forecast fixings today (fixed_on flow)) flows

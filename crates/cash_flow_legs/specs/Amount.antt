-- The amounts of flows.
use Rattle.std.specs.Prelude.{ℕ, ℤ, pos, ◌+ℤ◌, ◌-ℤ◌, ◌*ℤ◌, unsigned_abs, int_le, nat_le, Bool, false, if◌then◌else◌, Option, Some, None, Result, Ok, Err}
use Rattle.fixed_amount.specs.Rounding.{closest}
use Rattle.curve_points.specs.Curve.{Curve}
use Rattle.desk_terms.specs.declared.cause.Cause.{Cause}
use Rattle.desk_terms.specs.declared.cause.Cause.TheVariants.{NoFixing, TooLarge}
use Rattle.flow_terms.specs.declared.indexes.IndexTerms.{IndexTerms}
use Rattle.flow_terms.specs.declared.indexes.IndexUse.{IndexUse}
use Rattle.flow_terms.specs.declared.flows.FlowTerm.{FlowTerm}
use Rattle.flow_terms.specs.declared.flows.FlowTerm.TheVariants.{Known, Float, Forward}
use Rattle.flow_terms.specs.declared.limits.TheConstants.{MOST_AMOUNT}
use Rattle.flow_terms.specs.Fixings.{Stored}
use Rattle.flow_terms.specs.Flows.{fixed_on, is_forecast}
use Rattle.rate_indexes.specs.Period.{period_of}
use Rattle.rate_indexes.specs.Forecast.{on_value}
use Rattle.rate_indexes.specs.Fixing.{fixing_of}
use Rattle.cash_flow_legs.specs.Interest.{whole, interest}

-- an index as the flows on it see it: its number, its terms and its stored rates
pub record IndexView : Type 0 where
  pub object : ℕ
  pub terms : IndexTerms
  pub fixings : Stored

abbrev pub view_of : IndexUse → IndexView
view_of index = record { object = index.object; terms = index.terms.now; fixings = index.fixings.now }

-- an index that is given
abbrev pub views_of : Option IndexUse → Option IndexView
views_of None = None
views_of (Some index) = Some (view_of index)

-- the rate of a flow on an index has to be forecast
abbrev pub is_forecast_of : Option IndexView → ℤ → FlowTerm → Bool
is_forecast_of None today flow = false
is_forecast_of (Some index) today flow = is_forecast index.fixings today (fixed_on flow)

-- the rate of an index that is fixed on a day
abbrev pub rate_on : IndexView → ℤ → Option Curve → ℤ → Result ℤ Cause
rate_on index today curve day = fixing_of index.object index.terms index.fixings today day curve

-- interest at the index's rate and a spread, rounded once (QuantLib's IborCoupon::amount)
abbrev pub float_amount : IndexView → ℤ → Option Curve → ℤ → ℤ → ℤ → ℤ → Result ℤ Cause
float_amount index today curve notional spread parts day =
    on_value (λ rate. Ok (interest notional (rate +ℤ spread) parts)) (rate_on index today curve day)

-- an amount within its limit, or the cause that names the instrument
abbrev pub amount_or_cause : ℕ → ℤ → Result ℤ Cause
amount_or_cause owner amount = if nat_le (unsigned_abs amount) MOST_AMOUNT then Ok amount else Err (TooLarge owner)

-- interest at a rate over a strike, divided by what 1 grows to at that rate, rounded once
-- (QuantLib's ForwardRateAgreement); the divisor is above 0 (this project's profile)
abbrev pub settlement : ℕ → ℤ → ℤ → ℤ → ℤ → Result ℤ Cause
settlement owner notional strike parts rate =
    let growth = pos whole +ℤ rate *ℤ parts in
    if int_le growth (pos 0) then Err (TooLarge owner)
    else amount_or_cause owner (closest (notional *ℤ (rate -ℤ strike) *ℤ parts) (unsigned_abs growth))

-- the settlement at the index's rate over its own period: the fixing is asked first, then the period
abbrev pub forward_amount : IndexView → ℤ → Option Curve → ℕ → ℤ → ℤ → ℤ → Result ℤ Cause
forward_amount index today curve owner notional strike day =
    on_value (λ rate. on_value (λ period. settlement owner notional strike period.2 rate)
    (period_of index.object index.terms day)) (rate_on index today curve day)

-- the amount of a flow on an index that is given; without one it has no rate
abbrev pub amount_on : IndexView → ℤ → Option Curve → ℕ → FlowTerm → Result ℤ Cause
amount_on index today curve owner (Known paid amount period) = Ok amount
amount_on index today curve owner (Float paid notional spread parts fixing) =
    float_amount index today curve notional spread parts fixing
amount_on index today curve owner (Forward paid notional strike fixing) =
    forward_amount index today curve owner notional strike fixing

-- the amount of a flow of an instrument, the owner
abbrev pub amount_of : Option IndexView → ℤ → Option Curve → ℕ → FlowTerm → Result ℤ Cause
amount_of (Some index) today curve owner flow = amount_on index today curve owner flow
amount_of None today curve owner (Known paid amount period) = Ok amount
amount_of None today curve owner (Float paid notional spread parts fixing) = Err (NoFixing owner fixing)
amount_of None today curve owner (Forward paid notional strike fixing) = Err (NoFixing owner fixing)

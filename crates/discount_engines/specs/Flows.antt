-- The price of a bond, a swap or a forward rate agreement.
use Rattle.std.specs.Prelude.{ℕ, ◌^◌, ℤ, pos, if◌then◌else◌, List, [], ◌∷◌, Option, Some, None, Result, Ok, Err}
use Rattle.std.specs.List.{filter}
use Rattle.fixed_amount.specs.Rounding.{closest}
use Rattle.curve_points.specs.Curve.{Curve}
use Rattle.desk_terms.specs.declared.value.Value.TheVariants.{Money}
use Rattle.desk_terms.specs.declared.value.Input as input
use Rattle.desk_terms.specs.declared.cause.Cause.{Cause}
use Rattle.desk_terms.specs.declared.cause.Cause.TheVariants.{TooLarge}
use Rattle.desk_terms.specs.Reading.{IndexReading, Outcome}
use Rattle.flow_terms.specs.declared.flows.FlowTerm.{FlowTerm}
use Rattle.flow_terms.specs.declared.flows.FlowTerms.{FlowTerms}
use Rattle.flow_terms.specs.Flows.{is_expired}
use Rattle.cash_flow_legs.specs.Amount.{IndexView, amount_of}
use Rattle.cash_flow_legs.specs.Live.{is_live}
use Rattle.discount_engines.specs.Money.{money_of}
use Rattle.discount_engines.specs.Worth.{factor_on, discounted, worth}

-- the index of a reading, as the flows on it see it
abbrev pub view_read : Option IndexReading → Option IndexView
view_read None = None
view_read (Some index) = Some (record { object = index.object; terms = index.terms; fixings = index.fixings })

-- what the flows of o are worth that are paid after today and after the discount curve's reference day
abbrev pub worth_over : ℕ → List FlowTerm → ℤ → Option IndexReading → Curve → Option Curve → Result ℤ Cause
worth_over o flows today index curve forecast =
    worth (discounted (amount_of (view_read index) today forecast o) (factor_on curve))
    (filter (is_live today curve.reference) flows)

-- the sum divided by the discount factor 1, rounded once, within the limits of a price
abbrev pub value_of : ℕ → Result ℤ Cause → Outcome
value_of o (Ok units) = money_of o (closest units (10 ^ 12))
value_of o (Err cause) = Err cause

abbrev pub value_over : ℕ → List FlowTerm → ℤ → Option IndexReading → Curve → Option Curve → Outcome
value_over o flows today index curve forecast = value_of o (worth_over o flows today index curve forecast)

-- over the discount curve, and over the curve that the index is forecast from where it is given too
abbrev pub discounted_price : ℕ → List FlowTerm → ℤ → Option IndexReading → List input.Input → Outcome
discounted_price o flows today index (input.TheVariants.Curve curve ∷ []) = value_over o flows today index curve None
discounted_price o flows today index (input.TheVariants.Curve curve ∷ input.TheVariants.Curve forecast ∷ []) =
    value_over o flows today index curve (Some forecast)
discounted_price o flows today index inputs = Err (TooLarge o)

-- nothing where each flow is paid on or before today; else its discounted flows (QuantLib's DiscountingBondEngine and
-- DiscountingSwapEngine)
abbrev pub flows_price : ℕ → FlowTerms → Option ℤ → Option IndexReading → List input.Input → Outcome
flows_price o flows None index inputs = Err (TooLarge o)
flows_price o flows (Some today) index inputs =
    if is_expired flows.flows today then Ok (Money (pos 0)) else discounted_price o flows.flows today index inputs

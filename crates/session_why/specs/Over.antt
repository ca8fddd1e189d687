-- What the products of flows are worked out from.
use Rattle.std.specs.Prelude.{◌≡◌, ℕ, ℤ, Bool, true, false, List, Option, Some, None, IsSome, Result, Ok, Err}
use Rattle.std.specs.Prelude.{option_copied, option_map}
use Rattle.curve_points.specs.Curve.{Curve}
use Rattle.desk_terms.specs.declared.cause.Cause.{Cause}
use Rattle.flow_terms.specs.declared.flows.FlowTerm.{FlowTerm}
use Rattle.flow_terms.specs.Flows.{paid_on, fixed_on, is_forecast}
use Rattle.flow_terms.specs.Ranges.{AreFlowsInRange}
use Rattle.cash_flow_legs.specs.Amount.{IndexView, views_of}
use Rattle.cash_flow_legs.specs.Live.{needs_curve}
use Rattle.discount_engines.specs.Worth.{factor_on}
use Rattle.why_model.specs.Workings.{FlowProduct, fixing_by, rate_by, flow_of, flow_products}
use Rattle.desk_terms.specs.declared.terms.Terms.TheVariants.{Flows}
use Rattle.desk_terms.specs.Reading.{index_reading}
use Rattle.desk_model.specs.Market.{terms_at}
use Rattle.desk_model.specs.State.{State, kept_at}
use Rattle.desk_model.specs.Uses.{index_at}
use Rattle.session_why.specs.declared.curves.Curves.{Curves}
use Rattle.session_why.specs.declared.products.Over.{Over}
use Rattle.session_why.specs.Curves.{curve_in}

-- flows within their limits, the index where they name one, and its curve where a rate has to be forecast
pub record IsFit (over : Over) : Type 0 where
  pub range : AreFlowsInRange over.terms.now
  pub index : IsSome over.terms.now.index → IsSome over.index
  pub curve : needs_curve (views_of over.index) over.terms.now.flows over.today ≡ true → IsSome over.forecast

-- a rate of the index on a day has a curve to be forecast from, where it has to be
abbrev pub forecasts_on : Option IndexView → ℤ → ℤ → Bool
forecasts_on None today day = false
forecasts_on (Some index) today day = is_forecast index.fixings today (Some day)

abbrev pub IsForecastable : Over → ℤ → Type 0
IsForecastable over day = forecasts_on (views_of over.index) over.today day ≡ true → IsSome over.forecast

-- the fixing of a flow
abbrev pub fixing_over : Over → FlowTerm → Result (Option (ℤ × ℤ)) Cause
fixing_over over flow =
    fixing_by (rate_by (views_of over.index) over.today (option_copied over.forecast) over.object) (fixed_on flow)

-- a flow with its amount
abbrev pub product_over : Over → FlowTerm → ℤ → Result FlowProduct Cause
product_over over flow amount =
    flow_of (paid_on flow) (Ok amount) (factor_on over.discount.now (paid_on flow)) (fixing_over over flow)

-- all of them
abbrev pub products_over : Over → Result (List FlowProduct) Cause
products_over over =
    flow_products over.object over.terms.now.flows over.today (views_of over.index) over.discount.now
    (option_copied over.forecast)

-- what is there
abbrev pub found : {A : Type 0} → Result A Cause → Option A
found (Ok x) = Some x
found (Err cause) = None

-- ---- over the last values of curves

-- a curve that is read, or that none is
abbrev pub read_curve : State → Option ℕ → Option (Option Curve)
read_curve s None = Some None
read_curve s (Some curve) = option_map (λ c. Some c) (curve_in (kept_at s curve).last)

abbrev pub both : Option Curve → Option (Option Curve) → Option (Curve × Option Curve)
both None forecast = None
both (Some discount) None = None
both (Some discount) (Some forecast) = Some (discount, forecast)

-- the values of these curves, where each is a curve
abbrev pub read_curves : State → Curves → Option (Curve × Option Curve)
read_curves s curves = both (curve_in (kept_at s curves.discount).last) (read_curve s curves.forecast)

-- the flows of an object over them
pub record Reads (s : State) (o : ℕ) (curves : Curves) (over : Over) : Type 0 where
  pub object : over.object ≡ o
  pub engine : Option ℕ
  pub terms : terms_at s.market o ≡ Some (Flows over.terms.now engine)
  pub today : over.today ≡ s.market.today
  pub index : index_reading over.index ≡ index_at s.market over.terms.now.index
  pub seen : read_curves s curves ≡ Some (over.discount.now, option_copied over.forecast)

abbrev pub IsOver : State → ℕ → Curves → Option Over → Type 0
IsOver s o curves None = read_curves s curves ≡ None
IsOver s o curves (Some over) = Reads s o curves over

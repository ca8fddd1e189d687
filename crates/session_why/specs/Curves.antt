-- The curves that the price of flows reads.
use Rattle.std.specs.Prelude.{ℕ, if◌then◌else◌, List, [], ◌∷◌, Option, Some, None}
use Rattle.curve_points.specs.Curve.{Curve}
use Rattle.desk_terms.specs.declared.terms.Terms.{Terms}
use Rattle.desk_terms.specs.declared.terms.Terms.TheVariants as terms
use Rattle.desk_terms.specs.declared.value.Value.{Value}
use Rattle.desk_terms.specs.declared.value.Value.TheVariants as value
use Rattle.desk_terms.specs.Reading.{IndexReading}
use Rattle.flow_terms.specs.declared.flows.FlowTerms.{FlowTerms}
use Rattle.flow_terms.specs.Flows.{is_expired, needs_forecast}
use Rattle.desk_model.specs.declared.entry.Entry.{Entry}
use Rattle.desk_model.specs.declared.entry.Entry.TheVariants.{Gives, Needs, Refuses}
use Rattle.desk_model.specs.Market.{Market}
use Rattle.desk_model.specs.Uses.{index_at}
use Rattle.session_why.specs.declared.curves.Curves.{Curves}
use Rattle.session_why.specs.declared.curves.Naming.{Naming}

abbrev pub unnamed : Naming
unnamed = record { engine = None; index = None }

-- the index of flows, where a rate has to be forecast
abbrev pub forecast_by : Market → FlowTerms → Option IndexReading → Option ℕ
forecast_by market flows None = None
forecast_by market flows (Some index) =
    if needs_forecast flows.flows index.fixings market.today then flows.index else None

abbrev pub forecast_in : Market → FlowTerms → Option ℕ
forecast_in market flows = forecast_by market flows (index_at market flows.index)

-- what names the curves of an object with these terms: nothing where all its flows are paid
abbrev pub naming_in : Market → Option Terms → Naming
naming_in market None = unnamed
naming_in market (Some (terms.Quote value)) = unnamed
naming_in market (Some (terms.Derived minus first second)) = unnamed
naming_in market (Some (terms.Handle kind target)) = unnamed
naming_in market (Some (terms.Index terms fixings)) = unnamed
naming_in market (Some (terms.Engine curve)) = unnamed
naming_in market (Some (terms.Curve terms)) = unnamed
naming_in market (Some (terms.Implied curve reference)) = unnamed
naming_in market (Some (terms.Stock quote)) = unnamed
naming_in market (Some (terms.Composite parts)) = unnamed
naming_in market (Some (terms.Flows flows engine)) =
    if is_expired flows.flows market.today
    then unnamed
    else record { engine = engine; index = forecast_in market flows }

-- the curves among the entries of a price: a discount curve, and one that the index is forecast from where it is taken
-- too
abbrev pub curves_in : List Entry → Option Curves
curves_in [] = None
curves_in (Gives rate ∷ entries) = None
curves_in (Refuses cause ∷ entries) = None
curves_in (Needs discount ∷ []) = Some (record { discount = discount; forecast = None })
curves_in (Needs discount ∷ Gives rate ∷ entries) = None
curves_in (Needs discount ∷ Refuses cause ∷ entries) = None
curves_in (Needs discount ∷ Needs forecast ∷ []) =
    Some (record { discount = discount; forecast = Some forecast })
curves_in (Needs discount ∷ Needs forecast ∷ more ∷ entries) = None

-- a last value that is a curve
abbrev pub curve_in : Option Value → Option Curve
curve_in None = None
curve_in (Some (value.Money amount)) = None
curve_in (Some (value.Curve curve)) = Some curve

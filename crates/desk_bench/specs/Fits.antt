-- The prices of this project are in the limits of a price.
use Rattle.std.specs.Prelude.{ℕ, List, [], ◌∷◌, ℤ, Option, Some, None, Result, Ok, Err}
use Rattle.std.proofs.Common.{refl, inl, inr}
use Rattle.desk_terms.specs.declared.terms.Terms.{Terms}
use Rattle.desk_terms.specs.declared.terms.Terms.TheVariants.{Quote, Derived, Handle, Curve, Implied, Index, Engine, Stock, Composite, Flows}
use Rattle.desk_terms.specs.declared.value.Input as input
use Rattle.desk_terms.specs.Reading.{Reading, IndexReading, Fits, IsFitting}
use Rattle.curve_terms.specs.declared.terms.CurveTerms.{CurveTerms}
use Rattle.curve_points.specs.declared.curves.CurveNode.{CurveNode}
use Rattle.curve_points.specs.Curve.{Curve as CurveView, origin}
use Rattle.curve_points.specs.Point.{discount_at}
use Rattle.curve_points.specs.Implied.{curve_of as implied_of, seen_at, implied_curve}
use Rattle.curve_points.specs.declared.seen.ImpliedFault.{ImpliedFault}
use Rattle.curve_points.specs.declared.seen.ImpliedFault.TheVariants as implied
use Rattle.curve_bootstrap.specs.Built.{reference_day, built_curve}
use Rattle.curve_bootstrap.specs.Built as due
use Rattle.curve_bootstrap.specs.declared.faults.BuildFault.{BuildFault}
use Rattle.curve_bootstrap.specs.declared.faults.BuildFault.TheVariants as build
use Rattle.desk_bench.specs.Pricing.{rates_of, own_day, built, seen, curve_price, implied_price, desk_calc}
use Rattle.discount_engines.specs.Fits.{price_fits}

abbrev reading_of : ℕ → Terms → Option ℤ → Option IndexReading → List input.Input → Reading
reading_of o terms today index inputs = record { object = o; terms = terms; inputs = inputs; today = today; index = index }

-- what is built is a curve of o, and a cause names o
from_fits : (o : ℕ) (terms : CurveTerms) (today : Option ℤ) (index : Option IndexReading) (inputs : List input.Input) (rates : List ℤ) (reference : Option ℤ)
    → Fits (reading_of o (Curve terms) today index inputs) (built o (due.curve_from o terms rates reference))
from_fits o terms today index inputs rates None = inl refl
from_fits o terms today index inputs rates (Some reference) = by_nodes (due.nodes_of (due.coupons_of terms.cal reference) (origin reference) 1 [] terms.helpers rates)
  where
    by_nodes : (r : Result (List CurveNode) BuildFault)
        → Fits (reading_of o (Curve terms) today index inputs) (built o (due.curve_of o reference r))
    by_nodes (Ok nodes) = refl
    by_nodes (Err (build.Pillar k)) = inl refl
    by_nodes (Err (build.Discount k)) = inl refl
    by_nodes (Err (build.Negative k)) = inl refl
    by_nodes (Err build.RateRange) = inl refl
    by_nodes (Err build.DateRange) = inl refl
    by_nodes (Err build.NoMemory) = inl refl

built_fits : (o : ℕ) (terms : CurveTerms) (today : Option ℤ) (index : Option IndexReading) (inputs : List input.Input) (day : ℤ) (rates : List ℤ)
    → Fits (reading_of o (Curve terms) today index inputs) (built o (built_curve o terms day rates))
unfolding built_curve
built_fits o terms today index inputs day rates = from_fits o terms today index inputs rates (reference_day terms day)

curve_fits : (o : ℕ) (terms : CurveTerms) (today : Option ℤ) (index : Option IndexReading) (inputs : List input.Input)
    → Fits (reading_of o (Curve terms) today index inputs) (curve_price o terms today inputs)
curve_fits o terms None index inputs = from_fits o terms None index inputs (rates_of inputs) (own_day terms.start)
curve_fits o terms (Some day) index inputs = built_fits o terms (Some day) index inputs day (rates_of inputs)

-- what is seen is a curve of o, and a cause names o or the owner of the base curve
seen_fits : (o base : ℕ) (reference : ℤ) (today : Option ℤ) (index : Option IndexReading) (curve : CurveView)
    → Fits (reading_of o (Implied base reference) today index (input.TheVariants.Curve curve ∷ [])) (seen o curve.owner reference (implied_curve curve o reference))
unfolding implied_curve
seen_fits o base reference today index curve = by_nodes (seen_at (discount_at curve reference) reference curve.nodes)
  where
    by_nodes : (r : Result (List CurveNode) ImpliedFault)
        → Fits (reading_of o (Implied base reference) today index (input.TheVariants.Curve curve ∷ [])) (seen o curve.owner reference (implied_of o reference r))
    by_nodes (Ok nodes) = refl
    by_nodes (Err implied.Before) = inr (inr (inl refl))
    by_nodes (Err implied.Past) = inr (inr (inl refl))
    by_nodes (Err (implied.Node k)) = inl refl
    by_nodes (Err implied.NoMemory) = inl refl

implied_fits : (o base : ℕ) (reference : ℤ) (today : Option ℤ) (index : Option IndexReading) (inputs : List input.Input)
    → Fits (reading_of o (Implied base reference) today index inputs) (implied_price o reference inputs)
implied_fits o base reference today index [] = inl refl
implied_fits o base reference today index (input.TheVariants.Money amount ∷ inputs) = inl refl
implied_fits o base reference today index (input.TheVariants.Rate rate ∷ inputs) = inl refl
implied_fits o base reference today index (input.TheVariants.Curve curve ∷ []) = seen_fits o base reference today index curve
implied_fits o base reference today index (input.TheVariants.Curve curve ∷ i ∷ inputs) = inl refl

kind_fits : (o : ℕ) (terms : Terms) (today : Option ℤ) (index : Option IndexReading) (inputs : List input.Input)
    → Fits (reading_of o terms today index inputs) (desk_calc (reading_of o terms today index inputs))
kind_fits o (Curve terms) today index inputs = curve_fits o terms today index inputs
kind_fits o (Implied base reference) today index inputs = implied_fits o base reference today index inputs
kind_fits o (Stock quote) today index inputs = price_fits (reading_of o (Stock quote) today index inputs)
kind_fits o (Composite parts) today index inputs = price_fits (reading_of o (Composite parts) today index inputs)
kind_fits o (Flows flows engine) today index inputs = price_fits (reading_of o (Flows flows engine) today index inputs)
kind_fits o (Quote value) today index inputs = price_fits (reading_of o (Quote value) today index inputs)
kind_fits o (Derived minus first second) today index inputs =
    price_fits (reading_of o (Derived minus first second) today index inputs)
kind_fits o (Handle kind target) today index inputs = price_fits (reading_of o (Handle kind target) today index inputs)
kind_fits o (Index terms fixings) today index inputs = price_fits (reading_of o (Index terms fixings) today index inputs)
kind_fits o (Engine curve) today index inputs = price_fits (reading_of o (Engine curve) today index inputs)

pub desk_fits : IsFitting desk_calc
desk_fits reading formed = kind_fits reading.object reading.terms reading.today reading.index reading.inputs

-- What the flow at hand needs of what flows are worked out from.
use Rattle.std.proofs.Common.{◌≡◌, ℕ, ℤ, ◌<◌, Bool, true, false, List, length, get_or, Option, Some, None, refl, sym}
use Rattle.std.proofs.Common.{◌∙◌, ap, subst}
use Rattle.std.specs.Prelude.{int_le, not, ◌&&◌, IsSome}
use Rattle.std.proofs.lemmas.List.Elements.{All-get_or}
use Rattle.std.proofs.lemmas.List.Folds.{list_any_at}
use Rattle.flow_terms.specs.declared.flows.FlowTerm.{FlowTerm}
use Rattle.flow_terms.specs.Flows.{paid_on, fixed_on, is_forecast}
use Rattle.flow_terms.specs.Ranges.{IsIndexNamed}
use Rattle.cash_flow_legs.specs.Amount.{IndexView, views_of, is_forecast_of}
use Rattle.cash_flow_legs.specs.Live.{is_live, needs_curve}
use Rattle.session_why.specs.declared.products.Over.{Over}
use Rattle.session_why.specs.Over.{IsFit}

-- an index is named where the flow is on one
some_named : (flows : List FlowTerm) (index : Option ℕ) (at : ℕ) (flow : FlowTerm) → at < length flows
    → flow ≡ get_or flows at flow
    → IsIndexNamed flows index → IsSome (fixed_on flow) → IsSome index
some_named flows None at flow within is named fixed =
    let none : fixed_on flow ≡ None = subst (λ (f : FlowTerm). fixed_on f ≡ None) (sym is)
    (All-get_or (λ (f : FlowTerm). fixed_on f ≡ None) flows at flow within named) in
    absurd (never (subst (λ (f : Option ℤ). IsSome f) none fixed))
  where
    never : IsSome {T = ℤ} None → ⊥
    never e = cc
some_named flows (Some index) at flow within is named fixed = refl

-- the first of two tests
both_left : (a b : Bool) → (a && b) ≡ true → a ≡ true
both_left true b is = refl
both_left false b is = absurd (cc)

module _ (today : ℤ) (flows : List FlowTerm) (at : ℕ) (flow : FlowTerm) (within : at < length flows)
    (is : flow ≡ get_or flows at flow) where
  -- a rate has to be forecast where that of a flow that is to be paid has to be
  wants : (index : Option IndexView) → not (int_le (paid_on flow) today) ≡ true → is_forecast_of index today flow ≡ true
      → needs_curve index flows today ≡ true
  wants None paid forecast = absurd (cc)
  wants (Some index) paid forecast =
      list_any_at (λ (f : FlowTerm). not (int_le (paid_on f) today) && is_forecast index.fixings today (fixed_on f))
      flows at flow within
      (subst (λ (f : FlowTerm). (not (int_le (paid_on f) today) && is_forecast index.fixings today (fixed_on f)) ≡ true)
      is
      (ap (λ (b : Bool). b && is_forecast index.fixings today (fixed_on flow)) paid ∙ forecast))

module _ (over : Over) (fit : IsFit over) (at : ℕ) (flow : FlowTerm) (within : at < length over.terms.now.flows)
    (is : flow ≡ get_or over.terms.now.flows at flow) where
  pub index_fits : IsSome (fixed_on flow) → IsSome over.index
  index_fits fixed =
      fit.index (some_named over.terms.now.flows over.terms.now.index at flow within is fit.range.index fixed)

  pub curve_fits : is_live over.today over.discount.now.reference flow ≡ true
      → is_forecast_of (views_of over.index) over.today flow ≡ true → IsSome over.forecast
  curve_fits live forecast =
      fit.curve (wants over.today over.terms.now.flows at flow within is (views_of over.index)
      (both_left (not (int_le (paid_on flow) over.today)) (not (int_le (paid_on flow) over.discount.now.reference))
      live) forecast)

-- What flows are worked out from, as it is read of a session.
use Rattle.std.proofs.Common.{◌≡◌, ℕ, ℤ, true, false, Bool, List, [], ◌∷◌, Option, Some, None, Ok, refl, sym, ◌∙◌, ap}
use Rattle.std.specs.Prelude.{if◌then◌else◌, IsSome, option_copied, option_map}
use Rattle.std.specs.Borrow.{Bor}
use Rattle.curve_points.specs.Curve.{Curve}
use Rattle.desk_terms.specs.declared.terms.Terms.{Terms}
use Rattle.desk_terms.specs.declared.terms.Terms.TheVariants.{Flows}
use Rattle.desk_terms.specs.declared.value.Value.{Value}
use Rattle.desk_terms.specs.declared.value.Input as input
use Rattle.desk_terms.specs.Reading.{IndexReading, IsIndexOf, index_reading}
use Rattle.flow_terms.specs.declared.indexes.IndexUse.{IndexUse}
use Rattle.flow_terms.specs.declared.flows.FlowTerms.{FlowTerms}
use Rattle.flow_terms.specs.Flows.{is_expired}
use Rattle.flow_terms.specs.Ranges.{AreFlowsInRange}
use Rattle.cash_flow_legs.specs.Amount.{IndexView, views_of}
use Rattle.cash_flow_legs.specs.Live.{needs_curve}
use Rattle.discount_engines.specs.Flows.{view_read}
use Rattle.desk_model.specs.declared.entry.Entry.{Entry}
use Rattle.desk_model.specs.declared.entry.Entry.TheVariants.{Gives, Needs, Refuses}
use Rattle.desk_model.specs.Market.{Market}
use Rattle.desk_model.specs.Uses.{input_at, index_at, uses, uses_of}
use Rattle.desk_model.specs.State.{kept_at}
use Rattle.session_model.specs.Standing.{Standing}
use Rattle.why_model.specs.Workings.{flow_products}
use Rattle.why_model.specs.Answer.{named, sum_text}
use Rattle.session_why.specs.declared.curves.Curves.{Curves}
use Rattle.session_why.specs.declared.products.Over.{Over}
use Rattle.session_why.specs.Curves.{unnamed, forecast_by, forecast_in, curves_in, curve_in}
use Rattle.session_why.specs.Lasts.{last_inputs, workings_in}
use Rattle.session_why.specs.Over.{IsFit, products_over, both, read_curve, Reads}
use Rattle.session_why.proofs.Flowing.{views_read, by_read, curves_by, named_by, curves_named, text_read}

-- ---- the index, and its curve where a rate has to be forecast

index_named : (m : Market) (index : Option ℕ) (r : IndexReading) → index_at m index ≡ Some r
    → (x : ℕ) × (index ≡ Some x)
index_named m None r is = absurd (cc)
index_named m (Some x) r is = (x, refl)

given_some : (index : Option IndexUse) (r : IndexReading) → index_reading index ≡ Some r → IsSome index
given_some None r is = absurd (cc)
given_some (Some index) r is = refl

index_there : (named : Option ℕ) (index : Option IndexUse) (r : Option IndexReading) → IsIndexOf named r
    → index_reading index ≡ r
    → IsSome named → IsSome index
index_there None index r of is some = absurd (cc)
index_there (Some x) index None of is some = absurd of
index_there (Some x) index (Some r) of is some = given_some index r is

-- a rate has to be forecast: so the index names a curve
forecast_named : (m : Market) (flows : FlowTerms) (index : Option IndexUse)
    → index_reading index ≡ index_at m flows.index
    → needs_curve (views_of index) flows.flows m.today ≡ true → (x : ℕ) × (forecast_in m flows ≡ Some x)
forecast_named m flows None is needs = absurd (cc)
forecast_named m flows (Some given) is needs =
    let n =
    index_named m flows.index
    (record { object = given.object; terms = given.terms.now; fixings = given.fixings.now }) (sym is) in
    (n.0, ap (forecast_by m flows) (sym is) ∙ ap (λ (b : Bool). if b then flows.index else None) needs ∙ n.1)

some_curves : (a b : Curves) → Some a ≡ Some b → a ≡ b
some_curves a b e = cc

entries_forecast : (a b : Entry) (curves : Curves) → curves_in (a ∷ b ∷ []) ≡ Some curves
    → (y : ℕ) × (curves.forecast ≡ Some y)
entries_forecast (Gives rate) b curves is = absurd (cc)
entries_forecast (Refuses cause) b curves is = absurd (cc)
entries_forecast (Needs x) (Gives rate) curves is = absurd (cc)
entries_forecast (Needs x) (Refuses cause) curves is = absurd (cc)
entries_forecast (Needs x) (Needs y) curves is =
    (y, ap (λ (c : Curves). c.forecast) (sym (some_curves (record { discount = x; forecast = Some y }) curves is)))

curves_forecast : (read : ℕ → Entry) (engine : Option ℕ) (x : ℕ) (curves : Curves)
    → curves_by read engine (Some x) ≡ Some curves
    → (y : ℕ) × (curves.forecast ≡ Some y)
curves_forecast read None x curves is = absurd (cc)
curves_forecast read (Some e) x curves is = entries_forecast (read e) (read x) curves is

copied_some : (f : Option (Bor Curve)) (c : Curve) → option_copied f ≡ Some c → IsSome f
copied_some None c is = absurd (cc)
copied_some (Some value) c is = refl

same_pair : (a b : Curve × Option Curve) → Some a ≡ Some b → a ≡ b
same_pair a b e = cc

both_forecast : (l m : Option Curve) (d : Curve) (f : Option Curve) → both l (option_map (λ c. Some c) m) ≡ Some (d, f)
    → (c : Curve) × (f ≡ Some c)
both_forecast None m d f is = absurd (cc)
both_forecast (Some l) None d f is = absurd (cc)
both_forecast (Some l) (Some c) d f is =
    (c, ap (λ (x : Curve × Option Curve). x.1) (same_pair (d, f) (l, Some c) (sym is)))

module _ (p : Standing) (o : ℕ) (curves : Curves) (over : Over) (reads : Reads p.state o curves over)
    (some : curves_in (uses p.state.market o) ≡ Some curves)
    (ranged : AreFlowsInRange over.terms.now)
    (index : IsIndexOf over.terms.now.index (index_at p.state.market over.terms.now.index)) where
  by_expired : (b : Bool) (x : ℕ) → forecast_in p.state.market over.terms.now ≡ Some x
      → named_by (input_at p.state.market)
      (if b then unnamed else record { engine = reads.engine; index = forecast_in p.state.market over.terms.now })
      ≡ Some curves
      → (y : ℕ) × (curves.forecast ≡ Some y)
  by_expired true x is named = absurd (cc)
  by_expired false x is named =
      curves_forecast (input_at p.state.market) reads.engine x curves
      (ap (curves_by (input_at p.state.market) reads.engine) (sym is) ∙ named)

  wanted : needs_curve (views_of over.index) over.terms.now.flows over.today ≡ true → IsSome over.forecast
  wanted needs =
      let m : Market = p.state.market in
      let n = forecast_named m over.terms.now over.index reads.index
      (ap (needs_curve (views_of over.index) over.terms.now.flows) (sym reads.today) ∙ needs) in
      let named = sym (curves_named m o over.terms.now reads.engine index)
      ∙ sym (ap (λ (t : Option Terms). curves_in (uses_of (input_at m) m o t)) reads.terms) ∙ some in
      let y = by_expired (is_expired over.terms.now.flows m.today) n.0 n.1 named in
      let c = both_forecast (curve_in (kept_at p.state curves.discount).last) (curve_in (kept_at p.state y.0).last)
      over.discount.now (option_copied over.forecast)
      (ap (λ (f : Option ℕ). both (curve_in (kept_at p.state curves.discount).last) (read_curve p.state f)) (sym y.1)
      ∙ reads.seen) in
      copied_some over.forecast c.0 c.1

  pub fit_is : IsFit over
  fit_is = record {
    range = ranged;
    index =
        index_there over.terms.now.index over.index (index_at p.state.market over.terms.now.index) index reads.index;
    curve = wanted;
  }

  -- the text is that of the products
  pub text_over : (shown : Value) (inputs : List input.Input) → last_inputs p.state o ≡ Ok inputs
      → workings_in p o (Some (Flows over.terms.now reads.engine)) (Some shown)
      ≡ sum_text (named p over.object) (products_over over)
  text_over shown inputs is =
      text_read p o over.terms.now reads.engine shown inputs reads.terms is curves some
      ∙ ap (λ (r : Option (Curve × Option Curve)). sum_text (named p o)
      (by_read p.state o over.terms.now.flows p.state.market.today
      (view_read (index_at p.state.market over.terms.now.index)) r)) reads.seen
      ∙ ap (λ (i : Option IndexView). sum_text (named p o)
      (flow_products o over.terms.now.flows p.state.market.today i over.discount.now (option_copied over.forecast)))
      (sym (views_read over.index ∙ ap view_read reads.index))
      ∙ ap (λ (t : ℤ). sum_text (named p o)
      (flow_products o over.terms.now.flows t (views_of over.index) over.discount.now (option_copied over.forecast)))
      (sym reads.today)
      ∙ ap (λ (x : ℕ). sum_text (named p x)
      (flow_products x over.terms.now.flows over.today (views_of over.index) over.discount.now
      (option_copied over.forecast))) (sym reads.object)

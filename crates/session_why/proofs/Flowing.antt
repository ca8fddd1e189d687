-- The workings of flows by what is stored.
use Rattle.std.proofs.Common.{◌≡◌, ℕ, ℤ, true, false, Bool, List, [], ◌∷◌, Option, Some, None, Result, Ok}
use Rattle.std.proofs.Common.{Err, refl, sym, ◌∙◌, ap}
use Rattle.std.specs.Prelude.{if◌then◌else◌, option_map}
use Rattle.curve_points.specs.Curve.{Curve}
use Rattle.desk_terms.specs.declared.terms.Terms.TheVariants.{Flows}
use Rattle.desk_terms.specs.declared.value.Value.{Value}
use Rattle.desk_terms.specs.declared.value.Value.TheVariants as value
use Rattle.desk_terms.specs.declared.value.Input as input
use Rattle.desk_terms.specs.declared.cause.Cause.{Cause}
use Rattle.desk_terms.specs.declared.cause.Cause.TheVariants.{TooLarge}
use Rattle.desk_terms.specs.Reading.{Outcome, IndexReading, IsIndexOf, index_reading}
use Rattle.flow_terms.specs.declared.indexes.IndexUse.{IndexUse}
use Rattle.flow_terms.specs.declared.flows.FlowTerm.{FlowTerm}
use Rattle.flow_terms.specs.declared.flows.FlowTerms.{FlowTerms}
use Rattle.flow_terms.specs.Flows.{is_expired, needs_forecast}
use Rattle.cash_flow_legs.specs.Amount.{IndexView, views_of}
use Rattle.discount_engines.specs.Flows.{view_read}
use Rattle.desk_model.specs.declared.entry.Entry.{Entry}
use Rattle.desk_model.specs.declared.entry.Entry.TheVariants.{Gives, Needs, Refuses}
use Rattle.desk_model.specs.Market.{Market, terms_at}
use Rattle.desk_model.specs.Uses.{input_at, index_at, fixings_in, forecast_entries, engine_entries, uses}
use Rattle.desk_model.specs.Uses.{uses_of}
use Rattle.desk_model.specs.Fresh.{and_value, inputs_by}
use Rattle.desk_model.specs.State.{State, kept_at, last_of, last_answer}
use Rattle.session_model.specs.Standing.{Standing}
use Rattle.why_model.specs.Workings.{FlowProduct, flow_products, flows_over, flows_at}
use Rattle.why_model.specs.Answer.{named, sum_text, workings_by}
use Rattle.session_why.specs.declared.curves.Curves.{Curves}
use Rattle.session_why.specs.declared.curves.Naming.{Naming}
use Rattle.session_why.specs.Curves.{unnamed, forecast_by, naming_in, curves_in, curve_in}
use Rattle.session_why.specs.Lasts.{last_inputs, workings_in}
use Rattle.session_why.specs.Over.{both, read_curves}
use Rattle.session_why.proofs.Lasting.{inputs_or_none}

-- an index, as it is given and as it is read
pub views_read : (index : Option IndexUse) → views_of index ≡ view_read (index_reading index)
views_read None = refl
views_read (Some index) = refl

-- ---- the inputs of a price of flows

module _ (s : State) (o : ℕ) (fs : List FlowTerm) (today : ℤ) (index : Option IndexView) where
  abbrev last : ℕ → Outcome
  last = last_answer s

  abbrev over : List input.Input → Result (List FlowProduct) Cause
  over inputs = flows_over o fs today index inputs

  abbrev over_of : Result (List input.Input) Cause → Result (List FlowProduct) Cause
  over_of r = over (inputs_or_none r)

  -- over what curves are read
  abbrev pub by_read : Option (Curve × Option Curve) → Result (List FlowProduct) Cause
  by_read None = Err (TooLarge o)
  by_read (Some read) = flow_products o fs today index read.0 read.1

  one_read : (x : ℕ) (l : Option Value) (inputs : List input.Input) → and_value (last_of x l) (Ok []) ≡ Ok inputs
      → over inputs ≡ by_read (both (curve_in l) (Some None))
  one_read x None inputs is = absurd (cc)
  one_read x (Some (value.Money amount)) inputs is = ap over_of (sym is)
  one_read x (Some (value.Curve curve)) inputs is = ap over_of (sym is)

  two_read : (x y : ℕ) (l m : Option Value) (inputs : List input.Input)
      → and_value (last_of x l) (and_value (last_of y m) (Ok [])) ≡ Ok inputs
      → over inputs ≡ by_read (both (curve_in l) (option_map (λ c. Some c) (curve_in m)))
  two_read x y None m inputs is = absurd (cc)
  two_read x y (Some (value.Money amount)) None inputs is = absurd (cc)
  two_read x y (Some (value.Curve curve)) None inputs is = absurd (cc)
  two_read x y (Some (value.Money amount)) (Some (value.Money other)) inputs is = ap over_of (sym is)
  two_read x y (Some (value.Money amount)) (Some (value.Curve forecast)) inputs is = ap over_of (sym is)
  two_read x y (Some (value.Curve curve)) (Some (value.Money other)) inputs is = ap over_of (sym is)
  two_read x y (Some (value.Curve curve)) (Some (value.Curve forecast)) inputs is = ap over_of (sym is)

  some_is : (a b : Curves) → Some a ≡ Some b → a ≡ b
  some_is a b e = cc

  pub curves_read : (u : List Entry) (curves : Curves) (inputs : List input.Input) → curves_in u ≡ Some curves
      → inputs_by last u ≡ Ok inputs → over inputs ≡ by_read (read_curves s curves)
  curves_read [] curves inputs are is = absurd (cc)
  curves_read (Gives rate ∷ u) curves inputs are is = absurd (cc)
  curves_read (Refuses cause ∷ u) curves inputs are is = absurd (cc)
  curves_read (Needs x ∷ []) curves inputs are is =
      one_read x (kept_at s x).last inputs is
      ∙ ap (λ (c : Curves). by_read (read_curves s c)) (some_is (record { discount = x; forecast = None }) curves are)
  curves_read (Needs x ∷ Gives rate ∷ u) curves inputs are is = absurd (cc)
  curves_read (Needs x ∷ Refuses cause ∷ u) curves inputs are is = absurd (cc)
  curves_read (Needs x ∷ Needs y ∷ []) curves inputs are is =
      two_read x y (kept_at s x).last (kept_at s y).last inputs is
      ∙ ap (λ (c : Curves). by_read (read_curves s c)) (some_is (record { discount = x; forecast = Some y }) curves are)
  curves_read (Needs x ∷ Needs y ∷ e ∷ u) curves inputs are is = absurd (cc)

-- ---- what an object of flows uses

-- by what names the curves
abbrev pub curves_by : (ℕ → Entry) → Option ℕ → Option ℕ → Option Curves
curves_by read None index = None
curves_by read (Some e) None = curves_in (read e ∷ [])
curves_by read (Some e) (Some x) = curves_in (read e ∷ read x ∷ [])

abbrev pub named_by : (ℕ → Entry) → Naming → Option Curves
named_by read naming = curves_by read naming.engine naming.index

module _ (m : Market) (o : ℕ) (flows : FlowTerms) (engine : Option ℕ) where
  pub curves_named : IsIndexOf flows.index (index_at m flows.index)
      → curves_in (uses_of (input_at m) m o (Some (Flows flows engine)))
      ≡ named_by (input_at m) (naming_in m (Some (Flows flows engine)))
  curves_named there = by (is_expired flows.flows m.today) engine flows.index there
    where
      by_need : (b : Bool) (e x : ℕ) → curves_in (input_at m e ∷ (if b then input_at m x ∷ [] else []))
          ≡ curves_by (input_at m) (Some e) (if b then Some x else None)
      by_need true e x = refl
      by_need false e x = refl

      with_index : (e x : ℕ) (r : Option IndexReading) → IsIndexOf (Some x) r
          → curves_in (input_at m e ∷
          (if needs_forecast flows.flows (fixings_in r) m.today then input_at m x ∷ [] else []))
          ≡ curves_by (input_at m) (Some e) (forecast_by m (record flows { index = Some x }) r)
      with_index e x None there = absurd there
      with_index e x (Some index) there = by_need (needs_forecast flows.flows index.fixings m.today) e x

      by : (b : Bool) (engine index : Option ℕ) → IsIndexOf index (index_at m index)
          → curves_in (if b then [] else engine_entries (input_at m) o engine
          (forecast_entries (input_at m) m flows.flows index))
          ≡ named_by (input_at m)
          (if b then unnamed else record
          { engine = engine; index = forecast_by m (record flows { index = index }) (index_at m index) })
      by true engine index there = refl
      by false None index there = refl
      by false (Some e) None there = refl
      by false (Some e) (Some x) there = with_index e x (index_at m (Some x)) there

-- ---- the text

module _ (p : Standing) (o : ℕ) (flows : FlowTerms) (engine : Option ℕ) (shown : Value) (inputs : List input.Input)
    (are : terms_at p.state.market o ≡ Some (Flows flows engine)) (is : last_inputs p.state o ≡ Ok inputs) where
  uses_are : uses p.state.market o ≡ uses_of (input_at p.state.market) p.state.market o (Some (Flows flows engine))
  uses_are = ap (uses_of (input_at p.state.market) p.state.market o) are

  inputs_are : inputs_by (last_answer p.state)
      (uses_of (input_at p.state.market) p.state.market o (Some (Flows flows engine))) ≡ Ok inputs
  inputs_are = ap (inputs_by (last_answer p.state)) (sym uses_are) ∙ is

  whole_text : workings_in p o (Some (Flows flows engine)) (Some shown)
      ≡ (if is_expired flows.flows p.state.market.today then [] else sum_text (named p o)
      (flows_at p.state.market o flows inputs))
  whole_text = ap (workings_by p o (Flows flows engine) shown) is

  -- an object whose flows are all paid reads none
  unpaid : (curves : Curves) → curves_in (uses p.state.market o) ≡ Some curves
      → is_expired flows.flows p.state.market.today ≡ false
  unpaid curves some =
      by (is_expired flows.flows p.state.market.today) (engine_entries (input_at p.state.market) o engine
      (forecast_entries (input_at p.state.market) p.state.market flows.flows flows.index)) (ap curves_in (sym uses_are)
      ∙ some)
    where
      by : (b : Bool) (u : List Entry) → curves_in (if b then [] else u) ≡ Some curves → b ≡ false
      by true u e = absurd (cc)
      by false u e = refl

  pub text_read : (curves : Curves) → curves_in (uses p.state.market o) ≡ Some curves
      → workings_in p o (Some (Flows flows engine)) (Some shown)
      ≡ sum_text (named p o)
      (by_read p.state o flows.flows p.state.market.today (view_read (index_at p.state.market flows.index))
      (read_curves p.state curves))
  text_read curves some =
      whole_text
      ∙ ap (λ (b : Bool). if b then [] else sum_text (named p o) (flows_at p.state.market o flows inputs))
      (unpaid curves some)
      ∙ ap (sum_text (named p o))
      (curves_read p.state o flows.flows p.state.market.today (view_read (index_at p.state.market flows.index))
      (uses_of (input_at p.state.market) p.state.market o (Some (Flows flows engine))) curves inputs
      (ap curves_in (sym uses_are) ∙ some) inputs_are)

  -- and where one of them is no curve
  pub text_unread : (curves : Curves) → curves_in (uses p.state.market o) ≡ Some curves
      → read_curves p.state curves ≡ None
      → workings_in p o (Some (Flows flows engine)) (Some shown) ≡ []
  text_unread curves some none =
      text_read curves some
      ∙ ap (λ (r : Option (Curve × Option Curve)). sum_text (named p o)
      (by_read p.state o flows.flows p.state.market.today (view_read (index_at p.state.market flows.index)) r)) none

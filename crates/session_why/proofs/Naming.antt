-- What names the curves that the price of flows reads.
use Rattle.std.proofs.Common.{◌≡◌, ℕ, ◌<◌, Bool, true, false, length, Option, Some, None, refl, sym, ◌∙◌, ap, subst}
use Rattle.std.specs.Prelude.{if◌then◌else◌}
use Rattle.desk_terms.specs.declared.terms.Terms.{Terms}
use Rattle.desk_terms.specs.declared.terms.Terms.TheVariants.{Flows}
use Rattle.desk_terms.specs.declared.kind.Kind as kind
use Rattle.desk_terms.specs.Reading.{IndexReading}
use Rattle.flow_terms.specs.declared.flows.FlowTerms.{FlowTerms}
use Rattle.flow_terms.specs.Flows.{is_expired, needs_forecast}
use Rattle.desk_model.specs.Market.{Market, slot_at, terms_at, kind_at, edges_of}
use Rattle.desk_model.specs.Uses.{input_at, index_at, uses, uses_of}
use Rattle.desk_model.specs.State.{State}
use Rattle.desk_model.specs.Links.{IsWhole, IsKinded, AreRanged}
use Rattle.walks.specs.Walk.{Among}
use Rattle.session_why.specs.declared.curves.Naming.{Naming}
use Rattle.session_why.specs.Curves.{unnamed, forecast_by, naming_in, curves_in}
use Rattle.session_why.specs.Lasts.{CanWork, last_inputs}
use Rattle.session_why.proofs.Lasting.{reading_formed}
use Rattle.session_why.proofs.Flowing.{named_by, curves_named}
use Rattle.session_why.proofs.ByKind.{terms_of_kind, ok_there}
use Rattle.session_why.proofs.Told.{engine_among, index_among}

-- what names them, of an object that has workings
pub record AreNamed (m : Market) (o : ℕ) (naming : Naming) : Type 0 where
  pub curves : curves_in (uses m o) ≡ named_by (input_at m) naming
  pub engine : (e : ℕ) → naming.engine ≡ Some e → e < length m.objects
  pub index : (x : ℕ) → naming.index ≡ Some x → x < length m.objects

named_engine : (b : Bool) (engine index : Option ℕ) (e : ℕ)
    → (if b then unnamed else record { engine = engine; index = index }).engine ≡ Some e → engine ≡ Some e
named_engine true engine index e is = absurd (cc)
named_engine false engine index e is = is

named_index : (b : Bool) (engine index : Option ℕ) (x : ℕ)
    → (if b then unnamed else record { engine = engine; index = index }).index ≡ Some x → index ≡ Some x
named_index true engine index x is = absurd (cc)
named_index false engine index x is = is

forecast_index : (m : Market) (flows : FlowTerms) (r : Option IndexReading) (x : ℕ) → forecast_by m flows r ≡ Some x
    → flows.index ≡ Some x
forecast_index m flows None x is = absurd (cc)
forecast_index m flows (Some index) x is = by (needs_forecast flows.flows index.fixings m.today) is
  where
    by : (b : Bool) → (if b then flows.index else None) ≡ Some x → flows.index ≡ Some x
    by true e = e
    by false e = absurd (cc)

pub are_named : (s : State) (o : ℕ) (naming : Naming) → IsWhole s → IsKinded s.market → AreRanged s.market
    → kind_at s.market o ≡ Some kind.TheVariants.Flows → CanWork s o → naming ≡ naming_in s.market (terms_at s.market o)
    → AreNamed s.market o naming
are_named s o naming whole kinds ranged is can names =
    let m : Market = s.market in
    let t = terms_of_kind (slot_at m o) kind.TheVariants.Flows is refl in
    let flows : FlowTerms = t.2.0 in
    let engine : Option ℕ = t.2.1 in
    let are : terms_at m o ≡ Some (Flows flows engine) = t.1 ∙ ap (λ (f : Terms). Some f) t.2.2 in
    let inputs = ok_there (last_inputs s o) can.inputs in
    let formed = reading_formed s whole kinds ranged o (Flows flows engine) inputs.0 are refl inputs.1 in
    let same : naming ≡ naming_in m (Some (Flows flows engine)) = names ∙ ap (naming_in m) are in
    let among : (x : ℕ) → Among x (edges_of (Some (Flows flows engine))) → x < length m.objects =
    λ x a. whole.links.within o x (subst (λ (f : Option Terms). Among x (edges_of f)) (sym are) a) in
    record {
      curves =
          ap (λ (f : Option Terms). curves_in (uses_of (input_at m) m o f)) are
          ∙ curves_named m o flows engine formed.index
          ∙ ap (named_by (input_at m)) (sym same);
      engine = λ e named. among e (engine_among flows engine e
          (named_engine (is_expired flows.flows m.today) engine (forecast_by m flows (index_at m flows.index)) e
          (sym (ap (λ (n : Naming). n.engine) same) ∙ named)));
      index = λ x named. among x (index_among flows engine x
          (forecast_index m flows (index_at m flows.index) x
          (named_index (is_expired flows.flows m.today) engine (forecast_by m flows (index_at m flows.index)) x
          (sym (ap (λ (n : Naming). n.index) same) ∙ named))));
    }

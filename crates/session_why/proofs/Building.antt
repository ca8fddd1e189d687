-- The workings of composites and of curves that are built, by their terms.
use Rattle.std.proofs.Common.{◌≡◌, inl, inr, ℕ, ℤ, ◌<◌, List, [], ◌∷◌, length, Option, Some, Ok, refl, sym, ◌∙◌}
use Rattle.std.proofs.Common.{ap, subst}
use Rattle.std.specs.List.{All}
use Rattle.std.proofs.lemmas.List.Elements.{All-nil, All-cons}
use Rattle.walks.specs.Walk.{Among}
use Rattle.curve_points.specs.declared.curves.CurveNode.{CurveNode}
use Rattle.curve_terms.specs.declared.terms.CurveTerms.{CurveTerms}
use Rattle.curve_terms.specs.declared.terms.Helper.{Helper}
use Rattle.desk_terms.specs.declared.terms.Part.{Part}
use Rattle.desk_terms.specs.declared.terms.Terms.{Terms}
use Rattle.desk_terms.specs.declared.terms.Terms.TheVariants.{Curve, Composite}
use Rattle.desk_terms.specs.declared.kind.Kind as kind
use Rattle.desk_terms.specs.declared.value.Value.{Value}
use Rattle.desk_terms.specs.declared.value.Value.TheVariants as value
use Rattle.desk_terms.specs.Parts.{IsWeight}
use Rattle.desk_terms.specs.Terms.{helper_references}
use Rattle.desk_model.specs.Market.{Market, slot_at, terms_at, kind_at, named, edges_of}
use Rattle.desk_model.specs.Uses.{input_at, helper_entries, member_entries, uses_of}
use Rattle.desk_model.specs.Fresh.{inputs_by}
use Rattle.desk_model.specs.State.{kept_at, last_answer}
use Rattle.desk_model.specs.Links.{IsLinked, IsRanged, AreRanged}
use Rattle.session_model.specs.Standing.{Standing}
use Rattle.why_model.specs.Workings.{NodeRate}
use Rattle.why_model.specs.Answer.{nodes_of, node_rates_text}
use Rattle.why_model.specs.Answer.{named as name_of}
use Rattle.session_why.specs.Lasts.{CanWork, last_inputs, workings_in, helper_quotes, quotes_in, rates_by}
use Rattle.session_why.specs.Lasts.{nodes_with, nodes_in}
use Rattle.session_why.proofs.Lasting.{nodes_read}
use Rattle.session_why.proofs.ByKind.{terms_of_kind, working}
use Rattle.session_why.proofs.Told.{quote_among, each_weight}

-- ---- composites

module _ (p : Standing) (o : ℕ) (parts : List Part) (are : terms_at p.state.market o ≡ Some (Composite parts)) where
  inputs_are : last_inputs p.state o ≡ inputs_by (last_answer p.state) (member_entries parts)
  inputs_are =
      ap (λ (f : Option Terms). inputs_by (last_answer p.state) (uses_of (input_at p.state.market) p.state.market o f))
      are

  pub parts_weighed : AreRanged p.state.market → All (λ part. IsWeight part.weight) parts
  parts_weighed ranged = each_weight parts (subst IsRanged are (ranged o)).each

-- ---- curves

all_within : (n : ℕ) (helpers : List Helper) → ((x : ℕ) → Among x (named (helper_references helpers)) → x < n)
    → All (λ quote. quote < n) (helper_quotes helpers)
all_within n [] each = All-nil (λ quote. quote < n)
all_within n (helper ∷ helpers) each =
    All-cons (λ quote. quote < n) helper.quote (helper_quotes helpers) (each helper.quote (inl refl))
    (all_within n helpers (λ x a. each x (inr a)))

pub quotes_within : (m : Market) (o : ℕ) → IsLinked m → kind_at m o ≡ Some kind.TheVariants.Curve
    → All (λ quote. quote < length m.objects) (quotes_in (terms_at m o))
quotes_within m o links is =
    let t = terms_of_kind (slot_at m o) kind.TheVariants.Curve is refl in
    let held : CurveTerms = t.2.0 in
    let are : terms_at m o ≡ Some (Curve held) = t.1 ∙ ap (λ (f : Terms). Some f) t.2.1 in
    subst (λ (f : Option Terms). All (λ quote. quote < length m.objects) (quotes_in f)) (sym are)
    (all_within (length m.objects) held.helpers
    (λ x among. links.within o x
    (subst (λ (f : Option Terms). Among x (edges_of f)) (sym are) (quote_among held x among))))

nodes_same : (v : Value) → nodes_in (Some v) ≡ nodes_of v
nodes_same (value.Money amount) = refl
nodes_same (value.Curve curve) = refl

module _ (p : Standing) (o : ℕ) (is : kind_at p.state.market o ≡ Some kind.TheVariants.Curve) (can : CanWork p.state o)
  where
    abbrev m : Market
    m = p.state.market

    pub nodes_worked : (nodes : List CurveNode) (quotes : List ℕ) (rates : List ℤ)
        → nodes ≡ nodes_in (kept_at p.state o).last
        → quotes ≡ quotes_in (terms_at m o) → rates ≡ rates_by (input_at m) quotes
        → node_rates_text p (name_of p o) (nodes_with nodes quotes rates)
        ≡ workings_in p o (terms_at m o) (kept_at p.state o).last
    nodes_worked nodes quotes rates are_nodes are_quotes are_rates =
        let t = terms_of_kind (slot_at m o) kind.TheVariants.Curve is refl in
        let held : CurveTerms = t.2.0 in
        let terms : terms_at m o ≡ Some (Curve held) = t.1 ∙ ap (λ (f : Terms). Some f) t.2.1 in
        let w = working p o (Curve held) terms can in
        let given : inputs_by (last_answer p.state) (helper_entries (input_at m) held.helpers) ≡ Ok w.inputs =
        sym (ap (λ (f : Option Terms). inputs_by (last_answer p.state) (uses_of (input_at m) m o f)) terms) ∙ w.given in
        let named : quotes ≡ helper_quotes held.helpers = are_quotes ∙ ap quotes_in terms in
        ap (λ (l : List CurveNode). node_rates_text p (name_of p o) (nodes_with l quotes rates))
        (are_nodes ∙ ap nodes_in w.last ∙ nodes_same w.shown)
        ∙ ap (λ (l : List ℤ). node_rates_text p (name_of p o) (nodes_with (nodes_of w.shown) quotes l)) are_rates
        ∙ ap (λ (l : List ℕ). node_rates_text p (name_of p o)
        (nodes_with (nodes_of w.shown) l (rates_by (input_at m) l)))
        named
        ∙ ap (λ (l : List NodeRate). node_rates_text p (name_of p o) l)
        (sym (nodes_read (last_answer p.state) (input_at m) (nodes_of w.shown) held.helpers w.inputs given))
        ∙ sym w.text

-- Each change keeps the kinds: every object names others of the kinds that its terms want.
use Rattle.std.proofs.Common.{◌≡◌, inl, inr, ℕ, ◌<◌, Bool, true, false, List, [], ◌∷◌, length, Option, Some, None, ℤ, refl, sym, ◌∙◌, ap, subst, ◌≢◌, ◌++◌}
use Rattle.std.specs.Prelude.{if◌then◌else◌, ◌==◌, pos}
use Rattle.std.specs.Ordering.{int_eq}
use Rattle.std.proofs.lemmas.List.{get_or_past}
use Rattle.std.proofs.lemmas.Bool.{cases_eq, cases_lt, false≢true}
use Rattle.std.specs.Option.{option_eq}
use Rattle.flow_terms.specs.Fixings.{with_fixing}
use Rattle.desk_terms.specs.declared.terms.Terms.TheVariants.{Quote, Handle, Index, Composite, Flows}
use Rattle.desk_terms.specs.declared.terms.Part.{Part}
use Rattle.flow_terms.specs.declared.flows.FlowTerms.{FlowTerms}
use Rattle.desk_model.specs.Changeable.{Changeable, changeable, weight_of, has_member, without_member, reweighted, with_member}
use Rattle.desk_model.specs.Changeable.Changeable.{HasValue, HasTarget, HasFixings, HasParts, HasEngine, HasNone}
use Rattle.desk_model.proofs.Commands.{TermsOf, terms_hold, kind_there, same_handle}
use Rattle.walks.specs.Walk.{Among}
use Rattle.desk_terms.specs.declared.terms.Terms.{Terms}
use Rattle.desk_terms.specs.declared.terms.HandleKind as handle
use Rattle.desk_terms.specs.declared.kind.Kind as kind
use Rattle.desk_terms.specs.declared.kind.Wanted as wanted
use Rattle.desk_terms.specs.declared.reference.Reference.{Reference}
use Rattle.desk_terms.specs.Terms.{kind_of, inputs_of, optional_reference, part_references}
use Rattle.desk_model.specs.declared.slot.Slot.{Slot}
use Rattle.desk_model.specs.declared.slot.Slot.TheVariants.{Free, Today, Watcher, Live}
use Rattle.desk_model.specs.Market.{Market, slot_at, terms_in, terms_at, kind_in, kind_at, is_observable, named, edges_of, edges}
use Rattle.desk_model.specs.State.{State}
use Rattle.desk_model.specs.Told.{tell}
use Rattle.desk_model.specs.Links.{IsWhole, serves_as, Serve, AreOfKind, IsKinded}
use Rattle.desk_model.specs.Laws.{MayBeMade}
use Rattle.desk_model.specs.Effect.{added, with_terms, notified_as, notified, revised, today_set, with_today, value_set, quote_set, number_eq, target_set, relinked, priced_by_engine, engine_set, weight_set, member_set, fixing_stored, fixing_added, dropped}
use Rattle.desk_model.proofs.Edges.{edge_input, input_edge}
use Rattle.desk_model.proofs.Changes.{slot_there, slot_here, within_here}
use Rattle.desk_model.proofs.Births.{old_slot, new_slot, old_within, left, gone}

-- where what serves in one market serves in another
pub serve_kept : (m n : Market)
    → ((x : ℕ) (w : wanted.Wanted) → serves_as (kind_at m x) w ≡ true → serves_as (kind_at n x) w ≡ true)
    → (references : List Reference) → Serve m references → Serve n references
serve_kept m n still [] serve = tt
serve_kept m n still (reference ∷ references) serve = (still reference.object reference.wanted serve.0, serve_kept m n still references serve.1)

pub kinds_kept : (m n : Market)
    → ((x : ℕ) (w : wanted.Wanted) → serves_as (kind_at m x) w ≡ true → serves_as (kind_at n x) w ≡ true)
    → (terms : Option Terms) → AreOfKind m terms → AreOfKind n terms
kinds_kept m n still None kinds = tt
kinds_kept m n still (Some terms) kinds = serve_kept m n still (inputs_of terms) kinds

notified_market : (b : Bool) (x : ℕ) (u : State) → (notified_as b x u).market ≡ u.market
unfolding tell
notified_market true x u = refl
notified_market false x u = refl

-- what serves is observable
serving_observed : (slot : Slot) (w : wanted.Wanted) → serves_as (kind_in slot) w ≡ true → is_observable slot ≡ true
serving_observed Free w is = absurd (cc)
serving_observed Today w is = refl
serving_observed Watcher w is = absurd (cc)
serving_observed (Live terms) w is = refl

named_observed : (m : Market) (references : List Reference) → Serve m references → (y : ℕ) → Among y (named references)
    → is_observable (slot_at m y) ≡ true
named_observed m [] serve y among = absurd among
named_observed m (reference ∷ references) serve y (inl same) = ap (λ (z : ℕ). is_observable (slot_at m z)) same
    ∙ serving_observed (slot_at m reference.object) reference.wanted serve.0
named_observed m (reference ∷ references) serve y (inr among) = named_observed m references serve.1 y among

-- THE CONDITION OF MAKING is enough to make
pub may_be_made : (s : State) → IsWhole s → (terms : Terms) → AreOfKind s.market (Some terms)
    → MayBeMade s.market (Live terms)
may_be_made s whole terms kinds y among = elim (edge_input terms y among) [
  | inl day ↦ ap (λ (z : ℕ). is_observable (slot_at s.market z)) day ∙ ap is_observable whole.today
  | inr named ↦ named_observed s.market (inputs_of terms) kinds y named
]

-- Other terms of the same kind.
module _ (s : State) (x : ℕ) (terms : Terms) (whole : IsWhole s) (same_kind : kind_at s.market x ≡ Some (kind_of terms)) where
  kind_then : (o : ℕ) → kind_at (with_terms x terms s).market o ≡ kind_at s.market o
  kind_then o = elim (cases_eq o x) [
    | inl same ↦
        ap (kind_at (with_terms x terms s).market) same
        ∙ (ap kind_in (slot_here s x terms (within_here s x terms whole same_kind)) ∙ (sym same_kind ∙ ap (kind_at s.market) (sym same)))
    | inr other ↦ ap kind_in (slot_there s x terms o other)
  ]

  still : (o : ℕ) (w : wanted.Wanted) → serves_as (kind_at s.market o) w ≡ true
      → serves_as (kind_at (with_terms x terms s).market o) w ≡ true
  still o w is = ap (λ (k : Option kind.Kind). serves_as k w) (kind_then o) ∙ is

  terms_kinded : AreOfKind s.market (Some terms) → IsKinded s.market → IsKinded (with_terms x terms s).market
  terms_kinded own kinds o = elim (cases_eq o x) [
    | inl same ↦
        subst (AreOfKind (with_terms x terms s).market) (sym (ap (terms_at (with_terms x terms s).market) same ∙ ap terms_in (slot_here s x terms (within_here s x terms whole same_kind))))
        (kinds_kept s.market (with_terms x terms s).market still (Some terms) own)
    | inr other ↦
        subst (AreOfKind (with_terms x terms s).market) (sym (ap terms_in (slot_there s x terms o other)))
        (kinds_kept s.market (with_terms x terms s).market still (terms_at s.market o) (kinds o))
  ]

  -- A CHANGE OF TERMS keeps the kinds
  pub revised_kinded : AreOfKind s.market (Some terms) → IsKinded s.market → IsKinded (revised x terms s).market
  unfolding revised notified
  revised_kinded own kinds = subst IsKinded (sym (notified_market s.deferring x (with_terms x terms s))) (terms_kinded own kinds)

pub today_kinded : (s : State) (day : ℤ) → IsKinded s.market → IsKinded (today_set day s).market
unfolding today_set notified
today_kinded s day kinds = by_same (int_eq s.market.today day)
  where
    by_same : (b : Bool) → IsKinded (if b then s else notified_as s.deferring 0 (with_today day s)).market
    by_same true = kinds
    by_same false = subst IsKinded (sym (notified_market s.deferring 0 (with_today day s))) (λ o. kinds_kept s.market (with_today day s).market (λ x w is. is) (terms_at s.market o) (kinds o))

-- A new object.
module _ (s : State) (slot : Slot) where
  served_within : (o : ℕ) (w : wanted.Wanted) → serves_as (kind_at s.market o) w ≡ true → o < length s.market.objects
  served_within o w is = elim (cases_lt o (length s.market.objects)) [
    | inl within ↦ within
    | inr past ↦ absurd (false≢true (sym (ap (λ (t : Slot). serves_as (kind_in t) w) (get_or_past s.market.objects o Free past)) ∙ is))
  ]

  still_there : (o : ℕ) (w : wanted.Wanted) → serves_as (kind_at s.market o) w ≡ true
      → serves_as (kind_at (added slot s).market o) w ≡ true
  still_there o w is = ap (λ (t : Slot). serves_as (kind_in t) w) (old_within s slot o (served_within o w is)) ∙ is

  pub added_kinded : AreOfKind s.market (terms_in slot) → IsKinded s.market → IsKinded (added slot s).market
  added_kinded own kinds o = elim (cases_eq o (length s.market.objects)) [
    | inl same ↦ subst (AreOfKind (added slot s).market) (sym (ap (terms_at (added slot s).market) same ∙ ap terms_in (new_slot s slot))) (kinds_kept s.market (added slot s).market still_there (terms_in slot) own)
    | inr other ↦ subst (AreOfKind (added slot s).market) (sym (ap terms_in (old_slot s slot o other))) (kinds_kept s.market (added slot s).market still_there (terms_at s.market o) (kinds o))
  ]

-- An object that none observes is dropped: what others name is still there.
module _ (s : State) (x : ℕ) (whole : IsWhole s) (not_today : x ≢ 0) (unused : (o : ℕ) → Among x (edges s.market o) → ⊥) where
  -- what an object names is an edge of it
  serve_left : (references : List Reference) → ((y : ℕ) → Among y (named references) → y ≢ x)
      → Serve s.market references → Serve (dropped x s).market references
  serve_left [] apart serve = tt
  serve_left (reference ∷ references) apart serve = (
    ap (λ (t : Slot). serves_as (kind_in t) reference.wanted) (left s x whole not_today unused reference.object (apart reference.object (inl refl)))
        ∙ serve.0,
    serve_left references (λ y among. apart y (inr among)) serve.1,
  )

  kinded_left : (o : ℕ) (terms : Option Terms) → terms_at s.market o ≡ terms → AreOfKind s.market terms
      → AreOfKind (dropped x s).market terms
  kinded_left o None is kinds = tt
  kinded_left o (Some terms) is kinds = serve_left (inputs_of terms) (λ y among same. unused o (subst (λ (t : Option Terms). Among x (edges_of t)) (sym is) (subst (λ (z : ℕ). Among z (edges_of (Some terms))) same (input_edge terms y among)))) kinds

  pub dropped_kinded : IsKinded s.market → IsKinded (dropped x s).market
  dropped_kinded kinds o = elim (cases_eq o x) [
    | inl same ↦ subst (AreOfKind (dropped x s).market) (sym (ap (terms_at (dropped x s).market) same ∙ ap terms_in (gone s x whole not_today unused))) tt
    | inr other ↦ subst (AreOfKind (dropped x s).market) (sym (ap terms_in (left s x whole not_today unused o other))) (kinded_left o (terms_at s.market o) refl (kinds o))
  ]

-- the parts of a composite that changes
module _ (m : Market) where
  serve_without : (parts : List Part) (member : ℕ) → Serve m (part_references parts)
      → Serve m (part_references (without_member parts member))
  serve_without [] member serve = tt
  serve_without (part ∷ parts) member serve = by_same (part.member == member) (serve_without parts member serve.1)
    where
      by_same : (b : Bool) → Serve m (part_references (without_member parts member))
          → Serve m (part_references (if b then without_member parts member else part ∷ without_member parts member))
      by_same true rest = rest
      by_same false rest = (serve.0, rest)

  serve_reweighted : (parts : List Part) (member : ℕ) (weight : ℤ) → Serve m (part_references parts)
      → Serve m (part_references (reweighted parts member weight))
  serve_reweighted [] member weight serve = tt
  serve_reweighted (part ∷ parts) member weight serve = by_same (part.member == member) (serve_reweighted parts member weight serve.1)
    where
      by_same : (b : Bool) → Serve m (part_references (reweighted parts member weight))
          → Serve m (part_references (if b then record part { weight = weight } ∷ reweighted parts member weight else part ∷ reweighted parts member weight))
      by_same true rest = (serve.0, rest)
      by_same false rest = (serve.0, rest)

  serve_appended : (parts : List Part) (member : ℕ) (weight : ℤ)
      → serves_as (kind_at m member) wanted.TheVariants.Member ≡ true → Serve m (part_references parts)
      → Serve m (part_references (parts ++ record { weight = weight; member = member } ∷ []))
  serve_appended [] member weight is serve = (is, tt)
  serve_appended (part ∷ parts) member weight is serve = (serve.0, serve_appended parts member weight is serve.1)

  pub serve_with : (parts : List Part) (member : ℕ) (weight : ℤ)
      → (int_eq weight (pos 0) ≡ false → serves_as (kind_at m member) wanted.TheVariants.Member ≡ true)
      → Serve m (part_references parts) → Serve m (part_references (with_member parts member weight))
  serve_with parts member weight is serve = by_weight (int_eq weight (pos 0)) refl
    where
      by_member : (b : Bool) → serves_as (kind_at m member) wanted.TheVariants.Member ≡ true
          → Serve m (part_references (if b then reweighted parts member weight else parts ++ record { weight = weight; member = member } ∷ []))
      by_member true new = serve_reweighted parts member weight serve
      by_member false new = serve_appended parts member weight new serve

      by_weight : (b : Bool) → int_eq weight (pos 0) ≡ b
          → Serve m (part_references (if b then without_member parts member else if has_member parts member then reweighted parts member weight else parts ++ record { weight = weight; member = member } ∷ []))
      by_weight true zero_ = serve_without parts member serve
      by_weight false some = by_member (has_member parts member) (is some)

  serve_flows : (flows : FlowTerms) (held engine : Option ℕ)
      → Serve m (optional_reference wanted.TheVariants.Engine engine) → AreOfKind m (Some (Flows flows held))
      → AreOfKind m (Some (Flows flows engine))
  serve_flows flows held engine new serve = by_engine held engine new serve
    where
      by_engine : (held engine : Option ℕ) → Serve m (optional_reference wanted.TheVariants.Engine engine)
          → Serve m (optional_reference wanted.TheVariants.Engine held ++ optional_reference wanted.TheVariants.Index flows.index)
          → Serve m (optional_reference wanted.TheVariants.Engine engine ++ optional_reference wanted.TheVariants.Index flows.index)
      by_engine None None new serve = serve
      by_engine (Some h) None new serve = serve.1
      by_engine None (Some e) new serve = (new.0, serve)
      by_engine (Some h) (Some e) new serve = (new.0, serve.1)

kinded_unless : (s t : State) → IsKinded s.market → IsKinded t.market → (b : Bool)
    → IsKinded (if b then s else t).market
kinded_unless s t kinds changed true = kinds
kinded_unless s t kinds changed false = changed

-- Each command on terms keeps the kinds.
module _ (s : State) (whole : IsWhole s) (kinds : IsKinded s.market) where
  own : (x : ℕ) (terms : Terms) → terms_at s.market x ≡ Some terms → AreOfKind s.market (Some terms)
  own x terms is = subst (AreOfKind s.market) is (kinds x)

  pub quote_kinded : (q : ℕ) (value : Option ℤ) → IsKinded (quote_set q value s).market
  unfolding quote_set
  quote_kinded q value = by_held (changeable (terms_at s.market q)) (terms_hold (terms_at s.market q))
    where
      by_held : (c : Changeable) → TermsOf c (terms_at s.market q) → IsKinded (value_set c q value s).market
      by_held (HasValue held) is = kinded_unless s (revised q (Quote value) s) kinds (revised_kinded s q (Quote value) whole (kind_there s.market q (Quote held) is) tt kinds) (option_eq int_eq held value)
      by_held (HasTarget kind held) is = kinds
      by_held (HasFixings terms fixings) is = kinds
      by_held (HasParts parts) is = kinds
      by_held (HasEngine flows held) is = kinds
      by_held HasNone is = kinds

  pub relink_kinded : (h : ℕ) (target : Option ℕ)
      → ((kind : handle.HandleKind) (held : Option ℕ) → terms_at s.market h ≡ Some (Handle kind held) → AreOfKind s.market (Some (Handle kind target)))
      → IsKinded (relinked h target s).market
  unfolding relinked
  relink_kinded h target may = by_held (changeable (terms_at s.market h)) (terms_hold (terms_at s.market h))
    where
      by_held : (c : Changeable) → TermsOf c (terms_at s.market h) → IsKinded (target_set c h target s).market
      by_held (HasValue held) is = kinds
      by_held (HasTarget kind held) is = kinded_unless s (revised h (Handle kind target) s) kinds
          (revised_kinded s h (Handle kind target) whole (kind_there s.market h (Handle kind held) is ∙ ap Some (same_handle s whole kind held target)) (may kind held is) kinds) (option_eq number_eq held target)
      by_held (HasFixings terms fixings) is = kinds
      by_held (HasParts parts) is = kinds
      by_held (HasEngine flows held) is = kinds
      by_held HasNone is = kinds

  pub engine_kinded : (i : ℕ) (engine : Option ℕ) → Serve s.market (optional_reference wanted.TheVariants.Engine engine)
      → IsKinded (engine_set i engine s).market
  unfolding engine_set
  engine_kinded i engine may = by_held (changeable (terms_at s.market i)) (terms_hold (terms_at s.market i))
    where
      by_held : (c : Changeable) → TermsOf c (terms_at s.market i) → IsKinded (priced_by_engine c i engine s).market
      by_held (HasValue held) is = kinds
      by_held (HasTarget kind held) is = kinds
      by_held (HasFixings terms fixings) is = kinds
      by_held (HasParts parts) is = kinds
      by_held (HasEngine flows held) is = revised_kinded s i (Flows flows engine) whole (kind_there s.market i (Flows flows held) is) (serve_flows s.market flows held engine may (own i (Flows flows held) is)) kinds
      by_held HasNone is = kinds

  pub member_kinded : (k member : ℕ) (weight : ℤ)
      → (int_eq weight (pos 0) ≡ false → serves_as (kind_at s.market member) wanted.TheVariants.Member ≡ true)
      → IsKinded (member_set k member weight s).market
  unfolding member_set
  member_kinded k member weight may = by_held (changeable (terms_at s.market k)) (terms_hold (terms_at s.market k))
    where
      by_held : (c : Changeable) → TermsOf c (terms_at s.market k) → IsKinded (weight_set c k member weight s).market
      by_held (HasValue held) is = kinds
      by_held (HasTarget kind held) is = kinds
      by_held (HasFixings terms fixings) is = kinds
      by_held (HasParts parts) is = kinded_unless s (revised k (Composite (with_member parts member weight)) s) kinds
          (revised_kinded s k (Composite (with_member parts member weight)) whole (kind_there s.market k (Composite parts) is) (serve_with s.market parts member weight may (own k (Composite parts) is)) kinds) (int_eq (weight_of parts member) weight)
      by_held (HasEngine flows held) is = kinds
      by_held HasNone is = kinds

  pub fixing_kinded : (x : ℕ) (day rate : ℤ) → IsKinded (fixing_added x day rate s).market
  unfolding fixing_added
  fixing_kinded x day rate = by_held (changeable (terms_at s.market x)) (terms_hold (terms_at s.market x))
    where
      by_held : (c : Changeable) → TermsOf c (terms_at s.market x) → IsKinded (fixing_stored c x day rate s).market
      by_held (HasValue held) is = kinds
      by_held (HasTarget kind held) is = kinds
      by_held (HasFixings terms fixings) is = revised_kinded s x (Index terms (with_fixing fixings day rate)) whole (kind_there s.market x (Index terms fixings) is) (own x (Index terms fixings) is) kinds
      by_held (HasParts parts) is = kinds
      by_held (HasEngine flows held) is = kinds
      by_held HasNone is = kinds

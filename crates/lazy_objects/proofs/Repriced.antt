-- The graph of a desk after another engine of an instrument.
use Rattle.std.proofs.Common.{◌≡◌, ◌≢◌, ◌⊎◌, inl, inr, ◌<◌, ◌+◌, ℕ, suc, true, false, List, [], ◌∷◌, ◌++◌, length, Option, None, Some, refl, sym, ◌∙◌, ap, subst, arith}
use Rattle.std.specs.Prelude.{ℤ, ◌↔◌, ◌==◌, slice_index_or, slice_set, is_some, IfSome}
use Rattle.std.specs.List.{list_any}
use Rattle.std.proofs.lemmas.Bool.{cases_eq, eqb-true, false≢true, false_from_ne_true}
use Rattle.walks.specs.Walk.{Among, Below}
use Rattle.walks.specs.Walk.Below.{next, beyond}
use Rattle.walks.proofs.Walks.{only_below}
use Rattle.desk_terms.specs.declared.terms.Terms.{Terms}
use Rattle.desk_terms.specs.declared.terms.Terms.TheVariants as terms_of
use Rattle.desk_terms.specs.declared.terms.HandleKind.TheVariants as handle
use Rattle.desk_terms.specs.declared.kind.Kind.{Kind}
use Rattle.desk_terms.specs.declared.kind.Kind.TheVariants as kind
use Rattle.desk_terms.specs.declared.kind.Wanted.{Wanted}
use Rattle.desk_terms.specs.declared.kind.Wanted.TheVariants as wanted
use Rattle.desk_terms.specs.declared.reference.Reference.{Reference}
use Rattle.desk_terms.specs.declared.terms.Part.{Part}
use Rattle.desk_terms.specs.Kind.{wanted_number}
use Rattle.desk_terms.specs.Terms.{inputs_of, optional_reference, helper_references}
use Rattle.curve_terms.specs.declared.terms.Helper.{Helper}
use Rattle.flow_terms.specs.declared.flows.FlowTerms.{FlowTerms}
use Rattle.desk_model.specs.declared.kept.Kept.{Kept}
use Rattle.desk_model.specs.declared.slot.Slot.{Slot}
use Rattle.desk_model.specs.declared.slot.Slot.TheVariants.{Live, Free, Today, Watcher}
use Rattle.desk_model.specs.Market.{Market, slot_at, terms_at, terms_in, kind_in, kind_at, named, is_observable, edges_of, edges}
use Rattle.desk_model.specs.Changeable.{changeable}
use Rattle.desk_model.specs.State.{State}
use Rattle.desk_model.specs.Links.{IsLinked, IsKinded, AreOfKind, Serve, serves_as, reaches}
use Rattle.desk_model.specs.Laws.{MayLink, Keeps}
use Rattle.desk_model.specs.Effect.{notified, revised, priced_by_engine, engine_set}
use Rattle.desk_model.proofs.Edges.{edge_input, input_edge, today_edge}
use Rattle.desk_model.proofs.Commands.{kind_there, engine_keeps}
use Rattle.desk_model.proofs.KindsKept.{engine_kinded}
use Rattle.observer_graph.specs.declared.node.Role.{Role}
use Rattle.observer_graph.specs.declared.node.Role.TheVariants.{Lazy}
use Rattle.observer_graph.specs.declared.node.Role.TheVariants as role
use Rattle.object_store.specs.Slots.{Registry, market_of, state_of, outdated, engine_in}
use Rattle.object_store.specs.Shape.{IsJoined, role_at, observed_by, slot_role, vacancy_of}
use Rattle.object_store.specs.Store.{registry_of, StoreView, JoinsAny, LeavesAny, Moves, held_count}
use Rattle.object_store.specs.Scratch.{ScratchView}
use Rattle.lazy_objects.specs.Stands.{Stands}
use Rattle.object_store.proofs.Joined.{joined_set, there_seen, terms_watch, vacancies_set, slot_vacancy, vacancy_within}
use Rattle.object_store.proofs.Registered.{moves_plain}
use Rattle.lazy_objects.proofs.Linked.{joins_pairs, leaves_pairs, joins_roles, leaves_roles, joins_switch, leaves_switch, linked_before}
use Rattle.lazy_objects.proofs.Revised.{Changed, After, kind_within}
use Rattle.object_store.proofs.Telling.{IsKept, revised_told, kept_state}
use Rattle.lazy_objects.proofs.Commanded.{engine_stands, commanded}

-- what is named as a member is named as nothing else
member_alone : (w : Wanted) → list_any (λ (offered : Wanted). wanted_number offered == wanted_number w) (wanted.Member ∷ []) ≡ true → (wanted_number w == 4) ≡ true
member_alone wanted.QuoteInput e = absurd (false≢true e)
member_alone wanted.CurveInput e = absurd (false≢true e)
member_alone wanted.QuoteTarget e = absurd (false≢true e)
member_alone wanted.CurveTarget e = absurd (false≢true e)
member_alone wanted.Member e = refl
member_alone wanted.Engine e = absurd (false≢true e)
member_alone wanted.Index e = absurd (false≢true e)

only_member : (k : Option Kind) (w : Wanted) → serves_as k wanted.Member ≡ true → serves_as k w ≡ true → (wanted_number w == 4) ≡ true
only_member None w is serves = absurd (false≢true is)
only_member (Some kind.Today) w is serves = absurd (false≢true is)
only_member (Some kind.Quote) w is serves = absurd (false≢true is)
only_member (Some kind.Derived) w is serves = absurd (false≢true is)
only_member (Some kind.QuoteHandle) w is serves = absurd (false≢true is)
only_member (Some kind.CurveHandle) w is serves = absurd (false≢true is)
only_member (Some kind.Index) w is serves = absurd (false≢true is)
only_member (Some kind.Engine) w is serves = absurd (false≢true is)
only_member (Some kind.Curve) w is serves = absurd (false≢true is)
only_member (Some kind.Implied) w is serves = absurd (false≢true is)
only_member (Some kind.Stock) w is serves = member_alone w serves
only_member (Some kind.Composite) w is serves = member_alone w serves
only_member (Some kind.Flows) w is serves = member_alone w serves
only_member (Some kind.Watcher) w is serves = absurd (false≢true is)

-- none of these is named as a member
abbrev AreApart : List Reference → Type 0
AreApart [] = Unit {0}
AreApart (reference ∷ references) = ((wanted_number reference.wanted == 4) ≡ false) × AreApart references

apart_helpers : (helpers : List Helper) → AreApart (helper_references helpers)
apart_helpers [] = tt
apart_helpers (helper ∷ helpers) = (refl, apart_helpers helpers)

apart_flows : (engine index : Option ℕ) → AreApart (optional_reference wanted.Engine engine ++ optional_reference wanted.Index index)
apart_flows None None = tt
apart_flows None (Some x) = (refl, tt)
apart_flows (Some e) None = (refl, tt)
apart_flows (Some e) (Some x) = (refl, (refl, tt))

apart_target : (w : Wanted) → (wanted_number w == 4) ≡ false → (target : Option ℕ) → AreApart (optional_reference w target)
apart_target w is None = tt
apart_target w is (Some x) = (is, tt)

-- an instrument is named by composites alone
module _ (m : Market) (kinds : IsKinded m) (today : slot_at m 0 ≡ Today) (x : ℕ) (is : serves_as (kind_at m x) wanted.Member ≡ true) where
  no_day : x ≢ 0
  no_day same = false≢true (sym (ap (λ (n : ℕ). serves_as (kind_at m n) wanted.Member) same ∙ ap (λ (t : Slot). serves_as (kind_in t) wanted.Member) today) ∙ is)

  none_named : (references : List Reference) → AreApart references → Serve m references → Among x (named references) → ⊥
  none_named [] apart serve among = among
  none_named (reference ∷ references) apart serve (inl same) =
      false≢true (sym apart.0 ∙ only_member (kind_at m x) reference.wanted is (ap (λ (n : ℕ). serves_as (kind_at m n) reference.wanted) same ∙ serve.0))
  none_named (reference ∷ references) apart serve (inr among) = none_named references apart.1 serve.1 among

  not_apart : (terms : Terms) → AreApart (inputs_of terms) → Serve m (inputs_of terms) → Among x (edges_of (Some terms)) → ⊥
  not_apart terms apart serve among = elim (edge_input terms x among) [
    | inl day ↦ no_day day
    | inr input ↦ none_named (inputs_of terms) apart serve input
  ]

  by_terms : (t : Option Terms) → AreOfKind m t → Among x (edges_of t) → (parts : List Part) × (t ≡ Some (terms_of.Composite parts))
  by_terms None serve among = absurd among
  by_terms (Some (terms_of.Quote value)) serve among = absurd among
  by_terms (Some (terms_of.Derived minus first second)) serve among = absurd (not_apart (terms_of.Derived minus first second) (refl, (refl, tt)) serve among)
  by_terms (Some (terms_of.Handle handle.Quote target)) serve among = absurd (not_apart (terms_of.Handle handle.Quote target) (apart_target wanted.QuoteTarget refl target) serve among)
  by_terms (Some (terms_of.Handle handle.Curve target)) serve among = absurd (not_apart (terms_of.Handle handle.Curve target) (apart_target wanted.CurveTarget refl target) serve among)
  by_terms (Some (terms_of.Curve terms)) serve among = absurd (not_apart (terms_of.Curve terms) (apart_helpers terms.helpers) serve among)
  by_terms (Some (terms_of.Implied curve reference)) serve among = absurd (not_apart (terms_of.Implied curve reference) (refl, tt) serve among)
  by_terms (Some (terms_of.Index terms fixings)) serve among = absurd (not_apart (terms_of.Index terms fixings) (refl, tt) serve among)
  by_terms (Some (terms_of.Engine curve)) serve among = absurd (not_apart (terms_of.Engine curve) (refl, tt) serve among)
  by_terms (Some (terms_of.Stock quote)) serve among = absurd (not_apart (terms_of.Stock quote) (refl, tt) serve among)
  by_terms (Some (terms_of.Composite parts)) serve among = (parts, refl)
  by_terms (Some (terms_of.Flows flows engine)) serve among = absurd (not_apart (terms_of.Flows flows engine) (apart_flows engine flows.index) serve among)

  composite_above : (o : ℕ) → Among x (edges m o) → kind_at m o ≡ Some kind.Composite
  composite_above o among = let p = by_terms (terms_at m o) (kinds o) among in kind_there m o (terms_of.Composite p.0) p.1

composite_reaches : (m : Market) → IsKinded m → slot_at m 0 ≡ Today → (i : ℕ) → serves_as (kind_at m i) wanted.Member ≡ true → (o : ℕ) → Below (edges m) (λ y. y == i) (λ y. true) o → kind_at m o ≡ Some kind.Composite
composite_reaches m kinds today i is o (next {x = x} a here) = composite_above m kinds today x (ap (λ (n : ℕ). serves_as (kind_at m n) wanted.Member) (eqb-true x i here) ∙ is) o a
composite_reaches m kinds today i is o (beyond {x = x} a passes below) =
    composite_above m kinds today x (ap (λ (k : Option Kind). serves_as k wanted.Member) (composite_reaches m kinds today i is x below)) o a

serves_engine : (k : Option Kind) → serves_as k wanted.Engine ≡ true → k ≡ Some kind.Engine
serves_engine None is = absurd (false≢true is)
serves_engine (Some kind.Today) is = absurd (false≢true is)
serves_engine (Some kind.Quote) is = absurd (false≢true is)
serves_engine (Some kind.Derived) is = absurd (false≢true is)
serves_engine (Some kind.QuoteHandle) is = absurd (false≢true is)
serves_engine (Some kind.CurveHandle) is = absurd (false≢true is)
serves_engine (Some kind.Index) is = absurd (false≢true is)
serves_engine (Some kind.Engine) is = refl
serves_engine (Some kind.Curve) is = absurd (false≢true is)
serves_engine (Some kind.Implied) is = absurd (false≢true is)
serves_engine (Some kind.Stock) is = absurd (false≢true is)
serves_engine (Some kind.Composite) is = absurd (false≢true is)
serves_engine (Some kind.Flows) is = absurd (false≢true is)
serves_engine (Some kind.Watcher) is = absurd (false≢true is)

engine_seen : (t : Slot) → serves_as (kind_in t) wanted.Engine ≡ true → is_observable t ≡ true
engine_seen Free is = absurd (false≢true is)
engine_seen Today is = absurd (false≢true is)
engine_seen Watcher is = absurd (false≢true is)
engine_seen (Live terms) is = refl

flows_serve : (k : Option Kind) → k ≡ Some kind.Flows → serves_as k wanted.Member ≡ true
flows_serve k is = ap (λ (l : Option Kind). serves_as l wanted.Member) is

-- an engine closes no cycle
pub engine_may : (m : Market) → IsKinded m → slot_at m 0 ≡ Today → (i : ℕ) → kind_at m i ≡ Some kind.Flows → (engine : Option ℕ) → Serve m (optional_reference wanted.Engine engine) → MayLink m i engine
unfolding reaches
engine_may m kinds today i is None serve = tt
engine_may m kinds today i is (Some e) serve = (
  engine_seen (slot_at m e) serve.0,
  λ same. engine_flows (sym (serves_engine (kind_at m e) serve.0) ∙ ap (kind_at m) same ∙ is),
  false_from_ne_true (reaches m e i) (λ r. engine_composite (sym (serves_engine (kind_at m e) serve.0) ∙ composite_reaches m kinds today i (flows_serve (kind_at m i) is) e (only_below (edges m) (λ y. y == i) (λ y. true) (suc (length m.objects)) e r))),
)
  where
    engine_flows : Some kind.Engine ≡ Some kind.Flows → ⊥
    engine_flows e = absurd (cc)

    engine_composite : Some kind.Engine ≡ Some kind.Composite → ⊥
    engine_composite e = absurd (cc)

-- what an instrument observes
flows_edges : (flows : FlowTerms) (engine : Option ℕ) (y : ℕ) → Among y (edges_of (Some (terms_of.Flows flows engine))) ↔ (((y ≡ 0) ⊎ (flows.index ≡ Some y)) ⊎ (engine ≡ Some y))
flows_edges flows engine y = (
  λ a. elim (edge_input (terms_of.Flows flows engine) y a) [ inl day ↦ inl (inl day) | inr input ↦ (named_is engine flows.index).0 input ],
  λ p. elim p [
    | inl q ↦ elim q [
      | inl day ↦ subst (λ (n : ℕ). Among n (edges_of (Some (terms_of.Flows flows engine)))) (sym day) (today_edge (terms_of.Flows flows engine) refl)
      | inr index ↦ input_edge (terms_of.Flows flows engine) y ((named_is engine flows.index).1 (inl index))
    ]
    | inr engine_is ↦ input_edge (terms_of.Flows flows engine) y ((named_is engine flows.index).1 (inr engine_is))
  ],
)
  where
    none_some : (y : ℕ) → None ≡ Some y → ⊥
    none_some y e = absurd (cc)

    same_some : (x y : ℕ) → Some x ≡ Some y → y ≡ x
    same_some x y e = cc

    index_is : (index : Option ℕ) → Among y (named (optional_reference wanted.Index index)) ↔ (index ≡ Some y)
    index_is None = (λ a. absurd a, λ e. absurd (none_some y e))
    index_is (Some x) = (λ a. elim a [ inl same ↦ ap Some (sym same) | inr none ↦ absurd none ], λ e. inl (same_some x y e))

    named_is : (engine index : Option ℕ) → (Among y (named (optional_reference wanted.Engine engine ++ optional_reference wanted.Index index)) → ((y ≡ 0) ⊎ (index ≡ Some y)) ⊎ (engine ≡ Some y))
        × ((index ≡ Some y) ⊎ (engine ≡ Some y) → Among y (named (optional_reference wanted.Engine engine ++ optional_reference wanted.Index index)))
    named_is None index = (λ a. inl (inr ((index_is index).0 a)), λ p. elim p [ inl is ↦ (index_is index).1 is | inr e ↦ absurd (none_some y e) ])
    named_is (Some e) index = (
      λ a. elim a [ inl same ↦ inr (ap Some (sym same)) | inr more ↦ inl (inr ((index_is index).0 more)) ],
      λ p. elim p [ inl is ↦ inr ((index_is index).1 is) | inr is ↦ inl (same_some e y is) ],
    )

-- a pair in the place of another
pub moved : (held target : Option ℕ) (i : ℕ) (old middle new : StoreView) → LeavesAny held i old middle → middle.shape.spare ≡ old.shape.spare + held_count held
    → JoinsAny target i middle new → new.shape.spare + held_count target ≡ middle.shape.spare → Moves held target i old new
moved held target i old middle new leaves freed joins used =
    let less = leaves_pairs held i old middle leaves in
    let more = joins_pairs target i middle new joins in
    record {
      kept = (joins_roles target i middle new joins).0 ∙ (leaves_roles held i old middle leaves).0;
      switch = (joins_switch target i middle new joins).0 ∙ (leaves_switch held i old middle leaves).0;
      told = (joins_switch target i middle new joins).1 ∙ (leaves_switch held i old middle leaves).1;
      roles = (joins_roles target i middle new joins).1 ∙ (leaves_roles held i old middle leaves).1;
      spare = used ∙ freed;
      own = λ x. (
        λ a. elim ((more x i).0 a) [ inl was ↦ (let p = (less x i).0 was in inl (p.0, λ e. p.1 (e, refl))) | inr q ↦ inr q.0 ],
        λ a. (more x i).1 (elim a [ inl w ↦ inl ((less x i).1 (w.0, λ p. w.1 p.0)) | inr is ↦ inr (is, refl) ]),
      );
      others = λ o x other. (
        λ a. elim ((more x o).0 a) [ inl was ↦ ((less x o).0 was).0 | inr p ↦ absurd (other p.1) ],
        λ a. (more x o).1 (inl ((less x o).1 (a, λ p. other p.1))),
      );
    }

-- where nothing is put in the place of itself
pub unmoved : (held target : Option ℕ) (i : ℕ) (store : StoreView) → held ≡ target → ((x : ℕ) → held ≡ Some x → Among x (observed_by store.shape i)) → Moves held target i store store
unmoved held target i store same watched = record {
  kept = refl;
  switch = refl;
  told = refl;
  roles = refl;
  spare = ap (λ (t : Option ℕ). store.shape.spare + held_count t) (sym same);
  own = λ x. (
    λ a. elim (is_held held x) [ inl is ↦ inr (sym same ∙ is) | inr other ↦ inl (a, other) ],
    λ a. elim a [ inl w ↦ w.0 | inr is ↦ watched x (same ∙ is) ],
  );
  others = λ o x other. (λ a. a, λ a. a);
}
  where
    is_held : (h : Option ℕ) (x : ℕ) → (h ≡ Some x) ⊎ (h ≡ Some x → ⊥)
    is_held None x = inr (λ e. absurd (cc))
    is_held (Some y) x = elim (cases_eq y x) [ inl e ↦ inl (ap Some e) | inr other ↦ inr (λ e. other (let s : y ≡ x = cc in s)) ]

flows_vacancy : (flows : FlowTerms) (t : Option ℕ) → vacancy_of (terms_of.Flows flows t) + held_count t ≡ 1
flows_vacancy flows None = refl
flows_vacancy flows (Some engine) = refl

flows_role : (t : Slot) (flows : FlowTerms) (held : Option ℕ) → terms_in t ≡ Some (terms_of.Flows flows held) → slot_role t ≡ Some Lazy
flows_role Free flows held is = absurd (cc)
flows_role Today flows held is = absurd (cc)
flows_role Watcher flows held is = absurd (cc)
flows_role (Live terms) flows held is = ap (λ (u : Terms). slot_role (Live u)) (some_terms terms (terms_of.Flows flows held) is)
  where
    some_terms : (a b : Terms) → Some a ≡ Some b → a ≡ b
    some_terms a b e = cc

module _ (today : ℤ) (slots : List Slot) (i : ℕ) (flows : FlowTerms) (held : Option ℕ) (old : StoreView) (joined : IsJoined (market_of today slots) old.shape)
    (is : terms_in (slice_index_or slots i Free) ≡ Some (terms_of.Flows flows held)) (kinds : IsKinded (market_of today slots)) (first : slot_at (market_of today slots) 0 ≡ Today) where
  abbrev m : Market
  m = market_of today slots

  same_some : (x y : ℕ) → Some x ≡ Some y → y ≡ x
  same_some x y e = cc

  none_some : (x : ℕ) → None ≡ Some x → ⊥
  none_some x e = absurd (cc)

  served : Serve m (optional_reference wanted.Engine held ++ optional_reference wanted.Index flows.index)
  served = subst (AreOfKind m) is (kinds i)

  served_engine : Serve m (optional_reference wanted.Engine held)
  served_engine = by_held held served
    where
      by_held : (h : Option ℕ) → Serve m (optional_reference wanted.Engine h ++ optional_reference wanted.Index flows.index) → Serve m (optional_reference wanted.Engine h)
      by_held None serve = tt
      by_held (Some e) serve = (serve.0, tt)

  served_index : (x : ℕ) → flows.index ≡ Some x → serves_as (kind_at m x) wanted.Index ≡ true
  served_index x e = by_index flows.index (by_held held served) e
    where
      by_held : (h : Option ℕ) → Serve m (optional_reference wanted.Engine h ++ optional_reference wanted.Index flows.index) → Serve m (optional_reference wanted.Index flows.index)
      by_held None serve = serve
      by_held (Some e) serve = serve.1

      by_index : (index : Option ℕ) → Serve m (optional_reference wanted.Index index) → index ≡ Some x → serves_as (kind_at m x) wanted.Index ≡ true
      by_index None serve e = absurd (none_some x e)
      by_index (Some y) serve e = ap (λ (n : ℕ). serves_as (kind_at m n) wanted.Index) (same_some y x e) ∙ serve.0

  -- an engine is neither the day nor an index
  engine_apart : (engine : Option ℕ) → Serve m (optional_reference wanted.Engine engine) → (x : ℕ) → engine ≡ Some x → (x ≡ 0) ⊎ (flows.index ≡ Some x) → ⊥
  engine_apart None serve x e p = none_some x e
  engine_apart (Some y) serve x e p = by_kind (serves_engine (kind_at m x) (ap (λ (n : ℕ). serves_as (kind_at m n) wanted.Engine) (same_some y x e) ∙ serve.0)) p
    where
      today_engine : Some kind.Today ≡ Some kind.Engine → ⊥
      today_engine e = absurd (cc)

      by_kind : kind_at m x ≡ Some kind.Engine → (x ≡ 0) ⊎ (flows.index ≡ Some x) → ⊥
      by_kind engine_is (inl day) = today_engine (sym (ap (kind_at m) day ∙ ap kind_in first) ∙ engine_is)
      by_kind engine_is (inr index) = false≢true (sym (ap (λ (k : Option Kind). serves_as k wanted.Index) engine_is) ∙ served_index x index)

  observes : (y : ℕ) → Among y (observed_by old.shape i) → ((y ≡ 0) ⊎ (flows.index ≡ Some y)) ⊎ (held ≡ Some y)
  observes y a = (flows_edges flows held y).0 (subst (λ (t : Option Terms). Among y (edges_of t)) is ((joined.pairs i y (terms_watch (slice_index_or slots i Free) (terms_of.Flows flows held) is)).0 a))

  observed : (y : ℕ) → ((y ≡ 0) ⊎ (flows.index ≡ Some y)) ⊎ (held ≡ Some y) → Among y (observed_by old.shape i)
  observed y p = (joined.pairs i y (terms_watch (slice_index_or slots i Free) (terms_of.Flows flows held) is)).1 (subst (λ (t : Option Terms). Among y (edges_of t)) (sym is) ((flows_edges flows held y).1 p))

  pub engine_watched : (x : ℕ) → held ≡ Some x → Among x (observed_by old.shape i)
  engine_watched x e = observed x (inr e)

  pub engine_there : (engine : Option ℕ) → Serve m (optional_reference wanted.Engine engine) → IfSome engine (λ x. is_some (role_at old.shape x) ≡ true)
  engine_there None serve = tt
  engine_there (Some e) serve = there_seen m old.shape joined e (engine_seen (slot_at m e) serve.0)

  pub held_there : IfSome held (λ x. is_some (role_at old.shape x) ≡ true)
  held_there = engine_there held served_engine

  pub engine_new : (engine : Option ℕ) → Serve m (optional_reference wanted.Engine engine) → (x : ℕ) → engine ≡ Some x → Among x (observed_by old.shape i) → held ≡ engine
  engine_new engine serve x e a = elim (observes x a) [
    | inl other ↦ absurd (engine_apart engine serve x e other)
    | inr same ↦ same ∙ sym e
  ]

  pub joined_repriced : (engine : Option ℕ) (new : StoreView) → i < length slots → Moves held engine i old new → IsJoined (market_of today (slice_set slots i (Live (terms_of.Flows flows engine)))) new.shape
  joined_repriced engine new within moves =
      let role : (o : ℕ) → role_at new.shape o ≡ role_at old.shape o = λ o. ap (λ (l : List (Option Role)). slice_index_or l o None) moves.roles in
      joined_set today slots i (terms_of.Flows flows engine) new.shape (ap length moves.roles ∙ joined.long) within (role i ∙ joined.roles i ∙ flows_role (slice_index_or slots i Free) flows held is)
      (λ y. (
        λ a. (flows_edges flows engine y).1 (elim ((moves.own y).0 a) [
          | inl p ↦ elim (observes y p.0) [ inl other ↦ inl other | inr same ↦ absurd (p.1 same) ]
          | inr e ↦ inr e
        ]),
        λ a. (moves.own y).1 (elim ((flows_edges flows engine y).0 a) [
          | inl other ↦ inl (observed y (inl other), λ same. engine_apart held served_engine y same other)
          | inr e ↦ inr e
        ]),
      ))
      (λ o other. role o ∙ joined.roles o)
      (λ o y other plain. (
        λ a. (joined.pairs o y plain).0 ((moves.others o y other).0 a),
        λ a. (moves.others o y other).1 ((joined.pairs o y plain).1 a),
      ))
      (let set = vacancies_set slots i (Live (terms_of.Flows flows engine)) within in
      let here = slot_vacancy (slice_index_or slots i Free) (terms_of.Flows flows held) is in
      let was = flows_vacancy flows held in let becomes = flows_vacancy flows engine in
      let room = joined.room in let spare = moves.spare in
      omega (arith, set, here, was, becomes, room, spare))

  -- an instrument without an engine has a spare place
  pub engine_room : i < length slots → held ≡ None → 0 < old.shape.spare
  engine_room within none =
      let here = slot_vacancy (slice_index_or slots i Free) (terms_of.Flows flows held) is ∙ ap (λ (t : Option ℕ). vacancy_of (terms_of.Flows flows t)) none in
      let low = vacancy_within slots i within in let room = joined.room in
      omega (arith, here, low, room)

  -- another engine is no registration
  pub moves_kept : (engine : Option ℕ) (new : StoreView) → Moves held engine i old new → IsKept old new
  moves_kept engine new moves = record { kept = moves.kept; registry = moves_plain held engine i old new other_role moves }
    where
      lazy_watcher : Some Lazy ≡ Some role.Watcher → ⊥
      lazy_watcher e = absurd (cc)

      other_role : role_at old.shape i ≡ Some role.Watcher → ⊥
      other_role watcher = lazy_watcher (sym (joined.roles i ∙ flows_role (slice_index_or slots i Free) flows held is) ∙ watcher)

-- an engine that is set tells, whatever it is
engine_as : (s : State) (i : ℕ) (flows : FlowTerms) (held engine : Option ℕ) → terms_in (slot_at s.market i) ≡ Some (terms_of.Flows flows held) → engine_set i engine s ≡ revised i (terms_of.Flows flows engine) s
unfolding engine_set
engine_as s i flows held engine is = ap (λ (t : Option Terms). priced_by_engine (changeable t) i engine s) is

module _ (today : ℤ) (slots : List Slot) (kept : List Kept) (registry : Registry) (scratch : ScratchView) (stands : Stands (state_of today slots kept registry) scratch) (i : ℕ) (flows : FlowTerms) (held engine : Option ℕ)
    (is : terms_in (slice_index_or slots i Free) ≡ Some (terms_of.Flows flows held)) (instrument : kind_at (market_of today slots) i ≡ Some kind.Flows) (serve : Serve (market_of today slots) (optional_reference wanted.Engine engine)) where
  changed : engine_set i engine (state_of today slots kept registry) ≡ revised i (terms_of.Flows flows engine) (state_of today slots kept registry)
  changed = engine_as (state_of today slots kept registry) i flows held engine is

  keeps : Keeps (state_of today slots kept registry) (engine_set i engine (state_of today slots kept registry))
  keeps = engine_keeps (state_of today slots kept registry) stands.whole i engine (engine_may (market_of today slots) stands.kinds stands.whole.today i instrument engine serve)

  pub engine_links : IsLinked (market_of today (slice_set slots i (Live (terms_of.Flows flows engine))))
  engine_links = linked_before i (terms_of.Flows flows engine) today slots kept registry (subst (λ (t : State). IsLinked t.market) changed keeps.whole.links)

  pub engine_changed : (new : State) → new ≡ revised i (terms_of.Flows flows engine) (state_of today slots kept registry) → Changed (state_of today slots kept registry) new (engine_set i engine (state_of today slots kept registry)) scratch
  engine_changed new e =
      commanded today slots kept registry scratch stands (engine_set i engine (state_of today slots kept registry)) new keeps
      (engine_stands today slots kept registry scratch stands i engine keeps (engine_kinded (state_of today slots kept registry) stands.whole stands.kinds i engine serve)) (e ∙ sym changed)

-- the terms of an instrument
pub flows_there : (m : Market) (i : ℕ) → kind_at m i ≡ Some kind.Flows → (flows : FlowTerms) × (held : Option ℕ) × (terms_at m i ≡ Some (terms_of.Flows flows held))
flows_there m i is = by_slot (slot_at m i) is
  where
    by_slot : (t : Slot) → kind_in t ≡ Some kind.Flows → (flows : FlowTerms) × (held : Option ℕ) × (terms_in t ≡ Some (terms_of.Flows flows held))
    by_slot Free is = absurd (cc)
    by_slot Today is = absurd (cc)
    by_slot Watcher is = absurd (cc)
    by_slot (Live (terms_of.Quote held)) is = absurd (cc)
    by_slot (Live (terms_of.Derived minus first second)) is = absurd (cc)
    by_slot (Live (terms_of.Handle handle.Quote target)) is = absurd (cc)
    by_slot (Live (terms_of.Handle handle.Curve target)) is = absurd (cc)
    by_slot (Live (terms_of.Curve terms)) is = absurd (cc)
    by_slot (Live (terms_of.Implied curve reference)) is = absurd (cc)
    by_slot (Live (terms_of.Index terms fixings)) is = absurd (cc)
    by_slot (Live (terms_of.Engine curve)) is = absurd (cc)
    by_slot (Live (terms_of.Stock quote)) is = absurd (cc)
    by_slot (Live (terms_of.Composite parts)) is = absurd (cc)
    by_slot (Live (terms_of.Flows flows engine)) is = (flows, engine, refl)

pub priced_there : (m : Market) (i : ℕ) → kind_at m i ≡ Some kind.Flows → (e : Option ℕ) → e ≡ engine_in (changeable (terms_at m i)) → (flows : FlowTerms) × (terms_at m i ≡ Some (terms_of.Flows flows e))
priced_there m i is e held =
    let f = flows_there m i is in
    (f.0, f.2 ∙ ap (λ (h : Option ℕ). Some (terms_of.Flows f.0 h)) (sym (held ∙ ap (λ (t : Option Terms). engine_in (changeable t)) f.2)))

-- what an engine that is set leaves of a desk
pub engine_left : (today : ℤ) (slots slots2 : List Slot) (old middle new : StoreView) (scratch : ScratchView) (i : ℕ) (flows : FlowTerms) (held engine : Option ℕ)
    → Stands (state_of today slots old.kept (registry_of old)) scratch → IsJoined (market_of today slots) old.shape → terms_in (slice_index_or slots i Free) ≡ Some (terms_of.Flows flows held)
    → kind_at (market_of today slots) i ≡ Some kind.Flows → Serve (market_of today slots) (optional_reference wanted.Engine engine)
    → slots2 ≡ slice_set slots i (Live (terms_of.Flows flows engine)) → Moves held engine i old middle
    → state_of today slots2 new.kept (registry_of new) ≡ notified i (outdated i (state_of today slots2 middle.kept (registry_of middle))) → new.shape ≡ middle.shape
    → After (state_of today slots old.kept (registry_of old)) (state_of today slots2 new.kept (registry_of new)) (engine_set i engine (state_of today slots old.kept (registry_of old))) scratch new.shape
engine_left today slots slots2 old middle new scratch i flows held engine stands joined is instrument serve are moves told same = record {
  changed = engine_changed today slots old.kept (registry_of old) scratch stands i flows held engine is instrument serve (state_of today slots2 new.kept (registry_of new))
      (revised_told today slots slots2 old.kept (registry_of old) (state_of today slots2 new.kept (registry_of new)) i (terms_of.Flows flows engine) are
      (told ∙ ap (λ (s : State). notified i (outdated i s)) (kept_state today slots2 old middle
      (moves_kept today slots i flows held old joined is stands.kinds stands.whole.today engine middle moves))));
  joined = subst (IsJoined (market_of today slots2)) (sym same)
      (subst (λ (l : List Slot). IsJoined (market_of today l) middle.shape) (sym are)
      (joined_repriced today slots i flows held old joined is stands.kinds stands.whole.today engine middle (kind_within slots today i kind.Flows instrument) moves));
}

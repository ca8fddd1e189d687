-- Each command that changes the terms of an object keeps the shape of a state and all that is current.
use Rattle.std.proofs.Common.{◌≡◌, ◌⊎◌, inl, inr, ℕ, Bool, true, false, List, [], ◌∷◌, ◌++◌, Option, Some, None, ℤ, refl, sym, ◌∙◌, ap, subst}
use Rattle.std.specs.Prelude.{◌==◌, if◌then◌else◌, pos}
use Rattle.std.specs.Option.{option_eq}
use Rattle.std.specs.Ordering.{int_eq}
use Rattle.walks.specs.Walk.{Among}
use Rattle.flow_terms.specs.Fixings.{with_fixing}
use Rattle.desk_terms.specs.declared.terms.Terms.{Terms}
use Rattle.desk_terms.specs.declared.terms.Terms.TheVariants.{Quote, Derived, Handle, Curve, Implied, Index, Engine, Stock, Composite, Flows}
use Rattle.desk_terms.specs.declared.terms.HandleKind as handle
use Rattle.desk_terms.specs.declared.terms.Part.{Part}
use Rattle.flow_terms.specs.declared.flows.FlowTerms.{FlowTerms}
use Rattle.desk_terms.specs.declared.kind.Wanted as wanted
use Rattle.desk_terms.specs.Terms.{kind_of, optional_reference, part_references}
use Rattle.desk_model.specs.declared.slot.Slot.{Slot}
use Rattle.desk_model.specs.declared.slot.Slot.TheVariants.{Free, Today, Watcher, Live}
use Rattle.desk_model.specs.Market.{Market, slot_at, terms_in, terms_at, kind_in, kind_at, named, edges_of, edges}
use Rattle.desk_model.specs.State.{State}
use Rattle.desk_model.specs.Changeable.{Changeable, changeable, weight_of, has_member, without_member, reweighted, with_member}
use Rattle.desk_model.specs.Changeable.Changeable.{HasValue, HasTarget, HasFixings, HasParts, HasEngine, HasNone}
use Rattle.desk_model.specs.Links.{IsWhole, MayStand}
use Rattle.desk_model.specs.Links.MayStand.{keeps, joins}
use Rattle.desk_model.specs.Laws.{Keeps, MayLink}
use Rattle.desk_model.specs.Effect.{revised, value_set, quote_set, number_eq, target_set, relinked, priced_by_engine, engine_set, weight_set, member_set, fixing_stored, fixing_added}
use Rattle.desk_model.proofs.Edges.{among_once, input_edge, edge_input, today_edge}
use Rattle.desk_model.proofs.Locality.{flows_index}
use Rattle.desk_model.proofs.Carried.{keeps_itself}
use Rattle.desk_model.proofs.Changes.{revised_keeps}

-- the terms that hold what may be changed
abbrev pub TermsOf : Changeable → Option Terms → Type 0
TermsOf (HasValue value) t = t ≡ Some (Quote value)
TermsOf (HasTarget kind target) t = t ≡ Some (Handle kind target)
TermsOf (HasFixings terms fixings) t = t ≡ Some (Index terms fixings)
TermsOf (HasParts parts) t = t ≡ Some (Composite parts)
TermsOf (HasEngine flows engine) t = t ≡ Some (Flows flows engine)
TermsOf HasNone t = Unit {0}

pub terms_hold : (t : Option Terms) → TermsOf (changeable t) t
terms_hold None = tt
terms_hold (Some (Quote value)) = refl
terms_hold (Some (Derived minus first second)) = tt
terms_hold (Some (Handle kind target)) = refl
terms_hold (Some (Curve terms)) = tt
terms_hold (Some (Implied curve reference)) = tt
terms_hold (Some (Index terms fixings)) = refl
terms_hold (Some (Engine curve)) = tt
terms_hold (Some (Stock quote)) = tt
terms_hold (Some (Composite parts)) = refl
terms_hold (Some (Flows flows engine)) = refl

some_terms : (a b : Terms) → Some a ≡ Some b → a ≡ b
some_terms a b e = cc

kind_of_slot : (slot : Slot) (terms : Terms) → terms_in slot ≡ Some terms → kind_in slot ≡ Some (kind_of terms)
kind_of_slot Free terms is = absurd (cc)
kind_of_slot Today terms is = absurd (cc)
kind_of_slot Watcher terms is = absurd (cc)
kind_of_slot (Live old) terms is = ap (λ (t : Terms). Some (kind_of t)) (some_terms old terms is)

pub kind_there : (m : Market) (x : ℕ) (terms : Terms) → terms_at m x ≡ Some terms → kind_at m x ≡ Some (kind_of terms)
kind_there m x terms is = kind_of_slot (slot_at m x) terms is

-- edges of the same terms
edges_here : (m : Market) (x y : ℕ) (terms : Terms) → terms_at m x ≡ Some terms → Among y (edges_of (Some terms))
    → Among y (edges m x)
edges_here m x y terms is among = subst (λ (t : Option Terms). Among y (edges_of t)) (sym is) among

-- the members of changed parts
without_fewer_members : (parts : List Part) (member y : ℕ)
    → Among y (named (part_references (without_member parts member))) → Among y (named (part_references parts))
without_fewer_members [] member y among = among
without_fewer_members (part ∷ parts) member y among = by_same (part.member == member) among (λ more. without_fewer_members parts member y more)
  where
    by_same : (b : Bool)
        → Among y (named (part_references (if b then without_member parts member else part ∷ without_member parts member)))
        → (Among y (named (part_references (without_member parts member))) → Among y (named (part_references parts)))
        → Among y (named (part_references (part ∷ parts)))
    by_same true among more = inr (more among)
    by_same false (inl same) more = inl same
    by_same false (inr among) more = inr (more among)

reweighted_same : (parts : List Part) (member : ℕ) (weight : ℤ) (y : ℕ)
    → Among y (named (part_references (reweighted parts member weight))) → Among y (named (part_references parts))
reweighted_same [] member weight y among = among
reweighted_same (part ∷ parts) member weight y among = by_same (part.member == member) among (λ more. reweighted_same parts member weight y more)
  where
    by_same : (b : Bool)
        → Among y (named (part_references (if b then record part { weight = weight } ∷ reweighted parts member weight else part ∷ reweighted parts member weight)))
        → (Among y (named (part_references (reweighted parts member weight))) → Among y (named (part_references parts)))
        → Among y (named (part_references (part ∷ parts)))
    by_same true (inl same) more = inl same
    by_same true (inr among) more = inr (more among)
    by_same false (inl same) more = inl same
    by_same false (inr among) more = inr (more among)

appended_named : (parts : List Part) (member : ℕ) (weight : ℤ) (y : ℕ)
    → Among y (named (part_references (parts ++ record { weight = weight; member = member } ∷ [])))
    → Among y (named (part_references parts)) ⊎ (y ≡ member)
appended_named [] member weight y (inl same) = inr same
appended_named [] member weight y (inr none) = absurd none
appended_named (part ∷ parts) member weight y (inl same) = inl (inl same)
appended_named (part ∷ parts) member weight y (inr among) = elim (appended_named parts member weight y among) [ inl was ↦ inl (inr was) | inr new ↦ inr new ]

-- A change unless it is none.
keeps_unless : (s t : State) → IsWhole s → Keeps s t → (b : Bool) → Keeps s (if b then s else t)
keeps_unless s t whole changed true = keeps_itself s whole
keeps_unless s t whole changed false = changed

module _ (s : State) (whole : IsWhole s) where
  -- a quote is set
  pub quote_keeps : (q : ℕ) (value : Option ℤ) → Keeps s (quote_set q value s)
  unfolding quote_set
  quote_keeps q value = by_held (changeable (terms_at s.market q)) (terms_hold (terms_at s.market q))
    where
      by_held : (c : Changeable) → TermsOf c (terms_at s.market q) → Keeps s (value_set c q value s)
      by_held (HasValue held) is = keeps_unless s (revised q (Quote value) s) whole (revised_keeps s q (Quote value) whole (kind_there s.market q (Quote held) is) (keeps (λ y none. absurd none))) (option_eq int_eq held value)
      by_held (HasTarget kind held) is = keeps_itself s whole
      by_held (HasFixings terms fixings) is = keeps_itself s whole
      by_held (HasParts parts) is = keeps_itself s whole
      by_held (HasEngine flows held) is = keeps_itself s whole
      by_held HasNone is = keeps_itself s whole

  -- a handle is linked
  handle_stands : (h : ℕ) (kind : handle.HandleKind) (target : Option ℕ) → MayLink s.market h target
      → MayStand s.market h (Handle kind target)
  handle_stands h handle.TheVariants.Quote None may = keeps (λ y none. absurd none)
  handle_stands h handle.TheVariants.Curve None may = keeps (λ y none. absurd none)
  handle_stands h handle.TheVariants.Quote (Some target) may = joins target may.0 may.1 may.2 (λ y among. elim among [ inl same ↦ inr same | inr none ↦ absurd none ])
  handle_stands h handle.TheVariants.Curve (Some target) may = joins target may.0 may.1 may.2 (λ y among. elim among [ inl same ↦ inr same | inr none ↦ absurd none ])

  pub same_handle : (kind : handle.HandleKind) (a b : Option ℕ) → kind_of (Handle kind a) ≡ kind_of (Handle kind b)
  same_handle handle.TheVariants.Quote a b = refl
  same_handle handle.TheVariants.Curve a b = refl

  pub relink_keeps : (h : ℕ) (target : Option ℕ) → MayLink s.market h target → Keeps s (relinked h target s)
  unfolding relinked
  relink_keeps h target may = by_held (changeable (terms_at s.market h)) (terms_hold (terms_at s.market h))
    where
      by_held : (c : Changeable) → TermsOf c (terms_at s.market h) → Keeps s (target_set c h target s)
      by_held (HasValue held) is = keeps_itself s whole
      by_held (HasTarget kind held) is = keeps_unless s (revised h (Handle kind target) s) whole
          (revised_keeps s h (Handle kind target) whole (kind_there s.market h (Handle kind held) is ∙ ap Some (same_handle kind held target)) (handle_stands h kind target may)) (option_eq number_eq held target)
      by_held (HasFixings terms fixings) is = keeps_itself s whole
      by_held (HasParts parts) is = keeps_itself s whole
      by_held (HasEngine flows held) is = keeps_itself s whole
      by_held HasNone is = keeps_itself s whole

  -- an instrument is given an engine
  flows_edge : (flows : FlowTerms) (engine : Option ℕ) (y : ℕ) → Among y (edges_of (Some (Flows flows engine)))
      → ((y ≡ 0) ⊎ (flows.index ≡ Some y)) ⊎ (engine ≡ Some y)
  flows_edge flows engine y among = elim (edge_input (Flows flows engine) y among) [
    | inl day ↦ inl (inl day)
    | inr named ↦ by_named engine flows.index named
  ]
    where
      by_index : (index : Option ℕ) → Among y (named (optional_reference wanted.TheVariants.Index index))
          → index ≡ Some y
      by_index None among = absurd among
      by_index (Some x) (inl same) = ap Some (sym same)
      by_index (Some x) (inr none) = absurd none

      by_named : (engine index : Option ℕ)
          → Among y (named (optional_reference wanted.TheVariants.Engine engine ++ optional_reference wanted.TheVariants.Index index))
          → ((y ≡ 0) ⊎ (index ≡ Some y)) ⊎ (engine ≡ Some y)
      by_named None index among = inl (inr (by_index index among))
      by_named (Some e) index (inl same) = inr (ap Some (sym same))
      by_named (Some e) index (inr among) = inl (inr (by_index index among))

  flows_stand : (i : ℕ) (flows : FlowTerms) (held engine : Option ℕ) → terms_at s.market i ≡ Some (Flows flows held)
      → MayLink s.market i engine → MayStand s.market i (Flows flows engine)
  flows_stand i flows held engine is may = by_engine engine may (λ y among. flows_edge flows engine y among)
    where
      same_some : (e y : ℕ) → Some e ≡ Some y → y ≡ e
      same_some e y is = cc

      old : (y : ℕ) → ((y ≡ 0) ⊎ (flows.index ≡ Some y)) → Among y (edges s.market i)
      old y (inl day) = edges_here s.market i y (Flows flows held) is (subst (λ (z : ℕ). Among z (edges_of (Some (Flows flows held)))) (sym day) (today_edge (Flows flows held) refl))
      old y (inr index) = edges_here s.market i y (Flows flows held) is (flows_index flows held y index)

      by_engine : (e : Option ℕ) → MayLink s.market i e
          → ((y : ℕ) → Among y (edges_of (Some (Flows flows e))) → ((y ≡ 0) ⊎ (flows.index ≡ Some y)) ⊎ (e ≡ Some y))
          → MayStand s.market i (Flows flows e)
      by_engine None may each = keeps (λ y among. elim (each y among) [ inl was ↦ old y was | inr none ↦ absurd (cc) ])
      by_engine (Some e) may each = joins e may.0 may.1 may.2 (λ y among. elim (each y among) [ inl was ↦ inl (old y was) | inr new ↦ inr (same_some e y new) ])

  pub engine_keeps : (i : ℕ) (engine : Option ℕ) → MayLink s.market i engine → Keeps s (engine_set i engine s)
  unfolding engine_set
  engine_keeps i engine may = by_held (changeable (terms_at s.market i)) (terms_hold (terms_at s.market i))
    where
      by_held : (c : Changeable) → TermsOf c (terms_at s.market i) → Keeps s (priced_by_engine c i engine s)
      by_held (HasValue held) is = keeps_itself s whole
      by_held (HasTarget kind held) is = keeps_itself s whole
      by_held (HasFixings terms fixings) is = keeps_itself s whole
      by_held (HasParts parts) is = keeps_itself s whole
      by_held (HasEngine flows held) is = revised_keeps s i (Flows flows engine) whole (kind_there s.market i (Flows flows held) is) (flows_stand i flows held engine is may)
      by_held HasNone is = keeps_itself s whole

  -- a member of a composite has another weight
  parts_stand : (k : ℕ) (parts : List Part) (member : ℕ) (weight : ℤ) → terms_at s.market k ≡ Some (Composite parts)
      → (int_eq weight (pos 0) ≡ false → MayLink s.market k (Some member))
      → MayStand s.market k (Composite (with_member parts member weight))
  parts_stand k parts member weight is may = by_weight (int_eq weight (pos 0)) refl
    where
      old : (y : ℕ) → Among y (named (part_references parts)) → Among y (edges s.market k)
      old y among = edges_here s.market k y (Composite parts) is (input_edge (Composite parts) y among)

      edge_named : (parts : List Part) (y : ℕ) → Among y (edges_of (Some (Composite parts)))
          → Among y (named (part_references parts))
      edge_named parts y among = among_once y (named (part_references parts)) among

      by_member : (b : Bool) → MayLink s.market k (Some member)
          → MayStand s.market k (Composite (if b then reweighted parts member weight else parts ++ record { weight = weight; member = member } ∷ []))
      by_member true link = keeps (λ y among. old y (reweighted_same parts member weight y (edge_named (reweighted parts member weight) y among)))
      by_member false link = joins member link.0 link.1 link.2 (λ y among. elim (appended_named parts member weight y (edge_named (parts ++ record { weight = weight; member = member } ∷ []) y among)) [ inl was ↦ inl (old y was) | inr new ↦ inr new ])

      by_weight : (b : Bool) → int_eq weight (pos 0) ≡ b
          → MayStand s.market k (Composite (if b then without_member parts member else if has_member parts member then reweighted parts member weight else parts ++ record { weight = weight; member = member } ∷ []))
      by_weight true zero_ = keeps (λ y among. old y (without_fewer_members parts member y (edge_named (without_member parts member) y among)))
      by_weight false some = by_member (has_member parts member) (may some)

  pub member_keeps : (k member : ℕ) (weight : ℤ) → (int_eq weight (pos 0) ≡ false → MayLink s.market k (Some member))
      → Keeps s (member_set k member weight s)
  unfolding member_set
  member_keeps k member weight may = by_held (changeable (terms_at s.market k)) (terms_hold (terms_at s.market k))
    where
      by_held : (c : Changeable) → TermsOf c (terms_at s.market k) → Keeps s (weight_set c k member weight s)
      by_held (HasValue held) is = keeps_itself s whole
      by_held (HasTarget kind held) is = keeps_itself s whole
      by_held (HasFixings terms fixings) is = keeps_itself s whole
      by_held (HasParts parts) is = keeps_unless s (revised k (Composite (with_member parts member weight)) s) whole
          (revised_keeps s k (Composite (with_member parts member weight)) whole (kind_there s.market k (Composite parts) is) (parts_stand k parts member weight is may)) (int_eq (weight_of parts member) weight)
      by_held (HasEngine flows held) is = keeps_itself s whole
      by_held HasNone is = keeps_itself s whole

  -- a rate is stored for an index
  pub fixing_keeps : (x : ℕ) (day rate : ℤ) → Keeps s (fixing_added x day rate s)
  unfolding fixing_added
  fixing_keeps x day rate = by_held (changeable (terms_at s.market x)) (terms_hold (terms_at s.market x))
    where
      by_held : (c : Changeable) → TermsOf c (terms_at s.market x) → Keeps s (fixing_stored c x day rate s)
      by_held (HasValue held) is = keeps_itself s whole
      by_held (HasTarget kind held) is = keeps_itself s whole
      by_held (HasFixings terms fixings) is = revised_keeps s x (Index terms (with_fixing fixings day rate)) whole (kind_there s.market x (Index terms fixings) is) (keeps (λ y among. edges_here s.market x y (Index terms fixings) is among))
      by_held (HasParts parts) is = keeps_itself s whole
      by_held (HasEngine flows held) is = keeps_itself s whole
      by_held HasNone is = keeps_itself s whole

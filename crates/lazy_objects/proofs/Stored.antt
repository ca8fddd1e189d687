-- What stands after a fixing.
use Rattle.std.proofs.Common.{◌≡◌, ◌<◌, ℕ, length, Option, Some, refl, sym, ◌∙◌, ap, subst, arith}
use Rattle.std.specs.Prelude.{ℤ, List, Result, Err, ◌↔◌, slice_index_or, slice_set}
use Rattle.walks.specs.Walk.{Among}
use Rattle.flow_terms.specs.declared.indexes.IndexTerms.{IndexTerms}
use Rattle.flow_terms.specs.declared.fixings.FixFault.{FixFault}
use Rattle.flow_terms.specs.declared.fixings.FixFault.TheVariants.{Exists}
use Rattle.flow_terms.specs.Fixings.{Stored, fixing_on, with_fixing}
use Rattle.desk_terms.specs.declared.terms.Terms.{Terms}
use Rattle.desk_terms.specs.declared.terms.Terms.TheVariants as terms_of
use Rattle.desk_terms.specs.declared.terms.HandleKind.TheVariants as handle
use Rattle.desk_terms.specs.declared.kind.Kind.TheVariants as kind
use Rattle.desk_model.specs.declared.kept.Kept.{Kept}
use Rattle.desk_model.specs.declared.slot.Slot.{Slot}
use Rattle.desk_model.specs.declared.slot.Slot.TheVariants.{Live, Free, Today, Watcher}
use Rattle.desk_model.specs.Market.{Market, slot_at, terms_at, terms_in, kind_in, kind_at, edges_of}
use Rattle.desk_model.specs.Changeable.{changeable}
use Rattle.desk_model.specs.Uses.{index_in, index_at, fixings_in}
use Rattle.desk_model.specs.State.{State}
use Rattle.desk_model.specs.Links.{IsLinked}
use Rattle.desk_model.specs.Laws.{Keeps}
use Rattle.desk_model.specs.Effect.{notified, revised, fixing_stored, fixing_added}
use Rattle.desk_model.proofs.Commands.{fixing_keeps}
use Rattle.desk_model.proofs.KindsKept.{fixing_kinded}
use Rattle.observer_graph.specs.declared.node.Role.TheVariants.{Forwarder}
use Rattle.object_store.specs.Slots.{Registry, market_of, state_of, outdated}
use Rattle.object_store.specs.Shape.{Shape, IsJoined, slot_role}
use Rattle.object_store.specs.Store.{registry_of, StoreView}
use Rattle.object_store.specs.Scratch.{ScratchView}
use Rattle.lazy_objects.specs.Stands.{Stands}
use Rattle.object_store.proofs.Indexes.{same_terms}
use Rattle.object_store.proofs.Joined.{joined_set, room_set, terms_watch}
use Rattle.lazy_objects.proofs.Linked.{linked_before}
use Rattle.lazy_objects.proofs.Revised.{Changed, After}
use Rattle.object_store.proofs.Telling.{revised_told}
use Rattle.lazy_objects.proofs.Commanded.{fixing_stands, commanded}

-- the terms of an index
pub index_there : (m : Market) (x : ℕ) → kind_at m x ≡ Some kind.Index → (terms : IndexTerms) × (fixings : Stored) × (terms_at m x ≡ Some (terms_of.Index terms fixings))
index_there m x is = by_slot (slot_at m x) is
  where
    by_slot : (t : Slot) → kind_in t ≡ Some kind.Index → (terms : IndexTerms) × (fixings : Stored) × (terms_in t ≡ Some (terms_of.Index terms fixings))
    by_slot Free is = absurd (cc)
    by_slot Today is = absurd (cc)
    by_slot Watcher is = absurd (cc)
    by_slot (Live (terms_of.Quote held)) is = absurd (cc)
    by_slot (Live (terms_of.Derived minus first second)) is = absurd (cc)
    by_slot (Live (terms_of.Handle handle.Quote target)) is = absurd (cc)
    by_slot (Live (terms_of.Handle handle.Curve target)) is = absurd (cc)
    by_slot (Live (terms_of.Curve terms)) is = absurd (cc)
    by_slot (Live (terms_of.Implied curve reference)) is = absurd (cc)
    by_slot (Live (terms_of.Index terms fixings)) is = (terms, fixings, refl)
    by_slot (Live (terms_of.Engine curve)) is = absurd (cc)
    by_slot (Live (terms_of.Stock quote)) is = absurd (cc)
    by_slot (Live (terms_of.Composite parts)) is = absurd (cc)
    by_slot (Live (terms_of.Flows flows engine)) is = absurd (cc)

pub fixings_are : (m : Market) (x : ℕ) (terms : IndexTerms) (fixings : Stored) → terms_at m x ≡ Some (terms_of.Index terms fixings) → fixings_in (index_at m (Some x)) ≡ fixings
fixings_are m x terms fixings is = ap (λ (t : Option Terms). fixings_in (index_in x t)) is

pub refused_as : (f g : Stored) (r q : Result (Unit {0}) FixFault) (day kept : ℤ) → g ≡ f → q ≡ r → (r ≡ Err (Exists kept)) ↔ (fixing_on f day ≡ Some kept) → (q ≡ Err (Exists kept)) ↔ (fixing_on g day ≡ Some kept)
refused_as f g r q day kept same answers is = (λ e. ap (λ (h : Stored). fixing_on h day) same ∙ is.0 (sym answers ∙ e), λ e. answers ∙ is.1 (ap (λ (h : Stored). fixing_on h day) (sym same) ∙ e))

index_role : (t : Slot) (terms : IndexTerms) (fixings : Stored) → terms_in t ≡ Some (terms_of.Index terms fixings) → slot_role t ≡ Some Forwarder
index_role Free terms fixings is = absurd (cc)
index_role Today terms fixings is = absurd (cc)
index_role Watcher terms fixings is = absurd (cc)
index_role (Live held) terms fixings is = ap (λ (u : Terms). slot_role (Live u)) (same_terms held (terms_of.Index terms fixings) is)

-- a fixing changes no pair
pub joined_fixing : (today : ℤ) (slots : List Slot) (shape : Shape) (x : ℕ) (terms : IndexTerms) (fixings more : Stored) → IsJoined (market_of today slots) shape → x < length slots
    → terms_in (slice_index_or slots x Free) ≡ Some (terms_of.Index terms fixings) → IsJoined (market_of today (slice_set slots x (Live (terms_of.Index terms more)))) shape
joined_fixing today slots shape x terms fixings more joined within is =
    joined_set today slots x (terms_of.Index terms more) shape joined.long within (joined.roles x ∙ index_role (slice_index_or slots x Free) terms fixings is)
    (λ y. (
      λ a. subst (λ (t : Option Terms). Among y (edges_of t)) is ((joined.pairs x y (terms_watch (slice_index_or slots x Free) (terms_of.Index terms fixings) is)).0 a),
      λ a. (joined.pairs x y (terms_watch (slice_index_or slots x Free) (terms_of.Index terms fixings) is)).1 (subst (λ (t : Option Terms). Among y (edges_of t)) (sym is) a),
    ))
    (λ o other. joined.roles o) (λ o y other plain. joined.pairs o y plain)
    (room_set slots x (Live (terms_of.Index terms more)) shape.spare shape.spare joined.room (omega arith) within (omega arith))

-- a fixing that is stored tells
fixing_as : (s : State) (x : ℕ) (terms : IndexTerms) (fixings : Stored) (day rate : ℤ) → terms_in (slot_at s.market x) ≡ Some (terms_of.Index terms fixings)
    → fixing_added x day rate s ≡ revised x (terms_of.Index terms (with_fixing fixings day rate)) s
unfolding fixing_added
fixing_as s x terms fixings day rate is = ap (λ (t : Option Terms). fixing_stored (changeable t) x day rate s) is

module _ (today : ℤ) (slots : List Slot) (kept : List Kept) (registry : Registry) (scratch : ScratchView) (stands : Stands (state_of today slots kept registry) scratch) (x : ℕ) (terms : IndexTerms) (fixings : Stored) (day rate : ℤ)
    (is : terms_in (slice_index_or slots x Free) ≡ Some (terms_of.Index terms fixings)) where
  changed : fixing_added x day rate (state_of today slots kept registry) ≡ revised x (terms_of.Index terms (with_fixing fixings day rate)) (state_of today slots kept registry)
  changed = fixing_as (state_of today slots kept registry) x terms fixings day rate is

  keeps : Keeps (state_of today slots kept registry) (fixing_added x day rate (state_of today slots kept registry))
  keeps = fixing_keeps (state_of today slots kept registry) stands.whole x day rate

  pub fixing_links : IsLinked (market_of today (slice_set slots x (Live (terms_of.Index terms (with_fixing fixings day rate)))))
  fixing_links = linked_before x (terms_of.Index terms (with_fixing fixings day rate)) today slots kept registry (subst (λ (t : State). IsLinked t.market) changed keeps.whole.links)

  pub fixing_changed : (new : State) → new ≡ revised x (terms_of.Index terms (with_fixing fixings day rate)) (state_of today slots kept registry)
      → Changed (state_of today slots kept registry) new (fixing_added x day rate (state_of today slots kept registry)) scratch
  fixing_changed new e =
      commanded today slots kept registry scratch stands (fixing_added x day rate (state_of today slots kept registry)) new keeps
      (fixing_stands today slots kept registry scratch stands x day rate keeps (fixing_kinded (state_of today slots kept registry) stands.whole stands.kinds x day rate)) (e ∙ sym changed)

-- what a fixing that is stored leaves of a desk
pub fixing_left : (today : ℤ) (slots slots2 : List Slot) (old new : StoreView) (scratch : ScratchView) (x : ℕ) (terms : IndexTerms) (fixings : Stored) (day rate : ℤ)
    → Stands (state_of today slots old.kept (registry_of old)) scratch → IsJoined (market_of today slots) old.shape → x < length slots → terms_in (slice_index_or slots x Free) ≡ Some (terms_of.Index terms fixings)
    → slots2 ≡ slice_set slots x (Live (terms_of.Index terms (with_fixing fixings day rate)))
    → state_of today slots2 new.kept (registry_of new) ≡ notified x (outdated x (state_of today slots2 old.kept (registry_of old))) → new.shape ≡ old.shape
    → After (state_of today slots old.kept (registry_of old)) (state_of today slots2 new.kept (registry_of new)) (fixing_added x day rate (state_of today slots old.kept (registry_of old))) scratch new.shape
fixing_left today slots slots2 old new scratch x terms fixings day rate stands joined within is are told same = record {
  changed = fixing_changed today slots old.kept (registry_of old) scratch stands x terms fixings day rate is (state_of today slots2 new.kept (registry_of new))
      (revised_told today slots slots2 old.kept (registry_of old) (state_of today slots2 new.kept (registry_of new)) x (terms_of.Index terms (with_fixing fixings day rate)) are told);
  joined = subst (IsJoined (market_of today slots2)) (sym same)
      (subst (λ (l : List Slot). IsJoined (market_of today l) old.shape) (sym are) (joined_fixing today slots old.shape x terms fixings (with_fixing fixings day rate) joined within is));
}

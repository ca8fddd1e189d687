-- An object that is added where room was made for what it may come to hold.
use Rattle.std.proofs.Common.{◌≡◌, ◌+◌, ◌≤◌, List, [], ◌∷◌, ◌++◌, length, Some, sym, ◌∙◌, ap, subst}
use Rattle.std.specs.Prelude.{ℤ, None, slice_index_or}
use Rattle.desk_terms.specs.declared.terms.Terms.{Terms}
use Rattle.desk_model.specs.declared.kept.Kept.{Kept}
use Rattle.desk_model.specs.declared.slot.Slot.{Slot}
use Rattle.desk_model.specs.declared.slot.Slot.TheVariants.{Live}
use Rattle.desk_model.specs.Market.{role_of}
use Rattle.desk_model.specs.State.{State}
use Rattle.desk_model.specs.Effect.{made}
use Rattle.object_store.specs.Slots.{market_of, state_of}
use Rattle.object_store.specs.Shape.{IsJoined, node_role, watched, vacancies, vacancy_of}
use Rattle.object_store.specs.Store.{registry_of, StoreView, AddsObject}
use Rattle.object_store.specs.Scratch.{ScratchView}
use Rattle.object_store.proofs.Joined.{joined_added, joined_spared}
use Rattle.object_store.proofs.Registered.{spared_registry}
use Rattle.lazy_objects.specs.Stands.{Stands}
use Rattle.lazy_objects.proofs.Ends.{object_registry, added_state}

module _ (today : ℤ) (slots : List Slot) (old middle : StoreView) (joined : IsJoined (market_of today slots) old.shape) (long : length old.kept ≡ length slots)
    (spares : middle ≡ record old { shape = record old.shape { spare = middle.shape.spare } }) (more : old.shape.spare ≤ middle.shape.spare) where
  pub spared_joined : IsJoined (market_of today slots) middle.shape
  spared_joined = joined_spared (market_of today slots) old middle joined spares more

  pub spared_long : length middle.kept ≡ length slots
  spared_long = ap (λ (v : StoreView). length v.kept) spares ∙ long

  -- more room changes nothing that is stored
  pub spared_state : state_of today slots middle.kept (registry_of middle) ≡ state_of today slots old.kept (registry_of old)
  spared_state = ap (λ (k : List Kept). state_of today slots k (registry_of middle)) (ap (λ (v : StoreView). v.kept) spares)
      ∙ ap (state_of today slots old.kept) (spared_registry old middle middle.shape.spare spares)

  -- where the object is not added after all
  pub spared_same : (slots2 : List Slot) (new : StoreView) → slots2 ≡ slots → new ≡ middle
      → state_of today slots2 new.kept (registry_of new) ≡ state_of today slots old.kept (registry_of old)
  spared_same slots2 new is same = ap (λ (l : List Slot). state_of today l new.kept (registry_of new)) is
      ∙ ap (λ (v : StoreView). state_of today slots v.kept (registry_of v)) same ∙ spared_state

  pub spared_left : (slots2 : List Slot) (new : StoreView) → slots2 ≡ slots → new ≡ middle → IsJoined (market_of today slots2) new.shape
  spared_left slots2 new is same = subst (λ (l : List Slot). IsJoined (market_of today l) new.shape) (sym is)
      (subst (λ (v : StoreView). IsJoined (market_of today slots) v.shape) (sym same) spared_joined)

  module _ (slots2 : List Slot) (terms : Terms) (new : StoreView) (adds : AddsObject (node_role (role_of (Some terms))) (watched terms) middle new)
      (is : slots2 ≡ slots ++ Live terms ∷ []) where
    pub spared_added : state_of today slots2 new.kept (registry_of new) ≡ made terms (state_of today slots old.kept (registry_of old))
    spared_added = added_state today slots slots2 middle new terms is adds (object_registry today slots middle new terms spared_joined spared_long adds)
        ∙ ap (made terms) spared_state

    pub spared_more : vacancies slots + vacancy_of terms ≤ middle.shape.spare → IsJoined (market_of today slots2) new.shape
    spared_more room = joined_added today slots slots2 terms middle new spared_joined spared_long adds room is

-- room in the scratch changes nothing of what stands
pub reserved_stands : (s : State) (old new : ScratchView) → Stands s old → new.entries ≡ old.entries
    → new.touched ≡ old.touched → Stands s new
reserved_stands s old new stands entries touched = record {
  whole = stands.whole;
  sources = stands.sources;
  kinds = stands.kinds;
  ranged = stands.ranged;
  limit = stands.limit;
  empty = record {
    entries = λ x. ap (λ l. slice_index_or l x None) entries ∙ stands.empty.entries x;
    long = ap length entries ∙ stands.empty.long;
    touched = touched ∙ stands.empty.touched;
  };
}

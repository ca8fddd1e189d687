-- What stands after each call of a desk.
use Rattle.std.proofs.Common.{◌≡◌, inl, inr, ◌<◌, ◌^◌, ◌+◌, ℕ, zero, suc, true, false, List, [], ◌∷◌, ◌++◌, length, Some, None, refl, sym, ◌∙◌, ap, subst, arith}
use Rattle.std.specs.Prelude.{ℤ, slice_index_or}
use Rattle.std.proofs.lemmas.List.{length-append}
use Rattle.std.proofs.lemmas.Bool.{cases_eq}
use Rattle.desk_terms.specs.declared.terms.Terms.{Terms}
use Rattle.desk_terms.specs.Reading.{Calc, IsFitting}
use Rattle.desk_model.specs.declared.kept.Kept.{Kept}
use Rattle.desk_model.specs.declared.slot.Slot.{Slot}
use Rattle.desk_model.specs.declared.slot.Slot.TheVariants.{Live, Today}
use Rattle.desk_terms.specs.Kind as kinds
use Rattle.desk_model.specs.Market.{terms_in, terms_at, slot_at, role_of}
use Rattle.desk_model.specs.State.{State, kept_at, unpriced, is_source}
use Rattle.desk_model.specs.Links.{AreOfKind, IsRanged, is_lazy_at}
use Rattle.desk_model.specs.Sound.{IsSound, KeepsCurrent}
use Rattle.desk_model.specs.Laws.{Keeps}
use Rattle.desk_model.specs.Effect.{start, added, made}
use Rattle.desk_model.proofs.Births.{old_slot, new_slot, added_keeps}
use Rattle.desk_model.proofs.KindsKept.{may_be_made, added_kinded}
use Rattle.desk_model.proofs.Starts.{whole_start, kinded_start}
use Rattle.desk_model.proofs.Carried.{keeps_itself, sound_kept}
use Rattle.object_store.specs.Slots.{Registry, market_of, state_of}
use Rattle.object_store.specs.Scratch.{ScratchView, IsEmpty}
use Rattle.walks.specs.Walk.{Among}
use Rattle.observer_graph.specs.declared.node.Role.{Role}
use Rattle.observer_graph.specs.declared.node.Role.TheVariants as role
use Rattle.observer_graph.specs.Lists.{list_at}
use Rattle.object_store.specs.Shape.{IsJoined, node_role, registrations_from, registrations_of}
use Rattle.object_store.specs.Store.{registry_of, StoreView, AddsObject}
use Rattle.ask_walk.specs.Asks.{MayAsk, Stays}
use Rattle.lazy_objects.specs.Stands.{Stands}
use Rattle.object_store.proofs.Joined.{past_nothing}
use Rattle.object_store.proofs.Registered.{same_registry, adds_registered}
use Rattle.object_store.proofs.Touched.{pushed_default}

pub empty_none : (scratch : ScratchView) → scratch.entries ≡ [] → scratch.touched ≡ [] → IsEmpty 0 scratch
empty_none scratch entries touched = record { entries = λ x. ap (λ l. slice_index_or l x None) entries; long = ap length entries; touched = touched }

pub empty_grown : (n : ℕ) (old new : ScratchView) → IsEmpty n old → new.entries ≡ old.entries ++ None ∷ [] → new.touched ≡ old.touched → IsEmpty (n + 1) new
empty_grown n old new empty entries touched = record {
  entries = λ x. ap (λ l. slice_index_or l x None) entries ∙ pushed_default old.entries None x ∙ empty.entries x;
  long = ap length entries ∙ length-append old.entries (None ∷ []) ∙ ap (λ (k : ℕ). k + 1) empty.long;
  touched = touched ∙ empty.touched;
}

pub started : (today : ℤ) (scratch : ScratchView) → IsEmpty 1 scratch → Stands (start today) scratch
unfolding is_source
started today scratch empty = record {
  whole = whole_start today;
  sources = λ off x. source_none x;
  kinds = kinded_start today;
  ranged = λ x. ranged_none x;
  limit = omega arith;
  empty = empty;
}
  where
    source_none : (x : ℕ) → (kept_at (start today) x).source ≡ false
    source_none zero = refl
    source_none (suc x) = refl

    ranged_none : (x : ℕ) → IsRanged (terms_at (start today).market x)
    ranged_none zero = tt
    ranged_none (suc x) = tt

module _ (s : State) (scratch new : ScratchView) (terms : Terms) (stands : Stands s scratch) (own : IsRanged (Some terms)) (kinds : AreOfKind s.market (Some terms)) where
  pub add_keeps : Keeps s (made terms s)
  unfolding made
  add_keeps = added_keeps s (Live terms) stands.whole (may_be_made s stands.whole terms kinds)

  pub add_stands : length s.market.objects < 2 ^ 16 → IsEmpty (length s.market.objects + 1) new → Stands (made terms s) new
  unfolding made
  add_stands room empty = record {
    whole = add_keeps.whole;
    sources = add_keeps.current.sources stands.sources;
    kinds = added_kinded s (Live terms) kinds stands.kinds;
    ranged = λ x. elim (cases_eq x (length s.market.objects)) [
      | inl same ↦ subst (λ (t : Slot). IsRanged (terms_in t)) (sym (ap (λ (n : ℕ). slot_at (added (Live terms) s).market n) same ∙ new_slot s (Live terms))) own
      | inr other ↦ subst (λ (t : Slot). IsRanged (terms_in t)) (sym (old_slot s (Live terms) x other)) (stands.ranged x)
    ];
    limit = let l = length-append s.market.objects (Live terms ∷ []) in omega arith;
    empty = subst (λ (n : ℕ). IsEmpty n new) (sym (length-append s.market.objects (Live terms ∷ []))) empty;
  }

  pub add_sound : (calc : Calc) → IsSound calc s → IsSound calc (made terms s)
  add_sound calc sound = sound_kept calc s (made terms s) add_keeps.current sound

pub keeps_same : (s : State) (scratch : ScratchView) → Stands s scratch → KeepsCurrent s s
keeps_same s scratch stands = (keeps_itself s stands.whole).current

pub may_ask : (calc : Calc) (s : State) (o : ℕ) (scratch : ScratchView) → Stands s scratch → IsSound calc s → is_lazy_at s.market o ≡ true → IsFitting calc → MayAsk calc s o
may_ask calc s o scratch stands sound lazy fits = record { fits = fits; whole = stands.whole; sound = sound; kinds = stands.kinds; ranged = stands.ranged; lazy = lazy; limit = stands.limit }

-- a walk changes nothing of the market
pub stands_then : (calc : Calc) (today : ℤ) (slots : List Slot) (kept kept2 : List Kept) (registry registry2 : Registry) (scratch new : ScratchView) → Stands (state_of today slots kept registry) scratch
    → Stays calc (state_of today slots kept2 registry2) → IsEmpty (length slots) new → Stands (state_of today slots kept2 registry2) new
stands_then calc today slots kept kept2 registry registry2 scratch new stands stays empty =
    record { whole = stays.whole; sources = stays.sound.sources; kinds = stands.kinds; ranged = stands.ranged; limit = stands.limit; empty = empty }

-- an object that is no watcher has no registration
not_watching : (r : kinds.Role) → Some (node_role r) ≡ Some role.Watcher → ⊥
not_watching kinds.Role.Source e = absurd (cc)
not_watching kinds.Role.Forwarder e = absurd (cc)
not_watching kinds.Role.Lazy e = absurd (cc)
not_watching kinds.Role.Watching e = absurd (cc)

pub object_registry : {named : List ℕ} (today : ℤ) (slots : List Slot) (old new : StoreView) (terms : Terms) → IsJoined (market_of today slots) old.shape → length old.kept ≡ length slots
    → AddsObject (node_role (role_of (Some terms))) named old new → registry_of new ≡ registry_of old
object_registry {named} today slots old new terms joined long adds = same_registry old new adds.switch
    (adds_registered (node_role (role_of (Some terms))) named old new (joined.long ∙ sym long) adds (λ e. absurd (not_watching (role_of (Some terms)) e))
    (λ o y same a. past_nothing today slots old.shape joined o y (same ∙ long) a)) adds.told

pub added_state : {named : List ℕ} {kind : Role} (today : ℤ) (slots slots2 : List Slot) (old new : StoreView) (terms : Terms) → slots2 ≡ slots ++ Live terms ∷ [] → AddsObject kind named old new
    → registry_of new ≡ registry_of old → state_of today slots2 new.kept (registry_of new) ≡ made terms (state_of today slots old.kept (registry_of old))
unfolding made
added_state today slots slots2 old new terms is adds same = ap (state_of today slots2 new.kept) same ∙ ap (λ (l : List Slot). state_of today l new.kept (registry_of old)) is
    ∙ ap (λ (k : List Kept). state_of today (slots ++ Live terms ∷ []) k (registry_of old)) adds.kept

nothing_in : (o y : ℕ) → Among y (slice_index_or [] o []) → ⊥
nothing_in zero y a = a
nothing_in (suc o) y a = a

-- at the start nobody is registered
pub start_registry : (old new : StoreView) → old.kept ≡ [] → old.deferring ≡ false → old.shape.roles ≡ [] → old.shape.subjects ≡ [] → old.noticed ≡ [] → AddsObject role.Source [] old new
    → registry_of new ≡ record { deferring = false; registrations = []; noticed = [] }
unfolding registrations_of
start_registry old new kept off roles subjects told adds = same_registry old new adds.switch
    (adds_registered role.Source [] old new (ap length roles ∙ sym (ap length kept)) adds (λ e y a. a)
    (λ o y same a. nothing_in o y (subst (λ (l : List (List ℕ)). Among y (list_at l o)) subjects a))) adds.told
    ∙ (λ i. record { deferring = off i; registrations = registrations_from 0 (roles i) old.shape.subjects; noticed = told i })

pub start_state : (today : ℤ) (slots : List Slot) (kept : List Kept) (registry : Registry) → slots ≡ Today ∷ [] → kept ≡ unpriced ∷ [] → registry ≡ record { deferring = false; registrations = []; noticed = [] }
    → state_of today slots kept registry ≡ start today
start_state today slots kept registry is are none = ap (state_of today slots kept) none ∙ ap (λ (l : List Slot). state_of today l kept (record { deferring = false; registrations = []; noticed = [] })) is
    ∙ ap (λ (k : List Kept). state_of today (Today ∷ []) k (record { deferring = false; registrations = []; noticed = [] })) are

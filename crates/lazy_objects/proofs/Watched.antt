-- What stands after a watcher is made, registered and unregistered, and after one is handed out.
use Rattle.std.proofs.Common.{◌≡◌, ◌≢◌, inl, inr, ◌<◌, ◌≤◌, ◌^◌, ◌+◌, ℕ, Bool, true, false, List, [], ◌∷◌, ◌++◌, length, Option, Some, None, refl, sym, ◌∙◌, ap, subst, arith}
use Rattle.std.specs.Prelude.{ℤ, ◌↔◌, ◌==◌, slice_index_or, is_some, IfSome, IfNone}
use Rattle.std.proofs.lemmas.List.{length-append}
use Rattle.std.proofs.lemmas.Bool.{cases_eq, eq-eqb, eqb-true, false≢true, false_from_ne_true}
use Rattle.walks.specs.Walk.{Among}
use Rattle.walks.proofs.Walks.{any_member, member_any}
use Rattle.desk_model.specs.declared.kept.Kept.{Kept}
use Rattle.desk_model.specs.declared.slot.Slot.{Slot}
use Rattle.desk_model.specs.declared.slot.Slot.TheVariants.{Watcher}
use Rattle.desk_model.specs.Market.{slot_at, terms_in, is_watcher, is_observable, without}
use Rattle.desk_model.specs.State.{State}
use Rattle.desk_model.specs.Told.{registered, is_registered, is_watching}
use Rattle.desk_model.specs.Links.{IsRanged}
use Rattle.desk_terms.specs.Reading.{Calc}
use Rattle.desk_model.specs.Laws.{Keeps}
use Rattle.desk_model.specs.Sound.{IsSound, KeepsCurrent}
use Rattle.desk_model.specs.Effect.{with_pair, without_pair, added, watching, registered_with, unregistered, handed_out}
use Rattle.desk_model.proofs.Births.{old_slot, new_slot, added_keeps}
use Rattle.desk_model.proofs.Carried.{keeps_itself}
use Rattle.desk_model.proofs.KindsKept.{added_kinded}
use Rattle.desk_model.proofs.Registrations.{register_keeps, unregister_keeps, fewer_keep}
use Rattle.observer_graph.specs.declared.node.Role.{Role}
use Rattle.observer_graph.specs.declared.node.Role.TheVariants as role
use Rattle.observer_graph.specs.Noticed.{IsRising}
use Rattle.object_store.specs.Slots.{market_of, state_of}
use Rattle.object_store.specs.Shape.{Shape, IsJoined, role_at, observed_by, registrations_of}
use Rattle.object_store.specs.Scratch.{ScratchView, IsEmpty}
use Rattle.object_store.specs.Store.{StoreView, registry_of, AddsObject, Joins, Leaves}
use Rattle.object_store.proofs.Joined.{past_nothing}
use Rattle.object_store.proofs.Registered.{registered_is, same_registry, adds_registered, joins_registered, leaves_registered}
use Rattle.object_store.proofs.Rising.{without_first}
use Rattle.object_store.proofs.Telling.{joined_watcher_role}
use Rattle.lazy_objects.specs.Stands.{Stands}
use Rattle.lazy_objects.proofs.Flagged.{same_market}
use Rattle.lazy_objects.proofs.Revised.{After}

-- a watcher more
module _ (s : State) (scratch new : ScratchView) (stands : Stands s scratch) where
  pub watcher_keeps : Keeps s (watching s)
  unfolding watching
  watcher_keeps = added_keeps s Watcher stands.whole (λ y none. absurd none)

  pub watcher_stands : length s.market.objects < 2 ^ 16 → IsEmpty (length s.market.objects + 1) new → Stands (watching s) new
  unfolding watching
  watcher_stands room empty = record {
    whole = watcher_keeps.whole;
    sources = watcher_keeps.current.sources stands.sources;
    kinds = added_kinded s Watcher tt stands.kinds;
    ranged = λ x. elim (cases_eq x (length s.market.objects)) [
      | inl same ↦ subst (λ (t : Slot). IsRanged (terms_in t)) (sym (ap (λ (n : ℕ). slot_at (added Watcher s).market n) same ∙ new_slot s Watcher)) tt
      | inr other ↦ subst (λ (t : Slot). IsRanged (terms_in t)) (sym (old_slot s Watcher x other)) (stands.ranged x)
    ];
    limit = let l = length-append s.market.objects (Watcher ∷ []) in omega arith;
    empty = subst (λ (n : ℕ). IsEmpty n new) (sym (length-append s.market.objects (Watcher ∷ []))) empty;
  }

pub watching_state : (today : ℤ) (slots slots2 : List Slot) (old new : StoreView) → IsJoined (market_of today slots) old.shape → length old.kept ≡ length slots → slots2 ≡ slots ++ Watcher ∷ []
    → AddsObject role.Watcher [] old new → state_of today slots2 new.kept (registry_of new) ≡ watching (state_of today slots old.kept (registry_of old))
unfolding watching
watching_state today slots slots2 old new joined long is adds = ap (state_of today slots2 new.kept) same
    ∙ ap (λ (l : List Slot). state_of today l new.kept (registry_of old)) is
    ∙ ap (λ (k : List Kept). state_of today (slots ++ Watcher ∷ []) k (registry_of old)) adds.kept
  where
    same : registry_of new ≡ registry_of old
    same = same_registry old new adds.switch (adds_registered role.Watcher [] old new (joined.long ∙ sym long) adds (λ e y none. none)
        (λ o y end a. past_nothing today slots old.shape joined o y (end ∙ long) a)) adds.told

-- a test that says of each whether it holds is the test of the definition
pub by_test : (b c : Bool) → (b ≡ true → c ≡ true) → (c ≡ true → b ≡ true) → b ≡ c
by_test true c there back = sym (there refl)
by_test false c there back = sym (false_from_ne_true c (λ e. false≢true (back e)))

module _ (today : ℤ) (slots : List Slot) (old : StoreView) (kept : List Kept) (joined : IsJoined (market_of today slots) old.shape) (w : ℕ) (watcher : is_watcher (slot_at (market_of today slots) w) ≡ true) where
  abbrev state : State
  state = state_of today slots kept (registry_of old)

  watches : role_at old.shape w ≡ Some role.Watcher
  watches = joined_watcher_role today slots old kept joined w watcher

  pub watcher_there : is_some (role_at old.shape w) ≡ true
  watcher_there = ap is_some watches

  pub is_registered_is : (o : ℕ) (b : Bool) → (b ≡ true) ↔ Among o (observed_by old.shape w) → b ≡ is_registered state w o
  is_registered_is o b is = by_test b (is_registered state w o)
      (λ e. member_any (λ x. x == o) o (registered (registrations_of old.shape) w) ((registered_is old.shape w o).1 (watches, is.0 e)) (eq-eqb o o refl))
      (λ e. let a = any_member (λ x. x == o) (registered (registrations_of old.shape) w) e in
      is.1 (subst (λ (x : ℕ). Among x (observed_by old.shape w)) (eqb-true a.0 o a.2) ((registered_is old.shape w a.0).0 a.1).1))

  pub is_watching_is : (b : Bool) → (b ≡ true) ↔ ((x : ℕ) × Among x (observed_by old.shape w)) → b ≡ is_watching state w
  is_watching_is b is = by_test b (is_watching state w)
      (λ e. let p = is.0 e in member_any (λ x. true) p.0 (registered (registrations_of old.shape) w) ((registered_is old.shape w p.0).1 (watches, p.1)) refl)
      (λ e. let a = any_member (λ x. true) (registered (registrations_of old.shape) w) e in is.1 (a.0, ((registered_is old.shape w a.0).0 a.1).1))

-- what handing out leaves of a desk
pub record HandsOut (s new : State) (scratch : ScratchView) (shape : Shape) : Type 0 where
  pub stands : Stands new scratch
  pub joined : IsJoined new.market shape
  pub keeps : KeepsCurrent s new
  pub sound : (calc : Calc) → IsSound calc s → IsSound calc new

module _ (today : ℤ) (slots : List Slot) (old new : StoreView) (scratch : ScratchView) (stands : Stands (state_of today slots old.kept (registry_of old)) scratch) (joined : IsJoined (market_of today slots) old.shape) where
  abbrev s : State
  s = state_of today slots old.kept (registry_of old)

  abbrev t : State
  t = state_of today slots new.kept (registry_of new)

  -- the pairs of a watcher are none of the market
  still_joined : (w : ℕ) → is_watcher (slot_at (market_of today slots) w) ≡ true → new.shape.roles ≡ old.shape.roles
      → ((o x : ℕ) → o ≢ w → Among x (observed_by new.shape o) ↔ Among x (observed_by old.shape o)) → old.shape.spare ≤ new.shape.spare → IsJoined (market_of today slots) new.shape
  still_joined w watcher roles others more = record {
    long = ap length roles ∙ joined.long;
    roles = λ o. ap (λ (l : List (Option Role)). slice_index_or l o None) roles ∙ joined.roles o;
    pairs = λ o x plain.
        let p = others o x (λ same. false≢true (sym plain ∙ ap (λ (n : ℕ). is_watcher (slot_at (market_of today slots) n)) same ∙ watcher)) in
        let q = joined.pairs o x plain in
        (λ a. q.0 (p.0 a), λ a. p.1 (q.1 a));
    room = let room = joined.room in omega (arith, room, more);
  }

  registered_market : (w o : ℕ) → (registered_with w o s).market ≡ s.market
  unfolding registered_with
  registered_market w o = refl

  unregistered_market : (w o : ℕ) → (unregistered w o s).market ≡ s.market
  unfolding unregistered
  unregistered_market w o = refl

  module _ (w o : ℕ) (watcher : is_watcher (slot_at (market_of today slots) w) ≡ true) where
    registered_state : Joins old new o w → t ≡ registered_with w o s
    unfolding registered_with
    registered_state joins = ap (λ (k : List Kept). state_of today slots k (registry_of new)) joins.kept ∙ ap (state_of today slots old.kept) registry_is
      where
        watches_there : role_at old.shape w ≡ Some role.Watcher
        watches_there = joined_watcher_role today slots old old.kept joined w watcher

        registry_is : registry_of new ≡ record (registry_of old) { registrations = with_pair w o (registrations_of old.shape) }
        registry_is = λ i. record { deferring = joins.switch i; registrations = joins_registered old new o w watches_there joins i; noticed = joins.told i }

    pub registered_left : is_observable (slot_at (market_of today slots) o) ≡ true → Joins old new o w → new.shape.spare ≡ old.shape.spare → After s t (registered_with w o s) scratch new.shape
    registered_left observed joins spare = record {
      changed = same_market s (registered_with w o s) t scratch stands (registered_market w o) (register_keeps s stands.whole w o (record { watcher = watcher; observed = observed })) (registered_state joins);
      joined = still_joined w watcher joins.roles (λ p x other. (
        λ a. elim ((joins.pairs x p).0 a) [ inl was ↦ was | inr pair ↦ absurd (other pair.1) ],
        λ a. (joins.pairs x p).1 (inl a),
      )) (omega (arith, spare));
    }

    unregistered_state : Leaves old new o w → t ≡ unregistered w o s
    unfolding unregistered
    unregistered_state leaves = ap (λ (k : List Kept). state_of today slots k (registry_of new)) leaves.kept ∙ ap (state_of today slots old.kept) registry_is
      where
        registry_is : registry_of new ≡ record (registry_of old) { registrations = without_pair w o (registrations_of old.shape) }
        registry_is = λ i. record { deferring = leaves.switch i; registrations = leaves_registered old new o w leaves i; noticed = leaves.told i }

    pub unregistered_left : Leaves old new o w → old.shape.spare ≤ new.shape.spare → After s t (unregistered w o s) scratch new.shape
    unregistered_left leaves more = record {
      changed = same_market s (unregistered w o s) t scratch stands (unregistered_market w o) (unregister_keeps s stands.whole w o) (unregistered_state leaves);
      joined = still_joined w watcher leaves.roles (λ p x other. (
        λ a. ((leaves.pairs x p).0 a).0,
        λ a. (leaves.pairs x p).1 (a, λ pair. other pair.1),
      )) more;
    }

  -- the first of the told watchers is handed out
  module _ (w : ℕ) (told : old.noticed ≡ w ∷ new.noticed) (same : new ≡ record old { noticed = new.noticed }) where
    pub handed_state : t ≡ record s { noticed = new.noticed }
    handed_state = ap (λ (v : StoreView). state_of today slots v.kept (registry_of v)) same

    pub handed_left : After s t (record s { noticed = new.noticed }) scratch new.shape
    handed_left = record {
      changed = same_market s (record s { noticed = new.noticed }) t scratch stands refl (fewer_keep s stands.whole new.noticed (λ v a. subst (Among v) (sym told) (inr a))) handed_state;
      joined = subst (IsJoined (market_of today slots)) (sym (ap (λ (v : StoreView). v.shape) same)) joined;
    }

    pub handed_is : IsRising old.noticed → t ≡ handed_out w s
    unfolding handed_out
    handed_is rising = handed_state ∙ ap (λ (l : List ℕ). record s { noticed = l }) (sym (ap (without w) told ∙ without_first w new.noticed (subst IsRising told rising)))

  -- what stands after the call, whether a watcher was handed out or there was none
  pub hands_left : (r : Option ℕ) → IfNone r ((old.noticed ≡ []) × (new ≡ old)) → IfSome r (λ w. (old.noticed ≡ w ∷ new.noticed) × (new ≡ record old { noticed = new.noticed }))
      → HandsOut s t scratch new.shape
  hands_left None none some = subst (λ (v : StoreView). HandsOut s (state_of today slots v.kept (registry_of v)) scratch v.shape) (sym none.1) (record {
    stands = stands;
    joined = joined;
    keeps = (keeps_itself s stands.whole).current;
    sound = λ calc sound. sound;
  })
  hands_left (Some w) none some = let d = handed_left w some.0 some.1 in
      record { stands = d.changed.stands; joined = d.joined; keeps = d.changed.keeps; sound = d.changed.sound }

  pub hands_none : (r : Option ℕ) → IfNone r ((old.noticed ≡ []) × (new ≡ old)) → IfNone r ((s.noticed ≡ []) × (t ≡ s))
  hands_none None none = (none.0, ap (λ (v : StoreView). state_of today slots v.kept (registry_of v)) none.1)
  hands_none (Some w) none = tt

  pub hands_some : (r : Option ℕ) → IfSome r (λ w. (old.noticed ≡ w ∷ new.noticed) × (new ≡ record old { noticed = new.noticed }))
      → IfSome r (λ w. (s.noticed ≡ w ∷ t.noticed) × (t ≡ record s { noticed = t.noticed }))
  hands_some None some = tt
  hands_some (Some w) some = (some.0, handed_state w some.0 some.1)

  pub hands_is : IsRising old.noticed → (r : Option ℕ) → IfSome r (λ w. (old.noticed ≡ w ∷ new.noticed) × (new ≡ record old { noticed = new.noticed })) → IfSome r (λ w. t ≡ handed_out w s)
  hands_is rising None some = tt
  hands_is rising (Some w) some = handed_is w some.0 some.1 rising

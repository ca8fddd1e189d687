-- What stands after a change of a weight.
use Rattle.std.proofs.Common.{◌≡◌, ◌≢◌, ◌<◌, ◌≤◌, ◌⊎◌, inl, inr, ℕ, Bool, true, false, List, [], ◌∷◌, ◌++◌, length, Some, refl, sym, ◌∙◌, ap, subst}
use Rattle.std.specs.Prelude.{ℤ, pos, if◌then◌else◌, unsigned_abs, take, slice_index_or, slice_set}
use Rattle.std.proofs.Math.Seq.{take-append_seam}
use Rattle.std.proofs.lemmas.List.{get_or-set_same, set-set, set-get_or}
use Rattle.std.specs.Ordering.{int_eq}
use Rattle.std.proofs.lemmas.Bool.{false≢true}
use Rattle.desk_terms.specs.declared.terms.Terms.TheVariants as terms_of
use Rattle.desk_terms.specs.declared.terms.Part.{Part}
use Rattle.desk_terms.specs.Parts.{AreEachInRange}
use Rattle.desk_terms.specs.declared.terms.HandleKind.TheVariants as handle
use Rattle.desk_terms.specs.declared.kind.Kind.TheVariants as kind
use Rattle.desk_terms.specs.declared.kind.Wanted.TheVariants.{Member}
use Rattle.desk_model.specs.declared.kept.Kept.{Kept}
use Rattle.desk_model.specs.declared.slot.Slot.{Slot}
use Rattle.desk_model.specs.declared.slot.Slot.TheVariants.{Live, Free, Today, Watcher}
use Rattle.desk_model.specs.Market.{Market, kind_at, kind_in, terms_in, terms_at, slot_at, is_given, is_observable}
use Rattle.desk_model.specs.Changeable.{Changeable, changeable, weight_of, with_member}
use Rattle.desk_model.specs.Changeable.Changeable.{HasParts}
use Rattle.desk_model.specs.State.{State}
use Rattle.desk_model.specs.Links.{CanTell, IsLinked, IsKinded, IsRanged, serves_as, reaches}
use Rattle.desk_model.specs.Laws.{Keeps, MayLink}
use Rattle.desk_model.specs.Effect.{with_terms, notified, revised, weight_set, member_set}
use Rattle.desk_model.specs.Sound.{IsSound, KeepsCurrent}
use Rattle.desk_model.proofs.Carried.{sound_kept}
use Rattle.desk_model.proofs.Commands.{member_keeps}
use Rattle.desk_model.proofs.KindsKept.{member_kinded}
use Rattle.desk_model.proofs.PartLimits.{each_with}
use Rattle.object_store.specs.Slots.{Registry, market_of, state_of, outdated}
use Rattle.object_store.specs.Scratch.{ScratchView}
use Rattle.object_store.specs.Parts.{parts_in}
use Rattle.observer_graph.specs.declared.node.Role.TheVariants as role
use Rattle.object_store.specs.Shape.{IsJoined, role_at, registrations_of}
use Rattle.object_store.specs.Store.{StoreView, IsRewatched, registry_of, HasNoMarkWhereOff}
use Rattle.object_store.proofs.Joined.{composite_slot, joined_composite}
use Rattle.object_store.proofs.Registered.{rewatched_plain}
use Rattle.object_store.proofs.Telling.{IsKept, given_set, kept_state, kept_marks, no_marks, revised_told}
use Rattle.lazy_objects.specs.Stands.{Stands}
use Rattle.lazy_objects.proofs.Linked.{linked_before}
use Rattle.lazy_objects.proofs.Revised.{After, Changed, kind_within, revised_stands, tells_then}

-- where a composite stands, its parts do
by_slot : (t : Slot) → kind_in t ≡ Some kind.Composite → changeable (terms_in t) ≡ HasParts (parts_in t)
by_slot Free is = absurd (cc)
by_slot Today is = absurd (cc)
by_slot Watcher is = absurd (cc)
by_slot (Live (terms_of.Quote held)) is = absurd (cc)
by_slot (Live (terms_of.Derived minus first second)) is = absurd (cc)
by_slot (Live (terms_of.Handle handle.Quote target)) is = absurd (cc)
by_slot (Live (terms_of.Handle handle.Curve target)) is = absurd (cc)
by_slot (Live (terms_of.Curve terms)) is = absurd (cc)
by_slot (Live (terms_of.Implied curve reference)) is = absurd (cc)
by_slot (Live (terms_of.Index terms fixings)) is = absurd (cc)
by_slot (Live (terms_of.Engine curve)) is = absurd (cc)
by_slot (Live (terms_of.Stock quote)) is = absurd (cc)
by_slot (Live (terms_of.Composite parts)) is = refl
by_slot (Live (terms_of.Flows flows engine)) is = absurd (cc)

parts_there : (t : Slot) → kind_in t ≡ Some kind.Composite → terms_in t ≡ Some (terms_of.Composite (parts_in t))
parts_there Free is = absurd (cc)
parts_there Today is = absurd (cc)
parts_there Watcher is = absurd (cc)
parts_there (Live (terms_of.Quote held)) is = absurd (cc)
parts_there (Live (terms_of.Derived minus first second)) is = absurd (cc)
parts_there (Live (terms_of.Handle handle.Quote target)) is = absurd (cc)
parts_there (Live (terms_of.Handle handle.Curve target)) is = absurd (cc)
parts_there (Live (terms_of.Curve terms)) is = absurd (cc)
parts_there (Live (terms_of.Implied curve reference)) is = absurd (cc)
parts_there (Live (terms_of.Index terms fixings)) is = absurd (cc)
parts_there (Live (terms_of.Engine curve)) is = absurd (cc)
parts_there (Live (terms_of.Stock quote)) is = absurd (cc)
parts_there (Live (terms_of.Composite parts)) is = refl
parts_there (Live (terms_of.Flows flows engine)) is = absurd (cc)

-- what may be a member is observed
member_observed : (t : Slot) → serves_as (kind_in t) Member ≡ true → is_observable t ≡ true
member_observed Free is = absurd (cc)
member_observed Today is = absurd (cc)
member_observed Watcher is = absurd (cc)
member_observed (Live terms) is = refl

-- a composite, what may be its member, and no way back
abbrev pub MayWeigh : Market → ℕ → ℕ → ℤ → Type 0
MayWeigh market k member weight = (kind_at market k ≡ Some kind.Composite) × (serves_as (kind_at market member) Member ≡ true) × ((weight ≡ pos 0) ⊎ ((member ≢ k) × (reaches market member k ≡ false)))

-- a weight within its limit, and room for the parts
pub record Ranges (market : Market) (k member : ℕ) (weight : ℤ) : Type 0 where
  pub limit : unsigned_abs weight ≤ 1_000_000
  pub count : (parts : List Part) → terms_at market k ≡ Some (terms_of.Composite parts) → length (with_member parts member weight) ≤ 4096

may_link : (m : Market) (k member : ℕ) (weight : ℤ) → serves_as (kind_at m member) Member ≡ true → (weight ≡ pos 0) ⊎ ((member ≢ k) × (reaches m member k ≡ false))
    → int_eq weight (pos 0) ≡ false → MayLink m k (Some member)
may_link m k member weight serves (inl none) some = absurd (false≢true (sym some ∙ ap (λ (w : ℤ). int_eq w (pos 0)) none))
may_link m k member weight serves (inr apart) some = (member_observed (slot_at m member) serves, apart.0, apart.1)

module _ (s : State) (k member : ℕ) (weight : ℤ) (is : kind_at s.market k ≡ Some kind.Composite) where
  pub weight_as : (b : Bool) → int_eq (weight_of (parts_in (slot_at s.market k)) member) weight ≡ b
      → member_set k member weight s ≡ (if b then s else revised k (terms_of.Composite (with_member (parts_in (slot_at s.market k)) member weight)) s)
  unfolding member_set
  weight_as b e = ap (λ (c : Changeable). weight_set c k member weight s) (by_slot (slot_at s.market k) is)
      ∙ ap (λ (c : Bool). if c then s else revised k (terms_of.Composite (with_member (parts_in (slot_at s.market k)) member weight)) s) e

module _ (today : ℤ) (slots : List Slot) (kept : List Kept) (registry : Registry) (scratch : ScratchView) (stands : Stands (state_of today slots kept registry) scratch) (k member : ℕ) (weight : ℤ)
    (may : MayWeigh (market_of today slots) k member weight) (ranges : Ranges (market_of today slots) k member weight) (differs : int_eq (weight_of (parts_in (slot_at (market_of today slots) k)) member) weight ≡ false)
    (parts : List Part) (reweighed : parts ≡ with_member (parts_in (slot_at (market_of today slots) k)) member weight) where
  abbrev changed : State
  changed = revised k (terms_of.Composite parts) (state_of today slots kept registry)

  same : member_set k member weight (state_of today slots kept registry) ≡ changed
  same = weight_as (state_of today slots kept registry) k member weight may.0 false differs ∙ ap (λ (p : List Part). revised k (terms_of.Composite p) (state_of today slots kept registry)) (sym reweighed)

  keeps : Keeps (state_of today slots kept registry) changed
  keeps = subst (Keeps (state_of today slots kept registry)) same (member_keeps (state_of today slots kept registry) stands.whole k member weight (may_link (market_of today slots) k member weight may.1 may.2))

  kinded : IsKinded changed.market
  kinded = subst (λ (t : State). IsKinded t.market) same (member_kinded (state_of today slots kept registry) stands.whole stands.kinds k member weight (λ some. may.1))

  there : terms_at (market_of today slots) k ≡ Some (terms_of.Composite (parts_in (slot_at (market_of today slots) k)))
  there = parts_there (slot_at (market_of today slots) k) may.0

  ranged : IsRanged (Some (terms_of.Composite parts))
  ranged = subst (λ (p : List Part). IsRanged (Some (terms_of.Composite p))) (sym reweighed) (record {
    count = ranges.count (parts_in (slot_at (market_of today slots) k)) there;
    each = each_with (parts_in (slot_at (market_of today slots) k)) member weight ranges.limit (subst IsRanged there (stands.ranged k)).each;
  })

  pub member_links : IsLinked (with_terms k (terms_of.Composite parts) (state_of today slots kept registry)).market
  member_links = linked_before k (terms_of.Composite parts) today slots kept registry keeps.whole.links

  pub member_changed : (new : State) → new ≡ revised k (terms_of.Composite parts) (state_of today slots kept registry)
      → Changed (state_of today slots kept registry) new (member_set k member weight (state_of today slots kept registry)) scratch
  member_changed new e = record {
    stands = subst (λ (t : State). Stands t scratch) (sym e) (revised_stands today slots kept registry scratch stands k (terms_of.Composite parts) may.0 ranged keeps kinded);
    state = e ∙ sym same;
    keeps = subst (KeepsCurrent (state_of today slots kept registry)) (sym e) keeps.current;
    sound = λ calc sound. subst (IsSound calc) (sym e) (sound_kept calc (state_of today slots kept registry) changed keeps.current sound);
  }

-- another member is no registration
pub rewatched_kept : (today : ℤ) (slots : List Slot) (old new : StoreView) (k : ℕ) (parts : List Part) → IsJoined (market_of today slots) old.shape → kind_at (market_of today slots) k ≡ Some kind.Composite
    → IsRewatched k parts old new → IsKept old new
rewatched_kept today slots old new k parts joined is rewatched = record { kept = rewatched.kept; registry = rewatched_plain k parts old new other_role rewatched }
  where
    lazy_watcher : Some role.Lazy ≡ Some role.Watcher → ⊥
    lazy_watcher e = absurd (cc)

    other_role : role_at old.shape k ≡ Some role.Watcher → ⊥
    other_role watcher = lazy_watcher (sym (joined.roles k ∙ (composite_slot (slot_at (market_of today slots) k) is).0) ∙ watcher)

-- a composite that has its parts again is as it was
slot_is : (t : Slot) (parts : List Part) → terms_in t ≡ Some (terms_of.Composite parts) → t ≡ Live (terms_of.Composite parts)
slot_is Free parts is = absurd (cc)
slot_is Today parts is = absurd (cc)
slot_is Watcher parts is = absurd (cc)
slot_is (Live terms) parts is = cc

module _ (slots : List Slot) (k : ℕ) (is : kind_in (slice_index_or slots k Free) ≡ Some kind.Composite) where
  abbrev pub parts_at : List Part
  parts_at = parts_in (slice_index_or slots k Free)

  pub parts_stand : terms_in (slice_index_or slots k Free) ≡ Some (terms_of.Composite parts_at)
  parts_stand = parts_there (slice_index_or slots k Free) is

  pub parts_within : k < length slots
  parts_within = kind_within slots (pos 0) k kind.Composite is

  pub parts_after : (parts : List Part) → terms_in (slice_index_or (slice_set slots k (Live (terms_of.Composite parts))) k Free) ≡ Some (terms_of.Composite parts)
  parts_after parts = ap terms_in (get_or-set_same slots k (Live (terms_of.Composite parts)) Free parts_within)

  pub kind_after : (parts : List Part) → kind_in (slice_index_or (slice_set slots k (Live (terms_of.Composite parts))) k Free) ≡ Some kind.Composite
  kind_after parts = ap kind_in (get_or-set_same slots k (Live (terms_of.Composite parts)) Free parts_within)

  pub parts_again : (part : Part) (n : ℕ) → n ≡ length parts_at
      → slice_set (slice_set slots k (Live (terms_of.Composite (parts_at ++ part ∷ [])))) k (Live (terms_of.Composite (take n (parts_at ++ part ∷ [])))) ≡ slots
  parts_again part n same =
      set-set slots k (Live (terms_of.Composite (parts_at ++ part ∷ []))) (Live (terms_of.Composite (take n (parts_at ++ part ∷ []))))
      ∙ ap (λ (m : ℕ). slice_set slots k (Live (terms_of.Composite (take m (parts_at ++ part ∷ []))))) same
      ∙ ap (λ (l : List Part). slice_set slots k (Live (terms_of.Composite l))) (take-append_seam parts_at (part ∷ []))
      ∙ ap (slice_set slots k) (sym (slot_is (slice_index_or slots k Free) parts_at parts_stand))
      ∙ set-get_or slots k Free

  -- a part that was pushed is taken back
  pub taken_back : (pushed kept : List Slot) (n : ℕ) (part : Part) → pushed ≡ slice_set slots k (Live (terms_of.Composite (parts_at ++ part ∷ [])))
      → ((parts : List Part) → terms_in (slice_index_or pushed k Free) ≡ Some (terms_of.Composite parts) → kept ≡ slice_set pushed k (Live (terms_of.Composite (take n parts))))
      → n ≡ length parts_at → kept ≡ slots
  taken_back pushed kept n part are keeps same =
      keeps (parts_at ++ part ∷ []) (ap (λ (l : List Slot). terms_in (slice_index_or l k Free)) are ∙ parts_after (parts_at ++ part ∷ []))
      ∙ ap (λ (l : List Slot). slice_set l k (Live (terms_of.Composite (take n (parts_at ++ part ∷ []))))) are
      ∙ parts_again part n same

-- the parts of a composite are each in range
pub parts_each : (today : ℤ) (slots : List Slot) (kept : List Kept) (registry : Registry) (scratch : ScratchView) → Stands (state_of today slots kept registry) scratch → (k : ℕ)
    → kind_in (slice_index_or slots k Free) ≡ Some kind.Composite → AreEachInRange (parts_in (slice_index_or slots k Free))
parts_each today slots kept registry scratch stands k is = (subst IsRanged (parts_there (slice_index_or slots k Free) is) (stands.ranged k)).each

-- WHAT ANOTHER WEIGHT LEAVES of a desk
module _ (today : ℤ) (slots slots2 : List Slot) (old mid : StoreView) (scratch : ScratchView) (k member : ℕ) (weight : ℤ)
    (stands : Stands (state_of today slots old.kept (registry_of old)) scratch) (joined : IsJoined (market_of today slots) old.shape)
    (may : MayWeigh (market_of today slots) k member weight) (ranges : Ranges (market_of today slots) k member weight)
    (differs : int_eq (weight_of (parts_in (slot_at (market_of today slots) k)) member) weight ≡ false)
    (are : slots2 ≡ slice_set slots k (Live (terms_of.Composite (with_member (parts_in (slice_index_or slots k Free)) member weight))))
    (rewatched : IsRewatched k (with_member (parts_in (slice_index_or slots k Free)) member weight) old mid) where
  abbrev parts : List Part
  parts = with_member (parts_in (slice_index_or slots k Free)) member weight

  as_kept : IsKept old mid
  as_kept = rewatched_kept today slots old mid k parts joined may.0 rewatched

  within : k < length slots
  within = parts_within slots k may.0

  pub weighed_live : is_given (slice_index_or slots2 k Free) ≡ true
  weighed_live = given_set slots slots2 k (terms_of.Composite parts) are within

  pub weighed_joined : IsJoined (market_of today slots2) mid.shape
  weighed_joined = subst (λ (l : List Slot). IsJoined (market_of today l) mid.shape) (sym are)
      (joined_composite today slots old mid k parts joined within may.0 rewatched)

  pub weighed_marks : HasNoMarkWhereOff mid
  weighed_marks = kept_marks old mid as_kept (no_marks today slots old stands.sources)

  pub weighed_tells : CanTell (market_of today slots2) (registrations_of mid.shape) mid.noticed
  weighed_tells = subst (λ (l : List Slot). CanTell (market_of today l) (registrations_of mid.shape) mid.noticed) (sym are)
      (tells_then today slots k (terms_of.Composite parts) within (composite_slot (slice_index_or slots k Free) may.0).2 old mid stands.whole as_kept.registry
      (member_links today slots old.kept (registry_of old) scratch stands k member weight may ranges differs parts refl))

  pub weighed_left : (new : StoreView) → state_of today slots2 new.kept (registry_of new) ≡ notified k (outdated k (state_of today slots2 mid.kept (registry_of mid))) → new.shape ≡ mid.shape
      → After (state_of today slots old.kept (registry_of old)) (state_of today slots2 new.kept (registry_of new)) (member_set k member weight (state_of today slots old.kept (registry_of old))) scratch new.shape
  weighed_left new told same = record {
    changed = member_changed today slots old.kept (registry_of old) scratch stands k member weight may ranges differs parts refl (state_of today slots2 new.kept (registry_of new))
        (revised_told today slots slots2 mid.kept (registry_of mid) (state_of today slots2 new.kept (registry_of new)) k (terms_of.Composite parts) are told
        ∙ ap (revised k (terms_of.Composite parts)) (kept_state today slots old mid as_kept));
    joined = subst (IsJoined (market_of today slots2)) (sym same) weighed_joined;
  }

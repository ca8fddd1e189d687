-- What stands after an object that none observes is taken out.
use Rattle.std.proofs.Common.{◌≡◌, ◌≢◌, inl, inr, ◌<◌, ℕ, true, List, length, None, sym, ◌∙◌, ap, subst, arith}
use Rattle.std.specs.Prelude.{ℤ, slice_index_or, slice_set}
use Rattle.std.proofs.lemmas.List.{length-set, get_or-set_same, get_or-set_other, get_or_past}
use Rattle.std.proofs.lemmas.Bool.{cases_eq, cases_lt, false≢true}
use Rattle.desk_terms.specs.Reading.{Calc}
use Rattle.desk_model.specs.declared.kept.Kept.{Kept}
use Rattle.desk_model.specs.declared.slot.Slot.{Slot}
use Rattle.desk_model.specs.declared.slot.Slot.TheVariants.{Free}
use Rattle.desk_model.specs.Market.{terms_in, is_given, least_user, without}
use Rattle.desk_model.specs.State.{State}
use Rattle.desk_model.specs.Sound.{IsSound, KeepsCurrent}
use Rattle.desk_model.specs.Laws.{Keeps}
use Rattle.desk_model.specs.Links.{IsRanged}
use Rattle.desk_model.specs.Effect.{without_pairs, dropped}
use Rattle.desk_model.proofs.Births.{dropped_keeps}
use Rattle.desk_model.proofs.KindsKept.{dropped_kinded}
use Rattle.desk_model.proofs.Carried.{sound_kept}
use Rattle.desk_model.proofs.Users.{none_uses}
use Rattle.object_store.specs.Slots.{Registry, market_of, state_of}
use Rattle.object_store.specs.Shape.{registrations_of}
use Rattle.object_store.specs.Scratch.{ScratchView, IsEmpty}
use Rattle.object_store.specs.Store.{registry_of, StoreView, TakesObject}
use Rattle.object_store.proofs.Registered.{takes_registered}
use Rattle.object_store.proofs.Rising.{same_without}
use Rattle.lazy_objects.specs.Stands.{Stands}

-- an object is there
pub given_within : (slots : List Slot) (x : ℕ) → is_given (slice_index_or slots x Free) ≡ true → x < length slots
given_within slots x is = elim (cases_lt x (length slots)) [
  | inl within ↦ within
  | inr past ↦ absurd (false≢true (ap is_given (sym (get_or_past slots x Free past)) ∙ is))
]

-- what is left is in range
set_in : (slots : List Slot) (x : ℕ) → ((y : ℕ) → IsRanged (terms_in (slice_index_or slots y Free))) → (y : ℕ) → IsRanged (terms_in (slice_index_or (slice_set slots x Free) y Free))
set_in slots x was y = elim (cases_eq y x) [
  | inl same ↦ subst (λ (t : Slot). IsRanged (terms_in t)) (sym (ap (λ n. slice_index_or (slice_set slots x Free) n Free) same ∙ free_there)) tt
  | inr other ↦ subst (λ (t : Slot). IsRanged (terms_in t)) (sym (get_or-set_other slots x y Free Free other)) (was y)
]
  where
    free_there : slice_index_or (slice_set slots x Free) x Free ≡ Free
    free_there = elim (cases_lt x (length slots)) [
      | inl within ↦ get_or-set_same slots x Free Free within
      | inr past ↦ get_or_past (slice_set slots x Free) x Free (let e = length-set slots x Free in omega arith)
    ]

module _ (s : State) (scratch : ScratchView) (stands : Stands s scratch) (x : ℕ) (apart : x ≢ 0) (unused : least_user s.market x ≡ None) where
  drop_keeps : Keeps s (dropped x s)
  drop_keeps = dropped_keeps s x stands.whole apart (none_uses s.market x unused)

  drop_stands : Stands (dropped x s) scratch
  unfolding dropped
  drop_stands = record {
    whole = drop_keeps.whole;
    sources = drop_keeps.current.sources stands.sources;
    kinds = dropped_kinded s x stands.whole apart (none_uses s.market x unused) stands.kinds;
    ranged = set_in s.market.objects x stands.ranged;
    limit = let l = length-set s.market.objects x Free in let k = stands.limit in omega arith;
    empty = subst (λ (n : ℕ). IsEmpty n scratch) (sym (length-set s.market.objects x Free)) stands.empty;
  }

-- what taking an object out leaves
pub record Drops (s new : State) (x : ℕ) (scratch : ScratchView) : Type 0 where
  pub stands : Stands new scratch
  pub state : new ≡ dropped x s
  pub keeps : KeepsCurrent s new
  pub sound : (calc : Calc) → IsSound calc s → IsSound calc new

-- the registrations and the told watchers that are left
abbrev left_of : ℕ → StoreView → Registry
left_of x old = record { deferring = old.deferring; registrations = without_pairs x (registrations_of old.shape); noticed = without x old.noticed }

dropped_state : (today : ℤ) (slots slots2 : List Slot) (old new : StoreView) (x : ℕ) → slots2 ≡ slice_set slots x Free → TakesObject x old new
    → state_of today slots2 new.kept (registry_of new) ≡ dropped x (state_of today slots old.kept (registry_of old))
unfolding dropped
dropped_state today slots slots2 old new x is takes = ap (state_of today slots2 new.kept) registry_is ∙ ap (λ (l : List Slot). state_of today l new.kept (left_of x old)) is ∙ ap (λ (k : List Kept). state_of today (slice_set slots x Free) k (left_of x old)) takes.kept
  where
    registry_is : registry_of new ≡ left_of x old
    registry_is = λ i. record { deferring = takes.switch i; registrations = takes_registered old new x takes i; noticed = (takes.told ∙ same_without x old.noticed) i }

pub drops : (today : ℤ) (slots slots2 : List Slot) (old new : StoreView) (scratch : ScratchView) (x : ℕ) → Stands (state_of today slots old.kept (registry_of old)) scratch → x ≢ 0 → least_user (market_of today slots) x ≡ None
    → slots2 ≡ slice_set slots x Free → TakesObject x old new → Drops (state_of today slots old.kept (registry_of old)) (state_of today slots2 new.kept (registry_of new)) x scratch
drops today slots slots2 old new scratch x stands apart unused is takes =
    let s = state_of today slots old.kept (registry_of old) in
    let e = dropped_state today slots slots2 old new x is takes in
    let current = (drop_keeps s scratch stands x apart unused).current in
    record {
      stands = subst (λ (t : State). Stands t scratch) (sym e) (drop_stands s scratch stands x apart unused);
      state = e;
      keeps = subst (KeepsCurrent s) (sym e) current;
      sound = λ calc sound. subst (IsSound calc) (sym e) (sound_kept calc s (dropped x s) current sound);
    }

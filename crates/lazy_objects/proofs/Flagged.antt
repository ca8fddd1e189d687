-- What stands after an object is frozen, thawed or made to pass notices on, and after notices are held back or not.
use Rattle.std.proofs.Common.{◌≡◌, ℕ, ◌<◌, Bool, true, false, List, length, refl, sym, ◌∙◌, ap, subst, arith}
use Rattle.std.specs.Prelude.{ℤ, if◌then◌else◌}
use Rattle.std.proofs.lemmas.List.{length-set}
use Rattle.desk_model.specs.declared.slot.Slot.{Slot}
use Rattle.desk_model.specs.State.{State, is_frozen, each_kept}
use Rattle.desk_model.specs.Told.{tell}
use Rattle.desk_model.specs.Links.{CanTell, IsKinded, is_lazy_at}
use Rattle.desk_model.specs.Laws.{Keeps}
use Rattle.desk_model.specs.Sound.{IsSound, KeepsCurrent}
use Rattle.desk_model.specs.Effect.{unfrozen, notified, frozen_set, thawed, forward_set, deferred, all_told, resumed}
use Rattle.desk_model.proofs.Carried.{sound_kept}
use Rattle.desk_model.proofs.Changes.{lazy_within}
use Rattle.desk_model.proofs.Flags.{freeze_keeps, forward_keeps, defer_keeps, resume_keeps}
use Rattle.desk_model.proofs.Thaw.{thaw_keeps}
use Rattle.desk_model.proofs.Watchers.{whole_tells}
use Rattle.object_store.specs.Slots.{market_of, state_of}
use Rattle.object_store.specs.Shape.{registrations_of, IsJoined}
use Rattle.object_store.specs.Store.{registry_of, StoreView, Notices, HasNoMarkWhereOff, stored_at, stored_as}
use Rattle.object_store.specs.Scratch.{ScratchView}
use Rattle.lazy_objects.specs.Stands.{Stands}
use Rattle.object_store.proofs.Joined.{notified_market}
use Rattle.object_store.proofs.Telling.{IsNotice, tells_shape, notified_state, no_marks, stored_marks, resumed_state, resumed_shape}
use Rattle.lazy_objects.proofs.Revised.{Changed, After, stands_as}

-- what a command leaves that does not change the market
pub same_market : (s wanted new : State) (scratch : ScratchView) → Stands s scratch → wanted.market ≡ s.market → Keeps s wanted → new ≡ wanted → Changed s new wanted scratch
same_market s wanted new scratch stands same keeps e = record {
  stands = subst (λ (t : State). Stands t scratch) (sym e) (stands_as wanted s.market scratch same keeps.whole (keeps.current.sources stands.sources) (subst IsKinded (sym same) stands.kinds)
      (record { ranged = stands.ranged; limit = stands.limit; empty = stands.empty }));
  state = e;
  keeps = subst (KeepsCurrent s) (sym e) keeps.current;
  sound = λ calc sound. subst (IsSound calc) (sym e) (sound_kept calc s wanted keeps.current sound);
}

frozen_market : (x : ℕ) (s : State) → (frozen_set x s).market ≡ s.market
unfolding frozen_set
frozen_market x s = refl

forward_market : (x : ℕ) (on : Bool) (s : State) → (forward_set x on s).market ≡ s.market
unfolding forward_set
forward_market x on s = refl

deferred_market : (s : State) → (deferred s).market ≡ s.market
unfolding deferred
deferred_market s = refl

thawed_market : (x : ℕ) (s : State) → (thawed x s).market ≡ s.market
unfolding thawed
thawed_market x s = by_frozen (is_frozen s x)
  where
    by_frozen : (b : Bool) → (if b then notified x (unfrozen x s) else s).market ≡ s.market
    by_frozen true = notified_market x (unfrozen x s)
    by_frozen false = refl

resumed_market : (s : State) → (resumed s).market ≡ s.market
unfolding resumed tell
resumed_market s = by_switch s.deferring
  where
    by_switch : (b : Bool) → (if b then record (all_told s) { deferring = false; kept = each_kept (λ o kept. record kept { source = false }) 0 (all_told s).kept } else s).market ≡ s.market
    by_switch true = refl
    by_switch false = refl

module _ (today : ℤ) (slots : List Slot) (old new : StoreView) (scratch : ScratchView) (stands : Stands (state_of today slots old.kept (registry_of old)) scratch) (joined : IsJoined (market_of today slots) old.shape) where
  abbrev s : State
  s = state_of today slots old.kept (registry_of old)

  abbrev t : State
  t = state_of today slots new.kept (registry_of new)

  -- no object observes others than before
  left : (wanted : State) → wanted.market ≡ s.market → Keeps s wanted → t ≡ wanted → new.shape ≡ old.shape → After s t wanted scratch new.shape
  left wanted same keeps e shape = record {
    changed = same_market s wanted t scratch stands same keeps e;
    joined = subst (IsJoined (market_of today slots)) (sym shape) joined;
  }

  frozen_state : (x : ℕ) → new ≡ stored_as x (record (stored_at old x) { frozen = true }) old → t ≡ frozen_set x s
  unfolding frozen_set
  frozen_state x e = ap (λ (v : StoreView). state_of today slots v.kept (registry_of v)) e

  pub frozen_left : (x : ℕ) → is_lazy_at (market_of today slots) x ≡ true → new ≡ stored_as x (record (stored_at old x) { frozen = true }) old → After s t (frozen_set x s) scratch new.shape
  frozen_left x lazy e = left (frozen_set x s) (frozen_market x s) (freeze_keeps s x lazy stands.whole) (frozen_state x e) (ap (λ (v : StoreView). v.shape) e)

  forward_state : (x : ℕ) (on : Bool) → new ≡ stored_as x (record (stored_at old x) { forward = on }) old → t ≡ forward_set x on s
  unfolding forward_set
  forward_state x on e = ap (λ (v : StoreView). state_of today slots v.kept (registry_of v)) e

  pub forward_left : (x : ℕ) (on : Bool) → is_lazy_at (market_of today slots) x ≡ true → new ≡ stored_as x (record (stored_at old x) { forward = on }) old → After s t (forward_set x on s) scratch new.shape
  forward_left x on lazy e = left (forward_set x on s) (forward_market x on s) (forward_keeps s x on lazy stands.whole) (forward_state x on e) (ap (λ (v : StoreView). v.shape) e)

  deferred_state : new ≡ record old { deferring = true } → t ≡ deferred s
  unfolding deferred
  deferred_state e = ap (λ (v : StoreView). state_of today slots v.kept (registry_of v)) e

  pub deferred_left : new ≡ record old { deferring = true } → After s t (deferred s) scratch new.shape
  deferred_left e = left (deferred s) (deferred_market s) (defer_keeps s stands.whole) (deferred_state e) (ap (λ (v : StoreView). v.shape) e)

  pub resumed_left : new.deferring ≡ false → (old.deferring ≡ true → Notices old new) → (old.deferring ≡ false → new ≡ old) → After s t (resumed s) scratch new.shape
  resumed_left switch told same = left (resumed s) (resumed_market s) (resume_keeps s stands.whole)
      (resumed_state today slots old new (whole_tells s stands.whole) joined switch told same) (resumed_shape old new told same)

  -- an object that was not frozen
  module _ (x : ℕ) (lazy : is_lazy_at (market_of today slots) x ≡ true) where
    idle_state : (stored_at old x).frozen ≡ false → new ≡ old → t ≡ thawed x s
    unfolding thawed is_frozen
    idle_state idle e = ap (λ (v : StoreView). state_of today slots v.kept (registry_of v)) e ∙ sym (ap (λ (b : Bool). if b then notified x (unfrozen x s) else s) idle)

    pub idle_left : (stored_at old x).frozen ≡ false → new ≡ old → After s t (thawed x s) scratch new.shape
    idle_left idle e = left (thawed x s) (thawed_market x s) (thaw_keeps s x stands.whole lazy) (idle_state idle e) (ap (λ (v : StoreView). v.shape) e)

    -- an object that was frozen, and tells
    module _ (middle : StoreView) (frozen : (stored_at old x).frozen ≡ true) (e : middle ≡ stored_as x (record (stored_at old x) { frozen = false }) old) (notice : IsNotice x middle new) where
      same_shape : middle.shape ≡ old.shape
      same_shape = ap (λ (v : StoreView). v.shape) e

      within : x < length middle.kept
      within =
          let l = ap (λ (v : StoreView). length v.kept) e ∙ length-set old.kept x (record (stored_at old x) { frozen = false }) in
          let w = stands.whole.length in
          let i = lazy_within (market_of today slots) x lazy in
          omega (arith, l, w, i)

      middle_tells : CanTell (market_of today slots) (registrations_of middle.shape) middle.noticed
      middle_tells = subst (λ (v : StoreView). CanTell (market_of today slots) (registrations_of v.shape) v.noticed) (sym e) (whole_tells s stands.whole)

      told_state : t ≡ notified x (unfrozen x s)
      told_state =
          notified_state today slots middle new x middle_tells (subst (IsJoined (market_of today slots)) (sym same_shape) joined) within
          (subst HasNoMarkWhereOff (sym e) (stored_marks old x (record (stored_at old x) { frozen = false }) refl (no_marks today slots old stands.sources))) notice
          ∙ ap (λ (v : StoreView). notified x (state_of today slots v.kept (registry_of v))) e

      thawed_state : t ≡ thawed x s
      unfolding thawed is_frozen
      thawed_state = told_state ∙ sym (ap (λ (b : Bool). if b then notified x (unfrozen x s) else s) frozen)

      pub thawed_left : After s t (thawed x s) scratch new.shape
      thawed_left = left (thawed x s) (thawed_market x s) (thaw_keeps s x stands.whole lazy) thawed_state (tells_shape x middle new notice ∙ same_shape)

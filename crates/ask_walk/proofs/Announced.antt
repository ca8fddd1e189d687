-- A recalculation and its notice.
use Rattle.std.proofs.Common.{◌≡◌, ℕ, ◌<◌, Bool, true, false, List, length, Option, Some, None, Ok, Err, refl, sym, ◌∙◌, ap, subst, arith}
use Rattle.std.specs.Prelude.{ℤ, is_some, slice_index_or, slice_set}
use Rattle.std.proofs.lemmas.List.{length-set, get_or-set_same}
use Rattle.desk_terms.specs.declared.value.Value.{Value}
use Rattle.desk_terms.specs.declared.cause.Cause.{Cause}
use Rattle.desk_terms.specs.declared.asked.Asked.{Asked}
use Rattle.desk_terms.specs.Asked.{Shows}
use Rattle.desk_terms.specs.Reading.{Outcome, Calc}
use Rattle.desk_model.specs.declared.kept.Kept.{Kept}
use Rattle.desk_model.specs.declared.slot.Slot.{Slot}
use Rattle.desk_model.specs.State.{State, kept_at, unpriced, is_late, is_source, now}
use Rattle.desk_model.specs.Visit.{stored}
use Rattle.desk_model.specs.Links.{CanTell}
use Rattle.desk_model.specs.Effect.{with_kept, notified}
use Rattle.desk_model.specs.Recalc.{inputs_walk, recalced_kept, recalced_bare, recalced}
use Rattle.desk_model.proofs.Asked.{stored_length}
use Rattle.desk_model.proofs.Stores.{kept_with}
use Rattle.desk_model.proofs.Tells.{notified_last}
use Rattle.desk_model.proofs.Watchers.{whole_tells}
use Rattle.desk_model.proofs.Changes.{lazy_within}
use Rattle.desk_model.proofs.Valued.{now_valued}
use Rattle.desk_model.proofs.Recalc.{sound_recalced, whole_recalced}
use Rattle.object_store.specs.Slots.{Registry, market_of, state_of}
use Rattle.object_store.specs.Shape.{IsJoined, registrations_of}
use Rattle.object_store.specs.Store.{StoreView, registry_of, HasNoMarkWhereOff}
use Rattle.ask_walk.specs.Asks.{MayAsk, Stays}
use Rattle.ask_walk.specs.Recalcs.{Recalcs, Reprices, IsRepriced, refused_as}
use Rattle.ask_walk.proofs.Loop.{fit_of, values_of}
use Rattle.ask_walk.proofs.Restarts.{source_stored}
use Rattle.object_store.proofs.Telling.{IsNotice, notified_state}

same_source : (k : Kept) (r : Outcome) → (recalced_kept k r).source ≡ k.source
same_source k (Ok value) = refl
same_source k (Err cause) = refl

-- a recalculation that was announced, and what stands then
pub record IsDone (calc : Calc) (o : ℕ) (old new : State) (answer : Asked) (count0 count : ℕ) (log0 log : Option (List (ℕ × Bool))) : Type 0 where
  pub recalcs : Recalcs calc o old new answer count0 count log0 log
  pub stays : Stays calc new

module _ (calc : Calc) (today : ℤ) (slots : List Slot) (first second third last : StoreView) (x : ℕ) (answer : Asked) (count0 count : ℕ) (log0 log : Option (List (ℕ × Bool)))
    (may : MayAsk calc (state_of today slots first.kept (registry_of first)) x) (early : is_late (state_of today slots first.kept (registry_of first)) x ≡ false) (joined : IsJoined (market_of today slots) first.shape)
    (r : Reprices calc x (state_of today slots first.kept (registry_of first)) second.kept answer count0 count log0 log) (shape : second.shape ≡ first.shape) (registry : registry_of second ≡ registry_of first)
    (out : third ≡ refused_as x (is_some answer.cause) second) (tells : IsNotice x third last) where
  abbrev s : State
  s = state_of today slots first.kept (registry_of first)

  inputs : State
  inputs = stored s (inputs_walk calc s x).calls

  bare_is : state_of today slots third.kept (registry_of first) ≡ recalced_bare calc x s inputs
  unfolding stored inputs
  bare_is = by_cause answer.cause r.price out
    where
      by_cause : (cause : Option Cause) → IsRepriced calc x s second.kept cause → third ≡ refused_as x (is_some cause) second
          → state_of today slots third.kept (registry_of first) ≡ recalced_bare calc x s (stored s (inputs_walk calc s x).calls)
      by_cause None p e = ap (λ (v : StoreView). state_of today slots v.kept (registry_of first)) e ∙ ap (λ (k : List Kept). state_of today slots k (registry_of first)) p.2
          ∙ sym (ap (λ (r : Outcome). with_kept x (recalced_kept (kept_at (stored s (inputs_walk calc s x).calls) x) r) (stored s (inputs_walk calc s x).calls)) p.1)
      by_cause (Some cause) p e = ap (λ (v : StoreView). state_of today slots v.kept (registry_of first)) e
          ∙ ap (λ (k : List Kept). state_of today slots (slice_set k x (record (slice_index_or k x unpriced) { current = false })) (registry_of first)) p.1
          ∙ sym (ap (λ (r : Outcome). with_kept x (recalced_kept (kept_at (stored s (inputs_walk calc s x).calls) x) r) (stored s (inputs_walk calc s x).calls)) p.0)

  third_shape : third.shape ≡ first.shape
  third_shape = ap (λ (v : StoreView). v.shape) out ∙ by_flag (is_some answer.cause) ∙ shape
    where
      by_flag : (b : Bool) → (refused_as x b second).shape ≡ second.shape
      by_flag true = refl
      by_flag false = refl

  third_registry : registry_of third ≡ registry_of first
  third_registry = ap (λ (v : StoreView). registry_of v) out ∙ by_flag (is_some answer.cause) ∙ registry
    where
      by_flag : (b : Bool) → registry_of (refused_as x b second) ≡ registry_of second
      by_flag true = refl
      by_flag false = refl

  bare_long : length (recalced_bare calc x s inputs).kept ≡ length first.kept
  unfolding inputs
  bare_long = length-set inputs.kept x (recalced_kept (kept_at inputs x) (now calc s x)) ∙ stored_length s (inputs_walk calc s x).calls

  first_within : x < length first.kept
  first_within = let l = lazy_within s.market x may.lazy in let w = may.whole.length in omega arith

  third_within : x < length third.kept
  third_within = let e = ap (λ (t : State). length t.kept) bare_is in let b = bare_long in let l = first_within in omega arith

  third_marks : HasNoMarkWhereOff third
  unfolding is_source inputs
  third_marks off o = ap (λ (t : State). (kept_at t o).source) bare_is
      ∙ kept_with inputs x (recalced_kept (kept_at inputs x) (now calc s x)) (λ a b. a.source ≡ b.source) (λ j. refl) (same_source (kept_at inputs x) (now calc s x)) o
      ∙ source_stored s (inputs_walk calc s x).calls o ∙ may.sound.sources (sym (ap (λ (r : Registry). r.deferring) third_registry) ∙ off) o

  state_is : state_of today slots last.kept (registry_of last) ≡ recalced calc x s
  unfolding recalced inputs
  state_is = notified_state today slots third last x third_tells (subst (IsJoined (market_of today slots)) (sym third_shape) joined) third_within third_marks tells
      ∙ ap (λ (d : Registry). notified x (state_of today slots third.kept d)) third_registry ∙ ap (notified x) bare_is
    where
      third_tells : CanTell (market_of today slots) (registrations_of third.shape) third.noticed
      third_tells = subst (λ (r : Registry). CanTell (market_of today slots) r.registrations r.noticed) (sym third_registry) (whole_tells s may.whole)

  -- the object's last value is what it shows
  shown_is : Shows answer.cause (kept_at (state_of today slots last.kept (registry_of last)) x).last (now calc s x)
  unfolding recalced notified inputs
  shown_is = by_cause answer.cause r.price
    where
      last_is : (kept_at (state_of today slots last.kept (registry_of last)) x).last ≡ (recalced_kept (kept_at inputs x) (now calc s x)).last
      last_is = ap (λ (t : State). (kept_at t x).last) state_is
          ∙ notified_last x (recalced_bare calc x s inputs) (let b = bare_long in let l = first_within in omega arith) (recalced_bare calc x s inputs).deferring x
          ∙ ap (λ (k : Kept). k.last) (get_or-set_same inputs.kept x (recalced_kept (kept_at inputs x) (now calc s x)) unpriced (let b = stored_length s (inputs_walk calc s x).calls in let l = first_within in omega arith))

      by_cause : (cause : Option Cause) → IsRepriced calc x s second.kept cause → Shows cause (kept_at (state_of today slots last.kept (registry_of last)) x).last (now calc s x)
      by_cause None p = subst (λ (l : Option Value). Shows None l (now calc s x)) (sym (last_is ∙ ap (λ (r : Outcome). (recalced_kept (kept_at inputs x) r).last) p.1)) p.1
      by_cause (Some cause) p = p.0

  pub is_done : IsDone calc x s (state_of today slots last.kept (registry_of last)) answer count0 count log0 log
  is_done =
      let fit = fit_of calc s x may in
      let values = values_of calc s x may in
      let own = now_valued calc may.fits s may.whole may.kinds may.ranged x may.lazy in
      record {
        recalcs = record { state = state_is; shown = shown_is; mark = r.mark; number = r.number; count = r.count; log = r.log };
        stays = subst (Stays calc) (sym state_is) (record {
          whole = whole_recalced calc s x may.whole may.kinds may.lazy fit may.sound early values own;
          sound = sound_recalced calc s x may.whole may.kinds may.lazy fit may.sound early values own;
        });
      }

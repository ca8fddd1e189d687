-- What stands after a change of terms.
use Rattle.std.proofs.Common.{◌≡◌, inl, inr, ◌<◌, ◌≤◌, ◌^◌, ℕ, Bool, true, false, List, length, Option, Some, None, refl, sym, ◌∙◌, ap, subst, arith}
use Rattle.std.specs.Prelude.{ℤ, slice_index_or, slice_set, if◌then◌else◌}
use Rattle.std.specs.Option.{option_eq}
use Rattle.std.specs.Ordering.{int_eq}
use Rattle.std.proofs.lemmas.List.{length-set, get_or-set_same, get_or-set_other, get_or_past}
use Rattle.std.proofs.lemmas.Bool.{cases_eq, cases_lt, false≢true}
use Rattle.desk_terms.specs.declared.terms.Terms.{Terms}
use Rattle.desk_terms.specs.declared.terms.Terms.TheVariants as terms_of
use Rattle.desk_terms.specs.declared.kind.Kind.{Kind}
use Rattle.desk_terms.specs.declared.kind.Kind.TheVariants as kind
use Rattle.desk_terms.specs.Terms.{kind_of}
use Rattle.desk_model.specs.declared.kept.Kept.{Kept}
use Rattle.desk_model.specs.declared.slot.Slot.{Slot}
use Rattle.desk_model.specs.declared.slot.Slot.TheVariants.{Live, Free, Today, Watcher}
use Rattle.desk_model.specs.Market.{Market, kind_at, kind_in, terms_in, is_watcher, is_observable}
use Rattle.desk_model.specs.Changeable.{Changeable, changeable}
use Rattle.desk_model.specs.Changeable.Changeable.{HasValue}
use Rattle.desk_terms.specs.declared.terms.HandleKind.TheVariants as handle
use Rattle.desk_model.specs.State.{State}
use Rattle.desk_model.specs.Links.{CanTell, IsLinked, IsWhole, IsKinded, IsRanged, AreRanged, MayStand, AreOfKind}
use Rattle.desk_model.specs.Links.MayStand.{keeps}
use Rattle.desk_model.specs.Laws.{Keeps}
use Rattle.desk_model.specs.Effect.{with_terms, revised, value_set, quote_set}
use Rattle.desk_model.proofs.Changes.{links_revised, revised_keeps}
use Rattle.desk_model.proofs.KindsKept.{revised_kinded}
use Rattle.desk_terms.specs.Reading.{Calc}
use Rattle.desk_model.specs.Sound.{IsSound, KeepsCurrent, HasNoSourceWhereOff}
use Rattle.desk_model.proofs.Carried.{sound_kept}
use Rattle.object_store.specs.Slots.{Registry, market_of, state_of, holds_value}
use Rattle.object_store.specs.Shape.{registrations_of, Shape, IsJoined}
use Rattle.object_store.specs.Scratch.{ScratchView, IsEmpty}
use Rattle.object_store.specs.Store.{registry_of, StoreView}
use Rattle.lazy_objects.specs.Stands.{Stands}
use Rattle.object_store.proofs.Joined.{revised_market}
use Rattle.object_store.proofs.Telling.{ranged_set}

-- an object of a kind is there
pub kind_within : (m : List Slot) (today : ℤ) (x : ℕ) (k : Kind) → kind_at (market_of today m) x ≡ Some k → x < length m
kind_within m today x k is = elim (cases_lt x (length m)) [ inl within ↦ within | inr past ↦ absurd (none_some k (ap kind_in (sym (get_or_past m x Free past)) ∙ is)) ]
  where
    none_some : (k : Kind) → None ≡ Some k → ⊥
    none_some k e = absurd (cc)

-- WHERE A NOTICE GOES after one object that is no watcher has other terms
module _ (today : ℤ) (slots : List Slot) (x : ℕ) (terms : Terms) (within : x < length slots) (plain : is_watcher (slice_index_or slots x Free) ≡ false) where
  watcher_then : (w : ℕ) → is_watcher (slice_index_or slots w Free) ≡ true → is_watcher (slice_index_or (slice_set slots x (Live terms)) w Free) ≡ true
  watcher_then w is = elim (cases_eq w x) [
    | inl same ↦ absurd (false≢true (sym plain ∙ ap (λ (n : ℕ). is_watcher (slice_index_or slots n Free)) (sym same) ∙ is))
    | inr other ↦ ap is_watcher (get_or-set_other slots x w (Live terms) Free other) ∙ is
  ]

  observed_then : (o : ℕ) → is_observable (slice_index_or slots o Free) ≡ true → is_observable (slice_index_or (slice_set slots x (Live terms)) o Free) ≡ true
  observed_then o is = elim (cases_eq o x) [
    | inl same ↦ ap (λ (n : ℕ). is_observable (slice_index_or (slice_set slots x (Live terms)) n Free)) same ∙ ap is_observable (get_or-set_same slots x (Live terms) Free within)
    | inr other ↦ ap is_observable (get_or-set_other slots x o (Live terms) Free other) ∙ is
  ]

  pub tells_then : (old new : StoreView) → IsWhole (state_of today slots old.kept (registry_of old)) → registry_of new ≡ registry_of old
      → IsLinked (market_of today (slice_set slots x (Live terms))) → CanTell (market_of today (slice_set slots x (Live terms))) (registrations_of new.shape) new.noticed
  tells_then old new whole same links = subst (λ (r : Registry). CanTell (market_of today (slice_set slots x (Live terms))) r.registrations r.noticed) (sym same) (record {
    links = links;
    registered = λ w o a. let r = whole.registered w o a in record { watcher = watcher_then w r.watcher; observed = observed_then o r.observed };
    watchers = λ w a. watcher_then w (whole.noticed w a);
  })

-- what stands of a market
pub record Fits (market : Market) (scratch : ScratchView) : Type 0 where
  pub ranged : AreRanged market
  pub limit : length market.objects ≤ 2 ^ 16
  pub empty : IsEmpty (length market.objects) scratch

pub stands_as : (new : State) (market : Market) (scratch : ScratchView) → new.market ≡ market → IsWhole new → HasNoSourceWhereOff new → IsKinded new.market → Fits market scratch → Stands new scratch
stands_as new market scratch is whole sources kinded fits =
    let f = subst (λ (m : Market). Fits m scratch) (sym is) fits in
    record { whole = whole; sources = sources; kinds = kinded; ranged = f.ranged; limit = f.limit; empty = f.empty }

module _ (today : ℤ) (slots : List Slot) (kept : List Kept) (registry : Registry) (scratch : ScratchView) (stands : Stands (state_of today slots kept registry) scratch) (x : ℕ) (terms : Terms)
    (same_kind : kind_at (market_of today slots) x ≡ Some (kind_of terms)) where
  within : x < length slots
  within = kind_within slots today x (kind_of terms) same_kind

  -- what stands where the change keeps what is current, and is of the right kinds
  pub revised_stands : IsRanged (Some terms) → Keeps (state_of today slots kept registry) (revised x terms (state_of today slots kept registry)) → IsKinded (revised x terms (state_of today slots kept registry)).market
      → Stands (revised x terms (state_of today slots kept registry)) scratch
  revised_stands own kept_by kinded = stands_as (revised x terms (state_of today slots kept registry)) (market_of today (slice_set slots x (Live terms))) scratch
      (revised_market x terms (state_of today slots kept registry)) kept_by.whole (kept_by.current.sources stands.sources) kinded
      (record {
        ranged = ranged_set slots today x terms within stands.ranged own;
        limit = let l = length-set slots x (Live terms) in let k = stands.limit in omega arith;
        empty = subst (λ (n : ℕ). IsEmpty n scratch) (sym (length-set slots x (Live terms))) stands.empty;
      })

module _ (today : ℤ) (slots : List Slot) (kept : List Kept) (registry : Registry) (scratch : ScratchView) (stands : Stands (state_of today slots kept registry) scratch) (x : ℕ) (terms : Terms)
    (same_kind : kind_at (market_of today slots) x ≡ Some (kind_of terms)) (may : MayStand (market_of today slots) x terms) (kinds : AreOfKind (market_of today slots) (Some terms)) (own : IsRanged (Some terms)) where
  pub change_links : IsLinked (with_terms x terms (state_of today slots kept registry)).market
  change_links = links_revised (state_of today slots kept registry) x terms stands.whole same_kind may

  pub change_keeps : Keeps (state_of today slots kept registry) (revised x terms (state_of today slots kept registry))
  change_keeps = revised_keeps (state_of today slots kept registry) x terms stands.whole same_kind may

  pub change_stands : Stands (revised x terms (state_of today slots kept registry)) scratch
  change_stands = revised_stands today slots kept registry scratch stands x terms same_kind own change_keeps
      (revised_kinded (state_of today slots kept registry) x terms stands.whole same_kind kinds stands.kinds)

-- a quote may have any value
pub quote_may : (m : List Slot) (today : ℤ) (q : ℕ) (value : Option ℤ) → MayStand (market_of today m) q (terms_of.Quote value)
quote_may m today q value = keeps (λ y among. absurd among)

by_slot : (t : Slot) → kind_in t ≡ Some kind.Quote → (value : Option ℤ) → (held : Option ℤ) × (changeable (terms_in t) ≡ HasValue held) × (holds_value value t ≡ option_eq int_eq held value)
by_slot Free is value = absurd (cc)
by_slot Today is value = absurd (cc)
by_slot Watcher is value = absurd (cc)
by_slot (Live (terms_of.Quote held)) is value = (held, refl, refl)
by_slot (Live (terms_of.Derived minus first second)) is value = absurd (cc)
by_slot (Live (terms_of.Handle handle.Quote target)) is value = absurd (cc)
by_slot (Live (terms_of.Handle handle.Curve target)) is value = absurd (cc)
by_slot (Live (terms_of.Curve terms)) is value = absurd (cc)
by_slot (Live (terms_of.Implied curve reference)) is value = absurd (cc)
by_slot (Live (terms_of.Index terms fixings)) is value = absurd (cc)
by_slot (Live (terms_of.Engine curve)) is value = absurd (cc)
by_slot (Live (terms_of.Stock quote)) is value = absurd (cc)
by_slot (Live (terms_of.Composite parts)) is value = absurd (cc)
by_slot (Live (terms_of.Flows flows engine)) is value = absurd (cc)

module _ (s : State) (q : ℕ) (value : Option ℤ) (is : kind_at s.market q ≡ Some kind.Quote) where
  pub value_held : holds_value value (slice_index_or s.market.objects q Free) ≡ true → s ≡ quote_set q value s
  unfolding quote_set
  value_held e =
      let b = by_slot (slice_index_or s.market.objects q Free) is value in
      sym (ap (λ (c : Changeable). value_set c q value s) b.1 ∙ ap (λ (c : Bool). if c then s else revised q (terms_of.Quote value) s) (sym b.2 ∙ e))

  pub value_new : holds_value value (slice_index_or s.market.objects q Free) ≡ false → revised q (terms_of.Quote value) s ≡ quote_set q value s
  unfolding quote_set
  value_new e =
      let b = by_slot (slice_index_or s.market.objects q Free) is value in
      sym (ap (λ (c : Changeable). value_set c q value s) b.1 ∙ ap (λ (c : Bool). if c then s else revised q (terms_of.Quote value) s) (sym b.2 ∙ e))

-- what a change leaves
pub record Changed (s new wanted : State) (scratch : ScratchView) : Type 0 where
  pub stands : Stands new scratch
  pub state : new ≡ wanted
  pub keeps : KeepsCurrent s new
  pub sound : (calc : Calc) → IsSound calc s → IsSound calc new

pub quote_changed : (today : ℤ) (slots : List Slot) (kept : List Kept) (registry : Registry) (scratch : ScratchView) (q : ℕ) (value : Option ℤ) (new : State) → Stands (state_of today slots kept registry) scratch → kind_at (market_of today slots) q ≡ Some kind.Quote
    → holds_value value (slice_index_or slots q Free) ≡ false → new ≡ revised q (terms_of.Quote value) (state_of today slots kept registry) → Changed (state_of today slots kept registry) new (quote_set q value (state_of today slots kept registry)) scratch
quote_changed today slots kept registry scratch q value new stands is other e =
    let may = quote_may slots today q value in
    let current = (change_keeps today slots kept registry scratch stands q (terms_of.Quote value) is may tt tt).current in
    record {
      stands = subst (λ (t : State). Stands t scratch) (sym e) (change_stands today slots kept registry scratch stands q (terms_of.Quote value) is may tt tt);
      state = e ∙ value_new (state_of today slots kept registry) q value is other;
      keeps = subst (KeepsCurrent (state_of today slots kept registry)) (sym e) current;
      sound = λ calc sound. subst (IsSound calc) (sym e) (sound_kept calc (state_of today slots kept registry) (revised q (terms_of.Quote value) (state_of today slots kept registry)) current sound);
    }

-- what a change leaves of a desk
pub record After (s new wanted : State) (scratch : ScratchView) (shape : Shape) : Type 0 where
  pub changed : Changed s new wanted scratch
  pub joined : IsJoined new.market shape

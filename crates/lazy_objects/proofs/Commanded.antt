-- What stands after a link, an engine, a fixing and another day.
use Rattle.std.proofs.Common.{◌≡◌, ◌<◌, ℕ, Bool, true, false, List, [], ◌∷◌, length, Option, Some, sym, ◌∙◌, ap, subst, arith}
use Rattle.std.specs.Prelude.{ℤ, if◌then◌else◌, slice_index_or}
use Rattle.std.specs.Option.{option_eq}
use Rattle.std.specs.Ordering.{int_eq}
use Rattle.desk_terms.specs.declared.terms.Terms.{Terms}
use Rattle.desk_terms.specs.declared.terms.Terms.TheVariants.{Handle, Index, Flows}
use Rattle.desk_terms.specs.Terms.{kind_of}
use Rattle.flow_terms.specs.Fixings.{with_fixing}
use Rattle.desk_model.specs.declared.kept.Kept.{Kept}
use Rattle.desk_model.specs.declared.slot.Slot.{Slot}
use Rattle.desk_model.specs.declared.slot.Slot.TheVariants.{Free, Today}
use Rattle.desk_model.specs.Market.{terms_at, kind_at}
use Rattle.desk_model.specs.State.{State}
use Rattle.desk_model.specs.Changeable.{Changeable, changeable}
use Rattle.desk_model.specs.Changeable.Changeable.{HasValue, HasTarget, HasFixings, HasParts, HasEngine, HasNone}
use Rattle.desk_model.specs.Links.{CanTell, IsWhole, IsLinked, IsKinded, IsRanged}
use Rattle.desk_model.specs.Laws.{Keeps}
use Rattle.desk_model.specs.Sound.{IsSound, KeepsCurrent}
use Rattle.desk_model.specs.Effect.{notified, revised, number_eq, target_set, relinked, priced_by_engine, engine_set, fixing_stored, fixing_added, today_set}
use Rattle.desk_model.proofs.Commands.{TermsOf, terms_hold, kind_there, same_handle}
use Rattle.desk_model.proofs.Changes.{today_keeps}
use Rattle.desk_model.proofs.Carried.{sound_kept}
use Rattle.object_store.specs.Slots.{Registry, market_of, state_of}
use Rattle.object_store.specs.Shape.{registrations_of, Shape, IsJoined}
use Rattle.object_store.specs.Scratch.{ScratchView}
use Rattle.object_store.specs.Store.{registry_of, StoreView}
use Rattle.lazy_objects.specs.Stands.{Stands}
use Rattle.object_store.proofs.Joined.{notified_market}
use Rattle.object_store.proofs.Telling.{IsNotice, notified_state, no_marks}
use Rattle.lazy_objects.proofs.Revised.{Changed, stands_as, revised_stands}

-- the graph of a market has no day in it
pub joined_day : (today day : ℤ) (slots : List Slot) (shape : Shape) → IsJoined (market_of today slots) shape → IsJoined (market_of day slots) shape
joined_day today day slots shape joined = record { long = joined.long; roles = joined.roles; pairs = joined.pairs; room = joined.room }

pub links_day : (today day : ℤ) (slots : List Slot) → IsLinked (market_of today slots) → IsLinked (market_of day slots)
links_day today day slots links = record { within = links.within; observed = links.observed; acyclic = links.acyclic }

-- nor has where a notice goes
tells_day : (today day : ℤ) (slots : List Slot) (old : StoreView) → IsWhole (state_of today slots old.kept (registry_of old))
    → CanTell (market_of day slots) (registrations_of old.shape) old.noticed
tells_day today day slots old whole = record {
  links = links_day today day slots whole.links;
  registered = λ w o a. let r = whole.registered w o a in record { watcher = r.watcher; observed = r.observed };
  watchers = whole.noticed;
}

first_there : (slots : List Slot) → slice_index_or slots 0 Free ≡ Today → 0 < length slots
first_there [] is = absurd (cc)
first_there (slot ∷ slots) is = omega arith

-- a notice of the evaluation date leaves the state of another day told
pub day_told : (today day : ℤ) (slots : List Slot) (old new : StoreView) (scratch : ScratchView)
    → Stands (state_of today slots old.kept (registry_of old)) scratch → IsJoined (market_of today slots) old.shape → IsNotice 0 old new
    → state_of day slots new.kept (registry_of new) ≡ notified 0 (state_of day slots old.kept (registry_of old))
day_told today day slots old new scratch stands joined tells =
    notified_state day slots old new 0 (tells_day today day slots old stands.whole) (joined_day today day slots old.shape joined)
    (subst (λ (n : ℕ). 0 < n) (sym stands.whole.length) (first_there slots stands.whole.today))
    (no_marks today slots old stands.sources) tells

module _ (today : ℤ) (slots : List Slot) (kept : List Kept) (registry : Registry) (scratch : ScratchView) (stands : Stands (state_of today slots kept registry) scratch) where
  abbrev s : State
  s = state_of today slots kept registry

  unless_stands : (b : Bool) (x : ℕ) (terms : Terms) → kind_at s.market x ≡ Some (kind_of terms) → IsRanged (Some terms) → Keeps s (if b then s else revised x terms s) → IsKinded (if b then s else revised x terms s).market
      → Stands (if b then s else revised x terms s) scratch
  unless_stands true x terms is own keeps kinded = stands
  unless_stands false x terms is own keeps kinded = revised_stands today slots kept registry scratch stands x terms is own keeps kinded

  pub link_stands : (h : ℕ) (target : Option ℕ) → Keeps s (relinked h target s) → IsKinded (relinked h target s).market → Stands (relinked h target s) scratch
  unfolding relinked
  link_stands h target = by_held (changeable (terms_at s.market h)) (terms_hold (terms_at s.market h))
    where
      by_held : (c : Changeable) → TermsOf c (terms_at s.market h) → Keeps s (target_set c h target s) → IsKinded (target_set c h target s).market → Stands (target_set c h target s) scratch
      by_held (HasValue held) is keeps kinded = stands
      by_held (HasTarget kind held) is keeps kinded = unless_stands (option_eq number_eq held target) h (Handle kind target) (kind_there s.market h (Handle kind held) is ∙ ap Some (same_handle s stands.whole kind held target)) tt keeps kinded
      by_held (HasFixings terms fixings) is keeps kinded = stands
      by_held (HasParts parts) is keeps kinded = stands
      by_held (HasEngine flows held) is keeps kinded = stands
      by_held HasNone is keeps kinded = stands

  pub engine_stands : (i : ℕ) (engine : Option ℕ) → Keeps s (engine_set i engine s) → IsKinded (engine_set i engine s).market → Stands (engine_set i engine s) scratch
  unfolding engine_set
  engine_stands i engine = by_held (changeable (terms_at s.market i)) (terms_hold (terms_at s.market i))
    where
      by_held : (c : Changeable) → TermsOf c (terms_at s.market i) → Keeps s (priced_by_engine c i engine s) → IsKinded (priced_by_engine c i engine s).market → Stands (priced_by_engine c i engine s) scratch
      by_held (HasValue held) is keeps kinded = stands
      by_held (HasTarget kind held) is keeps kinded = stands
      by_held (HasFixings terms fixings) is keeps kinded = stands
      by_held (HasParts parts) is keeps kinded = stands
      by_held (HasEngine flows held) is keeps kinded = revised_stands today slots kept registry scratch stands i (Flows flows engine) (kind_there s.market i (Flows flows held) is) (subst IsRanged is (stands.ranged i)) keeps kinded
      by_held HasNone is keeps kinded = stands

  pub fixing_stands : (x : ℕ) (day rate : ℤ) → Keeps s (fixing_added x day rate s) → IsKinded (fixing_added x day rate s).market → Stands (fixing_added x day rate s) scratch
  unfolding fixing_added
  fixing_stands x day rate = by_held (changeable (terms_at s.market x)) (terms_hold (terms_at s.market x))
    where
      by_held : (c : Changeable) → TermsOf c (terms_at s.market x) → Keeps s (fixing_stored c x day rate s) → IsKinded (fixing_stored c x day rate s).market → Stands (fixing_stored c x day rate s) scratch
      by_held (HasValue held) is keeps kinded = stands
      by_held (HasTarget kind held) is keeps kinded = stands
      by_held (HasFixings terms fixings) is keeps kinded = revised_stands today slots kept registry scratch stands x (Index terms (with_fixing fixings day rate)) (kind_there s.market x (Index terms fixings) is) (subst IsRanged is (stands.ranged x)) keeps kinded
      by_held (HasParts parts) is keeps kinded = stands
      by_held (HasEngine flows held) is keeps kinded = stands
      by_held HasNone is keeps kinded = stands

  -- what stands on another day
  told_stands : (day : ℤ) → Keeps s (notified 0 (state_of day slots kept registry)) → IsKinded s.market → Stands (notified 0 (state_of day slots kept registry)) scratch
  told_stands day keeps kinded = stands_as (notified 0 (state_of day slots kept registry)) (market_of day slots) scratch
      (notified_market 0 (state_of day slots kept registry)) keeps.whole (keeps.current.sources stands.sources)
      (subst IsKinded (sym (notified_market 0 (state_of day slots kept registry))) kinded)
      (record { ranged = stands.ranged; limit = stands.limit; empty = stands.empty })

  -- another day tells
  pub today_new : (day : ℤ) → int_eq today day ≡ false → notified 0 (state_of day slots kept registry) ≡ today_set day s
  unfolding today_set
  today_new day differs = sym (ap (λ (b : Bool). if b then s else notified 0 (state_of day slots kept registry)) differs)

  pub today_same : (day : ℤ) → int_eq today day ≡ true → s ≡ today_set day s
  unfolding today_set
  today_same day same = sym (ap (λ (b : Bool). if b then s else notified 0 (state_of day slots kept registry)) same)

  -- what a command leaves that makes this state
  pub commanded : (wanted new : State) → Keeps s wanted → Stands wanted scratch → new ≡ wanted → Changed s new wanted scratch
  commanded wanted new keeps after e = record {
    stands = subst (λ (t : State). Stands t scratch) (sym e) after;
    state = e;
    keeps = subst (KeepsCurrent s) (sym e) keeps.current;
    sound = λ calc sound. subst (IsSound calc) (sym e) (sound_kept calc s wanted keeps.current sound);
  }

  pub today_changed : (day : ℤ) (new : State) → int_eq today day ≡ false → new ≡ notified 0 (state_of day slots kept registry) → Changed s new (today_set day s) scratch
  today_changed day new differs e =
      let keeps = today_keeps s day stands.whole in
      commanded (today_set day s) new keeps
      (subst (λ (t : State). Stands t scratch) (today_new day differs) (told_stands day (subst (Keeps s) (sym (today_new day differs)) keeps) stands.kinds))
      (e ∙ today_new day differs)

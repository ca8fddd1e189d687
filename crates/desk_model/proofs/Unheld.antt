-- What neither freezes nor defers holds nothing back, and then each object is clear.
use Rattle.std.proofs.Common.{◌≡◌, inl, inr, ℕ, zero, suc, ◌+◌, Bool, true, false, List, length, ℤ, Option, Some, None, Ok, Err, refl, sym, ◌∙◌, ap, subst}
use Rattle.std.specs.Prelude.{◌||◌, ◌==◌, not, if◌then◌else◌}
use Rattle.std.specs.Option.{option_eq}
use Rattle.std.specs.Ordering.{int_eq}
use Rattle.std.proofs.lemmas.Bool.{cases_lt, or_parts, or_from, not_from_false, false_from_ne_true, false≢true}
use Rattle.walks.specs.Walk.{below_by}
use Rattle.walks.proofs.Walks.{only_below}
use Rattle.walks.proofs.Ranks.{below_meets}
use Rattle.desk_terms.specs.declared.terms.Terms.{Terms}
use Rattle.desk_terms.specs.declared.terms.Terms.TheVariants.{Quote, Handle, Index, Composite, Flows}
use Rattle.desk_terms.specs.declared.value.Value.{Value}
use Rattle.desk_terms.specs.Reading.{Outcome, Calc}
use Rattle.flow_terms.specs.Fixings.{with_fixing}
use Rattle.desk_model.specs.declared.kept.Kept.{Kept}
use Rattle.desk_model.specs.declared.slot.Slot.{Slot}
use Rattle.desk_model.specs.declared.slot.Slot.TheVariants.{Watcher, Live}
use Rattle.desk_model.specs.Market.{edges, terms_at}
use Rattle.desk_model.specs.Fresh.{fresh}
use Rattle.desk_model.specs.State.{State, kept_at, unpriced, is_frozen, is_source, is_held_back, is_late, is_clear, seen_outcome, now, shows, each_kept}
use Rattle.desk_model.specs.Changeable.{Changeable, changeable, weight_of, with_member}
use Rattle.desk_model.specs.Changeable.Changeable.{HasValue, HasTarget, HasFixings, HasParts, HasEngine, HasNone}
use Rattle.desk_model.specs.Told.{told, unsettled, tell}
use Rattle.desk_model.specs.Visit.{value_among, with_value, runs, stored, asked}
use Rattle.desk_model.specs.Recalc.{inputs_walk, recalced_kept, recalced_bare, recalced}
use Rattle.desk_model.specs.Effect.{start, added, made, watching, with_kept, notified, notified_as, with_terms, revised, revised_unless, value_set, quote_set, number_eq, target_set, relinked, priced_by_engine, engine_set, weight_set, member_set, fixing_stored, fixing_added, with_today, today_set, dropped, registered_with, unregistered, handed_out, forward_set, unfrozen, thawed, all_told, resumed}
use Rattle.desk_model.specs.Unheld.{HoldsNothing, HoldNothing, IsAfresh}
use Rattle.desk_model.proofs.Stores.{each_at, each_past, told_kept, kept_with}
use Rattle.desk_model.proofs.Births.{added_kept}
use Rattle.desk_model.proofs.Marks.{fresh_mark}

abbrev flagged : Kept → Bool
flagged kept = kept.frozen || kept.source

-- no stored record is flagged
abbrev Free : State → Type 0
Free s = (o : ℕ) → flagged (kept_at s o) ≡ false

free_of : (s : State) → HoldsNothing s → Free s
unfolding is_frozen is_source
free_of s none = none.free

unheld_of : (s : State) → s.deferring ≡ false → Free s → HoldsNothing s
unfolding is_frozen is_source
unheld_of s off free = record { off = off; free = free }

unsettled_flagged : (b : Bool) (k : Kept) → flagged (unsettled b k) ≡ flagged k
unsettled_flagged true k = refl
unsettled_flagged false k = refl

off_still : (from : ℕ → Bool) (s : State) → (tell from s).deferring ≡ s.deferring
unfolding tell
off_still from s = refl

told_unheld : (from : ℕ → Bool) (s : State) → HoldsNothing s → HoldsNothing (tell from s)
told_unheld from s none =
    unheld_of (tell from s) (off_still from s ∙ none.off)
    (λ o. ap flagged (told_kept from s o) ∙ unsettled_flagged (told s from o) (kept_at s o) ∙ free_of s none o)

notified_unheld : (x : ℕ) (s : State) → HoldsNothing s → HoldsNothing (notified x s)
unfolding notified
notified_unheld x s none =
    subst (λ (b : Bool). HoldsNothing (notified_as b x s)) (sym none.off) (told_unheld (λ y. y == x) s none)

-- another record at one place
with_free : (s : State) (x : ℕ) (k : Kept) → flagged k ≡ false → Free s → Free (with_kept x k s)
with_free s x k is free o = kept_with s x k (λ a b. flagged b ≡ false → flagged a ≡ false) (λ j e. e) (λ e. is) o (free o)

with_unheld : (s : State) (x : ℕ) (k : Kept) → flagged k ≡ false → HoldsNothing s → HoldsNothing (with_kept x k s)
with_unheld s x k is none = unheld_of (with_kept x k s) none.off (with_free s x k is (free_of s none))

unless_unheld : (b : Bool) (s t : State) → HoldsNothing s → HoldsNothing t → HoldsNothing (if b then s else t)
unless_unheld true s t first second = first
unless_unheld false s t first second = second

module _ (s : State) (none : HoldsNothing s) where
  revised_unheld : (x : ℕ) (terms : Terms) → HoldsNothing (revised x terms s)
  unfolding revised
  revised_unheld x terms =
      notified_unheld x (with_terms x terms s)
      (unheld_of (with_terms x terms s) none.off (with_free s x (record (kept_at s x) { current = false }) (free_of s none x) (free_of s none)))

  revised_unless_unheld : (same : Bool) (x : ℕ) (terms : Terms) → HoldsNothing (revised_unless same x terms s)
  revised_unless_unheld same x terms = unless_unheld same s (revised x terms s) none (revised_unheld x terms)

  value_unheld : (c : Changeable) (q : ℕ) (value : Option ℤ) → HoldsNothing (value_set c q value s)
  value_unheld (HasValue held) q value = revised_unless_unheld (option_eq int_eq held value) q (Quote value)
  value_unheld (HasTarget kind held) q value = none
  value_unheld (HasFixings terms fixings) q value = none
  value_unheld (HasParts parts) q value = none
  value_unheld (HasEngine flows held) q value = none
  value_unheld HasNone q value = none

  target_unheld : (c : Changeable) (h : ℕ) (target : Option ℕ) → HoldsNothing (target_set c h target s)
  target_unheld (HasValue held) h target = none
  target_unheld (HasTarget kind held) h target = revised_unless_unheld (option_eq number_eq held target) h (Handle kind target)
  target_unheld (HasFixings terms fixings) h target = none
  target_unheld (HasParts parts) h target = none
  target_unheld (HasEngine flows held) h target = none
  target_unheld HasNone h target = none

  engine_unheld : (c : Changeable) (i : ℕ) (engine : Option ℕ) → HoldsNothing (priced_by_engine c i engine s)
  engine_unheld (HasValue held) i engine = none
  engine_unheld (HasTarget kind held) i engine = none
  engine_unheld (HasFixings terms fixings) i engine = none
  engine_unheld (HasParts parts) i engine = none
  engine_unheld (HasEngine flows held) i engine = revised_unheld i (Flows flows engine)
  engine_unheld HasNone i engine = none

  weight_unheld : (c : Changeable) (k member : ℕ) (weight : ℤ) → HoldsNothing (weight_set c k member weight s)
  weight_unheld (HasValue held) k member weight = none
  weight_unheld (HasTarget kind held) k member weight = none
  weight_unheld (HasFixings terms fixings) k member weight = none
  weight_unheld (HasParts parts) k member weight =
      revised_unless_unheld (int_eq (weight_of parts member) weight) k (Composite (with_member parts member weight))
  weight_unheld (HasEngine flows held) k member weight = none
  weight_unheld HasNone k member weight = none

  fixing_unheld : (c : Changeable) (x : ℕ) (day rate : ℤ) → HoldsNothing (fixing_stored c x day rate s)
  fixing_unheld (HasValue held) x day rate = none
  fixing_unheld (HasTarget kind held) x day rate = none
  fixing_unheld (HasFixings terms fixings) x day rate = revised_unheld x (Index terms (with_fixing fixings day rate))
  fixing_unheld (HasParts parts) x day rate = none
  fixing_unheld (HasEngine flows held) x day rate = none
  fixing_unheld HasNone x day rate = none

  added_unheld : (slot : Slot) → HoldsNothing (added slot s)
  added_unheld slot = unheld_of (added slot s) none.off (λ o. ap flagged (added_kept s slot o) ∙ free_of s none o)

  today_unheld : (day : ℤ) → HoldsNothing (today_set day s)
  unfolding today_set
  today_unheld day =
      unless_unheld (int_eq s.market.today day) s (notified 0 (with_today day s)) none
      (notified_unheld 0 (with_today day s) (unheld_of (with_today day s) none.off (free_of s none)))

  thawed_unheld : (x : ℕ) → HoldsNothing (thawed x s)
  unfolding thawed
  thawed_unheld x =
      unless_unheld (is_frozen s x) (notified x (unfrozen x s)) s
      (notified_unheld x (unfrozen x s) (with_unheld s x (record (kept_at s x) { frozen = false }) (or_parts (kept_at s x).frozen (kept_at s x).source (free_of s none x)).1 none)) none

  resumed_unheld : HoldsNothing (resumed s)
  unfolding resumed
  resumed_unheld =
      subst (λ (b : Bool). HoldsNothing (if b then record (all_told s) { deferring = false; kept = each_kept (λ o kept. record kept { source = false }) 0 (all_told s).kept } else s)) (sym none.off) none

  value_flagged : (k : Kept) (value : Option Value) → flagged (with_value k value) ≡ flagged k
  value_flagged k (Some value) = refl
  value_flagged k None = refl

  stored_unheld : (calls : List (ℕ × Outcome)) → HoldsNothing (stored s calls)
  unfolding stored
  stored_unheld calls = unheld_of (stored s calls) none.off each
    where
      each : (o : ℕ) → flagged (kept_at (stored s calls) o) ≡ false
      each o = elim (cases_lt o (length s.kept)) [
        | inl within ↦
            ap flagged (each_at (λ o kept. with_value kept (value_among calls o)) 0 o s.kept within)
            ∙ value_flagged (kept_at s o) (value_among calls (0 + o)) ∙ free_of s none o
        | inr past ↦ ap flagged (each_past (λ o kept. with_value kept (value_among calls o)) 0 o s.kept past)
      ]

recalced_flagged : (k : Kept) (answer : Outcome) → flagged (recalced_kept k answer) ≡ flagged k
recalced_flagged k (Ok value) = refl
recalced_flagged k (Err cause) = refl

bare_unheld : (calc : Calc) (o : ℕ) (s inputs : State) → HoldsNothing inputs → HoldsNothing (recalced_bare calc o s inputs)
bare_unheld calc o s inputs none =
    with_unheld inputs o (recalced_kept (kept_at inputs o) (now calc s o))
    (recalced_flagged (kept_at inputs o) (now calc s o) ∙ free_of inputs none o) none

pub others_hold_nothing : (s : State) → HoldsNothing s → HoldNothing s
unfolding quote_set relinked engine_set member_set fixing_added made watching dropped registered_with unregistered handed_out forward_set asked recalced
others_hold_nothing s none = record {
  quote = λ q value. value_unheld s none (changeable (terms_at s.market q)) q value;
  link = λ h target. target_unheld s none (changeable (terms_at s.market h)) h target;
  engine = λ i engine. engine_unheld s none (changeable (terms_at s.market i)) i engine;
  member = λ k member weight. weight_unheld s none (changeable (terms_at s.market k)) k member weight;
  fixing = λ x day rate. fixing_unheld s none (changeable (terms_at s.market x)) x day rate;
  today = today_unheld s none;
  make = λ terms. added_unheld s none (Live terms);
  watch = added_unheld s none Watcher;
  drop = λ x. unheld_of (dropped x s) none.off (with_free s x unpriced refl (free_of s none));
  register = λ w o. unheld_of (registered_with w o s) none.off (free_of s none);
  unregister = λ w o. unheld_of (unregistered w o s) none.off (free_of s none);
  hand_out = λ w. unheld_of (handed_out w s) none.off (free_of s none);
  thaw = thawed_unheld s none;
  forward = λ x on. with_unheld s x (record (kept_at s x) { forward = on }) (free_of s none x) none;
  resume = resumed_unheld s none;
  ask = λ calc o. stored_unheld s none (runs calc s o);
  recalc = λ calc o. notified_unheld o _ (bare_unheld calc o s _ (stored_unheld s none (inputs_walk calc s o).calls));
}

-- each object is clear, and none is late
module _ (s : State) (none : HoldsNothing s) where
  unheld_clear : (o : ℕ) → is_clear s o ≡ true
  unfolding is_clear
  unheld_clear o =
      not_from_false _ (or_from (is_held_back s o) _ (none.free o)
      (false_from_ne_true (below_by (edges s.market) (is_held_back s) (λ x. true) (suc (length s.market.objects)) o)
      (λ deep. let found = below_meets (edges s.market) (is_held_back s) (λ x. true) o (only_below (edges s.market) (is_held_back s) (λ x. true) (suc (length s.market.objects)) o deep) in
      false≢true (sym (none.free found.0) ∙ found.1))))

  no_source : (o : ℕ) → is_source s o ≡ false
  no_source o = (or_parts (is_frozen s o) (is_source s o) (none.free o)).1

  unheld_early : (o : ℕ) → is_late s o ≡ false
  unfolding is_late
  unheld_early o =
      or_from (is_source s o) _ (no_source o)
      (false_from_ne_true (below_by (edges s.market) (is_source s) (λ x. not (is_frozen s x)) (suc (length s.market.objects)) o)
      (λ deep. let found = below_meets (edges s.market) (is_source s) (λ x. not (is_frozen s x)) o (only_below (edges s.market) (is_source s) (λ x. not (is_frozen s x)) (suc (length s.market.objects)) o deep) in
      false≢true (sym (no_source found.0) ∙ found.1)))

  shows_fresh : (calc : Calc) (o : ℕ) → shows calc s o ≡ fresh calc s.market o
  unfolding shows
  shows_fresh calc o = ap (λ (b : Bool). if b then fresh calc s.market o else seen_outcome calc s o) (unheld_clear o)

  pub unheld_afresh : (calc : Calc) (o : ℕ) → IsAfresh calc s o
  unheld_afresh calc o = record {
    mark = fresh_mark s o (unheld_clear o) (unheld_early o);
    value = shows_fresh calc o;
  }

-- a new session holds nothing
pub start_unheld : (today : ℤ) → HoldsNothing (start today)
start_unheld today = unheld_of (start today) refl each
  where
    each : (o : ℕ) → flagged (kept_at (start today) o) ≡ false
    each zero = refl
    each (suc o) = refl

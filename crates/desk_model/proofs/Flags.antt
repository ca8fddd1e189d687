-- Flags keep all that is current: freezing, always forwarding, deferral on; and deferral off, with the notices of all
-- sources.
use Rattle.std.proofs.Common.{◌≡◌, inl, inr, ℕ, suc, Bool, true, false, List, length, refl, sym, ◌∙◌, ap}
use Rattle.std.specs.Prelude.{◌||◌, if◌then◌else◌, slice_set}
use Rattle.std.proofs.lemmas.Bool.{cases_Bool, or_left, or_right, false_from_ne_true}
use Rattle.walks.specs.Walk.{Among}
use Rattle.walks.proofs.Walks.{only_below}
use Rattle.walks.proofs.Ranks.{below_wider, below_true}
use Rattle.desk_model.specs.declared.kept.Kept.{Kept}
use Rattle.desk_model.specs.Market.{edges, is_forwarder}
use Rattle.desk_model.specs.Uses.{needs}
use Rattle.desk_model.specs.State.{State, kept_at, last_of, last_answer, is_frozen, is_source, each_kept}
use Rattle.desk_model.specs.Told.{told, unsettled, tell}
use Rattle.desk_model.specs.Sound.{has_source, is_ready, HasNoSourceWhereOff, IsAsBefore, KeepsCurrent}
use Rattle.desk_model.specs.Links.{is_lazy_at, IsLinked, IsWhole}
use Rattle.desk_model.specs.Laws.{Keeps}
use Rattle.desk_model.specs.Effect.{frozen_set, forward_set, deferred, all_told, resumed}
use Rattle.desk_model.proofs.Stores.{each_all, length-each, told_kept, unsettled_last, still_current, unsettled_current, kept_with}
use Rattle.desk_model.proofs.Locality.{needs_near}
use Rattle.desk_model.proofs.Bounds.{same_reading, ranks_of}
use Rattle.desk_model.proofs.Shown.{or_false}
use Rattle.desk_model.proofs.Carried.{keeps_itself}
use Rattle.desk_model.proofs.Watchers.{IsPlain, lazy_plain, whole_registers}
use Rattle.desk_model.proofs.Tells.{near_told, above_told, current_passes, unsettled_flags, unsettled_forward, whole_told, whole_with}

not_both : (b : Bool) → b ≡ true → b ≡ false → ⊥
not_both b is is_not = cc

-- what is stored with other flags: the values stay, nothing becomes current, what was ready is ready, and sources stay
pub record Flagged (s : State) (kept : List Kept) : Type 0 where
  pub last : (o : ℕ) → (kept_at (record s { kept = kept }) o).last ≡ (kept_at s o).last
  pub current : (o : ℕ) → (kept_at (record s { kept = kept }) o).current ≡ true → (kept_at s o).current ≡ true
  pub ready : (o : ℕ) → is_ready s o ≡ true → is_ready (record s { kept = kept }) o ≡ true
  pub source : (o : ℕ) → is_source s o ≡ true → is_source (record s { kept = kept }) o ≡ true

-- they keep all that is current, whatever the deferral
keeps_flagged : (s : State) (kept : List Kept) (deferring : Bool) → IsLinked s.market → Flagged s kept
    → (HasNoSourceWhereOff s → HasNoSourceWhereOff (record s { kept = kept; deferring = deferring }))
    → KeepsCurrent s (record s { kept = kept; deferring = deferring })
unfolding has_source is_source is_frozen
keeps_flagged s kept deferring links flagged sources = record {
  sources = sources;
  each = λ o current none. record {
    current = flagged.current o current;
    source = false_from_ne_true _ (λ source.
        let r = ranks_of s.market links in
        not_both _ (below_true (edges s.market) (is_source (record s { kept = kept })) (is_forwarder s.market) r.0 r.1 (suc (length s.market.objects)) o (r.2 o)
        (below_wider (edges s.market) (is_source s) (is_source (record s { kept = kept })) (is_forwarder s.market) (is_forwarder s.market) flagged.source (λ x e. e) o (only_below (edges s.market) (is_source s) (is_forwarder s.market) (suc (length s.market.objects)) o source))) none);
    reading = same_reading s.market (last_answer (record s { kept = kept })) (last_answer s) o (λ y among. ap (last_of y) (flagged.last y));
    last = flagged.last o;
    ready = λ before y among. flagged.ready y (before y among);
  };
}

-- an object is frozen
frozen_flags : (s : State) (x : ℕ) → Flagged s (slice_set s.kept x (record (kept_at s x) { frozen = true }))
unfolding is_source is_frozen
frozen_flags s x = record {
  last = kept_with s x (record (kept_at s x) { frozen = true }) (λ a b. a.last ≡ b.last) (λ j. refl) refl;
  current = kept_with s x (record (kept_at s x) { frozen = true }) (λ a b. a.current ≡ true → b.current ≡ true) (λ j e. e) (λ e. e);
  ready = kept_with s x (record (kept_at s x) { frozen = true }) (λ a b. (b.frozen || b.current) ≡ true → (a.frozen || a.current) ≡ true) (λ j e. e) (λ e. refl);
  source = kept_with s x (record (kept_at s x) { frozen = true }) (λ a b. b.source ≡ true → a.source ≡ true) (λ j e. e) (λ e. e);
}

pub freeze_keeps : (s : State) (x : ℕ) → is_lazy_at s.market x ≡ true → IsWhole s → Keeps s (frozen_set x s)
unfolding frozen_set is_source
freeze_keeps s x lazy whole = record {
  whole = whole_with x (record (kept_at s x) { frozen = true }) s whole (λ e. lazy) (λ e. lazy) (λ e. lazy) (whole.valued x);
  current = keeps_flagged s (slice_set s.kept x (record (kept_at s x) { frozen = true })) s.deferring whole.links (frozen_flags s x)
      (λ none off y. kept_with s x (record (kept_at s x) { frozen = true }) (λ a b. a.source ≡ b.source) (λ j. refl) refl y ∙ none off y);
}

-- an object passes each notice on, or does so no more
forward_flags : (s : State) (x : ℕ) (forward : Bool)
    → Flagged s (slice_set s.kept x (record (kept_at s x) { forward = forward }))
unfolding is_source is_frozen
forward_flags s x forward = record {
  last = kept_with s x (record (kept_at s x) { forward = forward }) (λ a b. a.last ≡ b.last) (λ j. refl) refl;
  current = kept_with s x (record (kept_at s x) { forward = forward }) (λ a b. a.current ≡ true → b.current ≡ true) (λ j e. e) (λ e. e);
  ready = kept_with s x (record (kept_at s x) { forward = forward }) (λ a b. (b.frozen || b.current) ≡ true → (a.frozen || a.current) ≡ true) (λ j e. e) (λ e. e);
  source = kept_with s x (record (kept_at s x) { forward = forward }) (λ a b. b.source ≡ true → a.source ≡ true) (λ j e. e) (λ e. e);
}

pub forward_keeps : (s : State) (x : ℕ) (forward : Bool) → is_lazy_at s.market x ≡ true → IsWhole s
    → Keeps s (forward_set x forward s)
unfolding forward_set is_source
forward_keeps s x forward lazy whole = record {
  whole = whole_with x (record (kept_at s x) { forward = forward }) s whole (λ e. lazy) (λ e. lazy) (λ e. lazy) (whole.valued x);
  current = keeps_flagged s (slice_set s.kept x (record (kept_at s x) { forward = forward })) s.deferring whole.links (forward_flags s x forward)
      (λ none off y. kept_with s x (record (kept_at s x) { forward = forward }) (λ a b. a.source ≡ b.source) (λ j. refl) refl y ∙ none off y);
}

-- deferral on
pub defer_keeps : (s : State) → IsWhole s → Keeps s (deferred s)
unfolding deferred
defer_keeps s whole = record {
  whole = record { length = whole.length; today = whole.today; links = whole.links; lazy = whole.lazy; frozen = whole.frozen; forward = whole.forward; valued = whole.valued; registered = whole.registered; noticed = whole.noticed };
  current = keeps_flagged s s.kept true whole.links (record { last = λ o. refl; current = λ o e. e; ready = λ o e. e; source = λ o e. e }) (λ none off y. absurd (cc));
}

-- deferral off
abbrev pub unsourced : State → State
unsourced s = record (all_told s) { deferring = false; kept = each_kept (λ o kept. record kept { source = false }) 0 (all_told s).kept }

resumed_kept : (s : State) (o : ℕ)
    → kept_at (unsourced s) o ≡ record (unsettled (told s (is_source s) o) (kept_at s o)) { source = false }
resumed_kept s o = each_all (λ o kept. record kept { source = false }) (λ o. refl) 0 o (tell (is_source s) s).kept
    ∙ ap (λ (k : Kept). record k { source = false }) (told_kept (is_source s) s o)

module _ (s : State) (whole : IsWhole s) where
  current_before : (o : ℕ) → (kept_at (unsourced s) o).current ≡ true
      → (told s (is_source s) o ≡ false) × ((kept_at s o).current ≡ true)
  current_before o current = still_current (told s (is_source s) o) (kept_at s o) (sym (ap (λ (k : Kept). k.current) (resumed_kept s o)) ∙ current)

  source_told : (o : ℕ) → IsPlain s.market o → has_source s o ≡ true → told s (is_source s) o ≡ true
  unfolding has_source
  source_told o plain source = near_told s whole.links (whole_registers s whole) (is_source s) o plain (only_below (edges s.market) (is_source s) (is_forwarder s.market) (suc (length s.market.objects)) o source)

  resumed_as_before : (o : ℕ) → (kept_at (unsourced s) o).current ≡ true → IsAsBefore s (unsourced s) o
  unfolding is_frozen tell
  resumed_as_before o current = record {
    current = (current_before o current).1;
    source = false_from_ne_true (has_source s o) (λ source. not_both _ (source_told o plain source) (current_before o current).0);
    reading = same_reading s.market (last_answer (unsourced s)) (last_answer s) o (λ y among. ap (last_of y) (last_same y));
    last = last_same o;
    ready = λ before y among. ready_then y among (before y among);
  }
    where
      plain : IsPlain s.market o
      plain = lazy_plain s.market o (whole.lazy o (current_before o current).1)

      last_same : (y : ℕ) → (kept_at (unsourced s) y).last ≡ (kept_at s y).last
      last_same y = ap (λ (k : Kept). k.last) (resumed_kept s y) ∙ unsettled_last (told s (is_source s) y) (kept_at s y)

      ready_then : (y : ℕ) → Among y (needs s.market o) → is_ready s y ≡ true → is_ready (unsourced s) y ≡ true
      ready_then y among ready = elim (cases_Bool (is_frozen s y)) [
        | inl frozen ↦ or_left _ _ (ap (λ (k : Kept). k.frozen) (resumed_kept s y) ∙ (unsettled_flags (told s (is_source s) y) (kept_at s y)).0 ∙ frozen)
        | inr thawed ↦
            let before = or_false (is_frozen s y) _ ready thawed in
            let on = current_passes s y (whole.lazy y before) thawed before in
            let untold = false_from_ne_true (told s (is_source s) y) (λ is. not_both (told s (is_source s) o) (above_told s whole.links (whole_registers s whole) (is_source s) o y plain (needs_near s.market o y among) on is) (current_before o current).0) in
            or_right _ _ (ap (λ (k : Kept). k.current) (resumed_kept s y) ∙ unsettled_current _ (kept_at s y) untold before)
      ]

  whole_resumed : IsWhole (unsourced s)
  unfolding tell
  whole_resumed =
      let w = whole_told (is_source s) s whole in
      record {
        length = length-each (λ o kept. record kept { source = false }) 0 (tell (is_source s) s).kept ∙ w.length;
        today = whole.today;
        links = whole.links;
        lazy = λ o current. whole.lazy o (current_before o current).1;
        frozen = λ o is. whole.frozen o (sym (ap (λ (k : Kept). k.frozen) (resumed_kept s o) ∙ (unsettled_flags (told s (is_source s) o) (kept_at s o)).0) ∙ is);
        forward = λ o is. whole.forward o (sym (ap (λ (k : Kept). k.forward) (resumed_kept s o) ∙ unsettled_forward (told s (is_source s) o) (kept_at s o)) ∙ is);
        valued = λ o value is. whole.valued o value (sym (ap (λ (k : Kept). k.last) (resumed_kept s o) ∙ unsettled_last (told s (is_source s) o) (kept_at s o)) ∙ is);
        registered = whole.registered;
        noticed = w.noticed;
      }

  pub resume_keeps : Keeps s (resumed s)
  unfolding resumed is_source
  resume_keeps = by_on s.deferring
    where
      by_on : (b : Bool) → Keeps s (if b then unsourced s else s)
      by_on false = keeps_itself s whole
      by_on true = record {
        whole = whole_resumed;
        current = record {
          sources = λ none off y. ap (λ (k : Kept). k.source) (resumed_kept s y);
          each = λ o current none. resumed_as_before o current;
        };
      }

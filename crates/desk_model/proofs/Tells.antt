-- A notice from x is a change at x: what x is near to is told, through forwarders and current objects.
use Rattle.std.proofs.Common.{◌≡◌, ◌≢◌, inl, inr, ℕ, suc, ◌+◌, ◌<◌, ◌≤◌, Bool, true, false, List, [], ◌∷◌, length, Option, Some, refl, sym, ◌∙◌, ap, subst, arith}
use Rattle.std.specs.Prelude.{◌==◌, ◌||◌, ◌&&◌, not, if◌then◌else◌, slice_index_or, slice_set}
use Rattle.std.proofs.lemmas.Bool.{cases_eq, cases_lt, cases_Bool, eqb-true, false≢true, or_left, or_right, and_from, false_from_ne_true}
use Rattle.std.specs.List.{list_any}
use Rattle.walks.specs.Walk.{Among, Below}
use Rattle.walks.proofs.Walks.{only_below}
use Rattle.walks.proofs.Ranks.{below_wider, below_true, below_falls, meets_on, meets_edge, meets_not_itself}
use Rattle.desk_terms.specs.declared.terms.Terms.{Terms}
use Rattle.desk_terms.specs.declared.value.Value.{Value}
use Rattle.desk_model.specs.declared.kept.Kept.{Kept}
use Rattle.desk_model.specs.Market.{Market, slot_at, is_watcher, terms_at, IsSame, role_of, is_forwarding, is_lazy, edges, is_forwarder}
use Rattle.desk_terms.specs.Kind.{Role}
use Rattle.desk_terms.specs.Kind.Role.{Source, Forwarder, Lazy, Watching}
use Rattle.desk_model.specs.State.{State, kept_at, unpriced, is_frozen, is_source}
use Rattle.desk_model.specs.Told.{forwards_as, forwards, told, unsettled, watchers_where, tell}
use Rattle.desk_model.specs.Links.{is_lazy_at, IsLinked, IsValued, IsWhole}
use Rattle.desk_model.proofs.Stores.{told_kept, told_length, unsettled_last, still_current, unsettled_current, unsettled_stale, kept_with}
use Rattle.desk_model.proofs.Locality.{Near}
use Rattle.desk_model.proofs.Bounds.{ranks_of}
use Rattle.desk_model.proofs.Shown.{or_false}
use Rattle.desk_model.proofs.Carried.{ChangesAt, all_keep, all_keep_but}
use Rattle.desk_model.specs.Effect.{with_kept, sourced, notified_as}
use Rattle.desk_model.specs.Sound.{has_source, HasNoSourceWhereOff, IsAsBefore, KeepsCurrent}
use Rattle.desk_model.specs.declared.slot.Slot.{Slot}
use Rattle.desk_model.specs.declared.slot.Slot.TheVariants.{Free}
use Rattle.desk_model.proofs.Watchers.{RegistersWatchers, IsPlain, lazy_plain, observed_plain, passing_plain, told_plain}
use Rattle.std.proofs.lemmas.List.{get_or-set_same, get_or-set_other, get_or_past, length-set}

-- two states that differ at x alone
pub record DiffersAt (x : ℕ) (s u : State) : Type 0 where
  pub length : length s.market.objects ≤ length u.market.objects
  pub same : (o : ℕ) → o ≢ x → IsSame s.market u.market o
  pub kept : (o : ℕ) → o ≢ x → kept_at u o ≡ kept_at s o
  pub source : (o : ℕ) → is_source u o ≡ is_source s o
  pub deferring : u.deferring ≡ s.deferring
  pub frozen : (o : ℕ) → o ≢ x → is_frozen u o ≡ is_frozen s o

-- a notice leaves flags and sources
pub unsettled_flags : (b : Bool) (k : Kept) → ((unsettled b k).frozen ≡ k.frozen) × ((unsettled b k).source ≡ k.source)
unsettled_flags true k = (refl, refl)
unsettled_flags false k = (refl, refl)

pub unsettled_forward : (b : Bool) (k : Kept) → (unsettled b k).forward ≡ k.forward
unsettled_forward true k = refl
unsettled_forward false k = refl

told_source : (from : ℕ → Bool) (s : State) (o : ℕ) → is_source (tell from s) o ≡ is_source s o
unfolding is_source
told_source from s o = ap (λ (k : Kept). k.source) (told_kept from s o)
    ∙ (unsettled_flags (told s from o) (kept_at s o)).1

told_frozen : (from : ℕ → Bool) (s : State) (o : ℕ) → is_frozen (tell from s) o ≡ is_frozen s o
unfolding is_frozen
told_frozen from s o = ap (λ (k : Kept). k.frozen) (told_kept from s o)
    ∙ (unsettled_flags (told s from o) (kept_at s o)).0

-- a forwarder passes a notice on
forwarder_passes : (role : Role) (kept : Kept) → is_forwarding role ≡ true → forwards_as role kept ≡ true
forwarder_passes Source kept is = absurd (cc)
forwarder_passes Forwarder kept is = refl
forwarder_passes Lazy kept is = absurd (cc)
forwarder_passes Watching kept is = absurd (cc)

-- and so does a current lazy object that is not frozen
lazy_passes : (role : Role) (kept : Kept) → is_lazy role ≡ true → kept.frozen ≡ false → kept.current ≡ true
    → forwards_as role kept ≡ true
lazy_passes Source kept is thawed current = absurd (cc)
lazy_passes Forwarder kept is thawed current = absurd (cc)
lazy_passes Watching kept is thawed current = absurd (cc)
lazy_passes Lazy kept is thawed current = and_from (not kept.frozen) _ (ap not thawed) (or_left kept.current kept.forward current)

pub passes : (s : State) (x : ℕ) → is_forwarder s.market x ≡ true → forwards s x ≡ true
unfolding forwards
passes s x is = forwarder_passes (role_of (terms_at s.market x)) (kept_at s x) is

pub current_passes : (s : State) (x : ℕ) → is_lazy (role_of (terms_at s.market x)) ≡ true → is_frozen s x ≡ false
    → (kept_at s x).current ≡ true → forwards s x ≡ true
unfolding forwards is_frozen
current_passes s x lazy thawed current = lazy_passes (role_of (terms_at s.market x)) (kept_at s x) lazy thawed current

module _ (s : State) (links : IsLinked s.market) (only : RegistersWatchers s) (from : ℕ → Bool) where
  told_below : (o : ℕ) → IsPlain s.market o → Below (edges s.market) from (forwards s) o → told s from o ≡ true
  told_below o plain below = let r = ranks_of s.market links in told_plain s only from o plain ∙ below_true (edges s.market) from (forwards s) r.0 r.1 (suc (length s.market.objects)) o (r.2 o) below

  pub below_told : (o : ℕ) → IsPlain s.market o → told s from o ≡ true → Below (edges s.market) from (forwards s) o
  below_told o plain is = only_below (edges s.market) from (forwards s) (suc (length s.market.objects)) o (sym (told_plain s only from o plain) ∙ is)

  -- whatever is near a changed object is told
  pub near_told : (o : ℕ) → IsPlain s.market o → Below (edges s.market) from (is_forwarder s.market) o
      → told s from o ≡ true
  near_told o plain near = told_below o plain (below_wider (edges s.market) from from (is_forwarder s.market) (forwards s) (λ y e. e) (passes s) o near)

  -- and what is near a told object that passes the notice on
  pub above_told : (o y : ℕ) → IsPlain s.market o → Near s.market y o → forwards s y ≡ true → told s from y ≡ true
      → told s from o ≡ true
  above_told o y plain near on is = told_below o plain (meets_on (edges s.market) from (forwards s) y o on (below_told y (passing_plain s y on) is)
      (below_wider (edges s.market) (λ z. z == y) (λ z. z == y) (is_forwarder s.market) (forwards s) (λ z e. e) (passes s) o near))

not_both : (b : Bool) → b ≡ true → b ≡ false → ⊥
not_both b is is_not = cc

-- A notice from x, after a change at x
pub tells : (x : ℕ) (s u : State) → IsWhole s → IsLinked u.market → RegistersWatchers u → DiffersAt x s u
    → ChangesAt x s (tell (λ y. y == x) u)
unfolding tell
tells x s u whole links only differs = record {
  length = differs.length;
  same = differs.same;
  last = λ o other. ap (λ (k : Kept). k.last) (told_kept (λ y. y == x) u o) ∙ unsettled_last _ (kept_at u o)
      ∙ ap (λ (k : Kept). k.last) (differs.kept o other);
  source = λ o other is. told_source (λ y. y == x) u o ∙ (differs.source o ∙ is);
  current = λ o other current. ap (λ (k : Kept). k.current) (sym (differs.kept o other)) ∙ (was o current).1;
  near = λ o other current near. absurd (not_both (told u (λ y. y == x) o) (near_told u links only (λ y. y == x) o (plain_then o other (was o current).1) near) (was o current).0);
  ready = λ o y other apart current near ready. elim (cases_Bool (is_frozen s y)) [
    | inl frozen ↦ or_left _ _ (told_frozen (λ y. y == x) u y ∙ (differs.frozen y apart ∙ frozen))
    | inr thawed ↦
        let before = or_false (is_frozen s y) _ ready thawed in
        let still : (kept_at u y).current ≡ true = ap (λ (k : Kept). k.current) (differs.kept y apart) ∙ before in
        let on = current_passes u y (lazy_then y apart still) (differs.frozen y apart ∙ thawed) still in
        let untold = false_from_ne_true (told u (λ z. z == x) y) (λ is. not_both (told u (λ z. z == x) o) (above_told u links only (λ z. z == x) o y (plain_then o other (was o current).1) near on is) (was o current).0) in
        or_right _ _ (ap (λ (k : Kept). k.current) (told_kept (λ z. z == x) u y) ∙ unsettled_current _ (kept_at u y) untold still)
  ];
}
  where
    was : (o : ℕ) → (kept_at (tell (λ y. y == x) u) o).current ≡ true
        → (told u (λ y. y == x) o ≡ false) × ((kept_at u o).current ≡ true)
    was o current = still_current (told u (λ y. y == x) o) (kept_at u o) (sym (ap (λ (k : Kept). k.current) (told_kept (λ y. y == x) u o)) ∙ current)

    lazy_then : (o : ℕ) → o ≢ x → (kept_at u o).current ≡ true → is_lazy_at u.market o ≡ true
    lazy_then o other current = ap (λ (t : Option Terms). is_lazy (role_of t)) (differs.same o other).terms
        ∙ whole.lazy o (ap (λ (k : Kept). k.current) (sym (differs.kept o other)) ∙ current)

    plain_then : (o : ℕ) → o ≢ x → (kept_at u o).current ≡ true → IsPlain u.market o
    plain_then o other current = lazy_plain u.market o (lazy_then o other current)

-- a notice makes no source
pub no_sources : (x : ℕ) (s u : State) → DiffersAt x s u → HasNoSourceWhereOff s
    → HasNoSourceWhereOff (tell (λ y. y == x) u)
unfolding tell
no_sources x s u differs none off y = told_source (λ y. y == x) u y
    ∙ (differs.source y ∙ none (sym differs.deferring ∙ off) y)

-- x holds its notice back: all else is as it was
pub sourced_there : (x : ℕ) (u : State) (o : ℕ) → o ≢ x → kept_at (sourced x u) o ≡ kept_at u o
sourced_there x u o other = get_or-set_other u.kept x o (record (kept_at u x) { source = true }) unpriced other

pub sourced_here : (x : ℕ) (u : State) → x < length u.kept
    → kept_at (sourced x u) x ≡ record (kept_at u x) { source = true }
sourced_here x u within = get_or-set_same u.kept x (record (kept_at u x) { source = true }) unpriced within

pub sources : (x : ℕ) (s u : State) → x < length u.kept → DiffersAt x s u → ChangesAt x s (sourced x u)
unfolding is_source is_frozen
sources x s u within differs = record {
  length = differs.length;
  same = differs.same;
  last = λ o other. ap (λ (k : Kept). k.last) (sourced_there x u o other ∙ differs.kept o other);
  source = λ o other is. ap (λ (k : Kept). k.source) (sourced_there x u o other) ∙ (differs.source o ∙ is);
  current = λ o other current. ap (λ (k : Kept). k.current) (sym (sourced_there x u o other ∙ differs.kept o other))
      ∙ current;
  near = λ o other current near. ap (λ (k : Kept). k.source) (sourced_here x u within);
  ready = λ o y other apart current near ready. ap (λ (k : Kept). k.frozen || k.current) (sourced_there x u y apart ∙ differs.kept y apart)
      ∙ ready;
}

-- A CHANGE AT x, and then its notice, or x as a source: all that is current and has no source near it is as before
pub keeps_notified : (x : ℕ) (s u : State) → IsWhole s → IsLinked u.market → RegistersWatchers u → x < length u.kept
    → DiffersAt x s u → (kept_at u x).current ≡ false → (b : Bool) → u.deferring ≡ b
    → KeepsCurrent s (notified_as b x u)
unfolding tell
keeps_notified x s u whole links only within differs stale true on =
    all_keep x s (sourced x u) whole.links links (sources x s u within differs) (λ none off. absurd (false≢true (sym off ∙ on)))
    (ap (λ (k : Kept). k.current) (sourced_here x u within) ∙ stale)
keeps_notified x s u whole links only within differs stale false off =
    all_keep x s (tell (λ y. y == x) u) whole.links links (tells x s u whole links only differs) (no_sources x s u differs)
    (ap (λ (k : Kept). k.current) (told_kept (λ y. y == x) u x) ∙ unsettled_stale _ (kept_at u x) stale)

-- the same, where x may be current
pub keeps_notified_but : (x : ℕ) (s u : State) → IsWhole s → IsLinked u.market → RegistersWatchers u → x < length u.kept
    → DiffersAt x s u → (b : Bool) → u.deferring ≡ b
    → ((kept_at (notified_as b x u) x).current ≡ true → has_source (notified_as b x u) x ≡ false → IsAsBefore s (notified_as b x u) x)
    → KeepsCurrent s (notified_as b x u)
unfolding tell
keeps_notified_but x s u whole links only within differs true on itself = all_keep_but x s (sourced x u) whole.links links (sources x s u within differs) (λ none off. absurd (false≢true (sym off ∙ on))) itself
keeps_notified_but x s u whole links only within differs false off itself = all_keep_but x s (tell (λ y. y == x) u) whole.links links (tells x s u whole links only differs) (no_sources x s u differs) itself

pub notified_current : (x : ℕ) (u : State) → x < length u.kept → (b : Bool) (o : ℕ)
    → (kept_at (notified_as b x u) o).current ≡ true → (kept_at u o).current ≡ true
notified_current x u within true o current = elim (cases_eq o x) [
  | inl same ↦ ap (λ (z : ℕ). (kept_at u z).current) same ∙ (ap (λ (k : Kept). k.current) (sym (sourced_here x u within)) ∙ (ap (λ (z : ℕ). (kept_at (sourced x u) z).current) (sym same) ∙ current))
  | inr other ↦ ap (λ (k : Kept). k.current) (sym (sourced_there x u o other)) ∙ current
]
notified_current x u within false o current = (still_current _ (kept_at u o) (sym (ap (λ (k : Kept). k.current) (told_kept (λ y. y == x) u o)) ∙ current)).1

pub notified_last : (x : ℕ) (u : State) → x < length u.kept → (b : Bool) (o : ℕ)
    → (kept_at (notified_as b x u) o).last ≡ (kept_at u o).last
notified_last x u within true o = kept_with u x (record (kept_at u x) { source = true }) (λ a b. a.last ≡ b.last) (λ j. refl) refl o
notified_last x u within false o = ap (λ (k : Kept). k.last) (told_kept (λ y. y == x) u o)
    ∙ unsettled_last (told u (λ y. y == x) o) (kept_at u o)

-- nothing lies beneath itself
pub near_apart : (m : Market) (x : ℕ) → IsLinked m → (y : ℕ) → Near m y x → y ≢ x
near_apart m x links y near same = let r = ranks_of m links in meets_not_itself (edges m) (is_forwarder m) r.0 r.1 x (subst (λ (z : ℕ). Near m z x) same near)

-- what is near x is no watcher, and is not told by x
near_plain : (m : Market) (x : ℕ) → IsLinked m → (y : ℕ) → Near m y x → IsPlain m y
near_plain m x links y near = let e = meets_edge (edges m) (is_forwarder m) y x near in observed_plain m y (links.observed e.0 y e.1)

below_apart : (u : State) (x : ℕ) → IsLinked u.market → RegistersWatchers u → (y : ℕ) → Near u.market y x
    → told u (λ z. z == x) y ≡ true → ⊥
below_apart u x links only y near is =
    let k = ranks_of u.market links in
    let up = below_falls (edges u.market) (λ z. z == x) (forwards u) k.0 k.1 y (below_told u links only (λ z. z == x) y (near_plain u.market x links y near) is) in
    let down = below_falls (edges u.market) (λ z. z == y) (is_forwarder u.market) k.0 k.1 x near in
    let a = ap k.0 (eqb-true up.0 x up.1) in let b = ap k.0 (eqb-true down.0 y down.1) in
    let f = up.2 in let g = down.2 in omega arith

-- what is beneath a notice stays as it was
pub beneath_at : (u : State) (x : ℕ) → IsLinked u.market → RegistersWatchers u → (b : Bool) (y : ℕ) → Near u.market y x
    → kept_at (notified_as b x u) y ≡ kept_at u y
beneath_at u x links only true y near = sourced_there x u y (near_apart u.market x links y near)
beneath_at u x links only false y near = told_kept (λ z. z == x) u y
    ∙ ap (λ (t : Bool). unsettled t (kept_at u y)) (false_from_ne_true (told u (λ z. z == x) y) (λ is. below_apart u x links only y near is))

-- a watcher that is noticed is a watcher
noticed_watcher : (passes : ℕ → Bool) (from w : ℕ) (slots : List Slot) → Among w (watchers_where passes from slots)
    → (i : ℕ) × (w ≡ from + i) × (is_watcher (slice_index_or slots i Free) ≡ true)
noticed_watcher passes from w [] among = absurd among
noticed_watcher passes from w (slot ∷ slots) among = by_watcher (is_watcher slot) refl (passes from) among (λ more. noticed_watcher passes (from + 1) w slots more)
  where
    later : (i : ℕ) × (w ≡ from + 1 + i) × (is_watcher (slice_index_or slots i Free) ≡ true)
        → (i : ℕ) × (w ≡ from + i) × (is_watcher (slice_index_or (slot ∷ slots) i Free) ≡ true)
    later l = let e = l.1 in (suc l.0, omega arith, l.2)

    by_watcher : (b : Bool) → is_watcher slot ≡ b → (c : Bool)
        → Among w (if b && c then from ∷ watchers_where passes (from + 1) slots else watchers_where passes (from + 1) slots)
        → (Among w (watchers_where passes (from + 1) slots) → (i : ℕ) × (w ≡ from + 1 + i) × (is_watcher (slice_index_or slots i Free) ≡ true))
        → (i : ℕ) × (w ≡ from + i) × (is_watcher (slice_index_or (slot ∷ slots) i Free) ≡ true)
    by_watcher true is true (inl same) more = (0, omega arith, is)
    by_watcher true is true (inr among) more = later (more among)
    by_watcher true is false among more = later (more among)
    by_watcher false is c among more = later (more among)

pub told_watcher : (from : ℕ → Bool) (u : State) (w : ℕ) → Among w (tell from u).noticed
    → is_watcher (slot_at u.market w) ≡ true
unfolding tell
told_watcher from u w among =
    let n = noticed_watcher (λ o. list_any (λ w. w == o) u.noticed || told u from o) 0 w u.market.objects among in
    let e = n.1 in let same : n.0 ≡ w = omega arith in
    subst (λ (i : ℕ). is_watcher (slot_at u.market i) ≡ true) same n.2

-- THE SHAPE of a state is kept by a notice, and by a source
pub whole_told : (from : ℕ → Bool) (u : State) → IsWhole u → IsWhole (tell from u)
unfolding tell
whole_told from u whole = record {
  length = told_length from u ∙ whole.length;
  today = whole.today;
  links = whole.links;
  lazy = λ o current. whole.lazy o (still_current _ (kept_at u o) (sym (ap (λ (k : Kept). k.current) (told_kept from u o)) ∙ current)).1;
  frozen = λ o is. whole.frozen o (sym (ap (λ (k : Kept). k.frozen) (told_kept from u o) ∙ (unsettled_flags (told u from o) (kept_at u o)).0) ∙ is);
  forward = λ o is. whole.forward o (sym (ap (λ (k : Kept). k.forward) (told_kept from u o) ∙ unsettled_forward (told u from o) (kept_at u o)) ∙ is);
  valued = λ o value is. whole.valued o value (sym (ap (λ (k : Kept). k.last) (told_kept from u o) ∙ unsettled_last (told u from o) (kept_at u o)) ∙ is);
  registered = whole.registered;
  noticed = told_watcher from u;
}

-- other flags of one object, as long as they are set of lazy objects alone and a value is one that it may have
pub whole_with : (x : ℕ) (k : Kept) (u : State) → IsWhole u → (k.current ≡ true → is_lazy_at u.market x ≡ true)
    → (k.frozen ≡ true → is_lazy_at u.market x ≡ true) → (k.forward ≡ true → is_lazy_at u.market x ≡ true)
    → ((value : Value) → k.last ≡ Some value → IsValued (terms_at u.market x) x value)
    → IsWhole (with_kept x k u)
whole_with x k u whole current frozen forward valued = record {
  length = length-set u.kept x k ∙ whole.length;
  today = whole.today;
  links = whole.links;
  lazy = λ o is. kept_is x k u (λ (z : ℕ). is_lazy_at u.market z ≡ true) (λ (j : Kept). j.current ≡ true) o is (λ is. current is) (λ is. whole.lazy o is);
  frozen = λ o is. kept_is x k u (λ (z : ℕ). is_lazy_at u.market z ≡ true) (λ (j : Kept). j.frozen ≡ true) o is (λ is. frozen is) (λ is. whole.frozen o is);
  forward = λ o is. kept_is x k u (λ (z : ℕ). is_lazy_at u.market z ≡ true) (λ (j : Kept). j.forward ≡ true) o is (λ is. forward is) (λ is. whole.forward o is);
  valued = λ o value is. kept_is x k u (λ (z : ℕ). IsValued (terms_at u.market z) z value) (λ (j : Kept). j.last ≡ Some value) o is (λ is. valued value is) (λ is. whole.valued o value is);
  registered = whole.registered;
  noticed = whole.noticed;
}
  where
    kept_is : (x : ℕ) (k : Kept) (u : State) (Q : ℕ → Type 0) (P : Kept → Type 0) (o : ℕ)
        → P (kept_at (with_kept x k u) o) → (P k → Q x) → (P (kept_at u o) → Q o) → Q o
    kept_is x k u Q P o is new old = elim (cases_eq o x) [
      | inr other ↦ old (subst P (get_or-set_other u.kept x o k unpriced other) is)
      | inl same ↦ elim (cases_lt x (length u.kept)) [
        | inl within ↦ subst Q (sym same) (new (subst P (ap (kept_at (with_kept x k u)) same ∙ get_or-set_same u.kept x k unpriced within) is))
        | inr past ↦ old (subst P (ap (kept_at (with_kept x k u)) same ∙ (get_or_past (slice_set u.kept x k) x unpriced (let e = length-set u.kept x k in omega arith) ∙ sym (ap (kept_at u) same ∙ get_or_past u.kept x unpriced past))) is)
      ]
    ]

pub whole_sourced : (x : ℕ) (u : State) → IsWhole u → IsWhole (sourced x u)
whole_sourced x u whole = whole_with x (record (kept_at u x) { source = true }) u whole (whole.lazy x) (whole.frozen x) (whole.forward x) (whole.valued x)

pub whole_notified : (x : ℕ) (u : State) → IsWhole u → (b : Bool) → IsWhole (notified_as b x u)
whole_notified x u whole true = whole_sourced x u whole
whole_notified x u whole false = whole_told (λ y. y == x) u whole

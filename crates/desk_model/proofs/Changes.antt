-- A change of an object's own terms, or of the day, keeps the shape of a state, and all that is current.
use Rattle.std.proofs.Common.{◌≡◌, ◌≢◌, ◌⊎◌, inl, inr, ℕ, suc, ◌<◌, Bool, true, false, length, Some, ℤ, refl, sym, ◌∙◌, ap, subst, arith}
use Rattle.std.specs.Prelude.{◌==◌, slice_set, if◌then◌else◌}
use Rattle.std.specs.Ordering.{int_eq}
use Rattle.std.proofs.lemmas.List.{get_or-set_same, get_or-set_other, get_or_past, length-set}
use Rattle.std.proofs.lemmas.Bool.{cases_eq, cases_lt, false≢true, false_from_ne_true}
use Rattle.walks.specs.Walk.{below_by, Among}
use Rattle.walks.proofs.Lifted.{acyclic_fewer, acyclic_joined}
use Rattle.desk_terms.specs.declared.terms.Terms.{Terms}
use Rattle.desk_terms.specs.declared.terms.Terms.TheVariants.{Quote, Derived, Handle, Curve, Implied, Index, Engine, Stock, Composite, Flows}
use Rattle.desk_terms.specs.declared.terms.HandleKind as handle
use Rattle.desk_terms.specs.declared.kind.Kind as kind
use Rattle.desk_terms.specs.Kind.{role}
use Rattle.desk_terms.specs.Terms.{kind_of}
use Rattle.desk_terms.specs.Reading.{IsValueOf}
use Rattle.desk_terms.specs.declared.value.Value.{Value}
use Rattle.desk_model.specs.declared.kept.Kept.{Kept}
use Rattle.desk_model.specs.declared.slot.Slot.{Slot}
use Rattle.desk_model.specs.declared.slot.Slot.TheVariants.{Free, Today, Watcher, Live}
use Rattle.desk_model.specs.Market.{Market, slot_at, terms_in, terms_at, kind_in, kind_at, is_observable, is_watcher, role_of, is_lazy, edges_of, edges}
use Rattle.desk_model.specs.State.{State, kept_at, unpriced, is_frozen, is_source}
use Rattle.desk_model.specs.Links.{is_lazy_at, IsLinked, IsValued, IsWhole, reaches, MayStand}
use Rattle.desk_model.specs.Links.MayStand.{keeps, joins}
use Rattle.desk_model.specs.Effect.{notified, with_terms, revised, with_today, today_set}
use Rattle.desk_model.specs.Laws.{Keeps}
use Rattle.desk_model.proofs.Bounds.{ranks_of}
use Rattle.desk_model.proofs.Carried.{keeps_itself}
use Rattle.desk_model.proofs.Stores.{kept_with}
use Rattle.desk_model.proofs.Watchers.{whole_registers}
use Rattle.desk_model.proofs.Tells.{DiffersAt, keeps_notified, whole_notified}

reaches_not : (m : Market) (target x : ℕ) → reaches m target x ≡ false
    → below_by (edges m) (λ y. y == x) (λ y. true) (suc (length m.objects)) target ≡ false
unfolding reaches
reaches_not m target x e = e

-- what is observable is among the objects
pub observed_within : (m : Market) (x : ℕ) → is_observable (slot_at m x) ≡ true → x < length m.objects
observed_within m x is = elim (cases_lt x (length m.objects)) [
  | inl within ↦ within
  | inr past ↦ absurd (false≢true (sym (ap is_observable (get_or_past m.objects x Free past)) ∙ is))
]

pub lazy_within : (m : Market) (x : ℕ) → is_lazy_at m x ≡ true → x < length m.objects
lazy_within m x is = elim (cases_lt x (length m.objects)) [
  | inl within ↦ within
  | inr past ↦ absurd (false≢true (sym (ap (λ (t : Slot). is_lazy (role_of (terms_in t))) (get_or_past m.objects x Free past)) ∙ is))
]

-- an object with the kind of terms has terms of that kind
not_today : (terms : Terms) → kind_of terms ≡ kind.TheVariants.Today → ⊥
not_today (Quote value) e = cc
not_today (Derived minus first second) e = cc
not_today (Handle handle.TheVariants.Quote target) e = cc
not_today (Handle handle.TheVariants.Curve target) e = cc
not_today (Curve terms) e = cc
not_today (Implied curve reference) e = cc
not_today (Index terms fixings) e = cc
not_today (Engine curve) e = cc
not_today (Stock quote) e = cc
not_today (Composite parts) e = cc
not_today (Flows flows engine) e = cc

not_watcher : (terms : Terms) → kind_of terms ≡ kind.TheVariants.Watcher → ⊥
not_watcher (Quote value) e = cc
not_watcher (Derived minus first second) e = cc
not_watcher (Handle handle.TheVariants.Quote target) e = cc
not_watcher (Handle handle.TheVariants.Curve target) e = cc
not_watcher (Curve terms) e = cc
not_watcher (Implied curve reference) e = cc
not_watcher (Index terms fixings) e = cc
not_watcher (Engine curve) e = cc
not_watcher (Stock quote) e = cc
not_watcher (Composite parts) e = cc
not_watcher (Flows flows engine) e = cc

some_kind : (a b : kind.Kind) → Some a ≡ Some b → b ≡ a
some_kind a b e = cc

pub live_in : (slot : Slot) (terms : Terms) → kind_in slot ≡ Some (kind_of terms)
    → (old : Terms) × (slot ≡ Live old) × (kind_of terms ≡ kind_of old)
live_in Free terms is = absurd (cc)
live_in Today terms is = absurd (not_today terms (some_kind kind.TheVariants.Today (kind_of terms) is))
live_in Watcher terms is = absurd (not_watcher terms (some_kind kind.TheVariants.Watcher (kind_of terms) is))
live_in (Live old) terms is = (old, refl, some_kind (kind_of old) (kind_of terms) is)

today_live : (terms : Terms) → Today ≡ Live terms → ⊥
today_live terms e = cc

-- Other terms of x, of the same kind.
module _ (s : State) (x : ℕ) (terms : Terms) where
  pub slot_there : (o : ℕ) → o ≢ x → slot_at (with_terms x terms s).market o ≡ slot_at s.market o
  slot_there o other = get_or-set_other s.market.objects x o (Live terms) Free other

  pub slot_here : x < length s.market.objects → slot_at (with_terms x terms s).market x ≡ Live terms
  slot_here within = get_or-set_same s.market.objects x (Live terms) Free within

  stale_here : (kept_at (with_terms x terms s) x).current ≡ false
  stale_here = elim (cases_lt x (length s.kept)) [
    | inl within ↦ ap (λ (k : Kept). k.current) (get_or-set_same s.kept x (record (kept_at s x) { current = false }) unpriced within)
    | inr past ↦ ap (λ (k : Kept). k.current) (get_or_past (slice_set s.kept x (record (kept_at s x) { current = false })) x unpriced (let e = length-set s.kept x (record (kept_at s x) { current = false }) in omega arith))
  ]

  differs : DiffersAt x s (with_terms x terms s)
  unfolding is_source is_frozen
  differs = record {
    length = let e = length-set s.market.objects x (Live terms) in omega arith;
    same = λ o other. record { terms = ap terms_in (slot_there o other); day = λ is. refl };
    kept = λ o other. get_or-set_other s.kept x o (record (kept_at s x) { current = false }) unpriced other;
    source = kept_with s x (record (kept_at s x) { current = false }) (λ a b. a.source ≡ b.source) (λ j. refl) refl;
    deferring = refl;
    frozen = λ o other. ap (λ (k : Kept). k.frozen) (get_or-set_other s.kept x o (record (kept_at s x) { current = false }) unpriced other);
  }

  kept_long : length (with_terms x terms s).kept ≡ length s.kept
  kept_long = length-set s.kept x (record (kept_at s x) { current = false })

  module _ (whole : IsWhole s) (same_kind : kind_at s.market x ≡ Some (kind_of terms)) where
    was : (old : Terms) × (slot_at s.market x ≡ Live old) × (kind_of terms ≡ kind_of old)
    was = live_in (slot_at s.market x) terms same_kind

    observed_here : is_observable (slot_at s.market x) ≡ true
    observed_here = ap is_observable (live_in (slot_at s.market x) terms same_kind).1

    pub within_here : x < length s.market.objects
    within_here = observed_within s.market x (ap is_observable (live_in (slot_at s.market x) terms same_kind).1)

    -- what is observable is so still, a watcher is one still, and what is lazy
    observed_then : (y : ℕ) → is_observable (slot_at s.market y) ≡ true
        → is_observable (slot_at (with_terms x terms s).market y) ≡ true
    observed_then y is = elim (cases_eq y x) [
      | inl same ↦ ap (λ (z : ℕ). is_observable (slot_at (with_terms x terms s).market z)) same ∙ ap is_observable (slot_here within_here)
      | inr other ↦ ap is_observable (slot_there y other) ∙ is
    ]

    watcher_then : (w : ℕ) → is_watcher (slot_at s.market w) ≡ true
        → is_watcher (slot_at (with_terms x terms s).market w) ≡ true
    watcher_then w is = elim (cases_eq w x) [
      | inl same ↦ absurd (false≢true (sym (ap is_watcher (live_in (slot_at s.market x) terms same_kind).1) ∙ (ap (λ (z : ℕ). is_watcher (slot_at s.market z)) (sym same) ∙ is)))
      | inr other ↦ ap is_watcher (slot_there w other) ∙ is
    ]

    lazy_then : (o : ℕ) → is_lazy_at s.market o ≡ true → is_lazy_at (with_terms x terms s).market o ≡ true
    lazy_then o is = elim (cases_eq o x) [
      | inl same ↦
          let l = live_in (slot_at s.market x) terms same_kind in
          ap (λ (z : ℕ). is_lazy_at (with_terms x terms s).market z) same
          ∙ ap (λ (t : Slot). is_lazy (role_of (terms_in t))) (slot_here within_here)
          ∙ ap (λ (k : kind.Kind). is_lazy (role k)) l.2
          ∙ ap (λ (t : Slot). is_lazy (role_of (terms_in t))) (sym l.1)
          ∙ ap (λ (z : ℕ). is_lazy_at s.market z) (sym same)
          ∙ is
      | inr other ↦ ap (λ (t : Slot). is_lazy (role_of (terms_in t))) (slot_there o other) ∙ is
    ]

    -- the edges that there are then
    edges_then : (o y : ℕ) → Among y (edges (with_terms x terms s).market o)
        → ((o ≡ x) × Among y (edges_of (Some terms))) ⊎ ((o ≢ x) × Among y (edges s.market o))
    edges_then o y among = elim (cases_eq o x) [
      | inl same ↦ inl (same, subst (λ (t : Slot). Among y (edges_of (terms_in t))) (slot_here within_here) (subst (λ (z : ℕ). Among y (edges (with_terms x terms s).market z)) same among))
      | inr other ↦ inr (other, subst (λ (t : Slot). Among y (edges_of (terms_in t))) (slot_there o other) among)
    ]

    pub links_revised : MayStand s.market x terms → IsLinked (with_terms x terms s).market
    links_revised (keeps old) = record {
      within = λ o y among. let e = length-set s.market.objects x (Live terms) in let low = whole.links.within o y (fewer o y among) in omega arith;
      observed = λ o y among. observed_then y (whole.links.observed o y (fewer o y among));
      acyclic = acyclic_fewer (edges s.market) (edges (with_terms x terms s).market) fewer whole.links.acyclic;
    }
      where
        fewer : (o y : ℕ) → Among y (edges (with_terms x terms s).market o) → Among y (edges s.market o)
        fewer o y among = elim (edges_then o y among) [
          | inr was ↦ was.1
          | inl is ↦ subst (λ (z : ℕ). Among y (edges s.market z)) (sym is.0) (old y is.1)
        ]
    links_revised (joins target live other apart new) = record {
      within = λ o y among. let e = length-set s.market.objects x (Live terms) in elim (joined o y among) [
        | inl was ↦ let low = whole.links.within o y was in omega arith
        | inr is ↦ let low = observed_within s.market target live in let same = is.1 in omega arith
      ];
      observed = λ o y among. elim (joined o y among) [
        | inl was ↦ observed_then y (whole.links.observed o y was)
        | inr is ↦ observed_then y (subst (λ (z : ℕ). is_observable (slot_at s.market z) ≡ true) (sym is.1) live)
      ];
      acyclic = let r = ranks_of s.market whole.links in acyclic_joined (edges s.market) (edges (with_terms x terms s).market) r.0 (suc (length s.market.objects)) x target r.1 r.2 joined other (reaches_not s.market target x apart);
    }
      where
        joined : (o y : ℕ) → Among y (edges (with_terms x terms s).market o)
            → Among y (edges s.market o) ⊎ ((o ≡ x) × (y ≡ target))
        joined o y among = elim (edges_then o y among) [
          | inr was ↦ inl was.1
          | inl is ↦ elim (new y is.1) [
            | inl was ↦ inl (subst (λ (z : ℕ). Among y (edges s.market z)) (sym is.0) was)
            | inr same ↦ inr (is.0, same)
          ]
        ]

    not_zero : 0 ≢ x
    not_zero same = today_live (live_in (slot_at s.market x) terms same_kind).0 (sym whole.today ∙ ap (slot_at s.market) same ∙ (live_in (slot_at s.market x) terms same_kind).1)

    valued_then : (o : ℕ) (value : Value) → IsValued (terms_at s.market o) o value
        → IsValued (terms_at (with_terms x terms s).market o) o value
    valued_then o value is = elim (cases_eq o x) [
      | inr other ↦ subst (λ (t : Slot). IsValued (terms_in t) o value) (sym (slot_there o other)) is
      | inl same ↦
          let l = live_in (slot_at s.market x) terms same_kind in
          let old : IsValueOf (kind_of l.0) o value = subst (λ (t : Slot). IsValued (terms_in t) o value) (ap (slot_at s.market) same ∙ l.1) is in
          subst (λ (t : Slot). IsValued (terms_in t) o value) (sym (ap (slot_at (with_terms x terms s).market) same ∙ slot_here within_here))
          (subst (λ (k : kind.Kind). IsValueOf k o value) (sym l.2) old)
    ]

    pub whole_with_terms : IsLinked (with_terms x terms s).market → IsWhole (with_terms x terms s)
    whole_with_terms links = record {
      length = kept_long ∙ (whole.length ∙ sym (length-set s.market.objects x (Live terms)));
      today = slot_there 0 not_zero ∙ whole.today;
      links = links;
      lazy = λ o current. lazy_then o (whole.lazy o (kept_with s x (record (kept_at s x) { current = false }) (λ a b. a.current ≡ true → b.current ≡ true) (λ j e. e) (λ e. absurd (cc)) o current));
      frozen = λ o is. lazy_then o (whole.frozen o (kept_with s x (record (kept_at s x) { current = false }) (λ a b. a.frozen ≡ true → b.frozen ≡ true) (λ j e. e) (λ e. e) o is));
      forward = λ o is. lazy_then o (whole.forward o (kept_with s x (record (kept_at s x) { current = false }) (λ a b. a.forward ≡ true → b.forward ≡ true) (λ j e. e) (λ e. e) o is));
      valued = λ o value is. valued_then o value (whole.valued o value (kept_with s x (record (kept_at s x) { current = false }) (λ a b. a.last ≡ Some value → b.last ≡ Some value) (λ j e. e) (λ e. e) o is));
      registered = λ w o among. let r = whole.registered w o among in record { watcher = watcher_then w r.watcher; observed = observed_then o r.observed };
      noticed = λ w among. watcher_then w (whole.noticed w among);
    }

    -- A CHANGE OF TERMS keeps the shape, and all that is current
    pub revised_keeps : MayStand s.market x terms → Keeps s (revised x terms s)
    unfolding revised notified
    revised_keeps may = record {
      whole = whole_notified x (with_terms x terms s) (whole_with_terms (links_revised may)) s.deferring;
      current = keeps_notified x s (with_terms x terms s) whole (links_revised may) (whole_registers (with_terms x terms s) (whole_with_terms (links_revised may))) (let e = kept_long in let w = whole.length in let l = within_here in omega arith) differs stale_here s.deferring refl;
    }

-- Another day.
module _ (s : State) (day : ℤ) (whole : IsWhole s) where
  differs_today : DiffersAt 0 s (with_today day s)
  unfolding is_source is_frozen
  differs_today = record {
    length = omega arith;
    same = λ o other. record { terms = refl; day = λ is. absurd (other is) };
    kept = λ o other. refl;
    source = λ o. refl;
    deferring = refl;
    frozen = λ o other. refl;
  }

  whole_today : IsWhole (with_today day s)
  whole_today = record {
    length = whole.length;
    today = whole.today;
    links = record { within = whole.links.within; observed = whole.links.observed; acyclic = whole.links.acyclic };
    lazy = whole.lazy;
    frozen = whole.frozen;
    forward = whole.forward;
    valued = whole.valued;
    registered = λ w o among. let r = whole.registered w o among in record { watcher = r.watcher; observed = r.observed };
    noticed = whole.noticed;
  }

  stale_today : (kept_at s 0).current ≡ false
  stale_today = false_from_ne_true (kept_at s 0).current (λ is. false≢true (sym (ap (λ (t : Slot). is_lazy (role_of (terms_in t))) whole.today) ∙ whole.lazy 0 is))

  within_today : 0 < length s.kept
  within_today = let e = whole.length in let l = observed_within s.market 0 (ap is_observable whole.today) in omega arith

  pub today_keeps : Keeps s (today_set day s)
  unfolding today_set notified
  today_keeps = by_same (int_eq s.market.today day)
    where
      by_same : (b : Bool) → Keeps s (if b then s else notified 0 (with_today day s))
      by_same true = keeps_itself s whole
      by_same false = record {
        whole = whole_notified 0 (with_today day s) whole_today s.deferring;
        current = keeps_notified 0 s (with_today day s) whole whole_today.links (whole_registers (with_today day s) whole_today) within_today differs_today stale_today s.deferring refl;
      }

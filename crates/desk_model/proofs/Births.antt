-- An object that is made, and one that is dropped: the shape of a state and all that is current are kept.
use Rattle.std.proofs.Common.{◌≡◌, ◌≢◌, inl, inr, ℕ, suc, ◌<◌, ◌≤◌, Bool, true, false, List, [], ◌∷◌, ◌++◌, length, Some, None, refl, sym, ◌∙◌, ap, subst, arith}
use Rattle.std.specs.Prelude.{◌||◌, ◌==◌, if◌then◌else◌, slice_set}
use Rattle.std.proofs.lemmas.List.{get_or-set_same, get_or-set_other, get_or_append_left, get_or_past, get_or_push, length-append, length-set}
use Rattle.std.proofs.lemmas.Bool.{cases_eq, cases_lt, false≢true, eqb-false, eqb-true}
use Rattle.walks.specs.Walk.{Among, IsWithin}
use Rattle.walks.proofs.Ranks.{meets_edge}
use Rattle.walks.proofs.Lifted.{acyclic_fewer, acyclic_added}
use Rattle.desk_terms.specs.declared.value.Value.{Value}
use Rattle.desk_model.specs.declared.kept.Kept.{Kept}
use Rattle.desk_model.specs.declared.slot.Slot.{Slot}
use Rattle.desk_model.specs.declared.slot.Slot.TheVariants.{Free}
use Rattle.desk_model.specs.Market.{Market, slot_at, terms_in, terms_at, is_observable, is_watcher, role_of, is_lazy, is_forwarder, edges_of, edges}
use Rattle.desk_model.specs.State.{State, kept_at, unpriced, is_frozen, is_source}
use Rattle.desk_model.specs.Told.{registered}
use Rattle.desk_model.specs.Links.{is_lazy_at, IsLinked, IsValued, IsWhole}
use Rattle.desk_model.specs.Laws.{Keeps, MayBeMade}
use Rattle.desk_model.specs.Effect.{added, without_pairs, dropped}
use Rattle.desk_model.proofs.Edges.{without_fewer, without_gone}
use Rattle.desk_model.proofs.Carried.{ChangesAt, all_keep}
use Rattle.desk_model.proofs.Changes.{observed_within, lazy_within}

watcher_within : (m : Market) (x : ℕ) → is_watcher (slot_at m x) ≡ true → x < length m.objects
watcher_within m x is = elim (cases_lt x (length m.objects)) [
  | inl within ↦ within
  | inr past ↦ absurd (false≢true (sym (ap is_watcher (get_or_past m.objects x Free past)) ∙ is))
]

-- A new object.
module _ (s : State) (slot : Slot) where
  pub old_slot : (o : ℕ) → o ≢ length s.market.objects → slot_at (added slot s).market o ≡ slot_at s.market o
  old_slot o other = elim (cases_lt o (length s.market.objects)) [
    | inl within ↦ get_or_append_left s.market.objects (slot ∷ []) Free o within
    | inr past ↦ get_or_past (s.market.objects ++ slot ∷ []) o Free (above_all past) ∙ sym (get_or_past s.market.objects o Free past)
  ]
    where
      above_all : length s.market.objects ≤ o → length (s.market.objects ++ slot ∷ []) ≤ o
      above_all past = elim (cases_lt o (suc (length s.market.objects))) [
        | inl low ↦ absurd (other (omega arith))
        | inr high ↦ let e = length-append s.market.objects (slot ∷ []) in omega arith
      ]

  pub new_slot : slot_at (added slot s).market (length s.market.objects) ≡ slot
  new_slot = get_or_push s.market.objects slot Free (length s.market.objects) refl

  -- what was there is there
  pub old_within : (o : ℕ) → o < length s.market.objects → slot_at (added slot s).market o ≡ slot_at s.market o
  old_within o within = old_slot o (λ same. omega arith)

  pub added_kept : (o : ℕ) → kept_at (added slot s) o ≡ kept_at s o
  added_kept o = elim (cases_lt o (length s.kept)) [
    | inl within ↦ get_or_append_left s.kept (unpriced ∷ []) unpriced o within
    | inr past ↦ elim (cases_eq o (length s.kept)) [
      | inl same ↦ get_or_push s.kept unpriced unpriced o (sym same) ∙ sym (get_or_past s.kept o unpriced past)
      | inr other ↦ get_or_past (s.kept ++ unpriced ∷ []) o unpriced (above_all past other) ∙ sym (get_or_past s.kept o unpriced past)
    ]
  ]
    where
      above_all : length s.kept ≤ o → (o ≡ length s.kept → ⊥) → length (s.kept ++ unpriced ∷ []) ≤ o
      above_all past other = elim (cases_lt o (suc (length s.kept))) [
        | inl low ↦ absurd (other (omega arith))
        | inr high ↦ let e = length-append s.kept (unpriced ∷ []) in omega arith
      ]

  module _ (whole : IsWhole s) (fits : MayBeMade s.market slot) where
    within_old : IsWithin (edges (added slot s).market) (length s.market.objects)
    within_old o y among = elim (cases_eq o (length s.market.objects)) [
      | inl same ↦ observed_within s.market y (fits y (subst (λ (t : Slot). Among y (edges_of (terms_in t))) (ap (slot_at (added slot s).market) same ∙ new_slot) among))
      | inr other ↦ whole.links.within o y (subst (λ (t : Slot). Among y (edges_of (terms_in t))) (old_slot o other) among)
    ]

    observed_then : (y : ℕ) → is_observable (slot_at s.market y) ≡ true
        → is_observable (slot_at (added slot s).market y) ≡ true
    observed_then y is = ap is_observable (old_within y (observed_within s.market y is)) ∙ is

    links_added : IsLinked (added slot s).market
    links_added = record {
      within = λ o y among. let low = within_old o y among in let e = length-append s.market.objects (slot ∷ []) in omega arith;
      observed = λ o y among. elim (cases_eq o (length s.market.objects)) [
        | inl same ↦ observed_then y (fits y (subst (λ (t : Slot). Among y (edges_of (terms_in t))) (ap (slot_at (added slot s).market) same ∙ new_slot) among))
        | inr other ↦ observed_then y (whole.links.observed o y (subst (λ (t : Slot). Among y (edges_of (terms_in t))) (old_slot o other) among))
      ];
      acyclic = acyclic_added (edges s.market) (edges (added slot s).market) (length s.market.objects) within_old (λ o other. ap (λ (t : Slot). edges_of (terms_in t)) (old_slot o other)) whole.links.acyclic;
    }

    lazy_then : (o : ℕ) → is_lazy_at s.market o ≡ true → is_lazy_at (added slot s).market o ≡ true
    lazy_then o is = ap (λ (t : Slot). is_lazy (role_of (terms_in t))) (old_within o (lazy_within s.market o is)) ∙ is

    watcher_then : (w : ℕ) → is_watcher (slot_at s.market w) ≡ true
        → is_watcher (slot_at (added slot s).market w) ≡ true
    watcher_then w is = ap is_watcher (old_within w (watcher_within s.market w is)) ∙ is

    valued_then : (o : ℕ) (value : Value) → IsValued (terms_at s.market o) o value
        → IsValued (terms_at (added slot s).market o) o value
    valued_then o value is = elim (cases_eq o (length s.market.objects)) [
      | inl same ↦ absurd (subst (λ (t : Slot). IsValued (terms_in t) o value) (get_or_past s.market.objects o Free (omega arith)) is)
      | inr other ↦ subst (λ (t : Slot). IsValued (terms_in t) o value) (sym (old_slot o other)) is
    ]

    whole_added : IsWhole (added slot s)
    whole_added = record {
      length = let a = length-append s.kept (unpriced ∷ []) in let b = length-append s.market.objects (slot ∷ []) in let c = whole.length in omega arith;
      today = old_within 0 (observed_within s.market 0 (ap is_observable whole.today)) ∙ whole.today;
      links = links_added;
      lazy = λ o is. lazy_then o (whole.lazy o (ap (λ (k : Kept). k.current) (sym (added_kept o)) ∙ is));
      frozen = λ o is. lazy_then o (whole.frozen o (ap (λ (k : Kept). k.frozen) (sym (added_kept o)) ∙ is));
      forward = λ o is. lazy_then o (whole.forward o (ap (λ (k : Kept). k.forward) (sym (added_kept o)) ∙ is));
      valued = λ o value is. valued_then o value (whole.valued o value (ap (λ (k : Kept). k.last) (sym (added_kept o)) ∙ is));
      registered = λ w o among. let r = whole.registered w o among in record { watcher = watcher_then w r.watcher; observed = observed_then o r.observed };
      noticed = λ w among. watcher_then w (whole.noticed w among);
    }

    change : ChangesAt (length s.market.objects) s (added slot s)
    unfolding is_source is_frozen
    change = record {
      length = let e = length-append s.market.objects (slot ∷ []) in omega arith;
      same = λ o other. record { terms = ap terms_in (old_slot o other); day = λ is. refl };
      last = λ o other. ap (λ (k : Kept). k.last) (added_kept o);
      source = λ o other is. ap (λ (k : Kept). k.source) (added_kept o) ∙ is;
      current = λ o other current. ap (λ (k : Kept). k.current) (sym (added_kept o)) ∙ current;
      near = λ o other current near.
          let m = meets_edge (edges (added slot s).market) (is_forwarder (added slot s).market) (length s.market.objects) o near in
          let low = within_old m.0 (length s.market.objects) m.1 in absurd (omega arith);
      ready = λ o y other apart current near ready. ap (λ (k : Kept). k.frozen || k.current) (added_kept y) ∙ ready;
    }

    -- AN OBJECT THAT IS MADE leaves all others as they were
    pub added_keeps : Keeps s (added slot s)
    unfolding is_source
    added_keeps = record {
      whole = whole_added;
      current = all_keep (length s.market.objects) s (added slot s) whole.links links_added change
          (λ none off y. ap (λ (k : Kept). k.source) (added_kept y) ∙ none off y)
          (ap (λ (k : Kept). k.current) (added_kept (length s.market.objects)) ∙ ap (λ (k : Kept). k.current) (get_or_past s.kept (length s.market.objects) unpriced (let e = whole.length in omega arith)));
    }

-- the registrations that are left
left_pairs : (x w o : ℕ) (pairs : List (ℕ × ℕ)) → Among o (registered (without_pairs x pairs) w)
    → (w ≢ x) × (o ≢ x) × Among o (registered pairs w)
left_pairs x w o [] among = absurd among
left_pairs x w o (pair ∷ pairs) among = by_gone (pair.0 == x) refl (pair.1 == x) refl among (λ more. left_pairs x w o pairs more)
  where
    skipped : (b : Bool) → (w ≢ x) × (o ≢ x) × Among o (registered pairs w)
        → (w ≢ x) × (o ≢ x) × Among o (if b then pair.1 ∷ registered pairs w else registered pairs w)
    skipped true l = (l.0, l.1, inr l.2)
    skipped false l = l

    kept_pair : (b : Bool) → (pair.0 == w) ≡ b → pair.0 ≢ x → pair.1 ≢ x
        → Among o (if b then pair.1 ∷ registered (without_pairs x pairs) w else registered (without_pairs x pairs) w)
        → (Among o (registered (without_pairs x pairs) w) → (w ≢ x) × (o ≢ x) × Among o (registered pairs w))
        → (w ≢ x) × (o ≢ x) × Among o (if b then pair.1 ∷ registered pairs w else registered pairs w)
    kept_pair true is first second (inl same) more = ((λ (e : w ≡ x). first (eqb-true pair.0 w is ∙ e)), (λ (e : o ≡ x). second (sym same ∙ e)), inl same)
    kept_pair true is first second (inr among) more = skipped true (more among)
    kept_pair false is first second among more = more among

    by_gone : (b : Bool) → (pair.0 == x) ≡ b → (c : Bool) → (pair.1 == x) ≡ c
        → Among o (registered (if b || c then without_pairs x pairs else pair ∷ without_pairs x pairs) w)
        → (Among o (registered (without_pairs x pairs) w) → (w ≢ x) × (o ≢ x) × Among o (registered pairs w))
        → (w ≢ x) × (o ≢ x) × Among o (if pair.0 == w then pair.1 ∷ registered pairs w else registered pairs w)
    by_gone true first c second among more = skipped (pair.0 == w) (more among)
    by_gone false first true second among more = skipped (pair.0 == w) (more among)
    by_gone false first false second among more = kept_pair (pair.0 == w) refl (eqb-false pair.0 x first) (eqb-false pair.1 x second) among more

-- An object that none observes is dropped.
module _ (s : State) (x : ℕ) (whole : IsWhole s) (not_today : x ≢ 0) (unused : (o : ℕ) → Among x (edges s.market o) → ⊥) where
  same_day : (dropped x s).market.today ≡ s.market.today
  unfolding dropped
  same_day = refl

  pub left : (o : ℕ) → o ≢ x → slot_at (dropped x s).market o ≡ slot_at s.market o
  unfolding dropped
  left o other = get_or-set_other s.market.objects x o Free Free other

  pub gone : slot_at (dropped x s).market x ≡ Free
  unfolding dropped
  gone = elim (cases_lt x (length s.market.objects)) [
    | inl within ↦ get_or-set_same s.market.objects x Free Free within
    | inr past ↦ get_or_past (slice_set s.market.objects x Free) x Free (let e = length-set s.market.objects x Free in omega arith)
  ]

  left_kept : (o : ℕ) → o ≢ x → kept_at (dropped x s) o ≡ kept_at s o
  unfolding dropped
  left_kept o other = get_or-set_other s.kept x o unpriced unpriced other

  gone_kept : kept_at (dropped x s) x ≡ unpriced
  unfolding dropped
  gone_kept = elim (cases_lt x (length s.kept)) [
    | inl within ↦ get_or-set_same s.kept x unpriced unpriced within
    | inr past ↦ get_or_past (slice_set s.kept x unpriced) x unpriced (let e = length-set s.kept x unpriced in omega arith)
  ]

  left_edges : (o y : ℕ) → Among y (edges (dropped x s).market o) → Among y (edges s.market o)
  left_edges o y among = elim (cases_eq o x) [
    | inl same ↦ absurd (subst (λ (t : Slot). Among y (edges_of (terms_in t))) (ap (slot_at (dropped x s).market) same ∙ gone) among)
    | inr other ↦ subst (λ (t : Slot). Among y (edges_of (terms_in t))) (left o other) among
  ]

  same_length : length (dropped x s).market.objects ≡ length s.market.objects
  unfolding dropped
  same_length = length-set s.market.objects x Free

  same_kept_length : length (dropped x s).kept ≡ length s.kept
  unfolding dropped
  same_kept_length = length-set s.kept x unpriced

  links_dropped : IsLinked (dropped x s).market
  links_dropped = record {
    within = λ o y among. let low = whole.links.within o y (left_edges o y among) in let e = same_length in omega arith;
    observed = λ o y among.
        let was = left_edges o y among in
        ap is_observable (left y (λ (same : y ≡ x). unused o (subst (λ (z : ℕ). Among z (edges s.market o)) same was)))
        ∙ whole.links.observed o y was;
    acyclic = acyclic_fewer (edges s.market) (edges (dropped x s).market) left_edges whole.links.acyclic;
  }

  -- a flag that is set is set of another object
  lazy_left : (flag : Kept → Bool) → flag unpriced ≡ false
      → ((o : ℕ) → flag (kept_at s o) ≡ true → is_lazy_at s.market o ≡ true) → (o : ℕ)
      → flag (kept_at (dropped x s) o) ≡ true → is_lazy_at (dropped x s).market o ≡ true
  lazy_left flag off was o is = elim (cases_eq o x) [
    | inl same ↦ absurd (false≢true (sym off ∙ (ap flag (sym gone_kept) ∙ (ap (λ (z : ℕ). flag (kept_at (dropped x s) z)) (sym same) ∙ is))))
    | inr other ↦ ap (λ (t : Slot). is_lazy (role_of (terms_in t))) (left o other) ∙ was o (ap flag (sym (left_kept o other)) ∙ is)
  ]

  -- a last value is one of another object
  valued_left : (o : ℕ) (value : Value) → (kept_at (dropped x s) o).last ≡ Some value
      → IsValued (terms_at (dropped x s).market o) o value
  valued_left o value is = elim (cases_eq o x) [
    | inl same ↦ absurd (none_some value (sym (ap (λ (k : Kept). k.last) gone_kept) ∙ (ap (λ (z : ℕ). (kept_at (dropped x s) z).last) (sym same) ∙ is)))
    | inr other ↦ subst (λ (t : Slot). IsValued (terms_in t) o value) (sym (left o other)) (whole.valued o value (ap (λ (k : Kept). k.last) (sym (left_kept o other)) ∙ is))
  ]
    where
      none_some : (value : Value) → None ≡ Some value → ⊥
      none_some value e = cc

  registered_left : (w o : ℕ) → Among o (registered (dropped x s).registrations w)
      → (w ≢ x) × (o ≢ x) × Among o (registered s.registrations w)
  unfolding dropped
  registered_left w o among = left_pairs x w o s.registrations among

  noticed_left : (w : ℕ) → Among w (dropped x s).noticed → (w ≢ x) × Among w s.noticed
  unfolding dropped
  noticed_left w among = (without_gone w x s.noticed among, without_fewer w x s.noticed among)

  whole_dropped : IsWhole (dropped x s)
  whole_dropped = record {
    length = same_kept_length ∙ (whole.length ∙ sym same_length);
    today = left 0 (λ (same : 0 ≡ x). not_today (sym same)) ∙ whole.today;
    links = links_dropped;
    lazy = lazy_left (λ k. k.current) refl whole.lazy;
    frozen = lazy_left (λ k. k.frozen) refl whole.frozen;
    forward = lazy_left (λ k. k.forward) refl whole.forward;
    valued = valued_left;
    registered = λ w o among.
        let l = registered_left w o among in
        let r = whole.registered w o l.2 in
        record { watcher = ap is_watcher (left w l.0) ∙ r.watcher; observed = ap is_observable (left o l.1) ∙ r.observed };
    noticed = λ w among. let l = noticed_left w among in ap is_watcher (left w l.0) ∙ whole.noticed w l.1;
  }

  gone_change : ChangesAt x s (dropped x s)
  unfolding is_source is_frozen
  gone_change = record {
    length = let e = same_length in omega arith;
    same = λ o other. record { terms = ap terms_in (left o other); day = λ is. same_day };
    last = λ o other. ap (λ (k : Kept). k.last) (left_kept o other);
    source = λ o other is. ap (λ (k : Kept). k.source) (left_kept o other) ∙ is;
    current = λ o other current. ap (λ (k : Kept). k.current) (sym (left_kept o other)) ∙ current;
    near = λ o other current near.
        let m = meets_edge (edges (dropped x s).market) (is_forwarder (dropped x s).market) x o near in
        absurd (unused m.0 (left_edges m.0 x m.1));
    ready = λ o y other apart current near ready. ap (λ (k : Kept). k.frozen || k.current) (left_kept y apart) ∙ ready;
  }

  same_deferring : (dropped x s).deferring ≡ s.deferring
  unfolding dropped
  same_deferring = refl

  source_left : (y : ℕ) → is_source s y ≡ false → is_source (dropped x s) y ≡ false
  unfolding is_source
  source_left y is = elim (cases_eq y x) [
    | inl same ↦ ap (λ (z : ℕ). (kept_at (dropped x s) z).source) same ∙ ap (λ (k : Kept). k.source) gone_kept
    | inr other ↦ ap (λ (k : Kept). k.source) (left_kept y other) ∙ is
  ]

  -- AN OBJECT THAT IS DROPPED leaves all others as they were
  pub dropped_keeps : Keeps s (dropped x s)
  dropped_keeps = record {
    whole = whole_dropped;
    current = all_keep x s (dropped x s) whole.links links_dropped gone_change (λ none off y. source_left y (none (sym same_deferring ∙ off) y)) (ap (λ (k : Kept). k.current) gone_kept);
  }

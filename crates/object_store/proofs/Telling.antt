-- Whom a notice reaches is told, and what is told is not current.
use Rattle.std.proofs.Common.{◌≡◌, ◌⊎◌, inl, inr, ℕ, ◌<◌, Bool, true, false, List, [], ◌∷◌, ◌++◌, length, Option, None, Some, refl, sym, ◌∙◌, ap, subst, arith}
use Rattle.std.specs.Prelude.{ℤ, ◌↔◌, ◌==◌, ◌||◌, slice_index_or, slice_set, if◌then◌else◌}
use Rattle.std.specs.List.{list_any}
use Rattle.std.proofs.lemmas.List.{length-set, get_or-set_same, get_or-set_other, get_or_past}
use Rattle.std.proofs.lemmas.Bool.{cases_Bool, cases_eq, cases_lt, or_cases, or_left, or_right, eq-eqb, eqb-true, false≢true, false_from_ne_true}
use Rattle.walks.specs.Walk.{Among}
use Rattle.walks.proofs.Walks.{any_member, member_any}
use Rattle.walks.proofs.Ranks.{below_wider}
use Rattle.desk_terms.specs.declared.terms.Terms.{Terms}
use Rattle.desk_terms.specs.Kind as kind
use Rattle.desk_model.specs.declared.kept.Kept.{Kept}
use Rattle.desk_model.specs.declared.slot.Slot.{Slot}
use Rattle.desk_model.specs.declared.slot.Slot.TheVariants.{Live, Free, Today, Watcher}
use Rattle.desk_model.specs.Market.{edges, edges_of, terms_in, role_of, slot_at, is_given, is_watcher}
use Rattle.desk_model.specs.State.{State, unpriced, is_source, each_kept}
use Rattle.desk_model.specs.Told.{registered, subjects, forwards, forwards_as, told, tell, unsettled, noticed_then}
use Rattle.desk_model.specs.Links.{CanTell, IsRanged, AreRanged}
use Rattle.desk_model.specs.Sound.{HasNoSourceWhereOff}
use Rattle.desk_model.specs.Effect.{revised, notified, notified_as, all_told, resumed}
use Rattle.desk_model.proofs.Paths.{told_paths}
use Rattle.desk_model.proofs.Stores.{told_kept, told_length, length-each, each_all}
use Rattle.observer_graph.specs.declared.node.Role.{Role}
use Rattle.observer_graph.specs.declared.node.Role.TheVariants as role
use Rattle.observer_graph.proofs.Exactly.{below_there}
use Rattle.object_store.specs.Slots.{Registry, market_of, state_of, outdated}
use Rattle.object_store.specs.Shape.{IsJoined, role_at, observed_by, node_role, slot_role, registrations_of}
use Rattle.object_store.specs.Store.{StoreView, registry_of, Notices, HasNoMarkWhereOff, IsNotified, stored_at, stored_as, marked, passes_by, notified_kept}
use Rattle.object_store.proofs.Kept.{same_lists}
use Rattle.object_store.proofs.Registered.{registered_is}
use Rattle.object_store.proofs.Rising.{same_rising, where_there, where_back, where_rising}

-- what stands at a number passes a notice on as its role says
pub slot_passes : (slot : Slot) (kept : Kept) → passes_by (slot_role slot) kept ≡ forwards_as (role_of (terms_in slot)) kept
slot_passes Free kept = refl
slot_passes Today kept = refl
slot_passes Watcher kept = refl
slot_passes (Live terms) kept = by_role (role_of (Some terms))
  where
    by_role : (r : kind.Role) → passes_by (Some (node_role r)) kept ≡ forwards_as r kept
    by_role kind.Role.Source = refl
    by_role kind.Role.Forwarder = refl
    by_role kind.Role.Lazy = refl
    by_role kind.Role.Watching = refl

marked_passes : (r : Option Role) (k : Kept) (b : Bool) → passes_by r (record k { source = b }) ≡ passes_by r k
marked_passes None k b = refl
marked_passes (Some r) k b = refl

-- a mark is taken off, whatever it was
cleared : (told marked : Bool) (k : Kept) → notified_kept told (record k { source = marked }) ≡ notified_kept told k
cleared true marked k = refl
cleared false marked k = refl

unmarked_cleared : (b : Bool) (k : Kept) → k.source ≡ false → notified_kept b k ≡ unsettled b k
unmarked_cleared true k off = ap (λ (s : Bool). record { current = false; last = k.last; frozen = k.frozen; forward = k.forward; source = s }) (sym off)
unmarked_cleared false k off = ap (λ (s : Bool). record { current = k.current; last = k.last; frozen = k.frozen; forward = k.forward; source = s }) (sym off)

-- what has the role of a watcher is one, and has no edges
watcher_role : (slot : Slot) → is_watcher slot ≡ true → slot_role slot ≡ Some role.Watcher
watcher_role Free is = absurd (false≢true is)
watcher_role Today is = absurd (false≢true is)
watcher_role Watcher is = refl
watcher_role (Live terms) is = absurd (false≢true is)

pub role_watcher : (slot : Slot) → slot_role slot ≡ Some role.Watcher → is_watcher slot ≡ true
role_watcher Free is = absurd (cc)
role_watcher Today is = absurd (cc)
role_watcher Watcher is = refl
role_watcher (Live terms) is = by_role (role_of (Some terms)) is
  where
    by_role : (r : kind.Role) → Some (node_role r) ≡ Some role.Watcher → false ≡ true
    by_role kind.Role.Source e = absurd (cc)
    by_role kind.Role.Forwarder e = absurd (cc)
    by_role kind.Role.Lazy e = absurd (cc)
    by_role kind.Role.Watching e = absurd (cc)

no_edges : (slot : Slot) (x : ℕ) → is_watcher slot ≡ true → Among x (edges_of (terms_in slot)) → ⊥
no_edges Free x is a = a
no_edges Today x is a = a
no_edges Watcher x is a = a
no_edges (Live terms) x is a = absurd (false≢true is)

in_either : (x : ℕ) (xs ys : List ℕ) → Among x (xs ++ ys) ↔ (Among x xs ⊎ Among x ys)
in_either x [] ys = (λ a. inr a, λ a. elim a [ inl none ↦ absurd none | inr there ↦ there ])
in_either x (y ∷ xs) ys = let later = in_either x xs ys in (
  λ a. elim a [
    | inl here ↦ inl (inl here)
    | inr there ↦ elim (later.0 there) [ inl one ↦ inl (inr one) | inr two ↦ inr two ]
  ],
  λ a. elim a [
    | inl one ↦ elim one [ inl here ↦ inl here | inr there ↦ inr (later.1 (inl there)) ]
    | inr two ↦ inr (later.1 (inr two))
  ],
)

-- WHAT AN OBJECT OBSERVES in the graph are its edges and its registrations
module _ (today : ℤ) (slots : List Slot) (store : StoreView) (kept : List Kept) (joined : IsJoined (market_of today slots) store.shape) where
  abbrev state : State
  state = state_of today slots kept (registry_of store)

  pub joined_watcher_role : (o : ℕ) → is_watcher (slot_at (market_of today slots) o) ≡ true → role_at store.shape o ≡ Some role.Watcher
  joined_watcher_role o is = joined.roles o ∙ watcher_role (slot_at (market_of today slots) o) is

  pub subjects_observed : (o x : ℕ) → Among x (observed_by store.shape o) ↔ Among x (subjects state o)
  subjects_observed o x = elim (cases_Bool (is_watcher (slot_at (market_of today slots) o))) [
    | inl is ↦ (
      λ a. (in_either x (edges (market_of today slots) o) (registered (registrations_of store.shape) o)).1
          (inr ((registered_is store.shape o x).1 (joined_watcher_role o is, a))),
      λ a. elim ((in_either x (edges (market_of today slots) o) (registered (registrations_of store.shape) o)).0 a) [
        | inl edge ↦ absurd (no_edges (slot_at (market_of today slots) o) x is edge)
        | inr pair ↦ ((registered_is store.shape o x).0 pair).1
      ],
    )
    | inr plain ↦ (
      λ a. (in_either x (edges (market_of today slots) o) (registered (registrations_of store.shape) o)).1 (inl ((joined.pairs o x plain).0 a)),
      λ a. elim ((in_either x (edges (market_of today slots) o) (registered (registrations_of store.shape) o)).0 a) [
        | inl edge ↦ (joined.pairs o x plain).1 edge
        | inr pair ↦ ((registered_is store.shape o x).0 pair).1
      ],
    )
  ]

-- THE NOTICE of a store in which these objects are marked
module _ (today : ℤ) (slots : List Slot) (kept : List Kept) (before : StoreView) (from : ℕ → Bool) (can : CanTell (market_of today slots) (registrations_of before.shape) before.noticed) (joined : IsJoined (market_of today slots) before.shape)
    (long : length before.kept ≡ length kept) (like : (y : ℕ) → stored_at before y ≡ record (slice_index_or kept y unpriced) { source = from y }) where
  abbrev s : State
  s = state_of today slots kept (registry_of before)

  source_is : (y : ℕ) → (stored_at before y).source ≡ from y
  source_is y = ap (λ (k : Kept). k.source) (like y)

  passes_is : (y : ℕ) → passes_by (role_at before.shape y) (stored_at before y) ≡ forwards s y
  unfolding forwards
  passes_is y = ap (passes_by (role_at before.shape y)) (like y) ∙ marked_passes (role_at before.shape y) (slice_index_or kept y unpriced) (from y)
      ∙ ap (λ (r : Option Role). passes_by r (slice_index_or kept y unpriced)) (joined.roles y) ∙ slot_passes (slot_at (market_of today slots) y) (slice_index_or kept y unpriced)

  notified_told : (o : ℕ) → IsNotified before o → told s from o ≡ true
  notified_told o n = (told_paths s can from o).1
      (below_wider (subjects s) (λ y. (stored_at before y).source) from (λ y. passes_by (role_at before.shape y) (stored_at before y)) (forwards s) (λ y e. sym (source_is y) ∙ e) (λ y e. sym (passes_is y) ∙ e) o
      (below_there (observed_by before.shape) (subjects s) (λ y. (stored_at before y).source) (λ y. passes_by (role_at before.shape y) (stored_at before y)) (λ z x a. (subjects_observed today slots before kept joined z x).0 a) o n))

  told_notified : (o : ℕ) → told s from o ≡ true → IsNotified before o
  told_notified o e =
      below_there (subjects s) (observed_by before.shape) (λ y. (stored_at before y).source) (λ y. passes_by (role_at before.shape y) (stored_at before y)) (λ z x a. (subjects_observed today slots before kept joined z x).1 a) o
      (below_wider (subjects s) from (λ y. (stored_at before y).source) (forwards s) (λ y. passes_by (role_at before.shape y) (stored_at before y)) (λ y e. source_is y ∙ e) (λ y e. passes_is y ∙ e) o
      ((told_paths s can from o).0 e))

  is_cleared : (b : Bool) (o : ℕ) → notified_kept b (stored_at before o) ≡ notified_kept b (slice_index_or kept o unpriced)
  is_cleared b o = ap (notified_kept b) (like o) ∙ cleared b (from o) (slice_index_or kept o unpriced)

  -- what is stored of each object after the notice
  pub told_at : (after : StoreView) → Notices before after → (o : ℕ) → stored_at after o ≡ notified_kept (told s from o) (slice_index_or kept o unpriced)
  told_at after n o = by_told (n.each o)
    where
      by_told : (IsNotified before o × (stored_at after o ≡ notified_kept true (stored_at before o))) ⊎ ((IsNotified before o → ⊥) × (stored_at after o ≡ notified_kept false (stored_at before o)))
          → stored_at after o ≡ notified_kept (told s from o) (slice_index_or kept o unpriced)
      by_told (inl t) = t.1 ∙ is_cleared true o ∙ ap (λ (b : Bool). notified_kept b (slice_index_or kept o unpriced)) (sym (notified_told o t.0))
      by_told (inr f) = f.1 ∙ is_cleared false o ∙ ap (λ (b : Bool). notified_kept b (slice_index_or kept o unpriced))
          (sym (false_from_ne_true (told s from o) (λ e. f.0 (told_notified o e))))

  as_long : (after : StoreView) → Notices before after → length after.kept ≡ length (tell from s).kept
  as_long after n = n.long ∙ long ∙ sym (told_length from s)

  abbrev is_noticed : ℕ → Bool
  is_noticed o = list_any (λ w. w == o) before.noticed || told s from o

  -- the watchers that are told stand beside those that were, by creation
  told_noticed : (after : StoreView) → Notices before after → after.noticed ≡ noticed_then s from
  told_noticed after n = same_rising after.noticed (noticed_then s from) n.rising (where_rising is_noticed 0 slots) (λ w. (there w, back w))
    where
      there : (w : ℕ) → Among w after.noticed → Among w (noticed_then s from)
      there w among = elim ((n.noticed w).0 among) [
        | inl was ↦ where_back is_noticed 0 w w slots (omega arith) (can.watchers w was)
            (or_left (list_any (λ v. v == w) before.noticed) (told s from w) (member_any (λ v. v == w) w before.noticed was (eq-eqb w w refl)))
        | inr now ↦ where_back is_noticed 0 w w slots (omega arith) (role_watcher (slot_at (market_of today slots) w) (sym (joined.roles w) ∙ now.0))
            (or_right (list_any (λ v. v == w) before.noticed) (told s from w) (notified_told w now.1))
      ]

      back : (w : ℕ) → Among w (noticed_then s from) → Among w after.noticed
      back w among =
          let t = where_there is_noticed 0 w slots among in
          let e = t.1 in
          let same : t.0 ≡ w = omega (arith, e) in
          (n.noticed w).1 (elim (or_cases (list_any (λ v. v == w) before.noticed) (told s from w) t.3) [
            | inl was ↦ let a = any_member (λ v. v == w) before.noticed was in inl (subst (λ (v : ℕ). Among v before.noticed) (eqb-true a.0 w a.2) a.1)
            | inr now ↦ inr (joined.roles w ∙ watcher_role (slot_at (market_of today slots) w) (ap (λ (i : ℕ). is_watcher (slice_index_or slots i Free)) (sym same) ∙ t.2), told_notified w now)
          ])

  -- where nothing was marked before, those whom the notice reaches are not current, and nothing else changes
  tell_kept : ((y : ℕ) → (slice_index_or kept y unpriced).source ≡ false) → (after : StoreView) → Notices before after → after.kept ≡ (tell from s).kept
  tell_kept unmarked after n = same_lists after.kept (tell from s).kept unpriced (as_long after n)
      (λ o. told_at after n o ∙ unmarked_cleared (told s from o) (slice_index_or kept o unpriced) (unmarked o) ∙ sym (told_kept from s o))

  pub tell_state : ((y : ℕ) → (slice_index_or kept y unpriced).source ≡ false) → (after : StoreView) → Notices before after
      → state_of today slots after.kept (record (registry_of before) { noticed = after.noticed }) ≡ tell from s
  unfolding tell
  tell_state unmarked after n = ap (λ (k : List Kept). state_of today slots k (record (registry_of before) { noticed = after.noticed })) (tell_kept unmarked after n)
      ∙ ap (λ (w : List ℕ). record (state_of today slots (tell from s).kept (registry_of before)) { noticed = w }) (told_noticed after n)

  -- and no mark stays
  unsourced_kept : (after : StoreView) → Notices before after → after.kept ≡ each_kept (λ o k. record k { source = false }) 0 (tell from s).kept
  unsourced_kept after n = same_lists after.kept (each_kept (λ o k. record k { source = false }) 0 (tell from s).kept) unpriced
      (as_long after n ∙ sym (length-each (λ o k. record k { source = false }) 0 (tell from s).kept))
      (λ o. told_at after n o ∙ sym (each_all (λ o k. record k { source = false }) (λ o. refl) 0 o (tell from s).kept ∙ ap (λ (k : Kept). record k { source = false }) (told_kept from s o)))

  pub unsourced_state : (after : StoreView) → Notices before after
      → state_of today slots after.kept (record (registry_of before) { deferring = false; noticed = after.noticed }) ≡ record (tell from s) { deferring = false; kept = each_kept (λ o k. record k { source = false }) 0 (tell from s).kept }
  unfolding tell
  unsourced_state after n = ap (λ (k : List Kept). state_of today slots k (record (registry_of before) { deferring = false; noticed = after.noticed })) (unsourced_kept after n)
      ∙ ap (λ (w : List ℕ). state_of today slots (each_kept (λ o k. record k { source = false }) 0 (tell from s).kept) (record (registry_of before) { deferring = false; noticed = w })) (told_noticed after n)

-- the registry after a notice
told_registry : (old new : StoreView) (on : Bool) → new.deferring ≡ on → new.shape ≡ old.shape → registry_of new ≡ record (registry_of old) { deferring = on; noticed = new.noticed }
told_registry old new on switch shape = λ i. record { deferring = switch i; registrations = registrations_of (shape i); noticed = new.noticed }

-- what is stored of each object where one more is marked
marked_like : (store : StoreView) (x : ℕ) → x < length store.kept → ((y : ℕ) → (stored_at store y).source ≡ false) → (y : ℕ) → stored_at (marked x store) y ≡ record (stored_at store y) { source = y == x }
marked_like store x within unmarked y = elim (cases_eq y x) [
  | inl same ↦ subst (λ (z : ℕ). stored_at (marked x store) z ≡ record (stored_at store z) { source = z == x }) (sym same)
      (get_or-set_same store.kept x (record (stored_at store x) { source = true }) unpriced within ∙ ap (λ (b : Bool). record (stored_at store x) { source = b }) (sym (eq-eqb x x refl)))
  | inr other ↦ get_or-set_other store.kept x y (record (stored_at store x) { source = true }) unpriced other
      ∙ ap (λ (b : Bool). record (stored_at store y) { source = b }) (unmarked y ∙ sym (false_from_ne_true (y == x) (λ e. other (eqb-true y x e))))
]

-- what a store does with the notice of one object
pub record IsNotice (x : ℕ) (old new : StoreView) : Type 0 where
  pub switch : new.deferring ≡ old.deferring
  pub held : old.deferring ≡ true → new ≡ marked x old
  pub told : old.deferring ≡ false → Notices (marked x old) new

pub tells_shape : (x : ℕ) (old new : StoreView) → IsNotice x old new → new.shape ≡ old.shape
tells_shape x old new tells = elim (cases_Bool old.deferring) [
  | inl on ↦ ap (λ (v : StoreView). v.shape) (tells.held on)
  | inr off ↦ (tells.told off).shape
]

module _ (today : ℤ) (slots : List Slot) (old new : StoreView) (x : ℕ) (can : CanTell (market_of today slots) (registrations_of old.shape) old.noticed) (joined : IsJoined (market_of today slots) old.shape)
    (within : x < length old.kept) (sources : HasNoMarkWhereOff old) (tells : IsNotice x old new) where
  -- A CHANGED OBJECT tells its observers, or holds its notice back
  pub notified_state : state_of today slots new.kept (registry_of new) ≡ notified x (state_of today slots old.kept (registry_of old))
  unfolding notified
  notified_state = elim (cases_Bool old.deferring) [
    | inl on ↦ ap (λ (v : StoreView). state_of today slots v.kept (registry_of v)) (tells.held on)
        ∙ sym (ap (λ (b : Bool). notified_as b x (state_of today slots old.kept (registry_of old))) on)
    | inr off ↦ ap (state_of today slots new.kept) (told_registry old new old.deferring tells.switch (tells.told off).shape)
        ∙ tell_state today slots old.kept (marked x old) (λ y. y == x) can joined (length-set old.kept x (record (stored_at old x) { source = true }))
        (marked_like old x within (sources off)) (sources off) new (tells.told off)
        ∙ sym (ap (λ (b : Bool). notified_as b x (state_of today slots old.kept (registry_of old))) off)
  ]

-- ALL MARKED OBJECTS tell, and none is marked any more
pub resumed_state : (today : ℤ) (slots : List Slot) (old new : StoreView) → CanTell (market_of today slots) (registrations_of old.shape) old.noticed → IsJoined (market_of today slots) old.shape
    → new.deferring ≡ false → (old.deferring ≡ true → Notices old new) → (old.deferring ≡ false → new ≡ old)
    → state_of today slots new.kept (registry_of new) ≡ resumed (state_of today slots old.kept (registry_of old))
unfolding resumed is_source
resumed_state today slots old new can joined switch told same = elim (cases_Bool old.deferring) [
  | inl on ↦ ap (state_of today slots new.kept) (told_registry old new false switch (told on).shape)
      ∙ unsourced_state today slots old.kept old (is_source (state_of today slots old.kept (registry_of old))) can joined refl (λ y. refl) new (told on)
      ∙ sym (ap (λ (b : Bool). if b then all_resumed else state_of today slots old.kept (registry_of old)) on)
  | inr off ↦ ap (λ (v : StoreView). state_of today slots v.kept (registry_of v)) (same off)
      ∙ sym (ap (λ (b : Bool). if b then all_resumed else state_of today slots old.kept (registry_of old)) off)
]
  where
    all_resumed : State
    all_resumed = record (all_told (state_of today slots old.kept (registry_of old))) { deferring = false; kept = each_kept (λ o k. record k { source = false }) 0 (all_told (state_of today slots old.kept (registry_of old))).kept }

pub resumed_shape : (old new : StoreView) → (old.deferring ≡ true → Notices old new) → (old.deferring ≡ false → new ≡ old) → new.shape ≡ old.shape
resumed_shape old new told same = elim (cases_Bool old.deferring) [ inl on ↦ (told on).shape | inr off ↦ ap (λ (v : StoreView). v.shape) (same off) ]

-- all that is stored is as it was
pub record IsKept (old new : StoreView) : Type 0 where
  pub kept : new.kept ≡ old.kept
  pub registry : registry_of new ≡ registry_of old

pub kept_state : (today : ℤ) (slots : List Slot) (old new : StoreView) → IsKept old new → state_of today slots new.kept (registry_of new) ≡ state_of today slots old.kept (registry_of old)
kept_state today slots old new same = ap (λ (k : List Kept). state_of today slots k (registry_of new)) same.kept ∙ ap (state_of today slots old.kept) same.registry

pub kept_marks : (old new : StoreView) → IsKept old new → HasNoMarkWhereOff old → HasNoMarkWhereOff new
kept_marks old new same sources off x = ap (λ (l : List Kept). (slice_index_or l x unpriced).source) same.kept ∙ sources (sym (ap (λ (r : Registry). r.deferring) same.registry) ∙ off) x

-- marks stay as they were where other things of an object change
pub stored_marks : (store : StoreView) (x : ℕ) (k : Kept) → k.source ≡ (stored_at store x).source → HasNoMarkWhereOff store → HasNoMarkWhereOff (stored_as x k store)
stored_marks store x k same sources off y = elim (cases_eq y x) [
  | inl here ↦ ap (λ (z : ℕ). (stored_at (stored_as x k store) z).source) here ∙ elim (cases_lt x (length store.kept)) [
    | inl within ↦ ap (λ (j : Kept). j.source) (get_or-set_same store.kept x k unpriced within) ∙ same ∙ sources off x
    | inr past ↦ ap (λ (j : Kept). j.source) (get_or_past (slice_set store.kept x k) x unpriced (let l = length-set store.kept x k in omega arith))
  ]
  | inr other ↦ ap (λ (j : Kept). j.source) (get_or-set_other store.kept x y k unpriced other) ∙ sources off y
]

-- no mark where no notice is held back
pub no_marks : (today : ℤ) (slots : List Slot) (store : StoreView) → HasNoSourceWhereOff (state_of today slots store.kept (registry_of store)) → HasNoMarkWhereOff store
unfolding is_source
no_marks today slots store sources = sources

-- a change of terms, and then its notice
pub revised_told : (today : ℤ) (slots slots2 : List Slot) (kept : List Kept) (registry : Registry) (new : State) (x : ℕ) (terms : Terms) → slots2 ≡ slice_set slots x (Live terms)
    → new ≡ notified x (outdated x (state_of today slots2 kept registry)) → new ≡ revised x terms (state_of today slots kept registry)
unfolding revised
revised_told today slots slots2 kept registry new x terms is e = e ∙ ap (λ (l : List Slot). notified x (outdated x (state_of today l kept registry))) is

pub ranged_set : (slots : List Slot) (today : ℤ) (x : ℕ) (terms : Terms) → x < length slots → AreRanged (market_of today slots) → IsRanged (Some terms) → AreRanged (market_of today (slice_set slots x (Live terms)))
ranged_set slots today x terms within ranged own y = elim (cases_eq y x) [
  | inl same ↦ subst (λ (t : Slot). IsRanged (terms_in t)) (sym (ap (λ (n : ℕ). slice_index_or (slice_set slots x (Live terms)) n Free) same ∙ get_or-set_same slots x (Live terms) Free within)) own
  | inr other ↦ subst (λ (t : Slot). IsRanged (terms_in t)) (sym (get_or-set_other slots x y (Live terms) Free other)) (ranged y)
]

pub given_set : (slots slots2 : List Slot) (x : ℕ) (terms : Terms) → slots2 ≡ slice_set slots x (Live terms) → x < length slots → is_given (slice_index_or slots2 x Free) ≡ true
given_set slots slots2 x terms is within = ap (λ (l : List Slot). is_given (slice_index_or l x Free)) is ∙ ap is_given (get_or-set_same slots x (Live terms) Free within)

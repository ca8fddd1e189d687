-- The graph of a desk after a link.
use Rattle.std.proofs.Common.{◌≡◌, ◌⊎◌, inl, inr, ℕ, ◌<◌, ◌+◌, Bool, true, false, List, length, Option, None, Some, refl, sym, ◌∙◌, ap, subst, arith}
use Rattle.std.specs.Prelude.{ℤ, ◌↔◌, slice_index_or, slice_set, is_some, IfSome, if◌then◌else◌}
use Rattle.std.specs.Option.{option_eq}
use Rattle.std.proofs.lemmas.Bool.{cases_lt, eq-eqb, eqb-true, false≢true}
use Rattle.std.proofs.lemmas.List.{get_or_past}
use Rattle.walks.specs.Walk.{Among}
use Rattle.desk_terms.specs.declared.terms.Terms.{Terms}
use Rattle.desk_terms.specs.declared.terms.Terms.TheVariants.{Handle}
use Rattle.desk_terms.specs.declared.terms.HandleKind.{HandleKind}
use Rattle.desk_terms.specs.declared.terms.HandleKind.TheVariants as handle
use Rattle.desk_model.specs.declared.kept.Kept.{Kept}
use Rattle.desk_model.specs.declared.slot.Slot.{Slot}
use Rattle.desk_model.specs.declared.slot.Slot.TheVariants.{Live, Free, Today, Watcher}
use Rattle.desk_model.specs.Market.{slot_at, terms_in, edges_of}
use Rattle.desk_model.specs.Changeable.{changeable}
use Rattle.desk_model.specs.State.{State}
use Rattle.desk_model.specs.Links.{IsLinked, AreOfKind}
use Rattle.desk_model.specs.Laws.{MayLink, Keeps}
use Rattle.desk_model.specs.Effect.{revised, number_eq, target_set, relinked, with_terms}
use Rattle.desk_model.proofs.Commands.{relink_keeps}
use Rattle.desk_model.proofs.KindsKept.{relink_kinded}
use Rattle.observer_graph.specs.declared.node.Role.{Role}
use Rattle.observer_graph.specs.declared.node.Role.TheVariants.{Forwarder}
use Rattle.observer_graph.specs.declared.node.Role.TheVariants as role
use Rattle.object_store.specs.Slots.{Registry, market_of, state_of}
use Rattle.object_store.specs.Shape.{IsJoined, role_at, observed_by, slot_role, vacancy_of}
use Rattle.object_store.specs.Store.{StoreView, JoinsAny, LeavesAny, Moves, held_count}
use Rattle.object_store.specs.Scratch.{ScratchView}
use Rattle.lazy_objects.specs.Stands.{Stands}
use Rattle.object_store.proofs.Joined.{joined_set, there_seen, revised_market, terms_watch, vacancies_set, slot_vacancy, vacancy_within}
use Rattle.object_store.proofs.Registered.{moves_plain}
use Rattle.object_store.proofs.Telling.{IsKept}
use Rattle.lazy_objects.proofs.Revised.{Changed}
use Rattle.lazy_objects.proofs.Commanded.{link_stands, commanded}

same_some : (x y : ℕ) → Some y ≡ Some x → x ≡ y
same_some x y e = cc

-- a handle observes its target
pub handle_edges : (kind : HandleKind) (target : Option ℕ) (x : ℕ) → Among x (edges_of (Some (Handle kind target))) ↔ (target ≡ Some x)
handle_edges handle.Quote None x = (λ a. absurd a, λ e. absurd (cc))
handle_edges handle.Curve None x = (λ a. absurd a, λ e. absurd (cc))
handle_edges handle.Quote (Some y) x = (λ a. elim a [ inl same ↦ ap Some (sym same) | inr none ↦ absurd none ], λ e. inl (same_some x y e))
handle_edges handle.Curve (Some y) x = (λ a. elim a [ inl same ↦ ap Some (sym same) | inr none ↦ absurd none ], λ e. inl (same_some x y e))

handle_role : (kind : HandleKind) (target : Option ℕ) → slot_role (Live (Handle kind target)) ≡ Some Forwarder
handle_role handle.Quote target = refl
handle_role handle.Curve target = refl

role_there : (t : Slot) (kind : HandleKind) (target : Option ℕ) → terms_in t ≡ Some (Handle kind target) → slot_role t ≡ Some Forwarder
role_there Free kind target is = absurd (cc)
role_there Today kind target is = absurd (cc)
role_there Watcher kind target is = absurd (cc)
role_there (Live terms) kind target is = ap (λ (u : Terms). slot_role (Live u)) (some_terms terms (Handle kind target) is) ∙ handle_role kind target
  where
    some_terms : (a b : Terms) → Some a ≡ Some b → a ≡ b
    some_terms a b e = cc

-- two targets of which one is an object are the same
pub same_target : (held target : Option ℕ) (x : ℕ) → held ≡ Some x → target ≡ Some x → option_eq number_eq held target ≡ true
same_target held target x is are = ap (λ (h : Option ℕ). option_eq number_eq h target) is ∙ ap (λ (t : Option ℕ). option_eq number_eq (Some x) t) are ∙ eq-eqb x x refl

-- a target is the same as itself
pub target_itself : (held target : Option ℕ) → held ≡ target → option_eq number_eq held target ≡ true
target_itself None target same = ap (option_eq number_eq None) (sym same)
target_itself (Some x) target same = same_target (Some x) target x refl (sym same)

-- targets that are found the same
pub same_held : (held target : Option ℕ) → option_eq number_eq held target ≡ true → held ≡ target
same_held None None e = refl
same_held None (Some y) e = absurd (false≢true e)
same_held (Some x) None e = absurd (false≢true e)
same_held (Some x) (Some y) e = ap Some (eqb-true x y e)

pub joins_pairs : (target : Option ℕ) (h : ℕ) (old new : StoreView) → JoinsAny target h old new → (x o : ℕ)
    → Among x (observed_by new.shape o) ↔ (Among x (observed_by old.shape o) ⊎ ((target ≡ Some x) × (o ≡ h)))
joins_pairs None h old new same x o = (
  λ a. inl (subst (λ (v : StoreView). Among x (observed_by v.shape o)) same a),
  λ a. elim a [ inl was ↦ subst (λ (v : StoreView). Among x (observed_by v.shape o)) (sym same) was | inr p ↦ absurd (cc) ],
)
joins_pairs (Some y) h old new joins x o = (
  λ a. elim ((joins.pairs x o).0 a) [ inl was ↦ inl was | inr p ↦ inr (ap Some (sym p.0), p.1) ],
  λ a. (joins.pairs x o).1 (elim a [ inl was ↦ inl was | inr p ↦ inr (same_some x y p.0, p.1) ]),
)

pub leaves_pairs : (held : Option ℕ) (h : ℕ) (old new : StoreView) → LeavesAny held h old new → (x o : ℕ)
    → Among x (observed_by new.shape o) ↔ (Among x (observed_by old.shape o) × ((held ≡ Some x) × (o ≡ h) → ⊥))
leaves_pairs None h old new same x o = (
  λ a. (subst (λ (v : StoreView). Among x (observed_by v.shape o)) same a, λ p. none_some p.0),
  λ a. subst (λ (v : StoreView). Among x (observed_by v.shape o)) (sym same) a.0,
)
  where
    none_some : None ≡ Some x → ⊥
    none_some e = absurd (cc)
leaves_pairs (Some y) h old new leaves x o = (
  λ a. let p = (leaves.pairs x o).0 a in (p.0, λ q. p.1 (same_some x y q.0, q.1)),
  λ a. (leaves.pairs x o).1 (a.0, λ q. a.1 (ap Some (sym q.0), q.1)),
)

pub joins_roles : (target : Option ℕ) (h : ℕ) (old new : StoreView) → JoinsAny target h old new → (new.kept ≡ old.kept) × (new.shape.roles ≡ old.shape.roles)
joins_roles None h old new same = (ap (λ (v : StoreView). v.kept) same, ap (λ (v : StoreView). v.shape.roles) same)
joins_roles (Some y) h old new joins = (joins.kept, joins.roles)

pub leaves_roles : (held : Option ℕ) (h : ℕ) (old new : StoreView) → LeavesAny held h old new → (new.kept ≡ old.kept) × (new.shape.roles ≡ old.shape.roles)
leaves_roles None h old new same = (ap (λ (v : StoreView). v.kept) same, ap (λ (v : StoreView). v.shape.roles) same)
leaves_roles (Some y) h old new leaves = (leaves.kept, leaves.roles)

handle_vacancy : (kind : HandleKind) (t : Option ℕ) → vacancy_of (Handle kind t) + held_count t ≡ 1
handle_vacancy kind None = refl
handle_vacancy kind (Some target) = refl

module _ (today : ℤ) (slots : List Slot) (h : ℕ) (kind : HandleKind) (held target : Option ℕ) (old : StoreView) (joined : IsJoined (market_of today slots) old.shape)
    (is : terms_in (slice_index_or slots h Free) ≡ Some (Handle kind held)) where
  pub handle_within : h < length slots
  handle_within = elim (cases_lt h (length slots)) [ inl within ↦ within | inr past ↦ absurd (none_some (sym (ap terms_in (get_or_past slots h Free past)) ∙ is)) ]
    where
      none_some : None ≡ Some (Handle kind held) → ⊥
      none_some e = absurd (cc)

  pub handle_there : is_some (role_at old.shape h) ≡ true
  handle_there = ap is_some (joined.roles h ∙ role_there (slice_index_or slots h Free) kind held is)

  -- a handle is no watcher
  pub handle_plain : role_at old.shape h ≡ Some role.Watcher → ⊥
  handle_plain watcher = other_role (sym (joined.roles h ∙ role_there (slice_index_or slots h Free) kind held is) ∙ watcher)
    where
      other_role : Some Forwarder ≡ Some role.Watcher → ⊥
      other_role e = absurd (cc)

  observes : (x : ℕ) → Among x (observed_by old.shape h) → held ≡ Some x
  observes x a = (handle_edges kind held x).0 (subst (λ (t : Option Terms). Among x (edges_of t)) is ((joined.pairs h x (terms_watch (slice_index_or slots h Free) (Handle kind held) is)).0 a))

  pub target_there : MayLink (market_of today slots) h target → IfSome target (λ x. is_some (role_at old.shape x) ≡ true)
  target_there may = by_target target may
    where
      by_target : (t : Option ℕ) → MayLink (market_of today slots) h t → IfSome t (λ x. is_some (role_at old.shape x) ≡ true)
      by_target None may = tt
      by_target (Some x) may = there_seen (market_of today slots) old.shape joined x may.0

  pub held_there : IsLinked (market_of today slots) → IfSome held (λ x. is_some (role_at old.shape x) ≡ true)
  held_there links = by_held held refl
    where
      by_held : (t : Option ℕ) → held ≡ t → IfSome t (λ x. is_some (role_at old.shape x) ≡ true)
      by_held None e = tt
      by_held (Some x) e = there_seen (market_of today slots) old.shape joined x (links.observed h x (subst (λ (t : Option Terms). Among x (edges_of t)) (sym is) ((handle_edges kind held x).1 e)))

  pub target_new : (x : ℕ) → target ≡ Some x → Among x (observed_by old.shape h) → held ≡ target
  target_new x are a = observes x a ∙ sym are

  pub target_watched : (x : ℕ) → held ≡ Some x → Among x (observed_by old.shape h)
  target_watched x e = (joined.pairs h x (terms_watch (slice_index_or slots h Free) (Handle kind held) is)).1
      (subst (λ (t : Option Terms). Among x (edges_of t)) (sym is) ((handle_edges kind held x).1 e))

  -- an empty handle has a spare place
  pub target_room : held ≡ None → 0 < old.shape.spare
  target_room none =
      let here = slot_vacancy (slice_index_or slots h Free) (Handle kind held) is ∙ ap (λ (t : Option ℕ). vacancy_of (Handle kind t)) none in
      let low = vacancy_within slots h handle_within in let room = joined.room in
      omega (arith, here, low, room)

  pub joined_linked : (new : StoreView) → Moves held target h old new → IsJoined (market_of today (slice_set slots h (Live (Handle kind target)))) new.shape
  joined_linked new moves =
      let role : (o : ℕ) → role_at new.shape o ≡ role_at old.shape o = λ o. ap (λ (l : List (Option Role)). slice_index_or l o None) moves.roles in
      joined_set today slots h (Handle kind target) new.shape (ap length moves.roles ∙ joined.long) handle_within (role h ∙ joined.roles h ∙ role_there (slice_index_or slots h Free) kind held is ∙ sym (handle_role kind target))
      (λ x. (
        λ a. (handle_edges kind target x).1 (elim ((moves.own x).0 a) [ inl was ↦ absurd (was.1 (observes x was.0)) | inr are ↦ are ]),
        λ a. (moves.own x).1 (inr ((handle_edges kind target x).0 a)),
      ))
      (λ o other. role o ∙ joined.roles o)
      (λ o x other plain. (
        λ a. (joined.pairs o x plain).0 ((moves.others o x other).0 a),
        λ a. (moves.others o x other).1 ((joined.pairs o x plain).1 a),
      ))
      (let set = vacancies_set slots h (Live (Handle kind target)) handle_within in
      let here = slot_vacancy (slice_index_or slots h Free) (Handle kind held) is in
      let was = handle_vacancy kind held in let becomes = handle_vacancy kind target in
      let room = joined.room in let spare = moves.spare in
      omega (arith, set, here, was, becomes, room, spare))

pub joins_switch : (target : Option ℕ) (h : ℕ) (old new : StoreView) → JoinsAny target h old new → (new.deferring ≡ old.deferring) × (new.noticed ≡ old.noticed)
joins_switch None h old new same = (ap (λ (v : StoreView). v.deferring) same, ap (λ (v : StoreView). v.noticed) same)
joins_switch (Some y) h old new joins = (joins.switch, joins.told)

pub leaves_switch : (held : Option ℕ) (h : ℕ) (old new : StoreView) → LeavesAny held h old new → (new.deferring ≡ old.deferring) × (new.noticed ≡ old.noticed)
leaves_switch None h old new same = (ap (λ (v : StoreView). v.deferring) same, ap (λ (v : StoreView). v.noticed) same)
leaves_switch (Some y) h old new leaves = (leaves.switch, leaves.told)

-- a pair that goes leaves its place, and all objects where they are
pub there_still : (held target : Option ℕ) (h : ℕ) (old new : StoreView) → LeavesAny held h old new → IfSome target (λ x. is_some (role_at old.shape x) ≡ true)
    → IfSome target (λ x. is_some (role_at new.shape x) ≡ true)
there_still held None h old new leaves there = tt
there_still held (Some x) h old new leaves there =
    ap (λ (l : List (Option Role)). is_some (slice_index_or l x None)) (leaves_roles held h old new leaves).1 ∙ there

pub unwatched_new : (held target : Option ℕ) (h : ℕ) (old new : StoreView) → LeavesAny held h old new → (held ≡ target → ⊥)
    → ((x : ℕ) → target ≡ Some x → Among x (observed_by old.shape h) → held ≡ target) → (x : ℕ) → target ≡ Some x → Among x (observed_by new.shape h) → ⊥
unwatched_new held target h old new leaves differs own x is a = differs (own x is ((leaves_pairs held h old new leaves x h).0 a).0)

pub room_freed : (held target : Option ℕ) (old new : StoreView) → new.shape.spare ≡ old.shape.spare + held_count held → (held ≡ None → 0 < old.shape.spare)
    → IfSome target (λ _. 0 < new.shape.spare)
room_freed held None old new freed room = tt
room_freed None (Some x) old new freed room = let some = room refl in omega (arith, freed, some)
room_freed (Some y) (Some x) old new freed room = omega (arith, freed)

-- another pair changes nothing that is stored
pub linked_kept : (held target : Option ℕ) (h : ℕ) (old new : StoreView) → (role_at old.shape h ≡ Some role.Watcher → ⊥) → Moves held target h old new → IsKept old new
linked_kept held target h old new plain moves = record { kept = moves.kept; registry = moves_plain held target h old new plain moves }

-- a link tells where its target is another
pub link_as : (s : State) (h : ℕ) (kind : HandleKind) (held target : Option ℕ) (b : Bool) → terms_in (slot_at s.market h) ≡ Some (Handle kind held) → option_eq number_eq held target ≡ b
    → relinked h target s ≡ (if b then s else revised h (Handle kind target) s)
unfolding relinked
link_as s h kind held target b is e = ap (λ (t : Option Terms). target_set (changeable t) h target s) is ∙ ap (λ (c : Bool). if c then s else revised h (Handle kind target) s) e

-- a change tells nothing of the market but the terms
pub linked_before : (h : ℕ) (terms : Terms) (today : ℤ) (slots : List Slot) (kept : List Kept) (registry : Registry) → IsLinked (revised h terms (state_of today slots kept registry)).market → IsLinked (with_terms h terms (state_of today slots kept registry)).market
linked_before h terms today slots kept registry links = subst IsLinked (revised_market h terms (state_of today slots kept registry)) links

module _ (today : ℤ) (slots : List Slot) (kept : List Kept) (registry : Registry) (scratch : ScratchView) (stands : Stands (state_of today slots kept registry) scratch) (h : ℕ) (kind : HandleKind) (held target : Option ℕ)
    (is : terms_in (slice_index_or slots h Free) ≡ Some (Handle kind held)) (may : MayLink (market_of today slots) h target) (differs : option_eq number_eq held target ≡ false) where
  changed : relinked h target (state_of today slots kept registry) ≡ revised h (Handle kind target) (state_of today slots kept registry)
  changed = link_as (state_of today slots kept registry) h kind held target false is differs

  keeps : Keeps (state_of today slots kept registry) (relinked h target (state_of today slots kept registry))
  keeps = relink_keeps (state_of today slots kept registry) stands.whole h target may

  pub link_links : IsLinked (with_terms h (Handle kind target) (state_of today slots kept registry)).market
  link_links = linked_before h (Handle kind target) today slots kept registry (subst (λ (t : State). IsLinked t.market) changed keeps.whole.links)

  pub link_changed : ((k : HandleKind) (t : Option ℕ) → terms_in (slice_index_or slots h Free) ≡ Some (Handle k t) → AreOfKind (market_of today slots) (Some (Handle k target)))
      → (new : State) → new ≡ revised h (Handle kind target) (state_of today slots kept registry) → Changed (state_of today slots kept registry) new (relinked h target (state_of today slots kept registry)) scratch
  link_changed kinds new e =
      commanded today slots kept registry scratch stands (relinked h target (state_of today slots kept registry)) new keeps
      (link_stands today slots kept registry scratch stands h target keeps (relink_kinded (state_of today slots kept registry) stands.whole stands.kinds h target kinds)) (e ∙ sym changed)

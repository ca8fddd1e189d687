-- What the store tells of lateness is what the state says.
use Rattle.std.proofs.Common.{◌≡◌, ◌⊎◌, inl, inr, ℕ, zero, suc, ◌<◌, Bool, true, false, List, length, Option, None, Some, refl, sym, ◌∙◌, ap, arith}
use Rattle.std.specs.Prelude.{◌↔◌, ◌==◌, ◌||◌, not, slice_index_or, is_some, if◌then◌else◌}
use Rattle.std.proofs.lemmas.List.{get_or_past}
use Rattle.std.proofs.lemmas.Bool.{cases_lt, or_cases, or_left, or_right, or_from, or_parts, and_parts, and_from, eq-eqb, eqb-true, not-true, not_from_false, false≢true, false_from_ne_true}
use Rattle.walks.specs.Walk.{below_by, Below}
use Rattle.walks.proofs.Walks.{only_below}
use Rattle.walks.proofs.Ranks.{below_true, below_wider, below_meets, meets_below}
use Rattle.desk_model.specs.declared.kept.Kept.{Kept}
use Rattle.desk_model.specs.Market.{edges, or_number, least_where}
use Rattle.desk_model.specs.State.{State, unpriced, is_frozen, is_source, is_late, is_late_of, is_held_back, is_clear, least_source}
use Rattle.desk_model.specs.Links.{IsWhole}
use Rattle.desk_model.proofs.Bounds.{ranks_of}
use Rattle.desk_model.proofs.Users.{least_first}
use Rattle.desk_model.proofs.Paths.{late_least}
use Rattle.observer_graph.specs.Notice.{IsLeast}
use Rattle.object_store.specs.Shape.{IsJoined, edges_at}
use Rattle.object_store.specs.Store.{StoreView, stored_at}
use Rattle.object_store.specs.Late.{IsLateOf, holds_back, IsClear}
use Rattle.object_store.proofs.Joined.{pairs_below}

none_where : (passes : ℕ → Bool) (n : ℕ) → ((o : ℕ) → o < n → passes o ≡ false) → least_where passes n ≡ None
none_where passes zero none = refl
none_where passes (suc n) none = ap (λ (r : Option ℕ). or_number r (if passes n then Some n else None)) (none_where passes n (λ o low. none o (omega (arith, low))))
    ∙ ap (λ (b : Bool). if b then Some n else None) (none n (omega arith))

module _ (s : State) (whole : IsWhole s) (store : StoreView) (same : store.kept ≡ s.kept) (joined : IsJoined s.market store.shape) where
  frozen_is : (y : ℕ) → (stored_at store y).frozen ≡ is_frozen s y
  unfolding is_frozen
  frozen_is y = ap (λ (l : List Kept). (slice_index_or l y unpriced).frozen) same

  source_is : (y : ℕ) → (stored_at store y).source ≡ is_source s y
  unfolding is_source
  source_is y = ap (λ (l : List Kept). (slice_index_or l y unpriced).source) same

  held_is : (y : ℕ) → holds_back store y ≡ is_held_back s y
  held_is y = ap (λ (b : Bool). b || (stored_at store y).source) (frozen_is y) ∙ ap (λ (b : Bool). is_frozen s y || b) (source_is y)

  -- a path in the market is one among the observers, and the other way round
  path_there : (found through through2 : ℕ → Bool) → ((y : ℕ) → through2 y ≡ through y) → (o : ℕ)
      → below_by (edges s.market) found through (suc (length s.market.objects)) o ≡ true → Below (edges_at store.shape) found through2 o
  path_there found through through2 agree o deep = (pairs_below s.market store.shape joined found through2 o).1
      (below_wider (edges s.market) found found through through2 (λ y e. e) (λ y e. agree y ∙ e) o (only_below (edges s.market) found through (suc (length s.market.objects)) o deep))

  path_back : (found through through2 : ℕ → Bool) → ((y : ℕ) → through2 y ≡ through y) → (o : ℕ)
      → Below (edges_at store.shape) found through2 o → below_by (edges s.market) found through (suc (length s.market.objects)) o ≡ true
  path_back found through through2 agree o below =
      let r = ranks_of s.market whole.links in
      below_true (edges s.market) found through r.0 r.1 (suc (length s.market.objects)) o (r.2 o)
      (below_wider (edges s.market) found found through2 through (λ y e. e) (λ y e. sym (agree y) ∙ e) o ((pairs_below s.market store.shape joined found through2 o).0 below))

  late_is : (o x : ℕ) → (is_late_of s o x ≡ true) ↔ IsLateOf store o x
  unfolding is_late_of
  late_is o x = (
    λ e. let p = and_parts (is_source s x) _ e in (
      source_is x ∙ p.0,
      elim (or_cases (x == o) _ p.1) [
        | inl here ↦ inl (sym (eqb-true x o here))
        | inr deep ↦ inr (path_there (λ y. y == x) (λ y. not (is_frozen s y)) (λ y. not (stored_at store y).frozen) (λ y. ap not (frozen_is y)) o deep)
      ],
    ),
    λ late. and_from (is_source s x) _ (sym (source_is x) ∙ late.0) (elim late.1 [
      | inl here ↦ or_left (x == o) _ (eq-eqb x o (sym here))
      | inr below ↦ or_right (x == o) _ (path_back (λ y. y == x) (λ y. not (is_frozen s y)) (λ y. not (stored_at store y).frozen) (λ y. ap not (frozen_is y)) o below)
    ]),
  )

  source_within : (x : ℕ) → (stored_at store x).source ≡ true → x < length s.market.objects
  source_within x is = elim (cases_lt x (length s.kept)) [
    | inl within ↦ let e = whole.length in omega (arith, within, e)
    | inr past ↦ absurd (false≢true (sym (ap (λ (k : Kept). k.source) (ap (λ (l : List Kept). slice_index_or l x unpriced) same ∙ get_or_past s.kept x unpriced past)) ∙ is))
  ]

  -- the least source that makes an object late
  pub least_is : (o : ℕ) (least : Option ℕ) → IsLeast (IsLateOf store o) least → least ≡ least_source s o
  unfolding least_source
  least_is o None none = sym (none_where (is_late_of s o) (length s.market.objects) (λ x low. false_from_ne_true (is_late_of s o x) (λ e. none x ((late_is o x).0 e))))
  least_is o (Some x) is = sym (least_first (is_late_of s o) (length s.market.objects) x
      (none_where (is_late_of s o) x (λ y low. false_from_ne_true (is_late_of s o y) (λ e. let l = is.1 y ((late_is o y).0 e) in absurd (omega (arith, l, low)))))
      ((late_is o x).1 is.0) (source_within x is.0.0))

  pub late_there : (o : ℕ) (least : Option ℕ) → IsLeast (IsLateOf store o) least → is_late s o ≡ is_some least
  late_there o least is = late_least s whole o ∙ ap is_some (sym (least_is o least is))

  -- whether an object is clear
  pub clear_is : (o : ℕ) (b : Bool) → (b ≡ true) ↔ IsClear store o → b ≡ is_clear s o
  unfolding is_clear
  clear_is o true is = sym (not_from_false _ (or_from (is_held_back s o) _ (sym (held_is o) ∙ is.0 refl o (inl refl))
      (false_from_ne_true (below_by (edges s.market) (is_held_back s) (λ y. true) (suc (length s.market.objects)) o) (λ deep.
      let m = below_meets (edges s.market) (is_held_back s) (λ y. true) o (only_below (edges s.market) (is_held_back s) (λ y. true) (suc (length s.market.objects)) o deep) in
      false≢true (sym (is.0 refl m.0 (inr ((pairs_below s.market store.shape joined (λ y. y == m.0) (λ y. true) o).1 m.2))) ∙ held_is m.0 ∙ m.1)))))
  clear_is o false is = sym (false_from_ne_true (is_clear s o) (λ clear. false≢true (is.1 (λ x reached. clear_at clear x reached))))
    where
      clear_at : is_clear s o ≡ true → (x : ℕ) → ((o ≡ x) ⊎ Below (edges_at store.shape) (λ y. y == x) (λ y. true) o) → holds_back store x ≡ false
      clear_at clear x (inl here) = ap (holds_back store) (sym here) ∙ held_is o ∙ (or_parts (is_held_back s o) _ (not-true _ clear)).0
      clear_at clear x (inr below) = held_is x ∙ false_from_ne_true (is_held_back s x) (λ back.
          let r = ranks_of s.market whole.links in
          false≢true (sym (or_parts (is_held_back s o) _ (not-true _ clear)).1
          ∙ below_true (edges s.market) (is_held_back s) (λ y. true) r.0 r.1 (suc (length s.market.objects)) o (r.2 o)
          (meets_below (edges s.market) (is_held_back s) (λ y. true) x o back ((pairs_below s.market store.shape joined (λ y. y == x) (λ y. true) o).0 below))))

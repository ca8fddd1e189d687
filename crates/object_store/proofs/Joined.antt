-- The graph of a desk after each of its changes.
use Rattle.std.proofs.Common.{◌≡◌, ◌≢◌, ◌⊎◌, inl, inr, ℕ, zero, suc, ◌+◌, ◌<◌, ◌≤◌, Bool, true, false, List, [], ◌∷◌, ◌++◌, length, Option, None, Some, refl, sym, ◌∙◌, ap, subst, arith}
use Rattle.std.specs.Prelude.{ℤ, ◌↔◌, ◌==◌, ◌||◌, slice_index_or, slice_set, is_some, if◌then◌else◌}
use Rattle.std.specs.List.{list_any}
use Rattle.std.proofs.lemmas.List.{length-append, length-set, get_or-set_same, get_or-set_other, get_or_past}
use Rattle.std.proofs.lemmas.List.Sums.{sum_by-append, sum_by-cons, sum_by-set}
use Rattle.std.proofs.lemmas.Bool.{cases_eq, cases_lt, eq-eqb, eqb-true, false≢true, false_from_ne_true}
use Rattle.walks.specs.Walk.{Among, Below}
use Rattle.walks.specs.Walk.Below.{next, beyond}
use Rattle.walks.proofs.Walks.{only_below, any_member, member_any}
use Rattle.walks.proofs.Ranks.{below_true}
use Rattle.desk_terms.specs.declared.terms.Terms.{Terms}
use Rattle.desk_terms.specs.declared.terms.Terms.TheVariants as terms_of
use Rattle.desk_terms.specs.declared.terms.Part.{Part}
use Rattle.desk_terms.specs.declared.terms.HandleKind.TheVariants as handle
use Rattle.desk_terms.specs.declared.kind.Kind.TheVariants as kind
use Rattle.desk_terms.specs.Kind as kinds
use Rattle.desk_terms.specs.Terms.{part_references}
use Rattle.desk_model.specs.declared.slot.Slot.{Slot}
use Rattle.desk_model.specs.declared.slot.Slot.TheVariants.{Live, Free, Today, Watcher}
use Rattle.desk_model.specs.Market.{Market, slot_at, terms_in, kind_in, is_watcher, is_given, is_observable, is_lazy, role_of, named, each_once, edges_of, edges, or_number, least_where, least_user}
use Rattle.desk_model.specs.Links.{IsLinked, is_lazy_at, reaches}
use Rattle.desk_model.specs.Laws.{MayBeMade}
use Rattle.desk_model.specs.State.{State}
use Rattle.desk_model.specs.Effect.{revised, notified, notified_as, with_terms}
use Rattle.desk_model.proofs.Stores.{told_market}
use Rattle.desk_model.proofs.Bounds.{ranks_of}
use Rattle.desk_model.proofs.Edges.{once_among, among_once}
use Rattle.desk_model.proofs.Users.{least_first, none_uses}
use Rattle.observer_graph.specs.declared.node.Role.{Role}
use Rattle.observer_graph.specs.declared.node.Role.TheVariants.{Source, Lazy}
use Rattle.observer_graph.specs.declared.node.Role.TheVariants as role
use Rattle.observer_graph.specs.Notice.{IsLeast}
use Rattle.observer_graph.proofs.Exactly.{below_there}
use Rattle.object_store.specs.Slots.{market_of}
use Rattle.object_store.specs.Parts.{parts_in}
use Rattle.object_store.specs.Shape.{Shape, IsJoined, role_at, observed_by, edges_from, edges_at, node_role, slot_role, watched, vacancy_of, vacancy, vacancies}
use Rattle.object_store.specs.Store.{StoreView, AddsObject, TakesObject, IsRewatched}

-- what stands at a number is there
slot_there : (slot : Slot) → is_given slot ≡ true → is_some (slot_role slot) ≡ true
slot_there Free is = absurd (false≢true is)
slot_there Today is = refl
slot_there Watcher is = refl
slot_there (Live terms) is = refl

slot_seen : (slot : Slot) → is_observable slot ≡ true → is_some (slot_role slot) ≡ true
slot_seen Free is = absurd (false≢true is)
slot_seen Today is = refl
slot_seen Watcher is = absurd (false≢true is)
slot_seen (Live terms) is = refl

slot_lazy : (slot : Slot) → is_lazy (role_of (terms_in slot)) ≡ true → slot_role slot ≡ Some Lazy
slot_lazy Free is = absurd (false≢true is)
slot_lazy Today is = absurd (false≢true is)
slot_lazy Watcher is = absurd (false≢true is)
slot_lazy (Live terms) is = by_role (role_of (Some terms)) is
  where
    by_role : (r : kinds.Role) → is_lazy r ≡ true → Some (node_role r) ≡ Some Lazy
    by_role kinds.Role.Source is = absurd (false≢true is)
    by_role kinds.Role.Forwarder is = absurd (false≢true is)
    by_role kinds.Role.Lazy is = refl
    by_role kinds.Role.Watching is = absurd (false≢true is)

-- where nothing is, nothing is observed
gone_edges : (slot : Slot) → is_some (slot_role slot) ≡ false → edges_of (terms_in slot) ≡ []
gone_edges Free none = refl
gone_edges Today none = refl
gone_edges Watcher none = refl
gone_edges (Live terms) none = absurd (false≢true (sym none))

gone_unseen : (slot : Slot) → is_some (slot_role slot) ≡ false → is_observable slot ≡ false
gone_unseen Free none = refl
gone_unseen Today none = absurd (false≢true (sym none))
gone_unseen Watcher none = refl
gone_unseen (Live terms) none = absurd (false≢true (sym none))

-- what terms name is what they observe
pub watched_edges : (terms : Terms) (x : ℕ) → Among x (watched terms) ↔ Among x (edges_of (Some terms))
watched_edges terms x = (
  λ a. once_among x (watched terms) a,
  λ a. among_once x (watched terms) a,
)

module _ (m : Market) (shape : Shape) (joined : IsJoined m shape) where
  pub there_given : (x : ℕ) → is_given (slot_at m x) ≡ true → is_some (role_at shape x) ≡ true
  there_given x is = ap is_some (joined.roles x) ∙ slot_there (slot_at m x) is

  pub there_seen : (x : ℕ) → is_observable (slot_at m x) ≡ true → is_some (role_at shape x) ≡ true
  there_seen x is = ap is_some (joined.roles x) ∙ slot_seen (slot_at m x) is

  pub lazy_there : (x : ℕ) → is_lazy_at m x ≡ true → role_at shape x ≡ Some Lazy
  lazy_there x is = joined.roles x ∙ slot_lazy (slot_at m x) is

  pub may_watch : (terms : Terms) → MayBeMade m (Live terms) → (x : ℕ) → Among x (watched terms) → is_some (role_at shape x) ≡ true
  may_watch terms may x a = there_seen x (may x ((watched_edges terms x).0 a))

  -- the edges in the graph are those of the market
  pub edges_there : (o x : ℕ) → Among x (edges_at shape o) ↔ Among x (edges m o)
  edges_there o x = subst (λ (r : Option Role). Among x (edges_from r (observed_by shape o)) ↔ Among x (edges m o)) (sym (joined.roles o))
      (by_slot (slot_at m o) (λ plain. joined.pairs o x plain))
    where
      by_role : (r : kinds.Role) (subjects : List ℕ) → Among x (edges_from (Some (node_role r)) subjects) ↔ Among x subjects
      by_role kinds.Role.Source subjects = (λ a. a, λ a. a)
      by_role kinds.Role.Forwarder subjects = (λ a. a, λ a. a)
      by_role kinds.Role.Lazy subjects = (λ a. a, λ a. a)
      by_role kinds.Role.Watching subjects = (λ a. a, λ a. a)

      by_slot : (slot : Slot) → (is_watcher slot ≡ false → Among x (observed_by shape o) ↔ Among x (edges_of (terms_in slot)))
          → Among x (edges_from (slot_role slot) (observed_by shape o)) ↔ Among x (edges_of (terms_in slot))
      by_slot Free pairs = (λ a. a, λ a. a)
      by_slot Today pairs = pairs refl
      by_slot Watcher pairs = (λ a. a, λ a. a)
      by_slot (Live terms) pairs = let r = by_role (role_of (Some terms)) (observed_by shape o) in
          let p = pairs refl in
          (λ a. p.0 (r.0 a), λ a. r.1 (p.1 a))

  -- a path of edges in the market and one in the graph
  pub pairs_below : (found through : ℕ → Bool) (o : ℕ) → Below (edges_at shape) found through o ↔ Below (edges m) found through o
  pairs_below found through o = (
    λ b. below_there (edges_at shape) (edges m) found through (λ z x a. (edges_there z x).0 a) o b,
    λ b. below_there (edges m) (edges_at shape) found through (λ z x a. (edges_there z x).1 a) o b,
  )

  pub reaches_is : IsLinked m → (b : Bool) (from to : ℕ) → (from == to) ≡ false → (b ≡ true) ↔ ((from ≡ to) ⊎ Below (edges_at shape) (λ y. y == to) (λ y. true) from)
      → b ≡ ((from == to) || reaches m from to)
  unfolding reaches
  reaches_is links b from to apart is = by_answer b is ∙ sym (ap (λ (c : Bool). c || reaches m from to) apart)
    where
      ranks : (rank : ℕ → ℕ) × ((o x : ℕ) → Among x (edges m o) → rank x < rank o) × ((o : ℕ) → rank o < suc (length m.objects))
      ranks = ranks_of m links

      by_answer : (b : Bool) → (b ≡ true) ↔ ((from ≡ to) ⊎ Below (edges_at shape) (λ y. y == to) (λ y. true) from) → b ≡ reaches m from to
      by_answer true is = sym (below_true (edges m) (λ y. y == to) (λ y. true) ranks.0 ranks.1 (suc (length m.objects)) from (ranks.2 from) (elim (is.0 refl) [
        | inl same ↦ absurd (false≢true (sym apart ∙ eq-eqb from to same))
        | inr below ↦ (pairs_below (λ y. y == to) (λ y. true) from).0 below
      ]))
      by_answer false is = sym (false_from_ne_true (reaches m from to) (λ e. false≢true (is.1 (inr ((pairs_below (λ y. y == to) (λ y. true) from).1 (only_below (edges m) (λ y. y == to) (λ y. true) (suc (length m.objects)) from e))))))

  -- nothing lies above or beneath what is not there
  below_first : (found through : ℕ → Bool) (o : ℕ) → Below (edges m) found through o → (x : ℕ) × Among x (edges m o)
  below_first found through o (next {x = x} a here) = (x, a)
  below_first found through o (beyond {x = x} a passes below) = (x, a)

  below_last : (to : ℕ) (through : ℕ → Bool) (o : ℕ) → Below (edges m) (λ y. y == to) through o → (p : ℕ) × Among to (edges m p)
  below_last to through o (next {x = x} a here) = (o, subst (λ (z : ℕ). Among z (edges m o)) (eqb-true x to here) a)
  below_last to through o (beyond {x = x} a passes below) = below_last to through x below

  pub reaches_gone : IsLinked m → (from to : ℕ) → (is_some (role_at shape from) ≡ false) ⊎ (is_some (role_at shape to) ≡ false) → reaches m from to ≡ false
  unfolding reaches
  reaches_gone links from to gone = false_from_ne_true (reaches m from to) (λ e. by_end gone (only_below (edges m) (λ y. y == to) (λ y. true) (suc (length m.objects)) from e))
    where
      by_end : (is_some (role_at shape from) ≡ false) ⊎ (is_some (role_at shape to) ≡ false) → Below (edges m) (λ y. y == to) (λ y. true) from → ⊥
      by_end (inl none) below = let f = below_first (λ y. y == to) (λ y. true) from below in
          subst (Among f.0) (gone_edges (slot_at m from) (sym (ap is_some (joined.roles from)) ∙ none)) f.1
      by_end (inr none) below = let l = below_last to (λ y. true) from below in
          false≢true (sym (gone_unseen (slot_at m to) (sym (ap is_some (joined.roles to)) ∙ none)) ∙ links.observed l.0 to l.1)

  -- the least observer is the least user
  uses : (x o : ℕ) → (list_any (λ y. x == y) (edges m o) ≡ true) ↔ Among x (edges_at shape o)
  uses x o = (
    λ e. let a = any_member (λ y. x == y) (edges m o) e in (edges_there o x).1 (subst (λ (z : ℕ). Among z (edges m o)) (sym (eqb-true x a.0 a.2)) a.1),
    λ a. member_any (λ y. x == y) x (edges m o) ((edges_there o x).0 a) (eq-eqb x x refl),
  )

  none_where : (passes : ℕ → Bool) (n : ℕ) → ((o : ℕ) → o < n → passes o ≡ false) → least_where passes n ≡ None
  none_where passes zero none = refl
  none_where passes (suc n) none = ap (λ (r : Option ℕ). or_number r (if passes n then Some n else None)) (none_where passes n (λ o low. none o (omega (arith, low))))
      ∙ ap (λ (b : Bool). if b then Some n else None) (none n (omega arith))

  pub least_is : IsLinked m → (x : ℕ) (least : Option ℕ) → IsLeast (λ o. Among x (edges_at shape o)) least → least ≡ least_user m x
  least_is links x None none = sym (none_where (λ o. list_any (λ y. x == y) (edges m o)) (length m.objects) (λ o low. false_from_ne_true (list_any (λ y. x == y) (edges m o)) (λ e. none o ((uses x o).0 e))))
  least_is links x (Some o) is = sym (least_first (λ o. list_any (λ y. x == y) (edges m o)) (length m.objects) o
      (none_where (λ o. list_any (λ y. x == y) (edges m o)) o (λ p low. false_from_ne_true (list_any (λ y. x == y) (edges m p)) (λ e. let l = is.1 p ((uses x p).0 e) in absurd (omega (arith, l, low)))))
      ((uses x o).1 is.0) within)
    where
      within : o < length m.objects
      within = elim (cases_lt o (length m.objects)) [
        | inl low ↦ low
        | inr past ↦ absurd (subst (λ (t : Slot). Among x (edges_of (terms_in t))) (get_or_past m.objects o Free past) ((edges_there o x).0 is.0))
      ]

  pub least_gone : IsLinked m → (x : ℕ) → is_some (role_at shape x) ≡ false → None ≡ least_user m x
  least_gone links x none = least_is links x None (λ o a. false≢true (sym (gone_unseen (slot_at m x) (sym (ap is_some (joined.roles x)) ∙ none)) ∙ links.observed o x ((edges_there o x).0 a)))

-- how many holders hold nothing, where there is one slot more, or another
pub vacancies_more : (slots : List Slot) (slot : Slot) → vacancies (slots ++ slot ∷ []) ≡ vacancies slots + vacancy slot
unfolding vacancies
vacancies_more slots slot = let more = sum_by-append vacancy slots (slot ∷ []) in let one = sum_by-cons vacancy slot [] in omega (arith, more, one)

pub vacancies_set : (slots : List Slot) (x : ℕ) (slot : Slot) → x < length slots
    → vacancies (slice_set slots x slot) + vacancy (slice_index_or slots x Free) ≡ vacancies slots + vacancy slot
unfolding vacancies
vacancies_set slots x slot within = sum_by-set vacancy slots x slot Free within

-- what stands at a number holds nothing where its terms do
pub slot_vacancy : (slot : Slot) (terms : Terms) → terms_in slot ≡ Some terms → vacancy slot ≡ vacancy_of terms
slot_vacancy Free terms is = absurd (cc)
slot_vacancy Today terms is = absurd (cc)
slot_vacancy Watcher terms is = absurd (cc)
slot_vacancy (Live held) terms is = ap vacancy_of (same is)
  where
    same : Some held ≡ Some terms → held ≡ terms
    same e = cc

-- there is room for one that holds nothing
pub vacancy_within : (slots : List Slot) (x : ℕ) → x < length slots → vacancy (slice_index_or slots x Free) ≤ vacancies slots
vacancy_within slots x within = let set = vacancies_set slots x Free within in omega (arith, set)

vacancy_low : (slot : Slot) → vacancy slot ≤ 1
vacancy_low Free = omega arith
vacancy_low Today = omega arith
vacancy_low Watcher = omega arith
vacancy_low (Live (terms_of.Quote held)) = omega arith
vacancy_low (Live (terms_of.Derived minus first second)) = omega arith
vacancy_low (Live (terms_of.Handle kind None)) = omega arith
vacancy_low (Live (terms_of.Handle kind (Some target))) = omega arith
vacancy_low (Live (terms_of.Curve terms)) = omega arith
vacancy_low (Live (terms_of.Implied curve reference)) = omega arith
vacancy_low (Live (terms_of.Index terms fixings)) = omega arith
vacancy_low (Live (terms_of.Engine curve)) = omega arith
vacancy_low (Live (terms_of.Stock quote)) = omega arith
vacancy_low (Live (terms_of.Composite parts)) = omega arith
vacancy_low (Live (terms_of.Flows flows None)) = omega arith
vacancy_low (Live (terms_of.Flows flows (Some engine))) = omega arith

-- at most one for each number
pub few_vacancies : (slots : List Slot) → vacancies slots ≤ length slots
unfolding vacancies
few_vacancies [] = omega arith
few_vacancies (slot ∷ slots) =
    let one = vacancy_low slot in let rest = few_vacancies slots in let sum = sum_by-cons vacancy slot slots in omega (arith, one, rest, sum)

-- a slot in whose place none comes that holds less
pub room_set : (slots : List Slot) (x : ℕ) (slot : Slot) (spare more : ℕ) → vacancies slots ≤ spare → spare ≤ more → x < length slots
    → vacancy slot ≤ vacancy (slice_index_or slots x Free) → vacancies (slice_set slots x slot) ≤ more
room_set slots x slot spare more room grows within less = let set = vacancies_set slots x slot within in omega (arith, room, grows, less, set)

-- the graph of `today` alone
pub joined_start : (today : ℤ) (old new : StoreView) → old.kept ≡ [] → old.shape.roles ≡ [] → old.shape.subjects ≡ [] → AddsObject Source [] old new → IsJoined (market_of today (Today ∷ [])) new.shape
joined_start today old new kept roles subjects adds = record {
  long = ap length (adds.roles ∙ ap (λ (l : List (Option Role)). l ++ Some Source ∷ []) roles);
  roles = λ o. ap (λ (l : List (Option Role)). slice_index_or l o None) (adds.roles ∙ ap (λ (l : List (Option Role)). l ++ Some Source ∷ []) roles) ∙ role_is o;
  pairs = λ o x plain. (
    λ a. absurd (elim ((adds.pairs x o).0 a) [ inl was ↦ nothing o x (subst (λ (l : List (List ℕ)). Among x (slice_index_or l o [])) subjects was) | inr p ↦ p.0 ]),
    λ a. absurd (subst (Among x) (no_edges o) a),
  );
  room = let none = vacancies_more [] Today in let nothing = few_vacancies [] in omega (arith, none, nothing);
}
  where
    role_is : (o : ℕ) → slice_index_or (Some Source ∷ []) o None ≡ slot_role (slice_index_or (Today ∷ []) o Free)
    role_is zero = refl
    role_is (suc o) = past o
      where
        past : (o : ℕ) → slice_index_or [] o None ≡ slot_role (slice_index_or [] o Free)
        past zero = refl
        past (suc o) = refl

    nothing : (o x : ℕ) → Among x (slice_index_or [] o []) → ⊥
    nothing zero x a = a
    nothing (suc o) x a = a

    no_edges : (o : ℕ) → edges_of (terms_in (slice_index_or (Today ∷ []) o Free)) ≡ []
    no_edges zero = refl
    no_edges (suc o) = past o
      where
        past : (o : ℕ) → edges_of (terms_in (slice_index_or [] o Free)) ≡ []
        past zero = refl
        past (suc o) = refl

-- the item at a place of a list with one more
pub last_item : {A : Type 0} (xs : List A) (a d : A) → slice_index_or (xs ++ a ∷ []) (length xs) d ≡ a
last_item [] a d = refl
last_item (x ∷ xs) a d = last_item xs a d

pub other_item : {A : Type 0} (xs : List A) (a d : A) (o : ℕ) → o ≢ length xs → slice_index_or (xs ++ a ∷ []) o d ≡ slice_index_or xs o d
other_item [] a d zero other = absurd (other refl)
other_item [] a d (suc o) other = none o
  where
    none : (o : ℕ) → slice_index_or [] o d ≡ d
    none zero = refl
    none (suc o) = refl
other_item (x ∷ xs) a d zero other = refl
other_item (x ∷ xs) a d (suc o) other = other_item xs a d o (λ e. other (ap suc e))

-- what has terms is no watcher
pub terms_watch : (slot : Slot) (terms : Terms) → terms_in slot ≡ Some terms → is_watcher slot ≡ false
terms_watch Free terms is = refl
terms_watch Today terms is = refl
terms_watch Watcher terms is = absurd (cc)
terms_watch (Live held) terms is = refl

-- past the last number nothing is observed
pub past_nothing : (today : ℤ) (slots : List Slot) (shape : Shape) → IsJoined (market_of today slots) shape → (o x : ℕ) → o ≡ length slots → Among x (observed_by shape o) → ⊥
past_nothing today slots shape joined o x same a =
    let past = get_or_past slots o Free (let s = same in omega arith) in
    subst (λ (t : Slot). Among x (edges_of (terms_in t))) past ((joined.pairs o x (ap is_watcher past)).0 a)

-- a graph with more room
pub joined_spared : (m : Market) (old new : StoreView) → IsJoined m old.shape → new ≡ record old { shape = record old.shape { spare = new.shape.spare } }
    → old.shape.spare ≤ new.shape.spare → IsJoined m new.shape
joined_spared m old new joined same more = subst (λ (h : Shape). IsJoined m h) (sym (ap (λ (v : StoreView). v.shape) same)) (record {
  long = joined.long;
  roles = joined.roles;
  pairs = joined.pairs;
  room = let room = joined.room in omega (arith, room, more);
})

-- one number more: an object observes its edges, a watcher nothing
module _ (today : ℤ) (slots : List Slot) (slot : Slot) (role : Role) (named : List ℕ) (old new : StoreView) (joined : IsJoined (market_of today slots) old.shape) (long : length old.kept ≡ length slots)
    (adds : AddsObject role named old new) (own : slot_role slot ≡ Some role) (edged : (x : ℕ) → Among x named ↔ Among x (edges_of (terms_in slot)))
    (room : vacancies slots + vacancy slot ≤ old.shape.spare) where
  as_long : length old.shape.roles ≡ length slots
  as_long = joined.long

  here : (n : ℕ) → n ≡ length slots → slice_index_or (slots ++ slot ∷ []) n Free ≡ slot
  here n same = ap (λ (m : ℕ). slice_index_or (slots ++ slot ∷ []) m Free) same ∙ last_item slots slot Free

  role_added : (o : ℕ) → slice_index_or (old.shape.roles ++ Some role ∷ []) o None ≡ slot_role (slice_index_or (slots ++ slot ∷ []) o Free)
  role_added o = elim (cases_eq o (length slots)) [
    | inl same ↦ ap (λ (n : ℕ). slice_index_or (old.shape.roles ++ Some role ∷ []) n None) (same ∙ sym as_long) ∙ last_item old.shape.roles (Some role) None
        ∙ sym own ∙ sym (ap slot_role (here o same))
    | inr other ↦ other_item old.shape.roles (Some role) None o (λ e. other (e ∙ as_long)) ∙ joined.roles o ∙ sym (ap slot_role (other_item slots slot Free o other))
  ]

  pub joined_more : IsJoined (market_of today (slots ++ slot ∷ [])) new.shape
  joined_more = record {
    long = ap length adds.roles ∙ length-append old.shape.roles (Some role ∷ []) ∙ ap (λ (n : ℕ). n + 1) joined.long ∙ sym (length-append slots (slot ∷ []));
    roles = λ o. ap (λ (l : List (Option Role)). slice_index_or l o None) adds.roles ∙ role_added o;
    pairs = λ o x plain. elim (cases_eq o (length slots)) [
      | inl same ↦ (
        λ a. subst (λ (t : Slot). Among x (edges_of (terms_in t))) (sym (here o same))
            (elim ((adds.pairs x o).0 a) [ inl was ↦ absurd (past_nothing today slots old.shape joined o x same was) | inr p ↦ (edged x).0 p.0 ]),
        λ a. (adds.pairs x o).1 (inr ((edged x).1 (subst (λ (t : Slot). Among x (edges_of (terms_in t))) (here o same) a), same ∙ sym long)),
      )
      | inr other ↦ let before = ap is_watcher (sym (other_item slots slot Free o other)) ∙ plain in (
        λ a. subst (λ (t : Slot). Among x (edges_of (terms_in t))) (sym (other_item slots slot Free o other))
            (elim ((adds.pairs x o).0 a) [ inl was ↦ (joined.pairs o x before).0 was | inr p ↦ absurd (other (p.1 ∙ long)) ]),
        λ a. (adds.pairs x o).1 (inl ((joined.pairs o x before).1 (subst (λ (t : Slot). Among x (edges_of (terms_in t))) (other_item slots slot Free o other) a))),
      )
    ];
    room = let more = vacancies_more slots slot in let same = adds.spare in omega (arith, more, same, room);
  }

-- one object more
pub joined_added : (today : ℤ) (slots slots2 : List Slot) (terms : Terms) (old new : StoreView) → IsJoined (market_of today slots) old.shape → length old.kept ≡ length slots
    → AddsObject (node_role (role_of (Some terms))) (watched terms) old new → vacancies slots + vacancy_of terms ≤ old.shape.spare
    → slots2 ≡ slots ++ Live terms ∷ [] → IsJoined (market_of today slots2) new.shape
joined_added today slots slots2 terms old new joined long adds room is = subst (λ (l : List Slot). IsJoined (market_of today l) new.shape) (sym is)
    (joined_more today slots (Live terms) (node_role (role_of (Some terms))) (watched terms) old new joined long adds refl (watched_edges terms) room)

-- one watcher more
pub joined_watcher : (today : ℤ) (slots slots2 : List Slot) (old new : StoreView) → IsJoined (market_of today slots) old.shape → length old.kept ≡ length slots
    → AddsObject role.Watcher [] old new → slots2 ≡ slots ++ Watcher ∷ [] → IsJoined (market_of today slots2) new.shape
joined_watcher today slots slots2 old new joined long adds is = subst (λ (l : List Slot). IsJoined (market_of today l) new.shape) (sym is)
    (joined_more today slots Watcher role.Watcher [] old new joined long adds refl (λ x. (λ a. a, λ a. a)) (let room = joined.room in omega (arith, room)))

-- one object with other terms
pub joined_set : (today : ℤ) (slots : List Slot) (x : ℕ) (terms : Terms) (shape : Shape) → length shape.roles ≡ length slots → x < length slots → role_at shape x ≡ slot_role (Live terms)
    → ((y : ℕ) → Among y (observed_by shape x) ↔ Among y (edges_of (Some terms)))
    → ((o : ℕ) → o ≢ x → role_at shape o ≡ slot_role (slice_index_or slots o Free)) → ((o y : ℕ) → o ≢ x → is_watcher (slice_index_or slots o Free) ≡ false → Among y (observed_by shape o) ↔ Among y (edges_of (terms_in (slice_index_or slots o Free))))
    → vacancies (slice_set slots x (Live terms)) ≤ shape.spare → IsJoined (market_of today (slice_set slots x (Live terms))) shape
joined_set today slots x terms shape long within own its roles pairs room = record {
  long = long ∙ sym (length-set slots x (Live terms));
  roles = λ o. elim (cases_eq o x) [
    | inl same ↦ subst (λ (z : ℕ). role_at shape z ≡ slot_role (slice_index_or (slice_set slots x (Live terms)) z Free)) (sym same) (own ∙ sym (ap slot_role (get_or-set_same slots x (Live terms) Free within)))
    | inr other ↦ roles o other ∙ sym (ap slot_role (get_or-set_other slots x o (Live terms) Free other))
  ];
  pairs = λ o y plain. elim (cases_eq o x) [
    | inl same ↦ subst (λ (z : ℕ). Among y (observed_by shape z) ↔ Among y (edges_of (terms_in (slice_index_or (slice_set slots x (Live terms)) z Free)))) (sym same)
        (subst (λ (t : Slot). Among y (observed_by shape x) ↔ Among y (edges_of (terms_in t))) (sym (get_or-set_same slots x (Live terms) Free within)) (its y))
    | inr other ↦ subst (λ (t : Slot). Among y (observed_by shape o) ↔ Among y (edges_of (terms_in t))) (sym (get_or-set_other slots x o (Live terms) Free other))
        (pairs o y other (ap is_watcher (sym (get_or-set_other slots x o (Live terms) Free other)) ∙ plain))
  ];
  room = room;
}

quote_slot : (t : Slot) → kind_in t ≡ Some kind.Quote → (slot_role t ≡ Some Source) × (edges_of (terms_in t) ≡ []) × (is_watcher t ≡ false)
quote_slot Free is = absurd (cc)
quote_slot Today is = absurd (cc)
quote_slot Watcher is = absurd (cc)
quote_slot (Live (terms_of.Quote held)) is = (refl, refl, refl)
quote_slot (Live (terms_of.Derived minus first second)) is = absurd (cc)
quote_slot (Live (terms_of.Handle handle.Quote target)) is = absurd (cc)
quote_slot (Live (terms_of.Handle handle.Curve target)) is = absurd (cc)
quote_slot (Live (terms_of.Curve terms)) is = absurd (cc)
quote_slot (Live (terms_of.Implied curve reference)) is = absurd (cc)
quote_slot (Live (terms_of.Index terms fixings)) is = absurd (cc)
quote_slot (Live (terms_of.Engine curve)) is = absurd (cc)
quote_slot (Live (terms_of.Stock quote)) is = absurd (cc)
quote_slot (Live (terms_of.Composite parts)) is = absurd (cc)
quote_slot (Live (terms_of.Flows flows engine)) is = absurd (cc)

pub quote_watch : (t : Slot) → kind_in t ≡ Some kind.Quote → is_watcher t ≡ false
quote_watch t is = (quote_slot t is).2

-- a quote with another value
pub joined_quote : (today : ℤ) (slots : List Slot) (shape : Shape) (q : ℕ) (value : Option ℤ) → IsJoined (market_of today slots) shape → q < length slots → kind_in (slice_index_or slots q Free) ≡ Some kind.Quote
    → IsJoined (market_of today (slice_set slots q (Live (terms_of.Quote value)))) shape
joined_quote today slots shape q value joined within is =
    let t = quote_slot (slice_index_or slots q Free) is in
    joined_set today slots q (terms_of.Quote value) shape joined.long within (joined.roles q ∙ t.0)
    (λ y. (λ a. subst (Among y) t.1 ((joined.pairs q y t.2).0 a), λ a. absurd a)) (λ o other. joined.roles o) (λ o y other plain. joined.pairs o y plain)
    (room_set slots q (Live (terms_of.Quote value)) shape.spare shape.spare joined.room (omega arith) within (omega arith))

pub composite_slot : (t : Slot) → kind_in t ≡ Some kind.Composite → (slot_role t ≡ Some Lazy) × (edges_of (terms_in t) ≡ each_once (named (part_references (parts_in t)))) × (is_watcher t ≡ false)
composite_slot Free is = absurd (cc)
composite_slot Today is = absurd (cc)
composite_slot Watcher is = absurd (cc)
composite_slot (Live (terms_of.Quote held)) is = absurd (cc)
composite_slot (Live (terms_of.Derived minus first second)) is = absurd (cc)
composite_slot (Live (terms_of.Handle handle.Quote target)) is = absurd (cc)
composite_slot (Live (terms_of.Handle handle.Curve target)) is = absurd (cc)
composite_slot (Live (terms_of.Curve terms)) is = absurd (cc)
composite_slot (Live (terms_of.Implied curve reference)) is = absurd (cc)
composite_slot (Live (terms_of.Index terms fixings)) is = absurd (cc)
composite_slot (Live (terms_of.Engine curve)) is = absurd (cc)
composite_slot (Live (terms_of.Stock quote)) is = absurd (cc)
composite_slot (Live (terms_of.Composite parts)) is = (refl, refl, refl)
composite_slot (Live (terms_of.Flows flows engine)) is = absurd (cc)

-- what a composite observes are its members
pub composite_watches : (today : ℤ) (slots : List Slot) (shape : Shape) (k : ℕ) → IsJoined (market_of today slots) shape → kind_in (slice_index_or slots k Free) ≡ Some kind.Composite
    → (x : ℕ) → Among x (observed_by shape k) ↔ Among x (named (part_references (parts_in (slice_index_or slots k Free))))
composite_watches today slots shape k joined is x =
    let t = composite_slot (slice_index_or slots k Free) is in (
      λ a. among_once x (named (part_references (parts_in (slice_index_or slots k Free)))) (subst (Among x) t.1 ((joined.pairs k x t.2).0 a)),
      λ a. (joined.pairs k x t.2).1 (subst (Among x) (sym t.1) (once_among x (named (part_references (parts_in (slice_index_or slots k Free)))) a)),
    )

-- a composite of other parts
pub joined_composite : (today : ℤ) (slots : List Slot) (old new : StoreView) (k : ℕ) (parts : List Part) → IsJoined (market_of today slots) old.shape → k < length slots → kind_in (slice_index_or slots k Free) ≡ Some kind.Composite
    → IsRewatched k parts old new → IsJoined (market_of today (slice_set slots k (Live (terms_of.Composite parts)))) new.shape
joined_composite today slots old new k parts joined within is rewatched =
    let t = composite_slot (slice_index_or slots k Free) is in
    let role : (o : ℕ) → role_at new.shape o ≡ role_at old.shape o = λ o. ap (λ (l : List (Option Role)). slice_index_or l o None) rewatched.roles in
    joined_set today slots k (terms_of.Composite parts) new.shape (ap length rewatched.roles ∙ joined.long) within (role k ∙ joined.roles k ∙ t.0)
    (λ y. (
      λ a. once_among y (named (part_references parts)) ((rewatched.own y).0 a),
      λ a. (rewatched.own y).1 (among_once y (named (part_references parts)) a),
    ))
    (λ o other. role o ∙ joined.roles o)
    (λ o y other plain. (
      λ a. (joined.pairs o y plain).0 ((rewatched.others o y other).0 a),
      λ a. (rewatched.others o y other).1 ((joined.pairs o y plain).1 a),
    ))
    (room_set slots k (Live (terms_of.Composite parts)) old.shape.spare new.shape.spare joined.room rewatched.spare within (omega arith))

-- one object less
pub joined_dropped : (today : ℤ) (slots slots2 : List Slot) (x : ℕ) (old new : StoreView) → IsJoined (market_of today slots) old.shape → x < length slots → least_user (market_of today slots) x ≡ None
    → TakesObject x old new → slots2 ≡ slice_set slots x Free → IsJoined (market_of today slots2) new.shape
joined_dropped today slots slots2 x old new joined within unused takes is = subst (λ (l : List Slot). IsJoined (market_of today l) new.shape) (sym is) (record {
  long = ap length takes.roles ∙ length-set old.shape.roles x None ∙ joined.long ∙ sym (length-set slots x Free);
  roles = λ o. ap (λ (l : List (Option Role)). slice_index_or l o None) takes.roles ∙ elim (cases_eq o x) [
    | inl same ↦ subst (λ (z : ℕ). slice_index_or (slice_set old.shape.roles x None) z None ≡ slot_role (slice_index_or (slice_set slots x Free) z Free)) (sym same)
        (get_or-set_same old.shape.roles x None None low ∙ sym (ap slot_role (get_or-set_same slots x Free Free within)))
    | inr other ↦ get_or-set_other old.shape.roles x o None None other ∙ joined.roles o ∙ sym (ap slot_role (get_or-set_other slots x o Free Free other))
  ];
  pairs = λ o y plain. elim (cases_eq o x) [
    | inl same ↦ (
      λ a. absurd (((takes.pairs y o).0 a).1 (inr same)),
      λ a. absurd (subst (λ (t : Slot). Among y (edges_of (terms_in t))) (ap (λ (z : ℕ). slice_index_or (slice_set slots x Free) z Free) same ∙ get_or-set_same slots x Free Free within) a),
    )
    | inr other ↦ (
      λ a. subst (λ (t : Slot). Among y (edges_of (terms_in t))) (sym (get_or-set_other slots x o Free Free other)) ((joined.pairs o y (plain_before o other plain)).0 ((takes.pairs y o).0 a).0),
      λ a. let e = subst (λ (t : Slot). Among y (edges_of (terms_in t))) (get_or-set_other slots x o Free Free other) a in
          (takes.pairs y o).1 (
            (joined.pairs o y (plain_before o other plain)).1 e,
            λ p. elim p [
              | inl same ↦ none_uses (market_of today slots) x unused o (subst (λ (z : ℕ). Among z (edges_of (terms_in (slice_index_or slots o Free)))) same e)
              | inr same ↦ other same
            ],
          ),
    )
  ];
  room = room_set slots x Free old.shape.spare new.shape.spare joined.room takes.spare within (omega arith);
})
  where
    plain_before : (o : ℕ) → o ≢ x → is_watcher (slice_index_or (slice_set slots x Free) o Free) ≡ false → is_watcher (slice_index_or slots o Free) ≡ false
    plain_before o other plain = ap is_watcher (sym (get_or-set_other slots x o Free Free other)) ∙ plain

    low : x < length old.shape.roles
    low = let l = joined.long in omega (arith, l, within)

-- a notice changes nothing of the market, whether it is held back or not
pub notified_market : (x : ℕ) (s : State) → (notified x s).market ≡ s.market
unfolding notified
notified_market x s = by_switch s.deferring
  where
    by_switch : (b : Bool) → (notified_as b x s).market ≡ s.market
    by_switch true = refl
    by_switch false = told_market (λ y. y == x) s

-- a change leaves the market of the new terms
pub revised_market : (x : ℕ) (terms : Terms) (s : State) → (revised x terms s).market ≡ (with_terms x terms s).market
unfolding revised
revised_market x terms s = notified_market x (with_terms x terms s)

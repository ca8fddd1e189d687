-- The registrations that a graph has are the pairs of its watchers, and change as these do.
use Rattle.std.proofs.Common.{◌≡◌, ◌≢◌, ◌⊎◌, inl, inr, ℕ, zero, suc, ◌+◌, List, [], ◌∷◌, ◌++◌, length, Option, Some, None, refl, sym, ◌∙◌, ap, subst, arith}
use Rattle.std.specs.Prelude.{◌↔◌, slice_index_or}
use Rattle.std.proofs.lemmas.List.{get_or-set_other}
use Rattle.std.proofs.lemmas.Bool.{cases_eq}
use Rattle.walks.specs.Walk.{Among}
use Rattle.desk_terms.specs.declared.terms.Part.{Part}
use Rattle.desk_model.specs.Told.{registered}
use Rattle.desk_model.specs.Effect.{with_pair, without_pair, without_pairs}
use Rattle.desk_model.specs.Registrations.{IsPairIn, AreInOrder}
use Rattle.desk_model.proofs.PairSets.{are_a_set}
use Rattle.observer_graph.specs.declared.node.Role.{Role}
use Rattle.observer_graph.specs.declared.node.Role.TheVariants.{Source, Forwarder, Lazy, Watcher}
use Rattle.observer_graph.specs.Lists.{list_at}
use Rattle.object_store.specs.Shape.{Shape, role_at, observed_by, with_pairs, with_any, registrations_from, registrations_of}
use Rattle.object_store.proofs.Joined.{last_item, other_item}
use Rattle.object_store.specs.Store.{StoreView, registry_of, AddsObject, TakesObject, Joins, Leaves, Moves, IsRewatched}

-- each of these is one pair more
pairs_in : (w : ℕ) (xs : List ℕ) (pairs : List (ℕ × ℕ)) (v y : ℕ) → IsPairIn v y (with_pairs w xs pairs) ↔ (IsPairIn v y pairs ⊎ ((v ≡ w) × Among y xs))
pairs_in w [] pairs v y = (λ a. inl a, λ a. elim a [ inl was ↦ was | inr none ↦ absurd none.1 ])
pairs_in w (x ∷ xs) pairs v y =
    let more = (are_a_set (with_pairs w xs pairs)).more w x v y in
    let rest = pairs_in w xs pairs v y in (
      λ a. elim (more.0 a) [
        | inl there ↦ elim (rest.0 there) [ inl was ↦ inl was | inr new ↦ inr (new.0, inr new.1) ]
        | inr new ↦ inr (new.0, inl new.1)
      ],
      λ a. more.1 (elim a [
        | inl was ↦ inl (rest.1 (inl was))
        | inr new ↦ elim new.1 [ inl here ↦ inr (new.0, here) | inr there ↦ inl (rest.1 (inr (new.0, there))) ]
      ]),
    )

pairs_ordered : (w : ℕ) (xs : List ℕ) (pairs : List (ℕ × ℕ)) → AreInOrder pairs → AreInOrder (with_pairs w xs pairs)
pairs_ordered w [] pairs ordered = ordered
pairs_ordered w (x ∷ xs) pairs ordered = (are_a_set (with_pairs w xs pairs)).more_in_order (pairs_ordered w xs pairs ordered) w x

any_in : (role : Option Role) (w : ℕ) (xs : List ℕ) (pairs : List (ℕ × ℕ)) (v y : ℕ)
    → IsPairIn v y (with_any role w xs pairs) ↔ (IsPairIn v y pairs ⊎ ((v ≡ w) × (role ≡ Some Watcher) × Among y xs))
any_in None w xs pairs v y = (λ a. inl a, λ a. elim a [ inl was ↦ was | inr none ↦ absurd (no_role none.1) ])
  where
    no_role : None ≡ Some Watcher → ⊥
    no_role e = absurd (cc)
any_in (Some Source) w xs pairs v y = (λ a. inl a, λ a. elim a [ inl was ↦ was | inr none ↦ absurd (no_role none.1) ])
  where
    no_role : Some Source ≡ Some Watcher → ⊥
    no_role e = absurd (cc)
any_in (Some Forwarder) w xs pairs v y = (λ a. inl a, λ a. elim a [ inl was ↦ was | inr none ↦ absurd (no_role none.1) ])
  where
    no_role : Some Forwarder ≡ Some Watcher → ⊥
    no_role e = absurd (cc)
any_in (Some Lazy) w xs pairs v y = (λ a. inl a, λ a. elim a [ inl was ↦ was | inr none ↦ absurd (no_role none.1) ])
  where
    no_role : Some Lazy ≡ Some Watcher → ⊥
    no_role e = absurd (cc)
any_in (Some Watcher) w xs pairs v y =
    let p = pairs_in w xs pairs v y in (
      λ a. elim (p.0 a) [ inl was ↦ inl was | inr new ↦ inr (new.0, refl, new.1) ],
      λ a. p.1 (elim a [ inl was ↦ inl was | inr new ↦ inr (new.0, new.2) ]),
    )

any_ordered : (role : Option Role) (w : ℕ) (xs : List ℕ) (pairs : List (ℕ × ℕ)) → AreInOrder pairs → AreInOrder (with_any role w xs pairs)
any_ordered None w xs pairs ordered = ordered
any_ordered (Some Source) w xs pairs ordered = ordered
any_ordered (Some Forwarder) w xs pairs ordered = ordered
any_ordered (Some Lazy) w xs pairs ordered = ordered
any_ordered (Some Watcher) w xs pairs ordered = pairs_ordered w xs pairs ordered

from_ordered : (w : ℕ) (roles : List (Option Role)) (subjects : List (List ℕ)) → AreInOrder (registrations_from w roles subjects)
from_ordered w [] subjects = tt
from_ordered w (role ∷ roles) subjects = any_ordered role w (list_at subjects w) (registrations_from (w + 1) roles subjects) (from_ordered (w + 1) roles subjects)

from_there : (w : ℕ) (roles : List (Option Role)) (subjects : List (List ℕ)) (v y : ℕ) → IsPairIn v y (registrations_from w roles subjects)
    → (i : ℕ) × (v ≡ w + i) × (slice_index_or roles i None ≡ Some Watcher) × Among y (list_at subjects v)
from_there w [] subjects v y a = absurd a
from_there w (role ∷ roles) subjects v y a = elim ((any_in role w (list_at subjects w) (registrations_from (w + 1) roles subjects) v y).0 a) [
  | inl later ↦ let l = from_there (w + 1) roles subjects v y later in let e = l.1 in (suc l.0, omega (arith, e), l.2, l.3)
  | inr here ↦ let e = here.0 in (0, omega (arith, e), here.1, subst (λ (n : ℕ). Among y (list_at subjects n)) (sym here.0) here.2)
]

from_back : (w i : ℕ) (roles : List (Option Role)) (subjects : List (List ℕ)) (v y : ℕ) → v ≡ w + i → slice_index_or roles i None ≡ Some Watcher → Among y (list_at subjects v)
    → IsPairIn v y (registrations_from w roles subjects)
from_back w zero [] subjects v y same is a = absurd (cc)
from_back w (suc i) [] subjects v y same is a = absurd (cc)
from_back w zero (role ∷ roles) subjects v y same is a =
    let e : v ≡ w = omega (arith, same) in
    (any_in role w (list_at subjects w) (registrations_from (w + 1) roles subjects) v y).1 (inr (e, is, subst (λ (n : ℕ). Among y (list_at subjects n)) e a))
from_back w (suc i) (role ∷ roles) subjects v y same is a =
    (any_in role w (list_at subjects w) (registrations_from (w + 1) roles subjects) v y).1
    (inl (from_back (w + 1) i roles subjects v y (omega (arith, same)) is a))

-- THE REGISTRATIONS of a graph: who is registered with whom
abbrev pub IsWatching : Shape → ℕ → ℕ → Type 0
IsWatching shape v y = (role_at shape v ≡ Some Watcher) × Among y (observed_by shape v)

pub in_registrations : (shape : Shape) (v y : ℕ) → IsPairIn v y (registrations_of shape) ↔ IsWatching shape v y
unfolding registrations_of
in_registrations shape v y = (
  λ a. let f = from_there 0 shape.roles shape.subjects v y a in let e = f.1 in
      let same : v ≡ f.0 = omega (arith, e) in (ap (λ (n : ℕ). slice_index_or shape.roles n None) same ∙ f.2, f.3),
  λ p. from_back 0 v shape.roles shape.subjects v y (omega arith) p.0 p.1,
)

pub registrations_ordered : (shape : Shape) → AreInOrder (registrations_of shape)
unfolding registrations_of
registrations_ordered shape = from_ordered 0 shape.roles shape.subjects

pub registered_is : (shape : Shape) (v y : ℕ) → Among y (registered (registrations_of shape) v) ↔ IsWatching shape v y
registered_is shape v y =
    let there = (are_a_set (registrations_of shape)).registered v y in
    let is = in_registrations shape v y in
    (λ a. is.0 (there.0 a), λ p. there.1 (is.1 p))

-- these pairs, in order, are the registrations
pub registrations_are : (shape : Shape) (pairs : List (ℕ × ℕ)) → AreInOrder pairs → ((v y : ℕ) → IsPairIn v y pairs ↔ IsWatching shape v y) → registrations_of shape ≡ pairs
registrations_are shape pairs ordered each = (are_a_set (registrations_of shape)).same (registrations_ordered shape) pairs ordered
    (λ v y. (λ a. (each v y).1 ((in_registrations shape v y).0 a), λ a. (in_registrations shape v y).1 ((each v y).0 a)))

-- where no watcher observes another than before, the registrations are as they were
pub same_registrations : (old new : Shape) → ((v y : ℕ) → IsWatching old v y ↔ IsWatching new v y) → registrations_of new ≡ registrations_of old
same_registrations old new same = registrations_are new (registrations_of old) (registrations_ordered old)
    (λ v y. (λ a. (same v y).0 ((in_registrations old v y).0 a), λ p. (in_registrations old v y).1 ((same v y).1 p)))

-- what one object observes that is no watcher is no registration
pub same_but : (old new : Shape) (k : ℕ) → new.roles ≡ old.roles → (role_at old k ≡ Some Watcher → ⊥)
    → ((o x : ℕ) → o ≢ k → Among x (observed_by new o) ↔ Among x (observed_by old o)) → registrations_of new ≡ registrations_of old
same_but old new k roles plain others = same_registrations old new (λ v y. (
  λ p. (role v ∙ p.0, (others v y (apart v p.0)).1 p.1),
  λ p. let is = sym (role v) ∙ p.0 in (is, (others v y (apart v is)).0 p.1),
))
  where
    role : (o : ℕ) → role_at new o ≡ role_at old o
    role o = ap (λ (l : List (Option Role)). slice_index_or l o None) roles

    apart : (v : ℕ) → role_at old v ≡ Some Watcher → v ≢ k
    apart v is same = plain (ap (role_at old) (sym same) ∙ is)

-- the rest of a store is as it was
pub same_registry : (old new : StoreView) → new.deferring ≡ old.deferring → registrations_of new.shape ≡ registrations_of old.shape → new.noticed ≡ old.noticed
    → registry_of new ≡ registry_of old
same_registry old new switch pairs told = λ i. record { deferring = switch i; registrations = pairs i; noticed = told i }

pub moves_plain : (held target : Option ℕ) (o : ℕ) (old new : StoreView) → (role_at old.shape o ≡ Some Watcher → ⊥) → Moves held target o old new → registry_of new ≡ registry_of old
moves_plain held target o old new plain moves = same_registry old new moves.switch (same_but old.shape new.shape o moves.roles plain moves.others) moves.told

pub rewatched_plain : (k : ℕ) (parts : List Part) (old new : StoreView) → (role_at old.shape k ≡ Some Watcher → ⊥) → IsRewatched k parts old new → registry_of new ≡ registry_of old
rewatched_plain k parts old new plain rewatched = same_registry old new rewatched.switch (same_but old.shape new.shape k rewatched.roles plain rewatched.others) rewatched.told

-- one registration more, one less
module _ (old new : StoreView) (o w : ℕ) where
  pub joins_registered : role_at old.shape w ≡ Some Watcher → Joins old new o w → registrations_of new.shape ≡ with_pair w o (registrations_of old.shape)
  joins_registered is joins = registrations_are new.shape (with_pair w o (registrations_of old.shape))
      ((are_a_set (registrations_of old.shape)).more_in_order (registrations_ordered old.shape) w o) (λ v y. (
        λ a. elim (((are_a_set (registrations_of old.shape)).more w o v y).0 a) [
          | inl was ↦ let p = (in_registrations old.shape v y).0 was in (role v ∙ p.0, (joins.pairs y v).1 (inl p.1))
          | inr new ↦ (role v ∙ ap (role_at old.shape) new.0 ∙ is, (joins.pairs y v).1 (inr (new.1, new.0)))
        ],
        λ p. ((are_a_set (registrations_of old.shape)).more w o v y).1 (elim ((joins.pairs y v).0 p.1) [
          | inl was ↦ inl ((in_registrations old.shape v y).1 (sym (role v) ∙ p.0, was))
          | inr new ↦ inr (new.1, new.0)
        ]),
      ))
    where
      role : (v : ℕ) → role_at new.shape v ≡ role_at old.shape v
      role v = ap (λ (l : List (Option Role)). slice_index_or l v None) joins.roles

  pub leaves_registered : Leaves old new o w → registrations_of new.shape ≡ without_pair w o (registrations_of old.shape)
  leaves_registered leaves = registrations_are new.shape (without_pair w o (registrations_of old.shape))
      ((are_a_set (registrations_of old.shape)).fewer_in_order (registrations_ordered old.shape) w o) (λ v y. (
        λ a. let f = ((are_a_set (registrations_of old.shape)).fewer w o v y).0 a in let p = (in_registrations old.shape v y).0 f.0 in
            (role v ∙ p.0, (leaves.pairs y v).1 (p.1, λ q. f.1 (q.1, q.0))),
        λ p. let l = (leaves.pairs y v).0 p.1 in
            ((are_a_set (registrations_of old.shape)).fewer w o v y).1 ((in_registrations old.shape v y).1 (sym (role v) ∙ p.0, l.0), λ q. l.1 (q.1, q.0)),
      ))
    where
      role : (v : ℕ) → role_at new.shape v ≡ role_at old.shape v
      role v = ap (λ (l : List (Option Role)). slice_index_or l v None) leaves.roles

-- an object that is gone takes its registrations along, as a watcher and as what is watched
pub takes_registered : (old new : StoreView) (x : ℕ) → TakesObject x old new → registrations_of new.shape ≡ without_pairs x (registrations_of old.shape)
takes_registered old new x takes = registrations_are new.shape (without_pairs x (registrations_of old.shape))
    ((are_a_set (registrations_of old.shape)).dropped_in_order (registrations_ordered old.shape) x) (λ v y. (
      λ a. let d = ((are_a_set (registrations_of old.shape)).dropped x v y).0 a in let p = (in_registrations old.shape v y).0 d.0 in
          (role v (λ e. d.1 (inl e)) ∙ p.0, (takes.pairs y v).1 (p.1, λ q. d.1 (elim q [ inl e ↦ inr e | inr e ↦ inl e ]))),
      λ p. let t = (takes.pairs y v).0 p.1 in
          ((are_a_set (registrations_of old.shape)).dropped x v y).1 (
            (in_registrations old.shape v y).1 (sym (role v (λ e. t.1 (inr e))) ∙ p.0, t.0),
            λ q. t.1 (elim q [ inl e ↦ inr e | inr e ↦ inl e ]),
          ),
    ))
  where
    role : (v : ℕ) → v ≢ x → role_at new.shape v ≡ role_at old.shape v
    role v other = ap (λ (l : List (Option Role)). slice_index_or l v None) takes.roles ∙ get_or-set_other old.shape.roles x v None None other

-- one number more, of an object that is no watcher or of a watcher that observes nothing
pub adds_registered : (role : Role) (named : List ℕ) (old new : StoreView) → length old.shape.roles ≡ length old.kept → AddsObject role named old new
    → (Some role ≡ Some Watcher → (y : ℕ) → Among y named → ⊥) → ((o y : ℕ) → o ≡ length old.kept → Among y (observed_by old.shape o) → ⊥)
    → registrations_of new.shape ≡ registrations_of old.shape
adds_registered role named old new long adds idle past = same_registrations old.shape new.shape (λ v y. (there v y, back v y))
  where
    role_new : (v : ℕ) → v ≡ length old.kept → role_at new.shape v ≡ Some role
    role_new v same = ap (λ (l : List (Option Role)). slice_index_or l v None) adds.roles
        ∙ ap (λ (n : ℕ). slice_index_or (old.shape.roles ++ Some role ∷ []) n None) (same ∙ sym long) ∙ last_item old.shape.roles (Some role) None

    role_old : (v : ℕ) → v ≢ length old.kept → role_at new.shape v ≡ role_at old.shape v
    role_old v other = ap (λ (l : List (Option Role)). slice_index_or l v None) adds.roles ∙ other_item old.shape.roles (Some role) None v (λ e. other (e ∙ long))

    there : (v y : ℕ) → IsWatching old.shape v y → IsWatching new.shape v y
    there v y p = elim (cases_eq v (length old.kept)) [
      | inl same ↦ absurd (past v y same p.1)
      | inr other ↦ (role_old v other ∙ p.0, (adds.pairs y v).1 (inl p.1))
    ]

    back : (v y : ℕ) → IsWatching new.shape v y → IsWatching old.shape v y
    back v y p = elim (cases_eq v (length old.kept)) [
      | inl same ↦ elim ((adds.pairs y v).0 p.1) [
        | inl was ↦ absurd (past v y same was)
        | inr new ↦ absurd (idle (sym (role_new v same) ∙ p.0) y new.0)
      ]
      | inr other ↦ elim ((adds.pairs y v).0 p.1) [
        | inl was ↦ (sym (role_old v other) ∙ p.0, was)
        | inr new ↦ absurd (other new.1)
      ]
    ]

-- more room changes no registration
pub spared_registry : (old new : StoreView) (spare : ℕ) → new ≡ record old { shape = record old.shape { spare = spare } } → registry_of new ≡ registry_of old
unfolding registrations_of
spared_registry old new spare same = ap registry_of same

-- What stands between two calls, after a pair is put in or taken out.
use Rattle.std.proofs.Common.{◌≡◌, ◌≢◌, ◌⊎◌, inl, inr, ℕ, zero, suc, ◌+◌, ◌≤◌, ◌^◌, List, [], ◌∷◌, ◌++◌, length, take, drop, refl, sym, ap, ◌∙◌, subst, arith, Option, Some, None, cond, eqb}
use Rattle.std.specs.Prelude.{◌↔◌, slice_set, IsSome, is_some, count_by}
use Rattle.std.proofs.lemmas.Bool.{cases_eq}
use Rattle.std.proofs.lemmas.List.{get_or-set_other}
use Rattle.std.proofs.Math.Seq.{take-append_seam}
use Rattle.slab.specs.Slab.{Slab, slab_len}
use Rattle.edge_lists.specs.declared.edge.Edge.{Edge}
use Rattle.edge_lists.specs.declared.edge.Heads.{Heads}
use Rattle.edge_lists.specs.declared.edge.Side.{Side}
use Rattle.edge_lists.specs.declared.edge.Side.TheVariants.{Subject, Observer}
use Rattle.edge_lists.specs.Ends.{node_of, before_of, after_of, first_of, slot_at, heads_at}
use Rattle.edge_lists.specs.Chains.{Chains, AreChained, SameChains, chains_of, without}
use Rattle.edge_lists.specs.Stands.{Stands, IsEdge, IsPairIn}
use Rattle.edge_lists.specs.EdgesView.{no_heads}
use Rattle.edge_lists.proofs.Chaining.{chained_same, known}
use Rattle.edge_lists.proofs.Linking.{hidden_here, hidden_other}

-- a word that a hidden slot hides, in slots that differ there alone
hidden_word : (word : Option Edge → Option ℕ) → word None ≡ None → (old new : List (Option Edge)) (edge : ℕ)
    → slot_at old edge ≡ None → ((k : ℕ) → k ≢ edge → slot_at new k ≡ slot_at old k)
    → (k : ℕ) → cond (eqb k edge) None (word (slot_at new k)) ≡ word (slot_at old k)
hidden_word word none old new edge vacant others k = elim (cases_eq k edge) [
  | inl here ↦ subst (λ (z : ℕ). cond (eqb z edge) None (word (slot_at new z)) ≡ word (slot_at old z)) (sym here)
      (hidden_here (λ k. word (slot_at new k)) edge ∙ sym none ∙ ap word (sym vacant))
  | inr other ↦ hidden_other (λ k. word (slot_at new k)) edge k other ∙ ap word (others k other)
]

-- slots with one slot more or less
pub same_but : (side : Side) (old new : List (Option Edge)) (nodes : List (Option Heads)) (edge : ℕ)
    → slot_at old edge ≡ None → ((k : ℕ) → k ≢ edge → slot_at new k ≡ slot_at old k)
    → SameChains (chains_of side old nodes) (without edge (chains_of side new nodes))
same_but side old new nodes edge vacant others = record {
  node = hidden_word (node_of side) refl old new edge vacant others;
  before = hidden_word (before_of side) refl old new edge vacant others;
  after = hidden_word (after_of side) refl old new edge vacant others;
  first = λ x. refl;
}

pub same_back : (c d : Chains) → SameChains c d → SameChains d c
same_back c d same = record {
  node = λ k. sym (same.node k);
  before = λ k. sym (same.before k);
  after = λ k. sym (same.after k);
  first = λ x. sym (same.first x);
}

pub same_without : (edge : ℕ) (c d : Chains) → SameChains c d → SameChains (without edge c) (without edge d)
same_without edge c d same = record {
  node = λ k. ap (cond (eqb k edge) None) (same.node k);
  before = λ k. ap (cond (eqb k edge) None) (same.before k);
  after = λ k. ap (cond (eqb k edge) None) (same.after k);
  first = same.first;
}

-- one pair more, in a slot that was vacant
pub record HasMore (old new : List (Option Edge)) (edge x o : ℕ) : Type 0 where
  pub vacant : slot_at old edge ≡ None
  pub here : IsEdge new edge x o
  pub others : (side : Side) (k : ℕ) → k ≢ edge → node_of side (slot_at new k) ≡ node_of side (slot_at old k)

-- one pair less
pub record HasLess (old new : List (Option Edge)) (edge : ℕ) : Type 0 where
  pub gone : slot_at new edge ≡ None
  pub others : (side : Side) (k : ℕ) → k ≢ edge → node_of side (slot_at new k) ≡ node_of side (slot_at old k)

no_edge : (slots : List (Option Edge)) (k x o : ℕ) → slot_at slots k ≡ None → IsEdge slots k x o → ⊥
no_edge slots k x o none e = let n = ap (node_of Subject) none in let s = e.subject in cc

edge_same : (slots slots2 : List (Option Edge)) (k x o : ℕ)
    → ((side : Side) → node_of side (slot_at slots2 k) ≡ node_of side (slot_at slots k)) → IsEdge slots k x o
    → IsEdge slots2 k x o
edge_same slots slots2 k x o same e = record {
  subject = same Subject ∙ e.subject;
  observer = same Observer
      ∙ e.observer;
}

pub edge_is : (slots : List (Option Edge)) (k x o y p : ℕ) → IsEdge slots k x o → IsEdge slots k y p → (y ≡ x) × (p ≡ o)
edge_is slots k x o y p e f =
    let a = e.subject in let b = e.observer in let c = f.subject in let d = f.observer in (cc, cc)

edge_at : (slots : List (Option Edge)) (j k x o : ℕ) → j ≡ k → IsEdge slots j x o → IsEdge slots k x o
edge_at slots j k x o same e = subst (λ (z : ℕ). IsEdge slots z x o) same e

module _ (old new : List (Option Edge)) (edge x o : ℕ) (more : HasMore old new edge x o) where
  was_apart : (k y p : ℕ) → IsEdge old k y p → k ≢ edge
  was_apart k y p e same = no_edge old edge y p more.vacant (edge_at old k edge y p same e)

  pub edge_kept : (k y p : ℕ) → IsEdge old k y p → IsEdge new k y p
  edge_kept k y p e = edge_same old new k y p (λ side. more.others side k (was_apart k y p e)) e

  pub edge_was : (k y p : ℕ) → k ≢ edge → IsEdge new k y p → IsEdge old k y p
  edge_was k y p other e = edge_same new old k y p (λ side. sym (more.others side k other)) e

  pub pairs_more : (y p : ℕ) → IsPairIn new y p ↔ (IsPairIn old y p ⊎ ((y ≡ x) × (p ≡ o)))
  pairs_more y p = (
    λ e. elim (cases_eq e.0 edge) [
      | inl here ↦ inr (edge_is new edge x o y p more.here (edge_at new e.0 edge y p here e.1))
      | inr other ↦ inl (e.0, edge_was e.0 y p other e.1)
    ],
    λ e. elim e [
      | inl was ↦ (was.0, edge_kept was.0 y p was.1)
      | inr here ↦ (
        edge,
        record {
          subject = more.here.subject ∙ ap Some (sym here.0);
          observer = more.here.observer
              ∙ ap Some (sym here.1);
        },
      )
    ],
  )

  pub once_more : (IsPairIn old x o → ⊥) → ((j k y p : ℕ) → IsEdge old j y p → IsEdge old k y p → j ≡ k)
      → (j k y p : ℕ) → IsEdge new j y p → IsEdge new k y p → j ≡ k
  once_more fresh once j k y p e f = elim (cases_eq j edge) [
    | inl here ↦ elim (cases_eq k edge) [
      | inl there ↦ here ∙ sym there
      | inr other ↦ absurd (twice k other f (edge_is new edge x o y p more.here (edge_at new j edge y p here e)))
    ]
    | inr apart ↦ elim (cases_eq k edge) [
      | inl there ↦ absurd (twice j apart e (edge_is new edge x o y p more.here (edge_at new k edge y p there f)))
      | inr other ↦ once j k y p (edge_was j y p apart e) (edge_was k y p other f)
    ]
  ]
    where
      twice : {y p : ℕ} (k : ℕ) → k ≢ edge → IsEdge new k y p → (y ≡ x) × (p ≡ o) → ⊥
      twice {y} {p} k other f same = fresh (
        k,
        let was = edge_was k y p other f in
            record { subject = was.subject ∙ ap Some same.0; observer = was.observer ∙ ap Some same.1 },
      )

module _ (old new : List (Option Edge)) (edge : ℕ) (less : HasLess old new edge) where
  pub edge_left : (k y p : ℕ) → IsEdge new k y p → (k ≢ edge) × IsEdge old k y p
  edge_left k y p e = (apart, edge_same new old k y p (λ side. sym (less.others side k apart)) e)
    where
      apart : k ≢ edge
      apart same = no_edge new edge y p less.gone (edge_at new k edge y p same e)

  pub pairs_less : ((j k y p : ℕ) → IsEdge old j y p → IsEdge old k y p → j ≡ k)
      → (y p : ℕ) → IsPairIn new y p ↔ (IsPairIn old y p × (IsEdge old edge y p → ⊥))
  pairs_less once y p = (
    λ e. let was = edge_left e.0 y p e.1 in ((e.0, was.1), λ f. was.0 (once e.0 edge y p was.1 f)),
    λ e. (
      e.0.0,
      edge_same old new e.0.0 y p
          (λ side. less.others side e.0.0 (λ same. e.1 (edge_at old e.0.0 edge y p same e.0.1))) e.0.1,
    ),
  )

live_more : (side : Side) (old new : List (Option Edge)) (edge x o : ℕ) (nodes : List (Option Heads))
    → HasMore old new edge x o
    → IsSome (heads_at nodes x) → IsSome (heads_at nodes o)
    → ((k y : ℕ) → node_of side (slot_at old k) ≡ Some y → IsSome (heads_at nodes y))
    → (k y : ℕ) → node_of side (slot_at new k) ≡ Some y → IsSome (heads_at nodes y)
live_more side old new edge x o nodes more live_x live_o live k y at = elim (cases_eq k edge) [
  | inl here ↦ its_end side (ap (λ (z : ℕ). node_of side (slot_at new z)) (sym here) ∙ at)
  | inr other ↦ live k y (sym (more.others side k other) ∙ at)
]
  where
    its_end : (side : Side) → node_of side (slot_at new edge) ≡ Some y → IsSome (heads_at nodes y)
    its_end Subject at = let e = more.here.subject in let same : x ≡ y = cc in
        subst (λ (z : ℕ). IsSome (heads_at nodes z)) same live_x
    its_end Observer at = let e = more.here.observer in let same : o ≡ y = cc in
        subst (λ (z : ℕ). IsSome (heads_at nodes z)) same live_o

pub stands_more : (old new : Slab Edge) (nodes nodes2 : List (Option Heads)) (edge x o : ℕ) → Stands old nodes
    → HasMore old.slots new.slots edge x o → ((side : Side) → AreChained (chains_of side new.slots nodes2))
    → ((y : ℕ) → is_some (heads_at nodes2 y) ≡ is_some (heads_at nodes y)) → new.capacity ≡ old.capacity
    → slab_len new ≡ slab_len old + 1 → slab_len old + 1 ≤ old.capacity → IsSome (heads_at nodes x)
    → IsSome (heads_at nodes o) → (IsPairIn old.slots x o → ⊥) → Stands new nodes2
stands_more old new nodes nodes2 edge x o stands more chained live capacity len room live_x live_o fresh = record {
  chained = chained;
  live = λ side k y at. live y ∙ live_more side old.slots new.slots edge x o nodes more live_x live_o
      (stands.live side) k y at;
  once = once_more old.slots new.slots edge x o more fresh stands.once;
  small = let s = stands.small in omega arith;
  room = omega arith;
}

pub stands_less : (old new : Slab Edge) (nodes nodes2 : List (Option Heads)) (edge : ℕ) → Stands old nodes
    → HasLess old.slots new.slots edge → ((side : Side) → AreChained (chains_of side new.slots nodes2))
    → ((y : ℕ) → is_some (heads_at nodes2 y) ≡ is_some (heads_at nodes y)) → new.capacity ≡ old.capacity
    → slab_len new + 1 ≡ slab_len old → Stands new nodes2
stands_less old new nodes nodes2 edge stands less chained live capacity len = record {
  chained = chained;
  live = λ side k y at. live y ∙ stands.live side k y (elim (cases_eq k edge) [
    | inl here ↦ let n = ap (node_of side) (ap (slot_at new.slots) here ∙ less.gone) in absurd (cc)
    | inr other ↦ sym (less.others side k other) ∙ at
  ]);
  once = λ j k y p e f. stands.once j k y p (edge_left old.slots new.slots edge less j y p e).1
      (edge_left old.slots new.slots edge less k y p f).1;
  small = let s = stands.small in omega arith;
  room = let r = stands.room in omega arith;
}

-- both sides
pub at_both : (c : Side → Type 0) → c Subject → c Observer → (side : Side) → c side
at_both c subject observer Subject = subject
at_both c subject observer Observer = observer

-- no slots and no nodes
slot_none : (k : ℕ) → slot_at [] k ≡ None
slot_none zero = refl
slot_none (suc k) = refl

heads_none : (x : ℕ) → heads_at [] x ≡ None
heads_none zero = refl
heads_none (suc x) = refl

none_chained : (side : Side) → AreChained (chains_of side [] [])
none_chained side = record {
  rank = λ k. zero;
  starts = λ x k first. let h = ap (first_of side) (heads_none x) in absurd (cc);
  leads = λ x k node none. let s = ap (node_of side) (slot_none k) in absurd (cc);
  after = λ k j next. let s = ap (after_of side) (slot_none k) in absurd (cc);
  before = λ k j last. let s = ap (before_of side) (slot_none k) in absurd (cc);
  vacant = λ k node. (ap (before_of side) (slot_none k), ap (after_of side) (slot_none k));
  falls = λ k j next. let s = ap (after_of side) (slot_none k) in absurd (cc);
}

pub stands_none : (slots : Slab Edge) (nodes : List (Option Heads)) → slots.slots ≡ [] → nodes ≡ []
    → slots.capacity ≡ 0 → Stands slots nodes
stands_none slots nodes no_slots no_nodes capacity = record {
  chained = λ side. subst (λ (s : List (Option Edge)). AreChained (chains_of side s nodes)) (sym no_slots)
      (subst (λ (n : List (Option Heads)). AreChained (chains_of side [] n)) (sym no_nodes) (none_chained side));
  live = λ side k x at. let s = ap (λ (s : List (Option Edge)). node_of side (slot_at s k)) no_slots in
      let t = ap (node_of side) (slot_none k) in absurd (cc);
  once = λ j k x o e f. let a = e.subject in
      let s = ap (λ (s : List (Option Edge)). node_of Subject (slot_at s j)) no_slots in
      let t = ap (node_of Subject) (slot_none j) in absurd (cc);
  small = omega arith;
  room = let n = ap (λ (s : List (Option Edge)). count_by is_some s) no_slots in omega arith;
}

-- a node more, in no pair
first_grown : (side : Side) (nodes : List (Option Heads)) (x : ℕ)
    → first_of side (heads_at (nodes ++ Some no_heads ∷ []) x) ≡ first_of side (heads_at nodes x)
first_grown Subject [] zero = refl
first_grown Observer [] zero = refl
first_grown side [] (suc x) = refl
first_grown side (heads ∷ nodes) zero = refl
first_grown side (heads ∷ nodes) (suc x) = first_grown side nodes x

pub live_grown : (nodes : List (Option Heads)) (x : ℕ) → IsSome (heads_at nodes x)
    → IsSome (heads_at (nodes ++ Some no_heads ∷ []) x)
live_grown [] zero live = absurd (cc)
live_grown [] (suc x) live = absurd (cc)
live_grown (heads ∷ nodes) zero live = live
live_grown (heads ∷ nodes) (suc x) live = live_grown nodes x live

pub stands_grown : (slots : Slab Edge) (nodes : List (Option Heads)) → Stands slots nodes
    → Stands slots (nodes ++ Some no_heads ∷ [])
stands_grown slots nodes stands = record {
  chained = λ side. chained_same (chains_of side slots.slots nodes)
      (chains_of side slots.slots (nodes ++ Some no_heads ∷ []))
      (record { node = λ k. refl; before = λ k. refl; after = λ k. refl; first = first_grown side nodes })
      (stands.chained side);
  live = λ side k x at. live_grown nodes x (stands.live side k x at);
  once = stands.once;
  small = stands.small;
  room = stands.room;
}

-- a vector keeps a slice of its own length
pub whole_back : {X : Type 0} (len : ℕ) (new old : List X) → length new ≡ len
    → take len (new ++ drop (length new) old) ≡ new
whole_back len new old is = ap (λ (n : ℕ). take n (new ++ drop (length new) old)) (sym is) ∙ take-append_seam new
    (drop (length new) old)

pub slot_held : (side : Side) (slot : Option Edge) (x : ℕ) → node_of side slot ≡ Some x → IsSome slot
slot_held side None x at = absurd (cc)
slot_held side (Some edge) x at = refl

pub set_none : (nodes : List (Option Heads)) (x : ℕ) → heads_at (slice_set nodes x None) x ≡ None
set_none [] zero = refl
set_none [] (suc x) = refl
set_none (heads ∷ nodes) zero = refl
set_none (heads ∷ nodes) (suc x) = set_none nodes x

-- a node that is in no pair may go
none_gone : (side : Side) (slots : Slab Edge) (nodes : List (Option Heads)) (x : ℕ)
    → AreChained (chains_of side slots.slots nodes)
    → ((k : ℕ) → node_of side (slot_at slots.slots k) ≡ Some x → ⊥) → (y : ℕ)
    → first_of side (heads_at (slice_set nodes x None) y) ≡ first_of side (heads_at nodes y)
none_gone side slots nodes x chained none y = elim (cases_eq y x) [
  | inl here ↦ subst (λ (z : ℕ). first_of side (heads_at (slice_set nodes x None) z) ≡ first_of side
      (heads_at nodes z)) (sym here)
      (ap (first_of side) (set_none nodes x) ∙ sym (elim (known (first_of side (heads_at nodes x))) [
        | inl n ↦ n
        | inr k ↦ absurd (none k.0 (chained.starts x k.0 k.1).0)
      ]))
  | inr other ↦ ap (first_of side) (get_or-set_other nodes x y None None other)
]

pub stands_gone : (slots : Slab Edge) (nodes : List (Option Heads)) (x : ℕ) → Stands slots nodes
    → ((side : Side) (k : ℕ) → node_of side (slot_at slots.slots k) ≡ Some x → ⊥)
    → Stands slots (slice_set nodes x None)
stands_gone slots nodes x stands none = record {
  chained = λ side. chained_same (chains_of side slots.slots nodes)
      (chains_of side slots.slots (slice_set nodes x None))
      (record {
        node = λ k. refl;
        before = λ k. refl;
        after = λ k. refl;
        first = none_gone side slots nodes x
            (stands.chained side) (none side);
      })
      (stands.chained side);
  live = λ side k y at. subst (λ (h : Option Heads). IsSome h)
      (sym (get_or-set_other nodes x y None None (λ same. none side k (at ∙ ap Some same)))) (stands.live side k y at);
  once = stands.once;
  small = stands.small;
  room = stands.room;
}

-- the slot's pair is this one
pub edge_of : (slots : List (Option Edge)) (k x o y p : ℕ) → IsEdge slots k x o → (y ≡ x) × (p ≡ o) → IsEdge slots k y p
edge_of slots k x o y p e same = record {
  subject = e.subject ∙ ap Some (sym same.0);
  observer = e.observer
      ∙ ap Some (sym same.1);
}

-- the same pairs, with other room
pub stands_roomy : (old new : Slab Edge) (nodes : List (Option Heads)) → Stands old nodes → new.slots ≡ old.slots
    → new.capacity ≤ 2 ^ 32 → slab_len new ≤ new.capacity → Stands new nodes
stands_roomy old new nodes stands same small room = record {
  chained = λ side. subst (λ (s : List (Option Edge)). AreChained (chains_of side s nodes)) (sym same) (stands.chained side);
  live = λ side k x at. stands.live side k x
      (subst (λ (s : List (Option Edge)). node_of side (slot_at s k) ≡ Some x) same at);
  once = λ j k x o e f. stands.once j k x o (subst (λ (s : List (Option Edge)). IsEdge s j x o) same e)
      (subst (λ (s : List (Option Edge)). IsEdge s k x o) same f);
  small = small;
  room = room;
}

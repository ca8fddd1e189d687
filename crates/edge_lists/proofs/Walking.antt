-- A walk along the list of a node gives each of its pairs once.
use Rattle.std.proofs.Common.{◌≡◌, inl, inr, ℕ, zero, suc, ◌<◌, List, [], ◌∷◌, length, map, refl, sym, ap, ◌∙◌, subst, arith, Option, Some, None}
use Rattle.std.specs.Prelude.{◌↔◌, IfSome}
use Rattle.walks.specs.Walk.{Among, IsOnce}
use Rattle.edge_lists.specs.declared.edge.Edge.{Edge}
use Rattle.edge_lists.specs.declared.edge.Heads.{Heads}
use Rattle.edge_lists.specs.declared.edge.Side.{Side}
use Rattle.edge_lists.specs.declared.edge.Side.TheVariants.{Subject, Observer}
use Rattle.edge_lists.specs.Ends.{node_of, before_of, after_of, first_of, slot_at, heads_at, other_side}
use Rattle.edge_lists.specs.Chains.{AreChained, chains_of}
use Rattle.edge_lists.specs.Stands.{IsEdge}
use Rattle.edge_lists.specs.Walks.{number_or, slots_from, node_at, IsPairOf, GivesAll, GoesOn, end_node}
use Rattle.edge_lists.proofs.Chaining.{known}
use Rattle.edge_lists.proofs.Stepping.{Ends, steps_first, steps_keep, steps_once, all_end, reached, none_steps}

pub slot_within : (side : Side) (slots : List (Option Edge)) (k x : ℕ) → node_of side (slot_at slots k) ≡ Some x
    → k < length slots
slot_within side [] zero x is = absurd (cc)
slot_within side [] (suc k) x is = absurd (cc)
slot_within side (slot ∷ slots) zero x is = omega arith
slot_within side (slot ∷ slots) (suc k) x is = let low = slot_within side slots k x is in omega arith

module _ (side : Side) (slots : List (Option Edge)) (nodes : List (Option Heads))
    (chained : AreChained (chains_of side slots nodes)) where
  next : ℕ → Option ℕ
  next k = after_of side (slot_at slots k)

  last : ℕ → Option ℕ
  last k = before_of side (slot_at slots k)

  low_next : (k j : ℕ) → after_of side (slot_at slots k) ≡ Some j → j < length slots
  low_next k j leads = elim (known (node_of side (slot_at slots k))) [
    | inl none ↦ let v = (chained.vacant k none).1 in absurd (cc)
    | inr found ↦ slot_within side slots j found.0 ((chained.after k j leads).0 ∙ found.1)
  ]

  low_last : (k j : ℕ) → before_of side (slot_at slots k) ≡ Some j → j < length slots
  low_last k j leads = elim (known (node_of side (slot_at slots k))) [
    | inl none ↦ let v = (chained.vacant k none).0 in absurd (cc)
    | inr found ↦ slot_within side slots j found.0 ((chained.before k j leads).0 ∙ found.1)
  ]

  pub next_ends : (found : Option ℕ) → ((k : ℕ) → found ≡ Some k → k < length slots)
      → Ends (λ k. after_of side (slot_at slots k)) (length slots) found
  next_ends found within = all_end (λ k. after_of side (slot_at slots k)) (λ k j. chained.rank j < chained.rank k)
      (λ k l. omega arith) (λ i j k l m. omega arith) chained.falls (length slots) low_next found within

  pub last_ends : (found : Option ℕ) → ((k : ℕ) → found ≡ Some k → k < length slots)
      → Ends (λ k. before_of side (slot_at slots k)) (length slots) found
  last_ends found within = all_end (λ k. before_of side (slot_at slots k)) (λ k j. chained.rank k < chained.rank j)
      (λ k l. omega arith) (λ i j k l m. omega arith) (λ k j leads. chained.falls j k (chained.before k j leads).1)
      (length slots) low_last found within

  pub first_within : (x k : ℕ) → first_of side (heads_at nodes x) ≡ Some k → k < length slots
  first_within x k first = slot_within side slots k x (chained.starts x k first).0

  -- the slots of a node are those of the walk from its first
  pub slots_given : (x k : ℕ) → Among k (slots_from side slots (first_of side (heads_at nodes x))) ↔ (node_of side
      (slot_at slots k) ≡ Some x)
  slots_given x k = (
    steps_keep (λ k. after_of side (slot_at slots k)) (λ k. node_of side (slot_at slots k) ≡ Some x)
        (λ j k at leads. (chained.after j k leads).0 ∙ at) (length slots) (first_of side (heads_at nodes x))
        (λ k first. (chained.starts x k first).0) k,
    λ at. reached (λ k. after_of side (slot_at slots k)) (λ k. before_of side (slot_at slots k))
        (λ k. node_of side (slot_at slots k) ≡ Some x) (length slots) (first_of side (heads_at nodes x))
        (next_ends (first_of side (heads_at nodes x)) (first_within x))
        (λ k at none. chained.leads x k at none)
        (λ k j at leads. ((chained.before k j leads).0 ∙ at, (chained.before k j leads).1))
        (length slots) k (last_ends (before_of side (slot_at slots k)) (low_last k)) at,
  )

  pub slots_once : (found : Option ℕ) → IsOnce (slots_from side slots found)
  slots_once found = steps_once (λ k. after_of side (slot_at slots k)) (λ k j. chained.rank j < chained.rank k)
      (λ k l. omega arith) (λ i j k l m. omega arith) chained.falls (length slots) found

  pub slots_go_on : (k x : ℕ) → node_of side (slot_at slots k) ≡ Some x
      → slots_from side slots (Some k) ≡ k ∷ slots_from side slots (after_of side (slot_at slots k))
  slots_go_on k x at = steps_first (λ k. after_of side (slot_at slots k)) (length slots) k
      (next_ends (Some k) (λ j same. subst (λ (z : ℕ). z < length slots) (some_same same)
      (slot_within side slots k x at)))
    where
      some_same : {x y : ℕ} → Some x ≡ Some y → x ≡ y
      some_same e = cc

-- the numbers that others stand for
pub among_map : (f : ℕ → ℕ) (xs : List ℕ) (y : ℕ) → Among y (map f xs) ↔ ((x : ℕ) × (Among x xs × (y ≡ f x)))
among_map f [] y = ((λ a. absurd a), (λ p. absurd p.1.0))
among_map f (x ∷ xs) y = (
  λ a. elim a [
    | inl same ↦ (x, (inl refl, same))
    | inr rest ↦ let p = (among_map f xs y).0 rest in (p.0, (inr p.1.0, p.1.1))
  ],
  λ p. elim p.1.0 [
    | inl same ↦ inl (p.1.1 ∙ ap f same)
    | inr rest ↦ inr ((among_map f xs y).1 (p.0, (rest, p.1.1)))
  ],
)

pub once_map : (f : ℕ → ℕ) (xs : List ℕ) → ((j k : ℕ) → Among j xs → Among k xs → f j ≡ f k → j ≡ k) → IsOnce xs
    → IsOnce (map f xs)
once_map f [] apart once = tt
once_map f (x ∷ xs) apart once = (
  λ a. let p = (among_map f xs (f x)).0 a in
      once.0 (subst (λ (z : ℕ). Among z xs) (sym (apart x p.0 (inl refl) (inr p.1.0) p.1.1)) p.1.0),
  once_map f xs (λ j k a b. apart j k (inr a) (inr b)) once.1,
)

some_same : {x y : ℕ} → Some x ≡ Some y → x ≡ y
some_same e = cc

-- a slot with a node at one side has one at the other
pub node_other : (side other : Side) (slot : Option Edge) (x : ℕ) → node_of side slot ≡ Some x
    → node_of other slot ≡ Some (number_or 0 (node_of other slot))
node_other side other None x is = absurd (cc)
node_other side other (Some edge) x is = refl

-- the pair of a slot, from each of its sides
pub pair_of : (side : Side) (slots : List (Option Edge)) (k x : ℕ) → node_of side (slot_at slots k) ≡ Some x
    → IsPairOf side slots x (node_at (other_side side) slots k)
pair_of Subject slots k x is = (
  k,
  record {
    subject = is;
    observer = node_other Subject Observer
        (slot_at slots k) x is;
  },
)
pair_of Observer slots k x is = (
  k,
  record { subject = node_other Observer Subject (slot_at slots k) x is; observer = is },
)

pub pair_at : (side : Side) (slots : List (Option Edge)) (x other : ℕ) → IsPairOf side slots x other
    → (k : ℕ) × ((node_of side (slot_at slots k) ≡ Some x) × (other ≡ node_at (other_side side) slots k))
pair_at Subject slots x other p = (p.0, (p.1.subject, sym (ap (number_or 0) p.1.observer)))
pair_at Observer slots x other p = (p.0, (p.1.observer, sym (ap (number_or 0) p.1.subject)))

-- no two slots have one pair
pub pair_once : (side : Side) (slots : List (Option Edge)) → ((j k x o : ℕ) → IsEdge slots j x o → IsEdge slots k x o
    → j ≡ k)
    → (x j k : ℕ) → node_of side (slot_at slots j) ≡ Some x → node_of side (slot_at slots k) ≡ Some x
    → node_at (other_side side) slots j ≡ node_at (other_side side) slots k → j ≡ k
pair_once Subject slots once x j k a b same = once j k x (node_at Observer slots k)
    (record { subject = a; observer = node_other Subject Observer (slot_at slots j) x a ∙ ap Some same })
    (record { subject = b; observer = node_other Subject Observer (slot_at slots k) x b })
pair_once Observer slots once x j k a b same = once j k (node_at Subject slots k) x
    (record { subject = node_other Observer Subject (slot_at slots j) x a ∙ ap Some same; observer = a })
    (record { subject = node_other Observer Subject (slot_at slots k) x b; observer = b })

pub gives_all : (side : Side) (slots : List (Option Edge)) (nodes : List (Option Heads))
    → AreChained (chains_of side slots nodes)
    → ((j k x o : ℕ) → IsEdge slots j x o → IsEdge slots k x o → j ≡ k) → (x : ℕ) (found : Option ℕ)
    → found ≡ first_of side (heads_at nodes x) → GivesAll side slots x found
gives_all side slots nodes chained once x found is = record {
  given = λ other. (
    λ a.
        let p = (among_map (node_at (other_side side) slots) (slots_from side slots found) other).0 a in
        subst (IsPairOf side slots x) (sym p.1.1) (pair_of side slots p.0 x (at p.0 p.1.0)),
    λ p.
        let k = pair_at side slots x other p in
        (among_map (node_at (other_side side) slots) (slots_from side slots found) other).1 (
          k.0,
          (
            subst (λ (o : Option ℕ). Among k.0 (slots_from side slots o)) (sym is)
                ((slots_given side slots nodes chained x k.0).1 k.1.0),
            k.1.1,
          ),
        ),
  );
  once = once_map (node_at (other_side side) slots) (slots_from side slots found)
      (λ j k a b same. pair_once side slots once x j k (at j a) (at k b) same)
      (slots_once side slots nodes chained found);
  of = of found is;
}
  where
    at : (k : ℕ) → Among k (slots_from side slots found) → node_of side (slot_at slots k) ≡ Some x
    at k a = (slots_given side slots nodes chained x k).0
        (subst (λ (o : Option ℕ). Among k (slots_from side slots o)) is a)

    of : (found : Option ℕ) → found ≡ first_of side (heads_at nodes x)
        → IfSome found (λ k. node_of side (slot_at slots k) ≡ Some x)
    of None is = tt
    of (Some k) is = (chained.starts x k (sym is)).0

pub goes_on : (side : Side) (slots : List (Option Edge)) (nodes : List (Option Heads))
    → AreChained (chains_of side slots nodes)
    → (k x : ℕ) → node_of side (slot_at slots k) ≡ Some x → (found : Option ℕ) → found ≡ after_of side (slot_at slots k)
    → GoesOn side slots k found
goes_on side slots nodes chained k x at found is = record {
  rest = ap (map (node_at (other_side side) slots))
      (slots_go_on side slots nodes chained k x at ∙ ap (λ (o : Option ℕ). k ∷ slots_from side slots o) (sym is));
  of = of found is;
}
  where
    of : (found : Option ℕ) → found ≡ after_of side (slot_at slots k)
        → IfSome found (λ j. node_of side (slot_at slots j) ≡ node_of side (slot_at slots k))
    of None is = tt
    of (Some j) is = (chained.after k j (sym is)).0

-- a node without a first slot is in no pair at this side
pub none_at : (side : Side) (slots : List (Option Edge)) (nodes : List (Option Heads))
    → AreChained (chains_of side slots nodes)
    → (x k : ℕ) → first_of side (heads_at nodes x) ≡ None → node_of side (slot_at slots k) ≡ Some x → ⊥
none_at side slots nodes chained x k none at =
    none_steps (λ k. after_of side (slot_at slots k)) (length slots) k
    (subst (λ (o : Option ℕ). Among k (slots_from side slots o)) none ((slots_given side slots nodes chained x k).1 at))

-- a node of a pair
pub end_is : (side : Side) (slots : List (Option Edge)) (k x o : ℕ) → IsEdge slots k x o
    → node_of side (slot_at slots k) ≡ Some (end_node side x o)
end_is Subject slots k x o e = e.subject
end_is Observer slots k x o e = e.observer

-- one step along the list of a node
module _ (side : Side) (slots : List (Option Edge)) (nodes : List (Option Heads))
    (chained : AreChained (chains_of side slots nodes))
    (x k : ℕ) (at : node_of side (slot_at slots k) ≡ Some x) (found after : Option ℕ) (is : found ≡ Some k)
    (leads : after ≡ after_of side (slot_at slots k)) where
  pub step_of : IfSome after (λ j. node_of side (slot_at slots j) ≡ Some x)
  step_of = of after leads
    where
      of : (after : Option ℕ) → after ≡ after_of side (slot_at slots k)
          → IfSome after (λ j. node_of side (slot_at slots j) ≡ Some x)
      of None leads = tt
      of (Some j) leads = (chained.after k j (sym leads)).0 ∙ at

  pub step_rest : slots_from side slots found ≡ k ∷ slots_from side slots after
  step_rest = ap (slots_from side slots) is ∙ slots_go_on side slots nodes chained k x at
      ∙ ap (λ (o : Option ℕ). k ∷ slots_from side slots o) (sym leads)

  pub step_shorter : length (slots_from side slots after) < length (slots_from side slots found)
  step_shorter = let e = ap (λ (xs : List ℕ). length xs) step_rest in omega arith

  pub step_past : (j : ℕ) → (j ≡ k → ⊥) → Among j (slots_from side slots found) → Among j (slots_from side slots after)
  step_past j other a = past (subst (Among j) step_rest a)
    where
      past : Among j (k ∷ slots_from side slots after) → Among j (slots_from side slots after)
      past (inl same) = absurd (other same)
      past (inr rest) = rest

-- the first slot of a node is one of its slots
pub first_of_node : (side : Side) (slots : List (Option Edge)) (nodes : List (Option Heads))
    → AreChained (chains_of side slots nodes)
    → (x : ℕ) (found : Option ℕ) → found ≡ first_of side (heads_at nodes x)
    → IfSome found (λ k. node_of side (slot_at slots k) ≡ Some x)
first_of_node side slots nodes chained x None is = tt
first_of_node side slots nodes chained x (Some k) is = (chained.starts x k (sym is)).0

-- A slot linked in or out, by the writes that do it.
use Rattle.std.proofs.Common.{◌≡◌, ◌≢◌, inl, inr, ℕ, zero, suc, ◌<◌, Bool, List, [], ◌∷◌, length, refl, sym, ap, ◌∙◌, subst, arith, Option, Some, None, cond, eqb}
use Rattle.std.specs.Prelude.{IsSome, is_some}
use Rattle.std.proofs.lemmas.Bool.{cases_eq, eq-eqb, ne_eqb}
use Rattle.std.proofs.lemmas.List.{get_or-set_other}
use Rattle.edge_lists.specs.declared.edge.Edge.{Edge}
use Rattle.edge_lists.specs.declared.edge.Heads.{Heads}
use Rattle.edge_lists.specs.declared.edge.Side.{Side}
use Rattle.edge_lists.specs.declared.edge.Side.TheVariants.{Subject, Observer}
use Rattle.edge_lists.specs.Ends.{node_of, before_of, after_of, first_of, slot_at, heads_at, other_side, with_first, moved, before_written, after_written, first_written}
use Rattle.edge_lists.specs.Chains.{Chains, AreChained, SameChains, chains_of, without}
use Rattle.edge_lists.specs.Links.{IsReady}
use Rattle.edge_lists.proofs.Chaining.{linked_in, linked_out}
use Rattle.edge_lists.proofs.Writes.{heads_moved, bw_node, bw_after, bw_aside, bw_other, bw_here, aw_node, aw_before, aw_aside, aw_other, aw_here}

-- the first slots of nodes
first_there : (side : Side) (f : Option ℕ) (heads : Option Heads) → IsSome heads
    → first_of side (moved (with_first side f) heads) ≡ f
first_there side f None live = absurd (cc)
first_there Subject f (Some heads) live = refl
first_there Observer f (Some heads) live = refl

first_aside : (side : Side) (f : Option ℕ) (heads : Option Heads) → first_of (other_side side)
    (moved (with_first side f) heads) ≡ first_of (other_side side) heads
first_aside Subject f None = refl
first_aside Observer f None = refl
first_aside Subject f (Some heads) = refl
first_aside Observer f (Some heads) = refl

module _ (side : Side) (x : ℕ) (f : Option ℕ) (nodes : List (Option Heads)) where
  pub fw_here : IsSome (heads_at nodes x) → first_of side (heads_at (first_written side x None f nodes) x) ≡ f
  fw_here live = ap (first_of side) (heads_moved (with_first side f) nodes x) ∙ first_there side f
      (heads_at nodes x) live

  pub fw_other : (found : Option ℕ) (y : ℕ) → y ≢ x → heads_at (first_written side x found f nodes) y ≡ heads_at nodes y
  fw_other None y other = get_or-set_other nodes x y (moved (with_first side f) (heads_at nodes x)) None other
  fw_other (Some j) y other = refl

  pub fw_aside : (found : Option ℕ) (y : ℕ) → first_of (other_side side)
      (heads_at (first_written side x found f nodes) y) ≡ first_of (other_side side) (heads_at nodes y)
  fw_aside (Some j) y = refl
  fw_aside None y = elim (cases_eq y x) [
    | inl here ↦ subst
        (λ (z : ℕ). first_of (other_side side)
        (heads_at (first_written side x None f nodes) z) ≡ first_of (other_side side) (heads_at nodes z)) (sym here)
        (ap (first_of (other_side side)) (heads_moved (with_first side f) nodes x) ∙ first_aside side f
        (heads_at nodes x))
    | inr other ↦ ap (first_of (other_side side)) (fw_other None y other)
  ]

-- a slot that is hidden
pub hidden_here : (f : ℕ → Option ℕ) (edge : ℕ) → cond (eqb edge edge) None (f edge) ≡ None
hidden_here f edge = ap (λ (b : Bool). cond b None (f edge)) (eq-eqb edge edge refl)

pub hidden_other : (f : ℕ → Option ℕ) (edge k : ℕ) → k ≢ edge → cond (eqb k edge) None (f k) ≡ f k
hidden_other f edge k other = ap (λ (b : Bool). cond b None (f k)) (ne_eqb k edge other)

pub linked_in_at : (side : Side) (edge x : ℕ) (slots : List (Option Edge)) (nodes : List (Option Heads))
    → AreChained (without edge (chains_of side slots nodes)) → IsReady side edge x slots nodes
    → (next : Option ℕ) → next ≡ first_of side (heads_at nodes x)
    → AreChained (chains_of side (before_written side next (Some edge) slots)
    (first_written side x None (Some edge) nodes))
linked_in_at side edge x slots nodes chained ready next is =
    linked_in edge x c d chained (hidden_here (λ k. node_of side (slot_at slots k)) edge) (record {
      node = bw_node side (Some edge) slots next side edge ∙ ready.node;
      before = bw_other side (Some edge) slots next edge (λ e. apart edge e refl) ∙ ready.before;
      after = bw_after side (Some edge) slots next side edge ∙ ready.after;
      first = fw_here side x (Some edge) nodes ready.live;
      pushed = pushed;
      nodes = λ k other. bw_node side (Some edge) slots next side k
          ∙ sym (hidden_other (λ k. node_of side (slot_at slots k)) edge k other);
      afters = λ k other. bw_after side (Some edge) slots next side k
          ∙ sym (hidden_other (λ k. after_of side (slot_at slots k)) edge k other);
      befores = λ k other past. bw_other side (Some edge) slots next k (λ e. past (sym is ∙ e))
          ∙ sym (hidden_other (λ k. before_of side (slot_at slots k)) edge k other);
      firsts = λ y other. ap (first_of side) (fw_other side x (Some edge) nodes None y other);
    })
  where
    c : Chains
    c = without edge (chains_of side slots nodes)

    d : Chains
    d = chains_of side (before_written side next (Some edge) slots) (first_written side x None (Some edge) nodes)

    apart : (j : ℕ) → next ≡ Some j → j ≢ edge
    apart j e same =
        let n = (chained.starts x j (sym is ∙ e)).0 in
        let h = hidden_here (λ k. node_of side (slot_at slots k)) edge in
        let s = ap (λ (k : ℕ). cond (eqb k edge) None (node_of side (slot_at slots k))) same in cc

    pushed : (j : ℕ) → first_of side (heads_at nodes x) ≡ Some j
        → before_of side (slot_at (before_written side next (Some edge) slots) j) ≡ Some edge
    pushed j e =
        let n = (chained.starts x j e).0 in
        let held = sym (hidden_other (λ k. node_of side (slot_at slots k)) edge j (apart j (is ∙ e))) ∙ n in
        subst (λ (o : Option ℕ). before_of side (slot_at (before_written side o (Some edge) slots) j) ≡ Some edge)
        (sym (is ∙ e))
        (bw_here side (Some edge) slots j x held)

-- writes at one side leave the other side as it was
pub same_aside : (side : Side) (x : ℕ) (slots slots2 slots3 : List (Option Edge)) (nodes nodes2 : List (Option Heads))
    (next before last after found first : Option ℕ)
    → slots2 ≡ before_written side next before slots → slots3 ≡ after_written side last after slots2
    → nodes2 ≡ first_written side x found first nodes
    → SameChains (chains_of (other_side side) slots nodes) (chains_of (other_side side) slots3 nodes2)
same_aside side x slots slots2 slots3 nodes nodes2 next before last after found first e f g = record {
  node = λ k. ap (λ (s : List (Option Edge)). node_of (other_side side) (slot_at s k)) f
      ∙ aw_node side after slots2 last (other_side side) k
      ∙ ap (λ (s : List (Option Edge)). node_of (other_side side) (slot_at s k)) e
      ∙ bw_node side before slots next (other_side side) k;
  before = λ k. ap (λ (s : List (Option Edge)). before_of (other_side side) (slot_at s k)) f
      ∙ aw_before side after slots2 last (other_side side) k
      ∙ ap (λ (s : List (Option Edge)). before_of (other_side side) (slot_at s k)) e
      ∙ bw_aside side before slots next k;
  after = λ k. ap (λ (s : List (Option Edge)). after_of (other_side side) (slot_at s k)) f
      ∙ aw_aside side after slots2 last k
      ∙ ap (λ (s : List (Option Edge)). after_of (other_side side) (slot_at s k)) e
      ∙ bw_after side before slots next (other_side side) k;
  first = λ y. ap (λ (n : List (Option Heads)). first_of (other_side side) (heads_at n y)) g
      ∙ fw_aside side x first nodes found y;
}

-- each slot keeps its nodes
pub same_nodes : (side : Side) (slots slots2 slots3 : List (Option Edge)) (next before last after : Option ℕ)
    → slots2 ≡ before_written side next before slots → slots3 ≡ after_written side last after slots2
    → (s : Side) (k : ℕ) → node_of s (slot_at slots3 k) ≡ node_of s (slot_at slots k)
same_nodes side slots slots2 slots3 next before last after e f s k =
    ap (λ (slots : List (Option Edge)). node_of s (slot_at slots k)) f ∙ aw_node side after slots2 last s k
    ∙ ap (λ (slots : List (Option Edge)). node_of s (slot_at slots k)) e ∙ bw_node side before slots next s k

some_moved : (f : Heads → Heads) (heads : Option Heads) → is_some (moved f heads) ≡ is_some heads
some_moved f None = refl
some_moved f (Some heads) = refl

pub same_live : (side : Side) (x : ℕ) (f found : Option ℕ) (nodes : List (Option Heads)) (y : ℕ)
    → is_some (heads_at (first_written side x found f nodes) y) ≡ is_some (heads_at nodes y)
same_live side x f (Some j) nodes y = refl
same_live side x f None nodes y = elim (cases_eq y x) [
  | inl here ↦ subst (λ (z : ℕ). is_some (heads_at (first_written side x None f nodes) z) ≡ is_some
      (heads_at nodes z)) (sym here)
      (ap is_some (heads_moved (with_first side f) nodes x) ∙ some_moved (with_first side f) (heads_at nodes x))
  | inr other ↦ ap is_some (fw_other side x f nodes None y other)
]

pub linked_out_at : (side : Side) (edge x : ℕ) (slots slots2 slots3 : List (Option Edge))
    (nodes nodes2 : List (Option Heads)) (before after : Option ℕ)
    → AreChained (chains_of side slots nodes) → node_of side (slot_at slots edge) ≡ Some x → IsSome (heads_at nodes x)
    → before ≡ before_of side (slot_at slots edge) → after ≡ after_of side (slot_at slots edge)
    → slots2 ≡ before_written side after before slots → slots3 ≡ after_written side before after slots2
    → nodes2 ≡ first_written side x before after nodes
    → AreChained (without edge (chains_of side slots3 nodes2))
linked_out_at side edge x slots slots2 slots3 nodes nodes2 before after chained here live b a e f g =
    linked_out edge x c d chained here (record {
      node = hidden_here (λ k. node_of side (slot_at slots3 k)) edge;
      before = hidden_here (λ k. before_of side (slot_at slots3 k)) edge;
      after = hidden_here (λ k. after_of side (slot_at slots3 k)) edge;
      nodes = λ k other. hidden_other (λ k. node_of side (slot_at slots3 k)) edge k other
          ∙ same_nodes side slots slots2 slots3 after before before after e f side k;
      joined_after = joined_after;
      joined_before = joined_before;
      afters = λ k other past. hidden_other (λ k. after_of side (slot_at slots3 k)) edge k other
          ∙ now_after k (λ s. past (sym b ∙ s));
      befores = λ k other past. hidden_other (λ k. before_of side (slot_at slots3 k)) edge k other
          ∙ now_before k (λ s. past (sym a ∙ s));
      moved = λ none. ap (λ (n : List (Option Heads)). first_of side (heads_at n x)) g
          ∙ ap (λ (o : Option ℕ). first_of side (heads_at (first_written side x o after nodes) x)) (b ∙ none)
          ∙ fw_here side x after nodes live ∙ a;
      kept = λ j last. ap (λ (n : List (Option Heads)). first_of side (heads_at n x)) g
          ∙ ap (λ (o : Option ℕ). first_of side (heads_at (first_written side x o after nodes) x)) (b ∙ last);
      firsts = λ y other. ap (λ (n : List (Option Heads)). first_of side (heads_at n y)) g
          ∙ ap (first_of side) (fw_other side x after nodes before y other);
    })
  where
    c : Chains
    c = chains_of side slots nodes

    d : Chains
    d = without edge (chains_of side slots3 nodes2)

    now_after : (k : ℕ) → (before ≡ Some k → ⊥) → after_of side (slot_at slots3 k) ≡ after_of side (slot_at slots k)
    now_after k past = ap (λ (s : List (Option Edge)). after_of side (slot_at s k)) f
        ∙ aw_other side after slots2 before k past
        ∙ ap (λ (s : List (Option Edge)). after_of side (slot_at s k)) e ∙ bw_after side before slots after side k

    now_before : (k : ℕ) → (after ≡ Some k → ⊥) → before_of side (slot_at slots3 k) ≡ before_of side (slot_at slots k)
    now_before k past = ap (λ (s : List (Option Edge)). before_of side (slot_at s k)) f
        ∙ aw_before side after slots2 before side k
        ∙ ap (λ (s : List (Option Edge)). before_of side (slot_at s k)) e ∙ bw_other side before slots after k past

    apart : (j : ℕ) → c.after edge ≡ Some j → j ≢ edge
    apart j next same = let low = chained.falls edge j next in let r = ap chained.rank same in omega arith

    apart2 : (j : ℕ) → c.before edge ≡ Some j → j ≢ edge
    apart2 j last same = let low = chained.falls j edge (chained.before edge j last).1 in
        let r = ap chained.rank same in omega arith

    joined_after : (j : ℕ) → c.before edge ≡ Some j → d.after j ≡ c.after edge
    joined_after j last =
        let node = same_nodes side slots slots2 slots2 after before None None e (λ i. slots2) side j
        ∙ (chained.before edge j last).0 ∙ here in
        hidden_other (λ k. after_of side (slot_at slots3 k)) edge j (apart2 j last)
        ∙ ap (λ (s : List (Option Edge)). after_of side (slot_at s j)) f
        ∙ ap (λ (o : Option ℕ). after_of side (slot_at (after_written side o after slots2) j)) (b ∙ last)
        ∙ aw_here side after slots2 j x node ∙ a

    joined_before : (j : ℕ) → c.after edge ≡ Some j → d.before j ≡ c.before edge
    joined_before j next =
        let node = (chained.after edge j next).0 ∙ here in
        hidden_other (λ k. before_of side (slot_at slots3 k)) edge j (apart j next)
        ∙ ap (λ (s : List (Option Edge)). before_of side (slot_at s j)) f ∙ aw_before side after slots2 before side j
        ∙ ap (λ (s : List (Option Edge)). before_of side (slot_at s j)) e
        ∙ ap (λ (o : Option ℕ). before_of side (slot_at (before_written side o before slots) j)) (a ∙ next)
        ∙ bw_here side before slots j x node ∙ b

-- a live node has its place
pub live_within : (nodes : List (Option Heads)) (x : ℕ) → IsSome (heads_at nodes x) → x < length nodes
live_within [] zero live = absurd (cc)
live_within [] (suc x) live = absurd (cc)
live_within (heads ∷ nodes) zero live = omega arith
live_within (heads ∷ nodes) (suc x) live = let low = live_within nodes x live in omega arith

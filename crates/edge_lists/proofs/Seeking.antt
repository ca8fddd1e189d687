-- Slots that are sought along the list of a node.
use Rattle.std.proofs.Common.{◌≡◌, ℕ, ◌<◌, List, length, sym, subst, Option, Some, None}
use Rattle.std.specs.Prelude.{IfSome}
use Rattle.walks.specs.Walk.{Among}
use Rattle.edge_lists.specs.declared.edge.Edge.{Edge}
use Rattle.edge_lists.specs.declared.edge.Heads.{Heads}
use Rattle.edge_lists.specs.declared.edge.Side.{Side}
use Rattle.edge_lists.specs.Ends.{node_of, after_of, first_of, slot_at, heads_at}
use Rattle.edge_lists.specs.Chains.{AreChained, chains_of}
use Rattle.edge_lists.specs.Walks.{slots_from}
use Rattle.edge_lists.proofs.Stepping.{none_steps}
use Rattle.edge_lists.proofs.Walking.{first_of_node, slots_given, step_of, step_past, step_shorter}

-- a slot of a node or none, from which on each slot that is sought stands
pub record IsAhead (side : Side) (slots : List (Option Edge)) (x : ℕ) (sought : ℕ → Type 0) (found : Option ℕ) : Type 0 where
  pub of : IfSome found (λ k. node_of side (slot_at slots k) ≡ Some x)
  pub ahead : (k : ℕ) → sought k → Among k (slots_from side slots found)

pub ahead_none : (side : Side) (slots : List (Option Edge)) (x : ℕ) (sought : ℕ → Type 0) (found : Option ℕ)
    → IsAhead side slots x sought found → found ≡ None → (k : ℕ) → sought k → ⊥
ahead_none side slots x sought found ahead none k s =
    none_steps (λ k. after_of side (slot_at slots k)) (length slots) k
    (subst (λ (o : Option ℕ). Among k (slots_from side slots o)) none (ahead.ahead k s))

module _ (side : Side) (slots : List (Option Edge)) (nodes : List (Option Heads))
    (chained : AreChained (chains_of side slots nodes)) (x : ℕ) (sought : ℕ → Type 0) where
  pub ahead_first : ((k : ℕ) → sought k → node_of side (slot_at slots k) ≡ Some x) → (found : Option ℕ)
      → found ≡ first_of side (heads_at nodes x) → IsAhead side slots x sought found
  ahead_first at found is = record {
    of = first_of_node side slots nodes chained x found is;
    ahead = λ k s. subst (λ (o : Option ℕ). Among k (slots_from side slots o)) (sym is)
        ((slots_given side slots nodes chained x k).1 (at k s));
  }

  module _ (k : ℕ) (found after : Option ℕ) (ahead : IsAhead side slots x sought found) (is : found ≡ Some k)
      (leads : after ≡ after_of side (slot_at slots k)) where
    at : node_of side (slot_at slots k) ≡ Some x
    at = subst (λ (o : Option ℕ). IfSome o (λ k. node_of side (slot_at slots k) ≡ Some x)) is ahead.of

    pub ahead_next : (sought k → ⊥) → IsAhead side slots x sought after
    ahead_next other = record {
      of = step_of side slots nodes chained x k at found after is leads;
      ahead = λ j s. step_past side slots nodes chained x k at found after is leads j
          (λ same. other (subst sought same s)) (ahead.ahead j s);
    }

    pub ahead_shorter : length (slots_from side slots after) < length (slots_from side slots found)
    ahead_shorter = step_shorter side slots nodes chained x k at found after is leads

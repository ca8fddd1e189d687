-- Graphs of which no node was removed stay so.
use Rattle.std.proofs.Common.{◌≡◌, inl, inr, ℕ, zero, suc, ◌<◌, List, [], ◌∷◌, ◌++◌, length, refl, sym, ◌∙◌, subst, arith, Option, Some, None}
use Rattle.std.specs.Prelude.{slice_index_or, IsSome}
use Rattle.std.proofs.lemmas.List.{get_or-set_same, get_or-set_other, length-set}
use Rattle.std.proofs.lemmas.Bool.{cases_eq}
use Rattle.observer_graph.specs.declared.node.Role.{Role}
use Rattle.observer_graph.specs.declared.node.Role.TheVariants.{Lazy}
use Rattle.observer_graph.specs.declared.node.Flags.{Flags}
use Rattle.observer_graph.specs.declared.node.Node.{Node}
use Rattle.observer_graph.specs.GraphView.{GraphView, IsLive, IsLazy, node_at, no_flags}
use Rattle.observer_graph.specs.Change.{flagged, with_node, with_flags}
use Rattle.observer_graph.proofs.Wholes.{live_within, whole_flagged}
use Rattle.graph_vectors.specs.Nets.{AreLive, IsNet}

grown_live : (nodes : List (Option Node)) (node : Node)
    → ((o : ℕ) → o < length nodes → IsSome (slice_index_or nodes o None))
    → (o : ℕ) → o < length (nodes ++ Some node ∷ []) → IsSome (slice_index_or (nodes ++ Some node ∷ []) o None)
grown_live [] node live zero low = refl
grown_live [] node live (suc o) low = absurd (omega arith)
grown_live (n ∷ nodes) node live zero low = live 0 (omega arith)
grown_live (n ∷ nodes) node live (suc o) low = grown_live nodes node (λ p l. live (suc p) (omega arith)) o (omega arith)

last_is : (nodes : List (Option Node)) (kept : Option Node)
    → slice_index_or (nodes ++ kept ∷ []) (length nodes) None ≡ kept
last_is [] kept = refl
last_is (n ∷ nodes) kept = last_is nodes kept

-- a node more
pub live_added : (graph : GraphView) (role : Role) → AreLive graph → AreLive (with_node role graph)
live_added graph role live = grown_live graph.nodes (record { role = role; flags = no_flags }) live

pub lazy_added : (graph : GraphView) → IsLazy (node_at (with_node Lazy graph) (length graph.nodes))
lazy_added graph = subst IsLazy (sym (last_is graph.nodes (Some (record { role = Lazy; flags = no_flags })))) refl

-- other pairs
pub live_nodes : (old new : GraphView) → new.nodes ≡ old.nodes → AreLive old → AreLive new
live_nodes old new same live o low = subst (λ (n : List (Option Node)). IsSome (slice_index_or n o None)) (sym same)
    (live o (subst (λ (n : List (Option Node)). o < length n) same low))

-- other flags
live_flagged : (graph : GraphView) (o : ℕ) (flags : Flags) (p : ℕ) → IsLive graph p
    → IsLive (with_flags o flags graph) p
live_flagged graph o flags p live = elim (cases_eq p o) [
  | inl same ↦ subst (IsLive (with_flags o flags graph)) (sym same)
      (subst IsSome (sym (get_or-set_same graph.nodes o new None (live_within graph.nodes o (here same))))
      (some_flagged (node_at graph o) (here same)))
  | inr other ↦ subst IsSome (sym (get_or-set_other graph.nodes o p new None other)) live
]
  where
    new : Option Node
    new = flagged flags (node_at graph o)

    here : p ≡ o → IsLive graph o
    here same = subst (IsLive graph) same live

    some_flagged : (node : Option Node) → IsSome node → IsSome (flagged flags node)
    some_flagged None live = live
    some_flagged (Some node) live = refl

pub net_flagged : (graph : GraphView) (o : ℕ) (flags : Flags) → IsLazy (node_at graph o) → IsNet graph
    → IsNet (with_flags o flags graph)
net_flagged graph o flags lazy net = record {
  whole = whole_flagged graph o flags lazy net.whole;
  live = λ p low. live_flagged graph o flags p
      (net.live p (subst (λ (n : ℕ). p < n) (length-set graph.nodes o (flagged flags (node_at graph o))) low));
}

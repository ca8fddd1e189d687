-- Clear, where no node is frozen or marked.
use Rattle.std.proofs.Common.{◌≡◌, ◌∙◌, inl, inr, ℕ, Bool, true, false, List, [], ◌∷◌, length, arith, Option, refl, sym}
use Rattle.std.specs.Prelude.{◌==◌, not}
use Rattle.std.proofs.lemmas.Bool.{or_from, or_parts, false_from_ne_true, false≢true}
use Rattle.walks.specs.Walk.{Among}
use Rattle.walks.proofs.Ranks.{below_wider}
use Rattle.observer_graph.specs.declared.node.Standing.TheVariants.{Clear}
use Rattle.observer_graph.specs.declared.node.Node.{Node}
use Rattle.observer_graph.specs.Lists.{IsSet, is_marked}
use Rattle.observer_graph.specs.GraphView.{GraphView, edges_of, is_source}
use Rattle.observer_graph.specs.Late.{IsClear, IsExposed, StandsAs, frozen_count, is_frozen}
use Rattle.observer_graph.specs.Notice.{Reaches}
use Rattle.observer_graph.specs.Walks.{graph_of}
use Rattle.observer_graph.proofs.Frozen.{count_none}

pub none_marked : (marks : List Bool) (items : List ℕ) → IsSet marks items → length items ≡ 0 → (o : ℕ)
    → is_marked marks o ≡ false
none_marked marks items set none o = false_from_ne_true (is_marked marks o) (λ e. nobody items none (set.listed o e))
  where
    nobody : (xs : List ℕ) → length xs ≡ 0 → Among o xs → ⊥
    nobody [] none a = a
    nobody (x ∷ xs) none a = absurd (omega arith)

-- where no node is frozen and none is marked, each is clear
pub nothing_clear : (nodes : List (Option Node)) (subjects : List (List ℕ)) (marks : List Bool) (items : List ℕ) (o : ℕ)
    → frozen_count nodes ≡ 0 → IsSet marks items → length items ≡ 0 → IsClear (graph_of nodes subjects marks) o
nothing_clear nodes subjects marks items o unfrozen set none x reached = or_from (is_frozen (graph_of nodes subjects marks) x)
    (is_source (graph_of nodes subjects marks) x) (count_none nodes unfrozen x) (none_marked marks items set none x)

exposed_reached : (graph : GraphView) (o x : ℕ) → IsExposed graph o x → Reaches graph o x
exposed_reached graph o x (inl same) = inl same
exposed_reached graph o x (inr below) = inr (below_wider (edges_of graph) (λ y. y == x) (λ y. y == x)
    (λ y. not (is_frozen graph y)) (λ y. true) (λ y e. e) (λ y e. refl) o below)

-- a clear node is not frozen, and no marked source makes it late
pub clear_stands : (graph : GraphView) (o : ℕ) → IsClear graph o → StandsAs graph o Clear
clear_stands graph o clear = (
  (or_parts (is_frozen graph o) (is_source graph o) (clear o (inl refl))).0,
  (
    λ x late. false≢true (sym (or_parts (is_frozen graph x) (is_source graph x) (clear x (exposed_reached graph o x late.1))).1 ∙ late.0),
    clear,
  ),
)

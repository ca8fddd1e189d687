-- The walks over lists of subjects, in the words of the graph's parts.
use Rattle.std.specs.Prelude.{◌≡◌, ◌⊎◌, ◌==◌, ℕ, Bool, true, List, [], Option, None, slice_index_or}
use Rattle.walks.specs.Walk.{Below}
use Rattle.observer_graph.specs.declared.node.Node.{Node}
use Rattle.observer_graph.specs.Lists.{list_at}
use Rattle.observer_graph.specs.GraphView.{GraphView, edges_as}

-- the edges of each node, by the lists of the graph's parts
abbrev pub edges_in : List (Option Node) → List (List ℕ) → ℕ → List ℕ
edges_in nodes subjects o = edges_as (slice_index_or nodes o None) (list_at subjects o)

-- a node is another, or the other lies beneath it by these edges
abbrev pub Leads : (ℕ → List ℕ) → ℕ → ℕ → Type 0
Leads reads from to = (from ≡ to) ⊎ Below reads (λ y. y == to) (λ y. true) from

abbrev pub graph_of : List (Option Node) → List (List ℕ) → List Bool → GraphView
graph_of nodes subjects sources = record { nodes = nodes; subjects = subjects; sources = sources; noticed = []; spare = 0 }

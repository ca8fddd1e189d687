-- What holds of a graph between two calls.
use Rattle.std.specs.Prelude.{◌≡◌, ℕ, List, [], length, Option, None, is_some, slice_index_or}
use Rattle.edge_lists.specs.EdgesView as pairs
use Rattle.edge_lists.specs.EdgesView.{EdgesView, subject_lists}
use Rattle.edge_lists.specs.Ends.{heads_at}
use Rattle.observer_graph.specs.declared.node.Node.{Node}
use Rattle.observer_graph.specs.GraphView.{IsWhole}
use Rattle.observer_graph.specs.Lists.{SetView}
use Rattle.observer_graph.specs.Walks.{graph_of}

-- the graph is whole, the pairs are of the nodes that live, and the set that the subjects of a new node fill is empty and has
-- room for each node
pub record Stands (nodes : List (Option Node)) (edges : EdgesView) (sources wave : SetView) : Type 0 where
  pub pairs : pairs.IsWhole edges
  pub given : length edges.nodes ≡ length nodes
  pub live : (o : ℕ) → is_some (heads_at edges.nodes o) ≡ is_some (slice_index_or nodes o None)
  pub whole : IsWhole (graph_of nodes (subject_lists edges) sources.marks)
  pub room : length wave.marks ≡ length nodes
  pub empty : wave.items ≡ []

-- THE GRAPH OF A SESSION as it stands: its live objects by creation, and the edges of each in their order (this project's
-- profile).
use Rattle.std.specs.Prelude.{ℕ, zero, suc, List, [], ◌∷◌, ◌++◌, length, Option, None, Some}
use Rattle.desk_terms.specs.declared.kind.Kind.{Kind}
use Rattle.desk_model.specs.Market.{kind_at}
use Rattle.session_model.specs.Standing.{Standing, name_of}
use Rattle.session_core.specs.Values.{held_of}
use Rattle.graph_dot.specs.declared.node.GraphNode.{GraphNode}
use Rattle.graph_dot.specs.declared.node.GraphEdge.{GraphEdge}
use Rattle.graph_dot.specs.Dot.{graph_text}
use Rattle.session_graph.specs.Node.{node_of}
use Rattle.session_graph.specs.Edges.{edges_by}

-- the node of an object, if it is live: what an ask would find is what one of its name answers without a computation
abbrev pub node_by : Standing → ℕ → Option Kind → List GraphNode
node_by p o None = []
node_by p o (Some kind) = node_of p.state o kind (held_of p (name_of p o)) ∷ []

-- the nodes of the first objects, as many as are given
unfoldable pub nodes_below : Standing → ℕ → List GraphNode
nodes_below p zero = []
nodes_below p (suc o) = nodes_below p o ++ node_by p o (kind_at p.state.market o)

unfoldable pub edges_below : Standing → ℕ → List GraphEdge
edges_below p zero = []
edges_below p (suc o) = edges_below p o ++ edges_by p.state (length p.of_object) o

abbrev pub nodes_in : Standing → List GraphNode
nodes_in p = nodes_below p (length p.of_object)

abbrev pub edges_in : Standing → List GraphEdge
edges_in p = edges_below p (length p.of_object)

-- THE GRAPH
abbrev pub session_graph : Standing → List ℕ
session_graph p = graph_text p.names p.of_object (nodes_in p) (edges_in p)

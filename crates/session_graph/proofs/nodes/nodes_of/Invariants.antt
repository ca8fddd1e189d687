use Rattle.std.proofs.Common.{◌≡◌}
use Rattle.session_graph.specs.Graph.{nodes_below}
use Rattle.session_graph.proofs.nodes.nodes_of.Given as goal

-- the nodes of the objects before the one at hand are there, and the session is as it was
abbrev pub invariant-loop-number : goal.invariant-loop-number
invariant-loop-number l = record {
  same : l.session ≡ l.initial.session;
  nodes : l.nodes.items ≡ nodes_below l.initial.session l.number;
}

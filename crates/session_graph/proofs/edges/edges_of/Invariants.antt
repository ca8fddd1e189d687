use Rattle.std.proofs.Common.{◌≡◌}
use Rattle.session_graph.specs.Graph.{edges_below}
use Rattle.session_graph.proofs.edges.edges_of.Given as goal

-- the edges of the objects before the one at hand are there
abbrev pub invariant-loop-number : goal.invariant-loop-number
invariant-loop-number l = l.edges.items ≡ edges_below l.session l.number

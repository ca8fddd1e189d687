use Rattle.std.proofs.Common.{◌≡◌, ◌++◌, drop}
use Rattle.graph_dot.specs.Dot.{edges_text}
use Rattle.graph_dot.proofs.edges.push_edges.Given as goal

-- the arrows before the one at hand are written
abbrev pub invariant-loop-edge : goal.invariant-loop-edge
invariant-loop-edge l =
    l.out.items ++ edges_text l.namer.names.now l.namer.of_object.now (drop l.edge-index l.edges)
    ≡ l.initial.out.items ++ edges_text l.namer.names.now l.namer.of_object.now l.edges

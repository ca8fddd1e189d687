use Rattle.std.proofs.Common.{◌≡◌, ◌++◌, drop}
use Rattle.graph_dot.specs.Dot.{nodes_text}
use Rattle.graph_dot.proofs.nodes.push_nodes.Given as goal

-- the nodes before the one at hand are written
abbrev pub invariant-loop-node : goal.invariant-loop-node
invariant-loop-node l =
    l.out.items ++ nodes_text l.namer.names.now l.namer.of_object.now (drop l.node-index l.nodes)
    ≡ l.initial.out.items ++ nodes_text l.namer.names.now l.namer.of_object.now l.nodes

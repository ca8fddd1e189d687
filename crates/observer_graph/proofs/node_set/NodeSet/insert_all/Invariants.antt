use Rattle.std.proofs.Common.{take}
use Rattle.walks.specs.Walk.{Among}
use Rattle.observer_graph.specs.Lists.{Extends}
use Rattle.observer_graph.proofs.node_set.NodeSet.insert_all.Given as goal

abbrev pub invariant-loop-node : goal.invariant-loop-node
invariant-loop-node l = Extends l.initial.self l.self (λ o. Among o (take l.node-index l.nodes))

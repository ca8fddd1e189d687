use Rattle.std.proofs.Common.{◌≡◌, ℕ, true, drop}
use Rattle.walks.specs.Walk.{Among}
use Rattle.observer_graph.specs.Lists.{is_marked}
use Rattle.observer_graph.proofs.node_set.unmark_all.Given as goal

abbrev pub invariant-loop-node : goal.invariant-loop-node
invariant-loop-node l = (o : ℕ) → is_marked l.marks o ≡ true → Among o (drop l.node-index l.nodes)

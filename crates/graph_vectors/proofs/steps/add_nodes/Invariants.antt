use Rattle.std.proofs.Common.{◌≡◌, length}
use Rattle.graph_vectors.proofs.steps.add_nodes.Given as goal

abbrev pub invariant-loop-letter : goal.invariant-loop-letter
invariant-loop-letter l = length l.graph.nodes ≡ l.letter-index

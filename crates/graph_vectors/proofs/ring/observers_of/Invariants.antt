use Rattle.std.proofs.Common.{length}
use Rattle.std.specs.Prelude.{IfSome}
use Rattle.edge_lists.specs.EdgesView.{IsThere, observers_from}
use Rattle.graph_vectors.proofs.ring.observers_of.Given as goal

abbrev pub invariant-loop-at : goal.invariant-loop-at
invariant-loop-at l = IfSome l.at (IsThere l.edges)

abbrev pub decreases-loop-at : goal.decreases-loop-at
decreases-loop-at l = length (observers_from l.edges l.at)

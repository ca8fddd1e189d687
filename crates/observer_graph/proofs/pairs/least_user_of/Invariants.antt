use Rattle.std.proofs.Common.{None, length}
use Rattle.std.specs.Prelude.{IfSome, slice_index_or}
use Rattle.edge_lists.specs.EdgesView.{IsPair, HasSubject, observers_from}
use Rattle.observer_graph.specs.GraphView.{IsWatcher}
use Rattle.observer_graph.proofs.Least.{IsLeastYet}
use Rattle.observer_graph.proofs.pairs.least_user_of.Given as goal

abbrev pub invariant-loop-at : goal.invariant-loop-at
invariant-loop-at l = record {
  of : IfSome l.at (λ edge. HasSubject l.edges edge l.fn.node);
  least : IsLeastYet (λ o. IsPair l.edges l.fn.node o × (IsWatcher (slice_index_or l.nodes o None) → ⊥))
      (observers_from l.edges l.at) l.least;
}

abbrev pub decreases-loop-at : goal.decreases-loop-at
decreases-loop-at l = length (observers_from l.edges l.at)

use Rattle.std.proofs.Common.{◌≡◌, ◌⊎◌, ℕ, true, length}
use Rattle.std.specs.Prelude.{IfSome}
use Rattle.walks.specs.Walk.{Among}
use Rattle.edge_lists.specs.EdgesView.{IsPair, HasObserver, subjects_from}
use Rattle.wave_queue.specs.Thread.{is_marked}
use Rattle.observer_graph.specs.Puts.{Puts}
use Rattle.observer_graph.proofs.put.put_subjects.Given as goal

abbrev pub invariant-loop-at : goal.invariant-loop-at
invariant-loop-at l = record {
  of : IfSome l.at (λ edge. HasObserver l.edges edge l.fn.node);
  ahead : (o : ℕ) → Among o (subjects_from l.edges l.at) → IsPair l.edges o l.fn.node;
  all : (o : ℕ) → IsPair l.edges o l.fn.node
      → (is_marked l.wave.marks o ≡ true) ⊎ Among o (subjects_from l.edges l.at);
  puts : Puts l.initial.wave l.wave (λ o. IsPair l.edges o l.fn.node);
}

abbrev pub decreases-loop-at : goal.decreases-loop-at
decreases-loop-at l = length (subjects_from l.edges l.at)

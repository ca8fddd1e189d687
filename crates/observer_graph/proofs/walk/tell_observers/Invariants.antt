use Rattle.std.proofs.Common.{◌≡◌, ◌⊎◌, ◌≤◌, ℕ, Bool, true, List, Option, None, length}
use Rattle.std.specs.VecDeque.{deque_capacity}
use Rattle.std.specs.Prelude.{IfSome}
use Rattle.walks.specs.Walk.{Among}
use Rattle.wave_queue.specs.Thread.{is_marked}
use Rattle.edge_lists.specs.EdgesView.{IsPair, HasSubject, observers_from, subject_lists}
use Rattle.observer_graph.specs.declared.node.Node.{Node}
use Rattle.observer_graph.specs.Notice.{IsTold}
use Rattle.observer_graph.specs.Noticed.{AreNoticed}
use Rattle.observer_graph.specs.Puts.{Puts, carrying}
use Rattle.observer_graph.specs.Telling.{IsDone, IsFirstPair, Spreads}
use Rattle.observer_graph.specs.Walks.{graph_of}
use Rattle.observer_graph.proofs.walk.tell_observers.Given as goal

abbrev pub invariant-loop-at : goal.invariant-loop-at
invariant-loop-at l = record {
  of : IfSome l.at (λ edge. HasSubject l.edges edge l.fn.from);
  ahead : (o : ℕ) → Among o (observers_from l.edges l.at) → IsPair l.edges l.fn.from o;
  carried : IfSome l.carried (λ o. (l.fn.carries ≡ true) × (l.at ≡ None));
  first : IfSome l.carried (λ o. IsFirstPair l.edges o l.first);
  marked : IfSome l.carried (λ o. is_marked (carrying l.carried l.wave).marks o ≡ true);
  puts : Puts l.initial.wave (carrying l.carried l.wave) (λ o. IsPair l.edges l.fn.from o);
  stays : (first : List (Option Node)) (o : ℕ) → IsDone l.edges first l.initial.nodes l.initial.wave l.initial.noticed.items o
      → IsDone l.edges first l.nodes (carrying l.carried l.wave) l.noticed.items o;
  spreads : (sources : List Bool) (first : List (Option Node)) (noted : List ℕ)
      → Spreads l.edges sources first noted (λ x o. x ≡ l.fn.from) l.initial.nodes l.initial.wave l.initial.noticed.items
      → ((o : ℕ) → IsPair l.edges l.fn.from o → IsTold (graph_of first (subject_lists l.edges) sources) o)
      → Spreads l.edges sources first noted (λ x o. (x ≡ l.fn.from) × Among o (observers_from l.edges l.at)) l.nodes
      (carrying l.carried l.wave) l.noticed.items
      × ((o : ℕ) → IsPair l.edges l.fn.from o
      → IsDone l.edges first l.nodes (carrying l.carried l.wave) l.noticed.items o ⊎ Among o (observers_from l.edges l.at));
  noticed : AreNoticed l.noticed.items (length l.initial.nodes);
  capacity : deque_capacity l.initial.noticed ≤ deque_capacity l.noticed;
}

abbrev pub decreases-loop-at : goal.decreases-loop-at
decreases-loop-at l = length (observers_from l.edges l.at)

use Rattle.std.proofs.Common.{◌≡◌, ◌≤◌, ℕ, length, take}
use Rattle.std.specs.VecDeque.{deque_capacity}
use Rattle.walks.specs.Walk.{Among}
use Rattle.edge_lists.specs.EdgesView.{IsPair}
use Rattle.observer_graph.specs.Noticed.{AreNoticed}
use Rattle.observer_graph.specs.Telling.{IsDone, Spreads}
use Rattle.observer_graph.specs.Turns.{IsMarkedBelow}
use Rattle.observer_graph.proofs.walk.tell_first.Given as goal

abbrev pub invariant-loop-source : goal.invariant-loop-source
invariant-loop-source l = record {
  len : length l.wave.marks ≡ length l.initial.wave.marks;
  below : IsMarkedBelow (length l.edges.nodes) l.wave;
  spreads : Spreads l.edges l.sources.marks l.initial.nodes l.initial.noticed.items (λ x o. ⊥) l.nodes l.wave l.noticed.items;
  starts : (x o : ℕ) → Among x (take l.source-index l.sources.items) → IsPair l.edges x o
      → IsDone l.edges l.initial.nodes l.nodes l.wave l.noticed.items o;
  noticed : AreNoticed l.noticed.items (length l.initial.nodes);
  capacity : deque_capacity l.initial.noticed ≤ deque_capacity l.noticed;
}

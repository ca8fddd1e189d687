use Rattle.std.proofs.Common.{◌≡◌, ◌+◌, ◌≤◌, ℕ, List, [], true, Option, Some, length}
use Rattle.std.specs.VecDeque.{deque_capacity}
use Rattle.std.specs.Prelude.{IfNone, IfSome}
use Rattle.wave_queue.specs.Thread.{is_marked, open_count}
use Rattle.observer_graph.specs.declared.node.Node.{Node}
use Rattle.observer_graph.specs.Noticed.{AreNoticed}
use Rattle.observer_graph.specs.Telling.{IsDone, IsFirstPair, Spreads}
use Rattle.observer_graph.specs.Turns.{IsMarkedBelow}
use Rattle.observer_graph.proofs.Filling.{one_or_none}
use Rattle.observer_graph.proofs.walk.pass_on.Given as goal

abbrev pub invariant-loop-next : goal.invariant-loop-next
invariant-loop-next l = record {
  len : length l.wave.marks ≡ length l.fn.wave.marks;
  below : IsMarkedBelow (length l.edges.nodes) l.wave;
  stays : (first : List (Option Node)) (o : ℕ) → IsDone l.edges first l.fn.nodes l.fn.wave l.fn.noticed.items o
      → IsDone l.edges first l.nodes l.wave l.noticed.items o;
  spreads : (first : List (Option Node)) (noted : List ℕ)
      → Spreads l.edges l.sources.marks first noted (λ x o. ⊥) l.fn.nodes l.fn.wave l.fn.noticed.items
      → Spreads l.edges l.sources.marks first noted (λ x o. l.next ≡ Some x) l.nodes l.wave l.noticed.items;
  first : IfSome l.next (λ o. IsFirstPair l.edges o l.first);
  marked : IfSome l.next (λ o. is_marked l.wave.marks o ≡ true);
  end : IfNone l.next (l.wave.waiting ≡ []);
  noticed : AreNoticed l.noticed.items (length l.fn.nodes);
  capacity : deque_capacity l.fn.noticed ≤ deque_capacity l.noticed;
}

abbrev pub decreases-loop-next : goal.decreases-loop-next
decreases-loop-next l = open_count l.wave.marks + length l.wave.waiting + one_or_none l.next

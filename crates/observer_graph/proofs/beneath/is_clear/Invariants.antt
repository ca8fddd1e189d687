use Rattle.std.proofs.Common.{◌≡◌, ◌⊎◌, ◌+◌, ℕ, [], length, true, false}
use Rattle.walks.specs.Walk.{Among}
use Rattle.wave_queue.specs.Thread.{is_marked, open_count}
use Rattle.observer_graph.specs.Late.{is_held_back}
use Rattle.observer_graph.specs.Turns.{IsMarkedBelow, reads_in}
use Rattle.observer_graph.specs.Walks.{Leads, graph_of}
use Rattle.observer_graph.proofs.Filling.{Fills}
use Rattle.observer_graph.proofs.beneath.is_clear.Given as goal

abbrev pub invariant-loop-node : goal.invariant-loop-node
invariant-loop-node l = record {
  room : length l.wave.marks ≡ length l.fn.wave.marks;
  below : IsMarkedBelow (length l.nodes) l.wave;
  start : is_marked l.wave.marks l.fn.from ≡ true;
  fills : Fills (λ y. Leads (reads_in l.nodes l.edges) l.fn.from y) (λ x y. Among y (reads_in l.nodes l.edges x)) l.wave;
  free : (x : ℕ) → is_marked l.wave.marks x ≡ true
      → Among x l.wave.waiting ⊎ (is_held_back (graph_of l.nodes [] l.sources.marks) x ≡ false);
}

abbrev pub decreases-loop-node : goal.decreases-loop-node
decreases-loop-node l = open_count l.wave.marks + length l.wave.waiting

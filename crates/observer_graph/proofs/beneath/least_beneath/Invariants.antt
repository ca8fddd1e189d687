use Rattle.std.proofs.Common.{◌≡◌, ◌+◌, length, true, None}
use Rattle.std.specs.Prelude.{not, slice_index_or}
use Rattle.walks.specs.Walk.{Among}
use Rattle.wave_queue.specs.Thread.{is_marked, open_count}
use Rattle.observer_graph.specs.Late.{frozen_of}
use Rattle.observer_graph.specs.Turns.{IsMarkedBelow, goes_beneath, reads_in}
use Rattle.observer_graph.proofs.Exposed.{Leads}
use Rattle.observer_graph.proofs.Filling.{Fills}
use Rattle.observer_graph.proofs.Least.{IsLeastYet}
use Rattle.observer_graph.proofs.beneath.least_beneath.Given as goal

abbrev pub invariant-loop-node : goal.invariant-loop-node
invariant-loop-node l = record {
  room : length l.wave.marks ≡ length l.fn.wave.marks;
  below : IsMarkedBelow (length l.nodes) l.wave;
  start : is_marked l.wave.marks l.fn.from ≡ true;
  fills : Fills (λ y. Leads (reads_in l.nodes l.edges) (λ z. not (frozen_of (slice_index_or l.nodes z None))) l.fn.from y)
      (λ x y. (goes_beneath l.nodes l.fn.from x ≡ true) × Among y (reads_in l.nodes l.edges x)) l.wave;
  least : IsLeastYet (λ o. (is_marked l.wave.marks o ≡ true) × (is_marked l.sources.marks o ≡ true)) l.wave.waiting l.least;
}

abbrev pub decreases-loop-node : goal.decreases-loop-node
decreases-loop-node l = open_count l.wave.marks + length l.wave.waiting

use Rattle.std.proofs.Common.{◌≡◌, ◌⊎◌, ◌+◌, ℕ, take}
use Rattle.std.specs.Prelude.{◌↔◌}
use Rattle.walks.specs.Walk.{Among}
use Rattle.edge_lists.specs.EdgesView.{IsPair, SameNodes}
use Rattle.observer_graph.proofs.pairs.link_all.Given as goal

abbrev pub invariant-loop-subject : goal.invariant-loop-subject
invariant-loop-subject l = record {
  pairs : (x o : ℕ) → IsPair l.edges x o
      ↔ (IsPair l.initial.edges x o ⊎ (Among x (take l.subject-index l.named) × (o ≡ l.fn.node)));
  nodes : SameNodes l.initial.edges l.edges;
  room : l.edges.spare + l.subject-index ≡ l.initial.edges.spare;
}

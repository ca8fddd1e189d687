use Rattle.std.proofs.Common.{◌≤◌, ◌<◌, ◌+◌, ◌*◌, length}
use Rattle.graph_vectors.specs.Nets.{IsNet}
use Rattle.graph_vectors.proofs.shapes.build.Given as goal

abbrev pub invariant-loop-done : goal.invariant-loop-done
invariant-loop-done l = record {
  net : IsNet l.graph;
  top : l.top < length l.graph.nodes;
  len : length l.graph.nodes ≤ 3 * l._done + 1;
}

use Rattle.std.proofs.Common.{◌≤◌}
use Rattle.graph_vectors.proofs.nets.count_not_current.Given as goal

abbrev pub invariant-loop-number : goal.invariant-loop-number
invariant-loop-number l = l.found ≤ l.number

use Rattle.std.proofs.Common.{◌≡◌, ◌++◌, drop}
use Rattle.session_graph.specs.Edges.{observed}
use Rattle.session_graph.proofs.edges.push_each.Given as goal

-- the edges to the objects before the one at hand are there
abbrev pub invariant-loop-subject : goal.invariant-loop-subject
invariant-loop-subject l =
    l.edges.items ++ observed l.object (drop l.subject-index l.subjects) ≡ l.initial.edges.items ++ observed l.object l.subjects

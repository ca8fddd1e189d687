use Rattle.std.proofs.Common.{◌≡◌, ◌++◌}
use Rattle.session_graph.specs.Edges.{registrations_below}
use Rattle.session_graph.proofs.edges.push_registrations.Given as goal

-- the registrations with the objects before the one at hand are there
abbrev pub invariant-loop-number : goal.invariant-loop-number
invariant-loop-number l = l.edges.items ≡ l.initial.edges.items ++ registrations_below l.desk l.watcher l.number

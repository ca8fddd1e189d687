use Rattle.std.proofs.Common.{◌≡◌, take}
use Rattle.session_graph.proofs.naming.names_of.Given as goal

-- the names of the objects before the one at hand are there
abbrev pub invariant-loop-number : goal.invariant-loop-number
invariant-loop-number l = l.names ≡ take l.number l.session.of_object

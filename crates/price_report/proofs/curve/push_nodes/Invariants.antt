use Rattle.std.proofs.Common.{◌≡◌, ◌++◌, drop}
use Rattle.price_report.specs.Line.{node_texts}
use Rattle.price_report.proofs.curve.push_nodes.Given as goal

-- the nodes before the one at hand are written
abbrev pub invariant-loop-node : goal.invariant-loop-node
invariant-loop-node l = l.line.items ++ node_texts (drop l.node-index l.nodes) ≡ l.initial.line.items ++ node_texts l.nodes

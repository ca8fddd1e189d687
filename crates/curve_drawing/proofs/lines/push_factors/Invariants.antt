use Rattle.std.proofs.Common.{◌≡◌, ◌++◌, drop, map}
use Rattle.curve_drawing.specs.Lines.{factor_point}
use Rattle.curve_drawing.proofs.lines.push_factors.Given as goal

-- the factors of the nodes before the one at hand are there
abbrev pub invariant-loop-node : goal.invariant-loop-node
invariant-loop-node l =
    l.made.items ++ map factor_point (drop l.node-index l.nodes) ≡ l.initial.made.items ++ map factor_point l.nodes

use Rattle.std.proofs.Common.{◌≡◌, take}
use Rattle.curve_points.specs.Implied.{all_seen}
use Rattle.curve_points.proofs.seen.pushed_nodes.Given as goal

abbrev pub invariant-loop-node : goal.invariant-loop-node
invariant-loop-node l = l.seen ≡ all_seen l.factor (take l.node-index l.nodes)

use Rattle.std.proofs.Common.{◌↔◌, drop}
use Rattle.curve_points.specs.Curve.{IsRisingFrom}
use Rattle.curve_points.proofs.curves.are_rising.Given as goal

abbrev pub invariant-loop-node : goal.invariant-loop-node
invariant-loop-node l = IsRisingFrom l.fn.reference l.nodes ↔ IsRisingFrom l.before (drop l.node-index l.nodes)

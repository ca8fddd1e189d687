use Rattle.std.proofs.Common.{length, ◌-◌, ◌≤◌, ◌<ℤ◌}
use Rattle.std.specs.List.{AllWithin}
use Rattle.curve_points.proofs.points.place_behind.Given as goal

abbrev pub invariant-loop-at : goal.invariant-loop-at
invariant-loop-at l = record {
  within : l.at ≤ length l.nodes;
  before : AllWithin (λ node. node.day <ℤ l.day) l.nodes 0 l.at;
}

abbrev pub decreases-loop-at : goal.decreases-loop-at
decreases-loop-at l = length l.nodes - l.at
